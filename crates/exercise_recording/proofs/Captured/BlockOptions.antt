-- The options of a block are read as they are spelled.
use Rattle.std.proofs.Common.{◌≡◌, ℕ, ◌+◌, ◌-◌, ◌^◌, ◌<◌, ◌≤◌, List, ◌++◌, length, take, drop, Option, Some, Bool, true, false, cond, refl, ap, ◌∙◌, rules, tests, ne_eqb, append_assoc, length-append, arith}
use Rattle.std.specs.Prelude.{nat_lt, ◌==◌, ◌&&◌, if◌then◌else◌}
use Rattle.std.specs.Int.{w16, w32}
use Rattle.std.proofs.lemmas.List.{take_at, drop_at}
use Rattle.std.proofs.lemmas.Nat.{from_le_bytes-to_le_bytes_2}
use Rattle.packet_captures.specs.declared.byte_order.ByteOrder.TheVariants.{Little}
use Rattle.packet_captures.specs.Interface.{options_from}
use Rattle.packet_captures.specs.Numbers.{number_at}
use Rattle.packet_captures.specs.Options.{padded, has_length, found_at, ends_options, option_from}
use Rattle.packet_captures.specs.Spelling.{number_text, block_text}
use Rattle.packet_captures.proofs.OptionWalks.{option_from-ended, option_from-more}
use Rattle.exercise_recording.specs.Captures.Blocks.{padding_text, option_text, options_end}
use Rattle.exercise_recording.proofs.Captured.Blocks.{padding-length}

-- the options of a block stand behind its other fields
pub options-of : (kind k : ℕ) (front options : List ℕ) → length front ≡ k → options_from (8 + k) (block_text Little kind (front ++ options)) ≡ options
options-of kind k front options is =
    let total : ℕ = 12 + length (front ++ options) in
    let last : List ℕ = number_text Little w32 total in
    let first : List ℕ = number_text Little w32 kind ++ (last ++ front) in
    let block : List ℕ = block_text Little kind (front ++ options) in
    let long : length block ≡ length (first ++ options) + 4 = length-append (first ++ options) last in
    let size : length (first ++ options) ≡ length block - 4 = omega (arith, long) in
    let a : length first ≡ 4 + length (last ++ front) = length-append (number_text Little w32 kind) (last ++ front) in
    let b : length (last ++ front) ≡ 4 + length front = length-append last front in
    let before : length first ≡ 8 + k = omega (arith, a, b, is) in
    ap (λ (t : List ℕ). drop (8 + k) t) (take_at (first ++ options) last (length block - 4) size) ∙ drop_at first options (8 + k) before

code-read : (c : ℕ) (v rest : List ℕ) → c < 2 ^ 16 → number_at Little w16 0 (option_text c v ++ rest) ≡ c
unfolding number_at
code-read c v rest fits = from_le_bytes-to_le_bytes_2 c fits

size-read : (c : ℕ) (v rest : List ℕ) → length v < 2 ^ 16 → number_at Little w16 2 (option_text c v ++ rest) ≡ length v
unfolding number_at
size-read c v rest fits = from_le_bytes-to_le_bytes_2 (length v) fits

pub option-length : (c : ℕ) (v : List ℕ) → length (option_text c v) ≡ 4 + padded (length v)
option-length c v =
    let n : ℕ = length v in
    let a : length (option_text c v) ≡ 2 + length (number_text Little w16 n ++ (v ++ padding_text n)) =
    length-append (number_text Little w16 c) (number_text Little w16 n ++ (v ++ padding_text n)) in
    let b : length (number_text Little w16 n ++ (v ++ padding_text n)) ≡ 2 + length (v ++ padding_text n) =
    length-append (number_text Little w16 n) (v ++ padding_text n) in
    omega (arith, a, b, length-append v (padding_text n), padding-length n)

not-ended : (c : ℕ) (v rest : List ℕ) → 0 < c → c < 2 ^ 16 → length v < 2 ^ 16 → ends_options Little (option_text c v ++ rest) ≡ false
not-ended c v rest some fits short =
    let b : List ℕ = option_text c v ++ rest in
    let long = length-append (option_text c v) rest in
    let size = option-length c v in
    let whole : 4 + length v ≤ length b = omega (arith, long, size) in
    let four : nat_lt (length b) 4 ≡ false = search (rules, tests) in
    let room : nat_lt (length b) (4 + length v) ≡ false = search (rules, tests) in
    let no : (c == 0) ≡ false = ne_eqb c 0 (λ e. omega arith) in
    let Ends : Bool → Bool → Bool → Bool = λ x y z. cond x true (cond y true z) in
    ap (λ t. Ends t (number_at Little w16 0 b == 0) (nat_lt (length b) (4 + number_at Little w16 2 b))) four
    ∙ ap (λ k. Ends false (k == 0) (nat_lt (length b) (4 + number_at Little w16 2 b))) (code-read c v rest fits)
    ∙ ap (λ t. Ends false t (nat_lt (length b) (4 + number_at Little w16 2 b))) no
    ∙ ap (λ k. nat_lt (length b) (4 + k)) (size-read c v rest short) ∙ room

-- the value of this option, if it is looked for
abbrev pub found_in : (code c : ℕ) → (size : Option ℕ) → (found : Option (List ℕ)) → List ℕ → Option (List ℕ)
found_in code c size found v = if (c == code) && has_length size (length v) then Some v else found

value-read : (c : ℕ) (v rest : List ℕ) → take (length v) (drop 4 (option_text c v ++ rest)) ≡ v
value-read c v rest = ap (take (length v)) (append_assoc v (padding_text (length v)) rest) ∙ take_at v (padding_text (length v) ++ rest) (length v) refl

-- AN OPTION IS PASSED BY
pub option-passed : (n m code c : ℕ) (size : Option ℕ) (found : Option (List ℕ)) (v rest : List ℕ) → n ≡ m + 1 → 0 < c → c < 2 ^ 16 → length v < 2 ^ 16
    → option_from n Little code size found (option_text c v ++ rest) ≡ option_from m Little code size (found_in code c size found v) rest
option-passed n m code c size found v rest one some fits short =
    let b : List ℕ = option_text c v ++ rest in
    let F : ℕ → ℕ → List ℕ → Option (List ℕ) = λ k l xs. if (k == code) && has_length size l then Some xs else found in
    let code_is = code-read c v rest fits in
    let size_is = size-read c v rest short in
    let value : found_at Little code size found b ≡ found_in code c size found v =
    ap (λ k. F k (number_at Little w16 2 b) (take (number_at Little w16 2 b) (drop 4 b))) code_is
    ∙ ap (λ l. F c l (take l (drop 4 b))) size_is ∙ ap (F c (length v)) (value-read c v rest) in
    let behind : drop (4 + padded (number_at Little w16 2 b)) b ≡ rest =
    ap (λ l. drop (4 + padded l) b) size_is ∙ drop_at (option_text c v) rest (4 + padded (length v)) (option-length c v) in
    option_from-more n m Little code size found b one (not-ended c v rest some fits short)
    ∙ ap (λ x. option_from m Little code size x (drop (4 + padded (number_at Little w16 2 b)) b)) value
    ∙ ap (λ xs. option_from m Little code size (found_in code c size found v) xs) behind

-- AND THE OPTIONS END
pub options-ended : (n code : ℕ) (size : Option ℕ) (found : Option (List ℕ)) → option_from n Little code size found options_end ≡ found
unfolding number_at
options-ended n code size found = option_from-ended n Little code size found options_end refl
