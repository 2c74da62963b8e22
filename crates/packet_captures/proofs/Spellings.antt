-- What is spelled so is read so.
use Rattle.std.proofs.Common.{◌≡◌, ℕ, ◌+◌, ◌-◌, ◌%◌, ◌^◌, ◌<◌, ◌≤◌, List, [], ◌++◌, length, take, drop, Bool, true, false, refl, sym, ◌∙◌, ap, cond, rules, tests, eq-eqb, le-ltb, append_assoc, append-nil, length-append, arith}
use Rattle.std.specs.Prelude.{Result, Ok, Err, nat_lt, ◌==◌, if◌then◌else◌}
use Rattle.std.specs.Int.{w32, from_be_bytes, from_le_bytes, to_be_bytes, to_le_bytes}
use Rattle.std.proofs.lemmas.List.{take_at, drop_at}
use Rattle.std.proofs.lemmas.Nat.{from_le_bytes-to_le_bytes_4, from_be_bytes-to_be_bytes_4}
use Rattle.packet_captures.specs.declared.byte_order.ByteOrder.{ByteOrder}
use Rattle.packet_captures.specs.declared.byte_order.ByteOrder.TheVariants.{Little, Big}
use Rattle.packet_captures.specs.declared.capture_fault.FormatFault.{FormatFault}
use Rattle.packet_captures.specs.declared.capture_fault.FormatFault.TheVariants as faults
use Rattle.packet_captures.specs.declared.limits.TheConstants.{LARGEST_BLOCK}
use Rattle.packet_captures.specs.Numbers.{number_at}
use Rattle.packet_captures.specs.Pcapng.{held_in, is_looked_into, known_in, same_at_end, size_in, sized_at}
use Rattle.packet_captures.specs.Whole.{held_at}
use Rattle.packet_captures.specs.Spelling.{block_text, number_text}

word-length : (order : ByteOrder) (n : ℕ) → length (number_text order w32 n) ≡ 4
word-length Little n = refl
word-length Big n = refl

-- a number of four bytes is read where it stands
word-read : (order : ByteOrder) (n at : ℕ) (before behind : List ℕ) → n < 2 ^ 32 → length before ≡ at
    → number_at order w32 at (before ++ (number_text order w32 n ++ behind)) ≡ n
unfolding number_at
word-read Little n at before behind h e =
    ap (λ (xs : List ℕ). from_le_bytes w32 (take 4 xs)) (drop_at before (to_le_bytes w32 n ++ behind) at e) ∙ from_le_bytes-to_le_bytes_4 n h
word-read Big n at before behind h e =
    ap (λ (xs : List ℕ). from_be_bytes w32 (take 4 xs)) (drop_at before (to_be_bytes w32 n ++ behind) at e) ∙ from_be_bytes-to_be_bytes_4 n h

-- the front of a block is its kind and its total length
block-front : (order : ByteOrder) (kind n : ℕ) (behind : List ℕ)
    → take 8 (number_text order w32 kind ++ (number_text order w32 n ++ behind)) ≡ number_text order w32 kind ++ (number_text order w32 n ++ [])
block-front Little kind n behind = refl
block-front Big kind n behind = refl

block-length : (order : ByteOrder) (kind : ℕ) (body : List ℕ) → length (block_text order kind body) ≡ 12 + length body
block-length order kind body =
    let last : List ℕ = number_text order w32 (12 + length body) in
    let a = length-append (number_text order w32 kind) (last ++ (body ++ last)) in
    let b = length-append last (body ++ last) in
    let c = length-append body last in
    omega (arith, a, b, c, word-length order kind, word-length order (12 + length body))

block-apart : (order : ByteOrder) (kind : ℕ) (body rest : List ℕ)
    → block_text order kind body ++ rest
    ≡ number_text order w32 kind ++ (number_text order w32 (12 + length body) ++ ((body ++ number_text order w32 (12 + length body)) ++ rest))
block-apart order kind body rest =
    let last : List ℕ = number_text order w32 (12 + length body) in
    append_assoc (number_text order w32 kind) (last ++ (body ++ last)) rest
    ∙ ap (λ (xs : List ℕ). number_text order w32 kind ++ xs) (append_assoc last (body ++ last) rest)

pub block-kind : (order : ByteOrder) (kind : ℕ) (body rest : List ℕ) → kind < 2 ^ 32
    → number_at order w32 0 (take 8 (block_text order kind body ++ rest)) ≡ kind
block-kind order kind body rest h =
    let last : List ℕ = number_text order w32 (12 + length body) in
    ap (λ (xs : List ℕ). number_at order w32 0 (take 8 xs)) (block-apart order kind body rest)
    ∙ (ap (λ (xs : List ℕ). number_at order w32 0 xs) (block-front order kind (12 + length body) ((body ++ last) ++ rest))
    ∙ word-read order kind 0 [] (last ++ []) h refl)

block-size : (order : ByteOrder) (kind : ℕ) (body rest : List ℕ) → 12 + length body < 2 ^ 32
    → number_at order w32 4 (take 8 (block_text order kind body ++ rest)) ≡ 12 + length body
block-size order kind body rest h =
    let last : List ℕ = number_text order w32 (12 + length body) in
    ap (λ (xs : List ℕ). number_at order w32 4 (take 8 xs)) (block-apart order kind body rest)
    ∙ (ap (λ (xs : List ℕ). number_at order w32 4 xs) (block-front order kind (12 + length body) ((body ++ last) ++ rest))
    ∙ word-read order (12 + length body) 4 (number_text order w32 kind) [] h (word-length order kind))

pub block-taken : (order : ByteOrder) (kind : ℕ) (body rest : List ℕ) → take (12 + length body) (block_text order kind body ++ rest) ≡ block_text order kind body
block-taken order kind body rest = take_at (block_text order kind body) rest (12 + length body) (block-length order kind body)

pub block-dropped : (order : ByteOrder) (kind : ℕ) (body rest : List ℕ) → drop (12 + length body) (block_text order kind body ++ rest) ≡ rest
block-dropped order kind body rest = drop_at (block_text order kind body) rest (12 + length body) (block-length order kind body)

-- the total length stands at the end of a block
block-end : (order : ByteOrder) (kind : ℕ) (body : List ℕ) → 12 + length body < 2 ^ 32
    → number_at order w32 (12 + length body - 4) (block_text order kind body) ≡ 12 + length body
block-end order kind body h =
    let last : List ℕ = number_text order w32 (12 + length body) in
    let before : List ℕ = number_text order w32 kind ++ (last ++ body) in
    let a = length-append (number_text order w32 kind) (last ++ body) in
    let b = length-append last body in
    let size : length before ≡ 12 + length body - 4 = omega (arith, a, b, word-length order kind, word-length order (12 + length body)) in
    let apart : before ++ (last ++ []) ≡ block_text order kind body =
    append_assoc (number_text order w32 kind) (last ++ body) (last ++ [])
    ∙ ap (λ (xs : List ℕ). number_text order w32 kind ++ xs) (append_assoc last body (last ++ []) ∙ ap (λ (xs : List ℕ). last ++ (body ++ xs)) (append-nil last)) in
    ap (λ (xs : List ℕ). number_at order w32 (12 + length body - 4) xs) (sym apart) ∙ word-read order (12 + length body) (12 + length body - 4) before [] h size

size-tested : (order : ByteOrder) (at n : ℕ) (h : List ℕ) → number_at order w32 4 h ≡ n → 12 ≤ n → n % 4 ≡ 0 → size_in order at h ≡ Ok n
unfolding size_in
size-tested order at n h e least whole =
    let first : nat_lt n 12 ≡ false = search (rules, tests) in
    rw (e, first, whole) refl

pub block-sized : (order : ByteOrder) (head : Bool) (at kind : ℕ) (body rest : List ℕ) → 12 + length body < 2 ^ 32 → length body % 4 ≡ 0
    → sized_at order head at (block_text order kind body ++ rest) ≡ Ok (12 + length body)
unfolding sized_at same_at_end
block-sized order head at kind body rest h whole =
    let n : ℕ = 12 + length body in
    let b : List ℕ = block_text order kind body ++ rest in
    let size : size_in order at (take 8 b) ≡ Ok n = size-tested order at n (take 8 b) (block-size order kind body rest h) (omega arith) (omega arith) in
    let long : n ≤ length b = omega (arith, length-append (block_text order kind body) rest, block-length order kind body) in
    let there : nat_lt (length b) n ≡ false = search (rules, tests) in
    let last : (number_at order w32 (n - 4) (take n b) == n) ≡ true =
    eq-eqb (number_at order w32 (n - 4) (take n b)) n (ap (λ (xs : List ℕ). number_at order w32 (n - 4) xs) (block-taken order kind body rest) ∙ block-end order kind body h) in
    rw (size, there, last) refl

-- it is held at once, where it is no longer than that
pub block-held : (order : ByteOrder) (at kind : ℕ) (body rest : List ℕ) → 12 + length body ≤ LARGEST_BLOCK → held_in order at (take 8 (block_text order kind body ++ rest)) ≡ Ok tt
block-held order at kind body rest few =
    let n : ℕ = 12 + length body in
    let refused : Bool → Result (Unit {0}) FormatFault = λ (t : Bool). cond t (Err (faults.Block (at + 4))) (Ok tt) in
    ap (λ (m : ℕ). held_at m 4 at) (block-size order kind body rest (omega (arith, few))) ∙ ap refused (le-ltb LARGEST_BLOCK n few)

-- whatever its kind
pub block-known : (order : ByteOrder) (at kind : ℕ) (body rest : List ℕ) → 12 + length body ≤ LARGEST_BLOCK → known_in order at (take 8 (block_text order kind body ++ rest)) ≡ Ok tt
block-known order at kind body rest few = by_kind (is_looked_into (number_at order w32 0 head))
  where
    head : List ℕ
    head = take 8 (block_text order kind body ++ rest)

    by_kind : (t : Bool) → (if t then held_in order at head else Ok tt) ≡ Ok tt
    by_kind true = block-held order at kind body rest few
    by_kind false = refl
