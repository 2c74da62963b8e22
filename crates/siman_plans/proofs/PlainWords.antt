-- The words and numbers of plain lines.
use Rattle.std.proofs.Common.{◌≡◌, ℕ, ◌+◌, ◌-◌, ◌*◌, ◌<◌, ◌≤◌, ◌^◌, Bool, true, false, ◌==◌, ◌&&◌, not, nat_le, nat_lt, cond, List, [], ◌∷◌, ◌++◌, length, Option, Some, None, refl, sym, ap, ◌∙◌, arith, append-nil, append_assoc}
use Rattle.std.proofs.lemmas.Bool.Decides.{nat_tests}
use Rattle.std.proofs.lemmas.Bool.{eq-eqb}
use Rattle.std.proofs.lemmas.Grind.{common_steps}
use Rattle.std.proofs.lemmas.Fmt.{decimal_is_IsNumeral}
use Rattle.std.proofs.lemmas.Str.Parse.{digit_from_value}
use Rattle.std.proofs.lemmas.Str.{digit_value_digit}
use Rattle.std.proofs.lemmas.List.Folds.{list_all-append}
use Rattle.std.specs.Prelude.{decimal, codes}
use Rattle.std.specs.List.{list_all}
use Rattle.std.specs.Option.{option_map}
use Rattle.std.specs.Char.{digit_value}
use Rattle.std.specs.Str.Parse.{AllDigits, digits_value_after}
use Rattle.dis_records.specs.declared.address.SiteApplication.{SiteApplication}
use Rattle.dis_records.specs.declared.entity.EntityId.{EntityId}
use Rattle.dis_records.specs.Address.{is_address, is_address_part}
use Rattle.dis_records.specs.Texts.{entity_text}
use Rattle.byte_files.specs.Text.{lines_of, is_ascii, words_of, cut_at, is_digit, digits_after, at_most, number, number_to}
use Rattle.siman_print.specs.Spelled.{address_text}
use Rattle.siman_scripts.specs.Statement.{address_of, target_of}
use Rattle.siman_plans.specs.SourceWords.{is_printable}

-- Tests.

pub both : (a b : Bool) → (a && b) ≡ true → (a ≡ true) × (b ≡ true)
both true b h = (refl, h)
both false b h = absurd cc

pub and_true : (a b : Bool) → a ≡ true → b ≡ true → (a && b) ≡ true
and_true true true p q = refl
and_true true false p q = absurd cc
and_true false b p q = absurd cc

-- a wider test
pub all_too : (p q : ℕ → Bool) → ((b : ℕ) → p b ≡ true → q b ≡ true) → (w : List ℕ) → list_all p w ≡ true → list_all q w ≡ true
all_too p q wider [] h = refl
all_too p q wider (b ∷ bs) h =
    let is = both (p b) (list_all p bs) h in
    and_true (q b) (list_all q bs) (wider b is.0) (all_too p q wider bs is.1)

pub all_both : (p : ℕ → Bool) (v w : List ℕ) → list_all p v ≡ true → list_all p w ≡ true → list_all p (v ++ w) ≡ true
all_both p v w h k = list_all-append p v w ∙ and_true (list_all p v) (list_all p w) h k

-- Words.

-- a word of printable ASCII
abbrev pub Clean : List ℕ → Type 0
Clean w = list_all is_printable w ≡ true

abbrev pub AllClean : List (List ℕ) → Type 0
AllClean [] = Unit {0}
AllClean (w ∷ ws) = Clean w × AllClean ws

printable_is : (b : ℕ) → is_printable b ≡ true → (33 ≤ b) × (b ≤ 126)
printable_is b h =
    let is = both (nat_le 33 b) (nat_le b 126) h in
    (grind (arith, nat_tests, is.0), grind (arith, nat_tests, is.1))

no_blank : (b : ℕ) → is_printable b ≡ true → (b == 32) ≡ false
no_blank b h = let is = printable_is b h in grind (arith, nat_tests, is)

split_none : (w : List ℕ) → Clean w → words_of w ≡ w ∷ []
split_none [] h = refl
split_none (b ∷ bs) h =
    let is = both (is_printable b) (list_all is_printable bs) h in
    rw (no_blank b is.0) (rw (split_none bs is.1) refl)

split_here : (w rest : List ℕ) → Clean w → words_of (w ++ 32 ∷ rest) ≡ w ∷ words_of rest
split_here [] rest h = refl
split_here (b ∷ bs) rest h =
    let is = both (is_printable b) (list_all is_printable bs) h in
    rw (no_blank b is.0) (rw (split_here bs rest is.1) refl)

-- words behind a first one, each behind a blank
abbrev pub blanks : List (List ℕ) → List ℕ
blanks [] = []
blanks (w ∷ ws) = 32 ∷ w ++ blanks ws

pub words_back : (w : List ℕ) (ws : List (List ℕ)) → Clean w → AllClean ws → words_of (w ++ blanks ws) ≡ w ∷ ws
words_back w [] c cs = ap words_of (append-nil w) ∙ split_none w c
words_back w (v ∷ vs) c cs = split_here w (v ++ blanks vs) c ∙ ap (λ (z : List (List ℕ)). w ∷ z) (words_back v vs cs.0 cs.1)

-- Lines.

-- a byte of a plain line
abbrev pub is_plain : ℕ → Bool
is_plain b = nat_le 32 b && nat_le b 126

abbrev pub IsPlainLine : List ℕ → Type 0
IsPlainLine line = list_all is_plain line ≡ true

printable_plain : (b : ℕ) → is_printable b ≡ true → is_plain b ≡ true
printable_plain b h =
    let is = printable_is b h in
    and_true (nat_le 32 b) (nat_le b 126) (grind (arith, nat_tests, is)) (grind (arith, nat_tests, is))

clean_plain : (w : List ℕ) → Clean w → IsPlainLine w
clean_plain w c = all_too is_printable is_plain printable_plain w c

blanks_plain : (ws : List (List ℕ)) → AllClean ws → IsPlainLine (blanks ws)
blanks_plain [] cs = refl
blanks_plain (w ∷ ws) cs = all_both is_plain w (blanks ws) (clean_plain w cs.0) (blanks_plain ws cs.1)

pub joined_plain : (w : List ℕ) (ws : List (List ℕ)) → Clean w → AllClean ws → IsPlainLine (w ++ blanks ws)
joined_plain w ws c cs = all_both is_plain w (blanks ws) (clean_plain w c) (blanks_plain ws cs)

plain_is : (b : ℕ) → is_plain b ≡ true → (32 ≤ b) × (b ≤ 126)
plain_is b h =
    let is = both (nat_le 32 b) (nat_le b 126) h in
    (grind (arith, nat_tests, is.0), grind (arith, nat_tests, is.1))

plain_ascii_byte : (b : ℕ) → is_plain b ≡ true → nat_lt b 128 ≡ true
plain_ascii_byte b h = let is = plain_is b h in grind (arith, nat_tests, is)

pub plain_ascii : (line : List ℕ) → IsPlainLine line → is_ascii line ≡ true
plain_ascii line h = all_too is_plain (λ b. nat_lt b 128) plain_ascii_byte line h

no_feed : (b : ℕ) → is_plain b ≡ true → (b == 10) ≡ false
no_feed b h = let is = plain_is b h in grind (arith, nat_tests, is)

-- a plain line stands before its line feed
pub first_line : (line rest : List ℕ) → IsPlainLine line → lines_of (line ++ 10 ∷ rest) ≡ line ∷ lines_of rest
first_line [] rest h = refl
first_line (b ∷ bs) rest h =
    let is = both (is_plain b) (list_all is_plain bs) h in
    rw (no_feed b is.0) (rw (first_line bs rest is.1) refl)

-- Cuts.

abbrev Parts : Type 0
Parts = List ℕ × List ℕ

abbrev longer : ℕ → Parts → Parts
longer b p = (b ∷ p.0, p.1)

abbrev behind : List ℕ → Option Parts
behind bs = Some ([], bs)

cut_cons : (c b : ℕ) (bs : List ℕ) (here : Bool) → (b == c) ≡ here → cut_at c (b ∷ bs) ≡ cond here (behind bs) (option_map (longer b) (cut_at c bs))
cut_cons c b bs true h = grind (arith, common_steps, nat_tests)
cut_cons c b bs false h = grind (arith, common_steps, nat_tests)

not_here : (t : Bool) → not t ≡ true → t ≡ false
not_here true h = absurd cc
not_here false h = refl

-- no byte is this one
abbrev pub Without : ℕ → List ℕ → Type 0
Without c w = list_all (λ b. not (b == c)) w ≡ true

-- a word is cut at the first byte c
pub cut_here : (c : ℕ) (w rest : List ℕ) → Without c w → cut_at c (w ++ c ∷ rest) ≡ Some (w, rest)
cut_here c [] rest h = cut_cons c c rest true (eq-eqb c c refl)
cut_here c (b ∷ bs) rest h =
    let is = both (not (b == c)) (list_all (λ x. not (x == c)) bs) h in
    cut_cons c b (bs ++ c ∷ rest) false (not_here (b == c) is.0) ∙ ap (option_map (longer b)) (cut_here c bs rest is.1)

-- Numbers.

abbrev pub Digits : List ℕ → Type 0
Digits w = list_all is_digit w ≡ true

digit_test : (b : ℕ) → 48 ≤ b → b ≤ 57 → is_digit b ≡ true
digit_test b p q = and_true (nat_le 48 b) (nat_le b 57) (grind (arith, nat_tests)) (grind (arith, nat_tests))

digit_is : (b : ℕ) → is_digit b ≡ true → (48 ≤ b) × (b ≤ 57)
digit_is b h =
    let is = both (nat_le 48 b) (nat_le b 57) h in
    (grind (arith, nat_tests, is.0), grind (arith, nat_tests, is.1))

digit_here : (b : ℕ) → digit_value b < 10 → is_digit b ≡ true
digit_here b h = let is = digit_from_value b h in digit_test b (omega (arith, is)) (omega (arith, is))

all_digits : (ds : List ℕ) → AllDigits 10 ds → Digits ds
all_digits [] h = refl
all_digits (b ∷ bs) h = and_true (is_digit b) (list_all is_digit bs) (digit_here b h.0) (all_digits bs h.1)

value_here : (n b : ℕ) → digit_value b < 10 → 10 * n + (b - 48) ≡ n * 10 + digit_value b
value_here n b h = let is = digit_value_digit b (digit_from_value b h) in omega (arith, is)

value_back : (n : ℕ) (ds : List ℕ) → AllDigits 10 ds → digits_after n ds ≡ Some (digits_value_after 10 n ds)
value_back n [] h = refl
value_back n (b ∷ bs) h =
    rw (digit_here b h.0) (ap (λ (k : ℕ). digits_after k bs) (value_here n b h.0) ∙ value_back (n * 10 + digit_value b) bs h.1)

number_to-digits : (m : ℕ) (w : List ℕ) → 0 < length w → at_most m (digits_after 0 w) ≡ number_to m w
number_to-digits m [] h = absurd (omega arith)
number_to-digits m (b ∷ bs) h = refl

at_most_here : (m n : ℕ) → n ≤ m → at_most m (Some n) ≡ Some n
at_most_here m n h = grind (arith, nat_tests)

-- a number up to m in its field: its digits read back
pub record Spelt (m n : ℕ) : Type 0 where
  pub reads : number_to m (decimal n) ≡ Some n
  pub digits : Digits (decimal n)

spelt_by : (m n : ℕ) (ds : List ℕ) → n ≤ m → 0 < length ds → AllDigits 10 ds → digits_value_after 10 0 ds ≡ n → number_to m ds ≡ Some n
spelt_by m n ds fits some digits is =
    sym (number_to-digits m ds some) ∙ (ap (at_most m) (value_back 0 ds digits) ∙ (ap (λ (k : ℕ). at_most m (Some k)) is ∙ at_most_here m n fits))

pub spelt : (m n : ℕ) → m < 2 ^ 64 → n ≤ m → Spelt m n
spelt m n small fits =
    let is = decimal_is_IsNumeral n (omega arith) in
    record { reads = spelt_by m n (decimal n) fits is.0.0 is.0.1 is.1; digits = all_digits (decimal n) is.0.1 }

le_if : (m k n : ℕ) (test : Bool) → nat_le k m ≡ test → cond test (Some k) None ≡ Some n → n ≤ m
le_if m k n true t h =
    let same : k ≡ n = cc in
    let fits : k ≤ m = grind (arith, nat_tests) in
    omega (arith, same, fits)
le_if m k n false t h = absurd cc

at_most_le : (m n : ℕ) (o : Option ℕ) → at_most m o ≡ Some n → n ≤ m
at_most_le m n None h = absurd cc
at_most_le m n (Some k) h = le_if m k n (nat_le k m) refl h

-- a number that was read is spelt
pub spelt_again : (m n : ℕ) (w : List ℕ) → m < 2 ^ 64 → number_to m w ≡ Some n → Spelt m n
spelt_again m n w small h = spelt m n small (at_most_le m n (number w) h)

digit_printable : (b : ℕ) → is_digit b ≡ true → is_printable b ≡ true
digit_printable b h =
    let is = digit_is b h in
    and_true (nat_le 33 b) (nat_le b 126) (grind (arith, nat_tests, is)) (grind (arith, nat_tests, is))

pub digits_clean : (w : List ℕ) → Digits w → Clean w
digits_clean w h = all_too is_digit is_printable digit_printable w h

no_colon_byte : (b : ℕ) → is_digit b ≡ true → not (b == 58) ≡ true
no_colon_byte b h =
    let is = digit_is b h in
    let other : (b == 58) ≡ false = grind (arith, nat_tests, is) in
    rw other refl

no_colon : (w : List ℕ) → Digits w → Without 58 w
no_colon w h = all_too is_digit (λ b. not (b == 58)) no_colon_byte w h

-- Addresses.

-- an address whose text reads back
pub record GoodAddress (a : SiteApplication) : Type 0 where
  pub reads : address_of (address_text a) ≡ Some a
  pub clean : Clean (address_text a)

pair_clean : (v w : List ℕ) → Clean v → Clean w → Clean (v ++ codes ":" ++ w)
pair_clean v w c d = all_both is_printable (v ++ codes ":") w (all_both is_printable v (codes ":") c refl) d

part_spelt : (n : ℕ) → is_address_part n ≡ true → Spelt 65535 n
part_spelt n h =
    let is = both (nat_le 1 n) (nat_le n 65534) h in
    let fits : n ≤ 65534 = grind (arith, nat_tests, is.1) in
    spelt 65535 n (omega arith) (omega (arith, fits))

address_cut : (a : SiteApplication) (v w : List ℕ) → Digits v → number_to 65535 v ≡ Some a.site → number_to 65535 w ≡ Some a.application → is_address a ≡ true
    → address_of (v ++ (58 ∷ w)) ≡ Some a
address_cut a v w digits site application is =
    rw (cut_here 58 v w (no_colon v digits)) (rw site (rw application (rw is refl)))

address_by : (a : SiteApplication) (v w : List ℕ) → Digits v → number_to 65535 v ≡ Some a.site → number_to 65535 w ≡ Some a.application → is_address a ≡ true
    → address_of (v ++ codes ":" ++ w) ≡ Some a
address_by a v w digits site application is = ap address_of (append_assoc v (58 ∷ []) w) ∙ address_cut a v w digits site application is

pub good_address : (a : SiteApplication) → is_address a ≡ true → GoodAddress a
good_address a is =
    let parts = both (is_address_part a.site) (is_address_part a.application) is in
    let site = part_spelt a.site parts.0 in
    let application = part_spelt a.application parts.1 in
    record {
      reads = address_by a (decimal a.site) (decimal a.application) site.digits site.reads application.reads is;
      clean = pair_clean (decimal a.site) (decimal a.application) (digits_clean (decimal a.site) site.digits) (digits_clean (decimal a.application) application.digits);
    }

-- a receiver whose text reads back
pub record GoodTarget (id : EntityId) : Type 0 where
  pub reads : target_of (entity_text id) ≡ Some id
  pub clean : Clean (entity_text id)

target_cut : (id : EntityId) (u v w : List ℕ) → Digits u → Digits v → number_to 65535 u ≡ Some id.site → number_to 65535 v ≡ Some id.application
    → number_to 65535 w ≡ Some id.entity → target_of (u ++ (58 ∷ (v ++ (58 ∷ w)))) ≡ Some id
target_cut id u v w du dv site application entity =
    rw (cut_here 58 u (v ++ (58 ∷ w)) (no_colon u du)) (rw (cut_here 58 v w (no_colon v dv)) (rw site (rw application (rw entity refl))))

target_by : (id : EntityId) (u v w : List ℕ) → Digits u → Digits v → number_to 65535 u ≡ Some id.site → number_to 65535 v ≡ Some id.application
    → number_to 65535 w ≡ Some id.entity → target_of (u ++ codes ":" ++ v ++ codes ":" ++ w) ≡ Some id
target_by id u v w du dv site application entity =
    ap target_of (append_assoc (u ++ (58 ∷ []) ++ v) (58 ∷ []) w ∙ (append_assoc (u ++ (58 ∷ [])) v (58 ∷ w) ∙ append_assoc u (58 ∷ []) (v ++ (58 ∷ w))))
    ∙ target_cut id u v w du dv site application entity

pub good_target : (id : EntityId) → Spelt 65535 id.site → Spelt 65535 id.application → Spelt 65535 id.entity → GoodTarget id
good_target id site application entity = record {
  reads = target_by id (decimal id.site) (decimal id.application) (decimal id.entity) site.digits application.digits site.reads application.reads entity.reads;
  clean = pair_clean (decimal id.site ++ codes ":" ++ decimal id.application) (decimal id.entity)
      (pair_clean (decimal id.site) (decimal id.application) (digits_clean (decimal id.site) site.digits) (digits_clean (decimal id.application) application.digits)) (digits_clean (decimal id.entity) entity.digits);
}
