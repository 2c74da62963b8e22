-- Parts one after the other.
use Rattle.std.proofs.Common.{◌≡◌, ℕ, zero, suc, ◌+◌, ◌-◌, ◌*◌, ◌<◌, ◌≤◌, inl, inr, true, false, ltb, List, [], ◌∷◌, ◌++◌, length, replicate, None, Result, Ok, Err, refl, sym, ap, ◌∙◌, arith}
use Rattle.std.proofs.lemmas.Bool.{cases_lt, lt-ltb, le-ltb}
use Rattle.std.specs.Int.{w32}
use Rattle.dis_records.specs.Layout.{spelled_number, total}
use Rattle.dis_records.specs.Datum.{padded}
use Rattle.dis_records.specs.Records.{variable_sizes}
use Rattle.dis_records.proofs.Offered.{sizes_more}
use Rattle.siman_pdus.specs.declared.fault.ViewFault.{ViewFault}
use Rattle.siman_pdus.specs.declared.fault.ViewFault.TheVariants as faults
use Rattle.dis_records.specs.declared.kind.Kind.{Kind}
use Rattle.siman_pdus.specs.Shape.{ends, body_fault, part_sizes, body_refusal, IsWhole}

abbrev pub continued : Result ℕ ViewFault → List ℕ → ℕ → Result ℕ ViewFault
continued (Ok end) ns len = ends end ns len
continued (Err fault) ns len = Err fault

pub ends-append : (at : ℕ) (ms ns : List ℕ) (len : ℕ) → ends at (ms ++ ns) len ≡ continued (ends at ms len) ns len
ends-append at [] ns len = refl
ends-append at (m ∷ ms) ns len =
    elim (cases_lt len (at + m)) [
      | inl lt ↦ rw (lt-ltb len (at + m) lt) refl
      | inr le ↦ rw (le-ltb len (at + m) le) (ends-append (at + m) ms ns len)
    ]

-- a part that is there, and the others after it
pub goes_on : (at n end len : ℕ) (ns : List ℕ) (all : Result ℕ ViewFault) → ends at (n ∷ []) len ≡ Ok end → ends at (n ∷ ns) len ≡ all
    → ends end ns len ≡ all
goes_on at n end len ns all here so_far = sym (ends-append at (n ∷ []) ns len ∙ rw here refl) ∙ so_far

pub stops : (at n len : ℕ) (fault : ViewFault) (ns : List ℕ) (all : Result ℕ ViewFault) → ends at (n ∷ []) len ≡ Err fault → ends at (n ∷ ns) len ≡ all
    → all ≡ Err fault
stops at n len fault ns all here so_far = sym so_far ∙ ends-append at (n ∷ []) ns len ∙ rw here refl

-- a part whose head is not there
pub short_head : (at head n len : ℕ) (fault : ViewFault) → head ≤ n → ends at (head ∷ []) len ≡ Err fault → ends at (n ∷ []) len ≡ Err fault
short_head at head n len fault le short =
    elim (cases_lt len (at + head)) [
      | inl lt ↦ let here : ltb len (at + head) ≡ true = lt-ltb len (at + head) lt in
          let there : ltb len (at + n) ≡ true = lt-ltb len (at + n) (omega arith) in
          rw there (rw here at short)
      | inr far ↦ absurd (let here : ltb len (at + head) ≡ false = le-ltb len (at + head) far in let clash = rw here at short in cc)
    ]

pub one_more : (count i : ℕ) → i < count → count - i ≡ suc (count - (i + 1))
one_more count i lt = omega arith

-- the first variable record of those that are left
abbrev pub first_size : ℕ → List ℕ → ℕ
first_size at b = padded (spelled_number w32 (at + 4) b)

pub sizes_step : (count i at : ℕ) (b : List ℕ) → i < count
    → variable_sizes (count - i) at b ≡ first_size at b ∷ variable_sizes (count - (i + 1)) (at + first_size at b) b
sizes_step count i at b lt =
    let e : count - i - 1 ≡ count - (i + 1) = omega arith in
    rw e at (sizes_more (count - i) at b (omega arith))

pub sizes_none : (count i at : ℕ) (b : List ℕ) → count ≤ i → variable_sizes (count - i) at b ≡ []
unfolding variable_sizes
sizes_none count i at b le = let e : count - i ≡ 0 = omega arith in rw e refl

-- ---- whole bodies

pub ends_all : (at : ℕ) (ns : List ℕ) (len : ℕ) → at + total ns ≤ len → ends at ns len ≡ Ok (at + total ns)
ends_all at [] len le = let e : at + 0 ≡ at = omega arith in rw e refl
ends_all at (n ∷ ns) len le =
    let there : ltb len (at + n) ≡ false = le-ltb len (at + n) (omega arith) in
    let others : ends (at + n) ns len ≡ Ok (at + n + total ns) = ends_all (at + n) ns len (omega arith) in
    let e : at + n + total ns ≡ at + (n + total ns) = omega arith in
    rw there (others ∙ ap (λ (k : ℕ). ends k [] len) e)

pub ends_ok : (at : ℕ) (ns : List ℕ) (len end : ℕ) → at ≤ len → ends at ns len ≡ Ok end → (end ≡ at + total ns) × (end ≤ len)
ends_ok at [] len end le e = let same : at ≡ end = cc in (omega arith, omega arith)
ends_ok at (n ∷ ns) len end le e =
    elim (cases_lt len (at + n)) [
      | inl lt ↦ absurd (let here : ltb len (at + n) ≡ true = lt-ltb len (at + n) lt in let clash = rw here at e in cc)
      | inr room ↦ let here : ltb len (at + n) ≡ false = le-ltb len (at + n) room in
          let others = ends_ok (at + n) ns len end room (rw here at e) in
          (omega (arith, others.0), others.1)
    ]

body_fault_cases : (r : Result ℕ ViewFault) (len : ℕ) → body_fault r len ≡ None → (end : ℕ) × (r ≡ Ok end) × (len ≤ end)
body_fault_cases (Err fault) len e = absurd cc
body_fault_cases (Ok end) len e =
    elim (cases_lt end len) [
      | inl lt ↦ absurd (let more : ltb end len ≡ true = lt-ltb end len lt in let clash = rw more at e in cc)
      | inr le ↦ (end, refl, le)
    ]

-- what is not refused is whole
pub whole : (ns : List ℕ) (len : ℕ) → 12 ≤ len → body_fault (ends 12 ns len) len ≡ None → 12 + total ns ≡ len
whole ns len room e =
    let found = body_fault_cases (ends 12 ns len) len e in
    let is = ends_ok 12 ns len found.0 room found.1 in
    omega (arith, is.0, is.1, found.2)

-- what is whole is not refused
pub not_refused : (ns : List ℕ) (len : ℕ) → 12 + total ns ≡ len → body_fault (ends 12 ns len) len ≡ None
not_refused ns len e =
    let there : ends 12 ns len ≡ Ok (12 + total ns) = ends_all 12 ns len (omega arith) in
    let end : ltb (12 + total ns) len ≡ false = le-ltb (12 + total ns) len (omega arith) in
    rw (there, end) refl

pub total-append : (ms ns : List ℕ) → total (ms ++ ns) ≡ total ms + total ns
total-append [] ns = omega arith
total-append (m ∷ ms) ns = omega (arith, total-append ms ns)

pub total-replicate : (n size : ℕ) → total (replicate n size) ≡ n * size
total-replicate zero size = omega arith
total-replicate (suc n) size = grind (arith, total-replicate n size)

-- parts of one size that are all there
pub parts_there : (start size count len : ℕ) → start + size * count ≤ len → ends start (replicate count size) len ≡ Ok (start + size * count)
parts_there start size count len le =
    let sum : total (replicate count size) ≡ size * count = grind (arith, total-replicate count size) in
    ends_all start (replicate count size) len (omega (arith, sum, le)) ∙ ap (λ (k : ℕ). Ok (start + k)) sum

-- parts of one size of which so many are there, and the next one is not
pub parts_short : (start size there count len : ℕ) → there < count → start + size * there ≤ len → len < start + size * there + size
    → ends start (replicate count size) len ≡ Err (faults.BodyShort (start + size * there))
parts_short start size there zero len more le short = absurd (omega arith)
parts_short start size zero (suc count) len more le short =
    let none : size * zero ≡ 0 = grind arith in
    let here : ltb len (start + size) ≡ true = lt-ltb len (start + size) (omega (arith, none, short)) in
    let at : start ≡ start + size * zero = omega (arith, none) in
    rw here (ap (λ (k : ℕ). Err (faults.BodyShort k)) at)
parts_short start size (suc there) (suc count) len more le short =
    let step : size * suc there ≡ size * there + size = grind arith in
    let here : ltb len (start + size) ≡ false = le-ltb len (start + size) (omega (arith, step, le)) in
    let others = parts_short (start + size) size there count len (omega arith) (omega (arith, step, le)) (omega (arith, step, short)) in
    let at : start + size + size * there ≡ start + size * suc there = omega (arith, step) in
    rw here (others ∙ ap (λ (k : ℕ). Err (faults.BodyShort k)) at)

pub refused_whole : (kind : Kind) (b : List ℕ) → 12 ≤ length b → body_refusal kind b ≡ None → IsWhole kind b
refused_whole kind b room e = whole (part_sizes kind b) (length b) room e

pub whole_not_refused : (kind : Kind) (b : List ℕ) → IsWhole kind b → body_refusal kind b ≡ None
whole_not_refused kind b e = not_refused (part_sizes kind b) (length b) e
