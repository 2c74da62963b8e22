-- Bytes that are refused are no certificate within the limit.
use Rattle.std.proofs.Common.{◌≡◌, ℕ, ◌+◌, ◌*◌, ◌^◌, ◌<◌, ◌≤◌, Bool, true, false, cond, eqb, ltb, List, [], ◌++◌, length, take, Option, Some, Result, Err, refl, sym, ap, subst, ◌∙◌, append_assoc, arith}
use Rattle.std.specs.Prelude.{nat_le, codes, bytes_eq}
use Rattle.std.specs.List.{flat_map}
use Rattle.std.specs.Int.{w32, to_be_bytes, from_be_bytes}
use Rattle.std.proofs.Math.Nat.{pos_of_ne-zero}
use Rattle.std.proofs.lemmas.Bool.{ltb-true, ltb-false, leb-true, leb-false, eqb-false, le-ltb}
use Rattle.std.proofs.lemmas.List.{take_at, length-append}
use Rattle.byte_files.specs.Fields.{Input, IsBytes, tested}
use Rattle.byte_files.specs.Rows.{Row, unless, any, number_in}
use Rattle.byte_files.proofs.Offered.{four_bytes, ReportsFault, Refuses, Takes, any_wrong, failure, field_wrong, front, tested_err, tested_wrong, refuses_last, refuses_mark, refuses_then, refuses_times, takes_nothing, where_wrong, wide32}
use Rattle.exercise_check.specs.declared.certificate.Step.{Step}
use Rattle.exercise_check.specs.declared.certificate_fault.CertificateFormatFault.{CertificateFormatFault}
use Rattle.exercise_check.specs.declared.certificate_fault.CertificateFormatFault.TheVariants as faults
use Rattle.exercise_check.specs.Certificate.{step_text, head_text, certificate_text, names, magic_at, count_at, step_at, ended, whole_at, certificate_at, count_of, IsRefused}
use Rattle.exercise_check.proofs.Agreement.{magic_mark, count_agrees, step_agrees, step_each, steps_agrees, length-steps}

unless_is : {F : Type 0} (b : Bool) (c d : F) → unless b c ≡ Some d → (b ≡ false) × (c ≡ d)
unless_is true c d e = absurd cc
unless_is false c d e = (refl, cc)

-- within the limit, a field is not wholly there, or else it is tested
short_or_tested : {X : Type 0} (over short : Bool) (s t : CertificateFormatFault) (fault : Option CertificateFormatFault) (d : CertificateFormatFault)
    → over ≡ false → cond over (Some s) (cond short (Some t) fault) ≡ Some d
    → (short ≡ true → t ≡ d → X) → (short ≡ false → fault ≡ Some d → X) → X
short_or_tested true short s t fault d fits e f g = absurd cc
short_or_tested false true s t fault d fits e f g = f refl cc
short_or_tested false false s t fault d fits e f g = g refl e

magic_row : Row CertificateFormatFault
magic_row = record { width = 8; fault = λ at left. unless (bytes_eq (take 8 left) (codes "DSCT0001")) (faults.Magic at) }

magic_wrong : ReportsFault names magic_at magic_row
unfolding magic_at magic_row
magic_wrong =
    field_wrong names magic_row (λ i b. tested (bytes_eq b.0 (codes "DSCT0001")) (faults.Magic i.at) b.1)
    (λ i j. tested_wrong (bytes_eq (take 8 i.bytes) (codes "DSCT0001")) (faults.Magic i.at) j)

module _ (limit : ℕ) (bytes : List ℕ) where
  abbrev start : Input
  start = front (12 + 8 * limit) 0 bytes

  -- What a reading of some bytes tells behind a text is right.
  abbrev IsRight : {Y : Type 0} → List ℕ → (Input → Result Y CertificateFormatFault) → Type 0
  IsRight before f = Refuses (IsRefused limit bytes) start before f

  -- a field within the limit: it is not wholly there, and the steps that are counted need it, or else it is tested
  field_right : {Y : Type 0} {f : Input → Result Y CertificateFormatFault} {before : List ℕ} (row : Row CertificateFormatFault)
      → ReportsFault names f row → length before + row.width ≤ 12 + 8 * limit
      → ((i : Input) → Takes start before i → length before + row.width ≤ 12 + 8 * count_of bytes)
      → ((i : Input)
      (d : CertificateFormatFault) → Takes start before i → row.width ≤ length i.bytes → row.fault i.at i.bytes ≡ Some d → IsRefused limit bytes d)
      → IsRight before f
  field_right {before = before} row told within needed tested = record {
    rightly = λ i d t ready e.
        let size : length bytes ≡ length before + length i.bytes = ap length t.parts ∙ length-append before i.bytes in
        let fits : ltb i.limit (i.at + row.width) ≡ false = le-ltb _ _ (omega (arith, t.at, t.limit)) in
        short_or_tested _ (ltb (length i.bytes) row.width) _ _ _ d fits (sym (told.tells i ready.1) ∙ ap failure e)
        (λ short same. subst (IsRefused limit bytes) same (omega (arith, t.at), omega (arith, needed i t, ltb-true _ _ short)))
        (λ long fault. tested i d t (ltb-false _ _ long) fault);
  }

  -- a number of any value
  any_right : {Y : Type 0} {f : Input → Result Y CertificateFormatFault} {before : List ℕ} → ReportsFault names f (any 4) → length before + 4 ≤ 12 + 8 * limit
      → ((i : Input) → Takes start before i → length before + 4 ≤ 12 + 8 * count_of bytes) → IsRight before f
  any_right told within needed = field_right (any 4) told within needed (λ i d t long e. absurd cc)

  magic_right : IsRight [] magic_at
  unfolding magic_row
  magic_right = field_right magic_row magic_wrong (omega arith) (λ i t. omega arith) (λ i d t long e.
      let g = unless_is (bytes_eq (take 8 i.bytes) (codes "DSCT0001")) (faults.Magic i.at) d e in
      let place : i.at ≡ 0 = t.at in
      subst (IsRefused limit bytes) g.1 (place, omega (arith, ap length t.parts), ap (λ b. bytes_eq (take 8 b) (codes "DSCT0001")) t.parts ∙ g.0))

  count_right : IsRight (codes "DSCT0001") (count_at limit)
  unfolding count_at
  count_right = field_right (number_in w32 (λ n. nat_le n limit) faults.OverLimit) (where_wrong names w32 _ _) (omega arith) (λ i t. omega arith) (λ i d t long e.
      let g = unless_is (nat_le (from_be_bytes w32 (take 4 i.bytes)) limit) (faults.OverLimit i.at) d e in
      let place : i.at ≡ 8 = t.at in
      let count : count_of bytes ≡ from_be_bytes w32 (take 4 i.bytes) = ap count_of t.parts in
      let size : length bytes ≡ 8 + length i.bytes = ap length t.parts ∙ length-append (codes "DSCT0001") i.bytes in
      subst (IsRefused limit bytes) g.1 (place, ap (take 8) t.parts, omega arith, rw count (leb-false (from_be_bytes w32 (take 4 i.bytes)) limit g.0)))

  -- the number of steps, where it stands at the front
  count_is : (n : ℕ) (s : List ℕ) (i : Input) → n < 2 ^ 32 → Takes start (head_text n ++ s) i → count_of bytes ≡ n
  count_is n s i few t = ap count_of t.parts ∙ wide32.again n few

  step_right : (n : ℕ) (ss : List Step) → n < 2 ^ 32 → n ≤ limit → length ss < n → IsRight (head_text n ++ flat_map step_text ss) step_at
  unfolding step_at
  step_right n ss few within more =
      let before = flat_map step_text ss in
      let size : length (head_text n ++ before) ≡ 12 + 8 * length ss = length-append (head_text n) before ∙ ap (λ k. 12 + k) (length-steps ss) in
      refuses_then (four_bytes names) (any_right (any_wrong names w32) (omega arith) (λ i t. omega (arith, count_is n before i few t)))
      (λ p h.
      let both : length ((head_text n ++ before) ++ to_be_bytes w32 p) ≡ (12 + 8 * length ss) + 4 =
      length-append (head_text n ++ before) (to_be_bytes w32 p) ∙ ap (λ k. k + 4) size in
      refuses_last (λ l. (record { place = p; link = l.0 }, l.1)) (any_right (any_wrong names w32) (omega arith)
      (λ i t. omega
      (arith, count_is n (before ++ to_be_bytes w32 p) i few (subst (λ u. Takes start u i) (append_assoc (head_text n) before (to_be_bytes w32 p)) t)))))

  end_right : (steps : List Step) → length steps ≤ limit → IsRight (certificate_text steps) (ended steps)
  end_right steps few = record {
    rightly = λ j d t ready e.
        let text = certificate_text steps in
        let g = tested_err (eqb (length j.bytes) 0) (faults.Trailing j.at) steps d e in
        let size : length bytes ≡ length text + length j.bytes = ap length t.parts ∙ length-append text j.bytes in
        let place : length text ≡ j.at = omega (arith, t.at) in
        let more : j.at < length bytes = omega (arith, pos_of_ne-zero (eqb-false (length j.bytes) 0 g.0), size, place) in
        subst (IsRefused limit bytes) g.1 (more, (steps, ap (take j.at) t.parts ∙ take_at text j.bytes j.at place, few));
  }

  -- the same behind the number of the steps
  counted : (n : ℕ) (steps : List Step) → length steps ≡ n → IsRight (certificate_text steps) (ended steps)
      → IsRight (head_text n ++ flat_map step_text steps) (ended steps)
  counted n steps size h = subst (λ k. IsRight (head_text k ++ flat_map step_text steps) (ended steps)) size h

  -- bytes that are refused are refused rightly
  pub refused : (d : CertificateFormatFault) → IsBytes bytes → certificate_at limit bytes ≡ Err d → IsRefused limit bytes d
  unfolding certificate_at whole_at
  refused d fits e =
      (refuses_mark magic_mark magic_right (refuses_then (count_agrees limit) count_right
      (λ n h. let within : n ≤ limit = leb-true n limit h.1 in
      refuses_then (steps_agrees n) (refuses_times step_each (λ u. step_agrees) n tt (λ ss all more. step_right n ss h.0 within more))
      (λ ss g. counted n ss g.0 (end_right ss (omega (arith, g.0))))))).rightly start d (takes_nothing start (omega arith)) (fits, omega arith) e
