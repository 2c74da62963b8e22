-- What came to a station after an entry, as one list.
use Rattle.std.proofs.Common.{◌≡◌, ⊎_elim, ℕ, zero, suc, ◌<◌, ◌≤◌, List, length, Bool, true, false, Option, Some, None, refl, sym, ap, ◌∙◌, arith}
use Rattle.std.specs.Prelude.{◌↔◌, nat_lt, ◌||◌, if◌then◌else◌}
use Rattle.std.specs.Option.{option_to_list}
use Rattle.std.specs.List.{list_any}
use Rattle.std.proofs.lemmas.Bool.{and_from, cases_lt, lt-ltb, ltb-true, or_cases, or_left, or_right}
use Rattle.std.proofs.lemmas.List.Folds.{list_any-append}
use Rattle.siman_pdus.specs.declared.pdu.Pdu.{Pdu}
use Rattle.siman_pdus.specs.Answers.{is_answer_to}
use Rattle.exercise_model.specs.Recording.{PlainRecording, IsRecording}
use Rattle.exercise_model.specs.History.{History}
use Rattle.exercise_model.specs.Run.{Explains}
use Rattle.exercise_review.specs.Entries.{pdu_received}
use Rattle.exercise_review.specs.Order.{OrderData, order_at}
use Rattle.exercise_review.specs.Word.{settles}
use Rattle.exercise_review.specs.Knowing.{IsHeardSettled, IsReceivedSettled, settles_order, came_below, pdus_after}
use Rattle.exercise_review.proofs.Runs.{both}
use Rattle.exercise_review.proofs.Telling.{got_parts, got_within, told_received, received_told}

-- something that came after entry i and passes
record Came (r : PlainRecording) (test : Pdu → Bool) (s i : ℕ) : Type 0 where
  at : ℕ
  after : i < at
  pdu : Pdu
  got : pdu_received r s at ≡ Some pdu
  passes : test pdu ≡ true

-- what passes in the list came at an entry
came_there : (r : PlainRecording) (test : Pdu → Bool) (s i n : ℕ) → list_any test (came_below r s i n) ≡ true → Came r test s i
unfolding came_below
came_there r test s i zero h = absurd (cc)
came_there r test s i (suc n) h =
    ⊎_elim
    (λ (here : list_any test (option_to_list (if nat_lt i n then pdu_received r s n else None)) ≡ true). one (nat_lt i n) refl (pdu_received r s n) refl here)
    (λ (before : list_any test (came_below r s i n) ≡ true). came_there r test s i n before)
    (or_cases (list_any test (option_to_list (if nat_lt i n then pdu_received r s n else None))) (list_any test (came_below r s i n))
    (sym (list_any-append test (option_to_list (if nat_lt i n then pdu_received r s n else None)) (came_below r s i n)) ∙ h))
  where
    of_pdu : (p : Pdu) → nat_lt i n ≡ true → pdu_received r s n ≡ Some p → (t : Bool) → test p ≡ t → (t || false) ≡ true → Came r test s i
    of_pdu p later got true passes h = record { at = n; after = ltb-true i n later; pdu = p; got = got; passes = passes }
    of_pdu p later got false passes h = absurd (cc)

    one : (t : Bool) → nat_lt i n ≡ t → (o : Option Pdu) → pdu_received r s n ≡ o → list_any test (option_to_list (if t then o else None)) ≡ true → Came r test s i
    one false later o got h = absurd (cc)
    one true later None got h = absurd (cc)
    one true later (Some p) got h = of_pdu p later got (test p) refl h

-- and what came at an entry and passes does in the list
there_came : (r : PlainRecording) (test : Pdu → Bool) (s i j : ℕ) (p : Pdu) → i < j → pdu_received r s j ≡ Some p → test p ≡ true → (n : ℕ) → j < n
    → list_any test (came_below r s i n) ≡ true
unfolding came_below
there_came r test s i j p after got passes zero below = absurd (omega (arith, below))
there_came r test s i j p after got passes (suc n) below =
    let here : List Pdu = option_to_list (if nat_lt i n then pdu_received r s n else None) in
    list_any-append test here (came_below r s i n)
    ∙ ⊎_elim
    (λ (less : j < n). or_right (list_any test here) (list_any test (came_below r s i n)) (there_came r test s i j p after got passes n less))
    (λ (from : n ≤ j).
    let same : n ≡ j = omega (arith, from, below) in
    or_left (list_any test here) (list_any test (came_below r s i n))
    (ap (λ t. list_any test (option_to_list (if t then pdu_received r s n else None))) (ap (nat_lt i) same ∙ lt-ltb i j after)
    ∙ ap (λ o. list_any test (option_to_list o)) (ap (pdu_received r s) same ∙ got)
    ∙ ap (λ t. t || false) passes))
    (cases_lt j n)

-- WHAT A MANAGER KNOWS of its order
pub known_heard : (r : PlainRecording) (h : History) (i s : ℕ) (o : OrderData) → IsRecording r → Explains r h → order_at r i ≡ Some o → o.maker ≡ Some s
    → (list_any (settles_order o.request) (pdus_after r s o.head) ≡ true) ↔ ((j : ℕ) × IsHeardSettled r o j)
known_heard r h i s o limits explains order maker = (
  λ some.
      let came = came_there r (settles_order o.request) s o.head (length r.entries) some in
      let parts = both (is_answer_to came.pdu o.request) (settles came.pdu.body) came.passes in
      let received : IsReceivedSettled r o s came.at = record { after = came.after; pdu = came.pdu; got = came.got; answers = parts.0; settles = parts.1 } in
      (came.at, received_told r h i s came.at o limits explains order maker received),
  λ found.
      let received = told_received r h i s found.0 o limits explains order maker found.1 in
      let parts = got_parts r s found.0 received.pdu received.got in
      there_came r (settles_order o.request) s o.head found.0 received.pdu received.after received.got (and_from _ _ received.answers received.settles)
      (length r.entries) (got_within r s found.0 parts.0 parts.1),
)
