-- The first row that holds of what may speak against a PDU that is sent, and what stays of it.
use Rattle.std.proofs.Common.{◌≡◌, ◌≢◌, ℕ, List, [], ◌∷◌, Bool, Option, Some, None, true, false, refl, sym, ap, ◌∙◌}
use Rattle.std.specs.Prelude.{◌&&◌, not, is_none}
use Rattle.std.specs.Option.{option_map_or}
use Rattle.std.proofs.lemmas.Option.{same_Some}
use Rattle.siman_pdus.specs.declared.pdu.Pdu.{Pdu}
use Rattle.siman_pdus.specs.Role.{is_request_body}
use Rattle.siman_pdus.specs.Answers.{is_answer_to}
use Rattle.exercise_model.specs.declared.cause.Cause.{Cause}
use Rattle.exercise_model.specs.declared.cause.Cause.TheVariants.{WrongSender, ReusedIdentifier, NoRequest, WrongAnswer, ChangedAnswer, Impossible, Stranger, NeverSent}
use Rattle.exercise_model.specs.Station.{StationData}
use Rattle.exercise_model.specs.Setting.{SettingData, is_from, is_recorded, may_be_heard}
use Rattle.exercise_model.specs.History.{Event, History}
use Rattle.exercise_model.specs.Exchange.{is_answer_body, request_taken_up}
use Rattle.exercise_model.specs.Cause.{first_cause, is_reused, is_changed_answer, is_impossible, send_cause, get_cause, was_sent}
use Rattle.exercise_conflict.specs.Final.{is_final}
use Rattle.exercise_conflict.specs.Wider.{AddsTo, sends_no_able}
use Rattle.exercise_conflict.proofs.Additions.{reused_more, changed_more, taken_same, impossible_same}

-- the rows of what may speak against a PDU that is sent
abbrev pub chain : Bool → Bool → Bool → Bool → Bool → Bool → Option Cause
chain a b c d e f =
    first_cause ((a, WrongSender) ∷ (b, ReusedIdentifier) ∷ (c, NoRequest) ∷ (d, WrongAnswer) ∷ (e, ChangedAnswer) ∷ (f, Impossible) ∷ [])

-- where the second row and the fifth only grow, there is still a cause
still : (a b b' c d e e' f : Bool) (cause : Cause) → chain a b c d e f ≡ Some cause → (b ≡ true → b' ≡ true) → (e ≡ true → e' ≡ true)
    → chain a b' c d e' f ≡ None → ⊥
still true b b' c d e e' f cause is on up none = absurd (cc)
still false true b' c d e e' f cause is on up none = absurd (cc (sym (ap (λ t. chain false t c d e' f) (on refl)) ∙ none))
still false false true c d e e' f cause is on up none = absurd (cc)
still false false false true d e e' f cause is on up none = absurd (cc)
still false false false false true e e' f cause is on up none = absurd (cc)
still false false false false false true e' f cause is on up none = absurd (cc (sym (ap (λ t. chain false false false false t f) (up refl)) ∙ none))
still false false false false false false true f cause is on up none = absurd (cc)
still false false false false false false false true cause is on up none = absurd (cc)
still false false false false false false false false cause is on up none = absurd (cc)

changed_late : (b c d f : Bool) → chain false b c d true f ≡ None → ⊥
changed_late true c d f none = absurd (cc)
changed_late false true d f none = absurd (cc)
changed_late false false true f none = absurd (cc)
changed_late false false false f none = absurd (cc)

-- and so where the others are any, if the cause is final
final_still : (a b b' c c' d d' e e' f f' : Bool) (cause : Cause) → chain a b c d e f ≡ Some cause → is_final cause ≡ true
    → (b ≡ true → b' ≡ true) → (e ≡ true → e' ≡ true) → chain a b' c' d' e' f' ≡ None → ⊥
final_still true b b' c c' d d' e e' f f' cause is final on up none = absurd (cc)
final_still false true b' c c' d d' e e' f f' cause is final on up none =
    absurd (cc (sym (ap (λ t. chain false t c' d' e' f') (on refl)) ∙ none))
final_still false false b' true c' d d' e e' f f' cause is final on up none = absurd (cc (ap is_final (same_Some NoRequest cause is) ∙ final))
final_still false false b' false c' true d' e e' f f' cause is final on up none = absurd (cc (ap is_final (same_Some WrongAnswer cause is) ∙ final))
final_still false false b' false c' false d' true e' f f' cause is final on up none =
    changed_late b' c' d' f' (sym (ap (λ t. chain false b' c' d' t f') (up refl)) ∙ none)
final_still false false b' false c' false d' false e' true f' cause is final on up none = absurd (cc (ap is_final (same_Some Impossible cause is) ∙ final))
final_still false false b' false c' false d' false e' false f' cause is final on up none = absurd (cc)

and_on : (a b c : Bool) → (b ≡ true → c ≡ true) → (a && b) ≡ true → (a && c) ≡ true
and_on true b c on e = on e
and_on false b c on e = absurd (cc)

-- the rows by what they ask of a log
abbrev pub rows_by : StationData → Pdu → Option Pdu → Bool → Bool → Bool → Option Cause
rows_by o p request reused altered impossible =
    chain (not (is_from o.address p)) (is_request_body p.body && reused) (is_answer_body p.body && is_none request)
    (is_answer_body p.body && not (option_map_or (is_answer_to p) request false)) (is_answer_body p.body && altered) (is_answer_body p.body && impossible)

-- a cause against what is sent stays where its log has further sends that are no Ables
pub send_stays : (x : ℕ) (o : StationData) (p : Pdu) (h k : History) (cause : Cause) → AddsTo (sends_no_able x) h k
    → send_cause x o h p ≡ Some cause → send_cause x o k p ≡ None → ⊥
unfolding send_cause
send_stays x o p h k cause adds is none =
    let stand : Option Pdu → Bool → Option Cause = λ request impossible. rows_by o p request (is_reused x p k) (is_changed_answer x p k) impossible in
    let asked = taken_same x o.address p h k adds in
    let hopeless : option_map_or (is_impossible x o h p) (request_taken_up x o.address p h) false
    ≡ option_map_or (is_impossible x o k p) (request_taken_up x o.address p k) false
    = each (request_taken_up x o.address p h) ∙ ap (λ q. option_map_or (is_impossible x o k p) q false) asked in
    still (not (is_from o.address p)) (is_request_body p.body && is_reused x p h) (is_request_body p.body && is_reused x p k)
    (is_answer_body p.body && is_none (request_taken_up x o.address p h))
    (is_answer_body p.body && not (option_map_or (is_answer_to p) (request_taken_up x o.address p h) false))
    (is_answer_body p.body && is_changed_answer x p h) (is_answer_body p.body && is_changed_answer x p k)
    (is_answer_body p.body && option_map_or (is_impossible x o h p) (request_taken_up x o.address p h) false) cause is
    (and_on (is_request_body p.body) (is_reused x p h) (is_reused x p k) (reused_more (sends_no_able x) x p h k adds))
    (and_on (is_answer_body p.body) (is_changed_answer x p h) (is_changed_answer x p k) (changed_more (sends_no_able x) x p h k adds))
    (ap (λ t. stand (request_taken_up x o.address p h) t) hopeless ∙ ap (λ q. stand q (option_map_or (is_impossible x o k p) (request_taken_up x o.address p k) false)) asked
    ∙ none)
  where
    each : (q : Option Pdu) → option_map_or (is_impossible x o h p) q false ≡ option_map_or (is_impossible x o k p) q false
    each None = refl
    each (Some q) = impossible_same x o p q h k adds

-- a final cause stays whatever its log has beside
pub final_stays : (may : Event → Bool) (x : ℕ) (o : StationData) (p : Pdu) (h k : History) (cause : Cause) → AddsTo may h k
    → send_cause x o h p ≡ Some cause → is_final cause ≡ true → send_cause x o k p ≡ None → ⊥
unfolding send_cause
final_stays may x o p h k cause adds is final none =
    final_still (not (is_from o.address p)) (is_request_body p.body && is_reused x p h) (is_request_body p.body && is_reused x p k)
    (is_answer_body p.body && is_none (request_taken_up x o.address p h)) (is_answer_body p.body && is_none (request_taken_up x o.address p k))
    (is_answer_body p.body && not (option_map_or (is_answer_to p) (request_taken_up x o.address p h) false))
    (is_answer_body p.body && not (option_map_or (is_answer_to p) (request_taken_up x o.address p k) false))
    (is_answer_body p.body && is_changed_answer x p h) (is_answer_body p.body && is_changed_answer x p k)
    (is_answer_body p.body && option_map_or (is_impossible x o h p) (request_taken_up x o.address p h) false)
    (is_answer_body p.body && option_map_or (is_impossible x o k p) (request_taken_up x o.address p k) false) cause is final
    (and_on (is_request_body p.body) (is_reused x p h) (is_reused x p k) (reused_more may x p h k adds))
    (and_on (is_answer_body p.body) (is_changed_answer x p h) (is_changed_answer x p k) (changed_more may x p h k adds)) none

-- what is received from a stranger is so whatever happened before
pub got_stays : (w : SettingData) (h k : History) (b : List ℕ) (p : Pdu) (cause : Cause) → get_cause w h b p ≡ Some cause → cause ≢ NeverSent
    → get_cause w k b p ≡ None → ⊥
unfolding get_cause
got_stays w h k b p cause is other none =
    rows (may_be_heard w p) (is_recorded w p && not (was_sent b h)) (is_recorded w p && not (was_sent b k)) is none
  where
    rows : (heard unsent unsent' : Bool) → first_cause ((not heard, Stranger) ∷ (unsent, NeverSent) ∷ []) ≡ Some cause
        → first_cause ((not heard, Stranger) ∷ (unsent', NeverSent) ∷ []) ≡ None → ⊥
    rows false unsent unsent' is none = absurd (cc)
    rows true true unsent' is none = other (sym (same_Some NeverSent cause is))
    rows true false unsent' is none = absurd (cc)
