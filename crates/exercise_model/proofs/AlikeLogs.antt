-- Two logs of a station that say the same: the same causes stand against each event behind them.
use Rattle.std.proofs.Common.{◌≡◌, ℕ, List, [], ◌∷◌, Option, Some, None, Bool, false, refl, ap, ◌∙◌}
use Rattle.std.specs.Prelude.{◌&&◌, ◌||◌, not, is_none, option_and_then, if◌then◌else◌}
use Rattle.std.specs.Option.{option_map_or}
use Rattle.dis_records.specs.declared.kind.Kind.{Kind}
use Rattle.dis_records.specs.declared.entity.Scope.{Scope}
use Rattle.dis_records.specs.declared.entity.Scope.TheVariants.{One, All}
use Rattle.dis_records.specs.declared.entity_state.EntityState.{EntityState}
use Rattle.dis_records.specs.declared.entity_state.EntityState.TheVariants.{Absent}
use Rattle.siman_pdus.specs.declared.pdu.Pdu.{Pdu}
use Rattle.siman_pdus.specs.Role.{is_request_body}
use Rattle.siman_pdus.specs.Answers.{is_answer_to}
use Rattle.exercise_model.specs.declared.acknowledge.AcknowledgeKey.{AcknowledgeKey}
use Rattle.exercise_model.specs.declared.cause.Cause.{Cause}
use Rattle.exercise_model.specs.declared.cause.Cause.TheVariants.{WrongSender, ReusedIdentifier, NoRequest, WrongAnswer, ChangedAnswer, Impossible}
use Rattle.exercise_model.specs.Station.{StationData, is_entity}
use Rattle.exercise_model.specs.Setting.{is_from}
use Rattle.exercise_model.specs.History.{History}
use Rattle.exercise_model.specs.Meaning.{meaning}
use Rattle.exercise_model.specs.Exchange.{is_answer_body, request_taken_up}
use Rattle.exercise_model.specs.Change.{able, unable, responds, key_of, was_acknowledged, is_change}
use Rattle.exercise_model.specs.State.{change_of, carried_out, change_by, entity_state, state_after}
use Rattle.exercise_model.specs.Cause.{first_cause, is_reused, is_changed_answer, is_hopeless, is_impossible, send_cause}

-- two logs of the station o, in exercise x, with the same exchanges: the same orders and answers were sent, and each
-- answer takes up the same request
pub record HaveSameExchanges (x : ℕ) (o : StationData) (k l : History) : Type 0 where
  pub reused : (p : Pdu) → is_reused x p k ≡ is_reused x p l
  pub acknowledged : (response : ℕ) (key : AcknowledgeKey) → was_acknowledged x response key k ≡ was_acknowledged x response key l
  pub taken : (p : Pdu) → request_taken_up x o.address p k ≡ request_taken_up x o.address p l

-- and the same states
pub record AreAlikeLogs (x : ℕ) (o : StationData) (k l : History) : Type 0 where
  pub exchanges : HaveSameExchanges x o k l
  pub state : (e : ℕ) → entity_state x o k e ≡ entity_state x o l e

-- ---- changes and states

change_alike : (x : ℕ) (o : StationData) (k l : History) → HaveSameExchanges x o k l → (p : Pdu) → is_change x p k ≡ is_change x p l
unfolding is_change
change_alike x o k l same p =
    elim (key_of p) as (λ w. (responds able p && option_map_or (λ key. not (was_acknowledged x able key k)) w false)
    ≡ (responds able p && option_map_or (λ key. not (was_acknowledged x able key l)) w false)) [
      | None ↦ refl
      | Some key ↦ ap (λ b. responds able p && not b) (same.acknowledged able key)
    ]

change_by_alike : (x : ℕ) (o : StationData) (k l : History) → HaveSameExchanges x o k l → (p : Pdu) → change_by x o k p ≡ change_by x o l p
unfolding change_by
change_by_alike x o k l same p =
    ap (λ b. if b then option_and_then (carried_out p) (request_taken_up x o.address p k) else None) (change_alike x o k l same p)
    ∙ ap (λ q. if is_change x p l then option_and_then (carried_out p) q else None) (same.taken p)

-- what is sent makes the same change
pub sent_alike : (x : ℕ) (o : StationData) (k l : History) → HaveSameExchanges x o k l → (b : List ℕ)
    → option_and_then (change_by x o k) (meaning x b) ≡ option_and_then (change_by x o l) (meaning x b)
sent_alike x o k l same b =
    elim (meaning x b) as (λ m. option_and_then (change_by x o k) m ≡ option_and_then (change_by x o l) m) [
      | None ↦ refl
      | Some p ↦ change_by_alike x o k l same p
    ]

pub state_alike : (x : ℕ) (o : StationData) (k l : History) → AreAlikeLogs x o k l → (e : ℕ) → state_after x o k e ≡ state_after x o l e
unfolding state_after
state_alike x o k l alike e = ap (λ y. if is_entity e then y else Absent) (alike.state e)

-- ---- what speaks against a PDU

changed_answer_alike : (x : ℕ) (o : StationData) (k l : History) → HaveSameExchanges x o k l → (p : Pdu)
    → is_changed_answer x p k ≡ is_changed_answer x p l
unfolding is_changed_answer
changed_answer_alike x o k l same p =
    let Either : Bool → Bool → Bool = λ a b. (responds able p && a) || (responds unable p && b) in
    elim (key_of p) as (λ w. option_map_or (λ key. Either (was_acknowledged x unable key k) (was_acknowledged x able key k)) w false
    ≡ option_map_or (λ key. Either (was_acknowledged x unable key l) (was_acknowledged x able key l)) w false) [
      | None ↦ refl
      | Some key ↦ ap (λ b. Either b (was_acknowledged x able key k)) (same.acknowledged unable key)
          ∙ ap (Either (was_acknowledged x unable key l)) (same.acknowledged able key)
    ]

hopeless_alike : (kind : Kind) (scope : Scope) (y z : ℕ → EntityState) → ((e : ℕ) → y e ≡ z e) → is_hopeless kind scope y ≡ is_hopeless kind scope z
hopeless_alike kind (One n) y z same = rw (same n) refl
hopeless_alike kind All y z same = refl

impossible_alike : (x : ℕ) (o : StationData) (k l : History) → AreAlikeLogs x o k l → (p q : Pdu) → is_impossible x o k p q ≡ is_impossible x o l p q
unfolding is_impossible
impossible_alike x o k l alike p q =
    let c = change_of p q in
    ap (λ b. b && is_hopeless c.kind c.scope (state_after x o k)) (change_alike x o k l alike.exchanges p)
    ∙ ap (λ b. is_change x p l && b) (hopeless_alike c.kind c.scope (state_after x o k) (state_after x o l) (λ e. state_alike x o k l alike e))

-- WHAT SPEAKS AGAINST A PDU IS THE SAME
send_alike : (x : ℕ) (o : StationData) (k l : History) → AreAlikeLogs x o k l → (p : Pdu) → send_cause x o k p ≡ send_cause x o l p
unfolding send_cause
send_alike x o k l alike p =
    let answer = is_answer_body p.body in
    let Rows : Bool → Option Pdu → Bool → Bool → Option Cause = λ reused request answered impossible.
    first_cause (
    (not (is_from o.address p), WrongSender)
    ∷ (is_request_body p.body && reused, ReusedIdentifier)
    ∷ (answer && is_none request, NoRequest)
    ∷ (answer && not (option_map_or (is_answer_to p) request false), WrongAnswer)
    ∷ (answer && answered, ChangedAnswer)
    ∷ (answer && impossible, Impossible)
    ∷ []
    ) in
    let old = request_taken_up x o.address p k in
    let request = request_taken_up x o.address p l in
    let hopeless : History → Option Pdu → Bool = λ log r. option_map_or (is_impossible x o log p) r false in
    let same : hopeless k request ≡ hopeless l request =
    elim request as (λ r. hopeless k r ≡ hopeless l r) [ None ↦ refl | Some q ↦ impossible_alike x o k l alike p q ] in
    ap (λ b. Rows b old (is_changed_answer x p k) (hopeless k old)) (alike.exchanges.reused p)
    ∙ ap (λ r. Rows (is_reused x p l) r (is_changed_answer x p k) (hopeless k r)) (alike.exchanges.taken p)
    ∙ ap (λ b. Rows (is_reused x p l) request b (hopeless k request)) (changed_answer_alike x o k l alike.exchanges p)
    ∙ ap (Rows (is_reused x p l) request (is_changed_answer x p l)) same

pub sending_alike : (x : ℕ) (o : StationData) (k l : History) → AreAlikeLogs x o k l → (b : List ℕ)
    → option_and_then (send_cause x o k) (meaning x b) ≡ option_and_then (send_cause x o l) (meaning x b)
sending_alike x o k l alike b =
    elim (meaning x b) as (λ m. option_and_then (send_cause x o k) m ≡ option_and_then (send_cause x o l) m) [
      | None ↦ refl
      | Some p ↦ send_alike x o k l alike p
    ]
