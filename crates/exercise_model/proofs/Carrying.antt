-- What an Able that a station may send carries out: it answers its request, is possible, and makes the states that the request asks for.
use Rattle.std.proofs.Common.{◌≡◌, ℕ, List, ◌∷◌, cond, Option, Some, None, Bool, true, false, refl, sym, ap, ◌∙◌, subst}
use Rattle.std.specs.Prelude.{◌&&◌, ◌==◌, not, option_and_then, if◌then◌else◌}
use Rattle.std.specs.Option.{option_map_or}
use Rattle.std.proofs.lemmas.Bool.{and_parts, eqb-true}
use Rattle.std.proofs.lemmas.Option.{same_Some}
use Rattle.dis_records.specs.declared.kind.Kind.{Kind}
use Rattle.dis_records.specs.declared.kind.Kind.TheVariants as kinds
use Rattle.dis_records.specs.declared.entity.Scope.{Scope}
use Rattle.dis_records.specs.declared.entity.Scope.TheVariants.{One, All}
use Rattle.dis_records.specs.declared.entity_state.EntityState.{EntityState}
use Rattle.dis_records.specs.declared.entity_state.EntityState.TheVariants.{Absent, Stopped, Running}
use Rattle.siman_pdus.specs.declared.pdu.Body.{Body}
use Rattle.siman_pdus.specs.declared.pdu.Body.TheVariants.{CreateEntity, RemoveEntity, StartResume, StopFreeze, Acknowledge, ActionRequest, ActionResponse, DataQuery, SetData, DataPdu, EventReport, Comment}
use Rattle.siman_pdus.specs.declared.pdu.Pdu.{Pdu}
use Rattle.siman_pdus.specs.Reading.{reading}
use Rattle.siman_pdus.specs.Role.{is_acknowledge_flag, role_of}
use Rattle.siman_pdus.specs.Answers.{matches_kind, same_id}
use Rattle.siman_pdus.specs.Spelling.{body_kind}
use Rattle.exercise_model.specs.Station.{StationData, is_entity, is_absent}
use Rattle.exercise_model.specs.History.{History, Send, log_at, station_at}
use Rattle.exercise_model.specs.Recording.{PlainRecording}
use Rattle.exercise_model.specs.Meaning.{is_outside, meant, meaning}
use Rattle.exercise_model.specs.Exchange.{is_answer_body, request_taken_up}
use Rattle.exercise_model.specs.Change.{able, response_of, responds, is_change}
use Rattle.exercise_model.specs.State.{state_made, scope_has, change_of, entity_state, state_after}
use Rattle.exercise_model.specs.Cause.{is_hopeless_for, is_hopeless, is_impossible, IsAllowed}
use Rattle.exercise_model.specs.Answered.{IsFirstAble}
use Rattle.exercise_model.specs.Headline.{HadRequest}
use Rattle.exercise_model.specs.Knowledge.{state_in, Makes, IsCarriedOut}
use Rattle.exercise_model.proofs.Sentences.{sent_rows, and_false}
use Rattle.exercise_model.proofs.FirstAnswers.{first_able_changes}
use Rattle.exercise_model.proofs.Confluence.{log_at-own}

pub not_true : (b : Bool) → not b ≡ true → b ≡ false
not_true true e = absurd (cc)
not_true false e = refl

-- an Able Acknowledge that is not outside the exchanges is an answer
able_answers : (body : Body) → same_id (response_of body) (Some able) ≡ true → is_outside (role_of body) ≡ false → is_answer_body body ≡ true
able_answers (CreateEntity request) e inside = absurd (cc)
able_answers (RemoveEntity request) e inside = absurd (cc)
able_answers (StartResume real sim request) e inside = absurd (cc)
able_answers (StopFreeze real reason behaviour request) e inside = absurd (cc)
able_answers (Acknowledge flag response request) e inside = of_flag (is_acknowledge_flag flag) refl inside where
  of_flag : (b : Bool) → is_acknowledge_flag flag ≡ b → is_outside (role_of (Acknowledge flag response request)) ≡ false
      → is_answer_body (Acknowledge flag response request) ≡ true
  of_flag true is inside = rw is refl
  of_flag false is inside = let other = rw is at inside in absurd (cc)
able_answers (ActionRequest request action datums) e inside = absurd (cc)
able_answers (ActionResponse request status datums) e inside = absurd (cc)
able_answers (DataQuery request interval ids) e inside = absurd (cc)
able_answers (SetData request datums) e inside = absurd (cc)
able_answers (DataPdu request datums) e inside = absurd (cc)
able_answers (EventReport event datums) e inside = absurd (cc)
able_answers (Comment datums) e inside = absurd (cc)

-- what a datagram means is not outside the exchanges
meant_inside : (x : ℕ) (b : List ℕ) (p : Pdu) → meaning x b ≡ Some p → is_outside (role_of p.body) ≡ false
unfolding meaning
meant_inside x b p e = of_reading (reading b) e where
  of_test : (q : Pdu) (t : Bool) → ((q.exercise == x) && not (is_outside (role_of q.body))) ≡ t → cond t (Some q) None ≡ Some p
      → is_outside (role_of p.body) ≡ false
  of_test q false is e = absurd (cc)
  of_test q true is e =
      subst (λ (p : Pdu). is_outside (role_of p.body) ≡ false) (same_Some q p e)
      (not_true _ (and_parts (q.exercise == x) (not (is_outside (role_of q.body))) is).1)

  of_reading : (o : Option Pdu) → option_and_then (meant x) o ≡ Some p → is_outside (role_of p.body) ≡ false
  of_reading None e = absurd (cc)
  of_reading (Some q) e = of_test q ((q.exercise == x) && not (is_outside (role_of q.body))) refl e

pub able_is_answer : (x : ℕ) (b : List ℕ) (p : Pdu) → meaning x b ≡ Some p → responds able p ≡ true → is_answer_body p.body ≡ true
able_is_answer x b p meant is_able = able_answers p.body is_able (meant_inside x b p meant)

-- what the four kinds make of a state, in words
made_by_start : (y : EntityState) → Makes kinds.StartResume y (state_made kinds.StartResume y)
made_by_start Absent = (λ _. refl, λ there. absurd (there refl))
made_by_start Stopped = (λ absent. absurd (cc), λ _. refl)
made_by_start Running = (λ absent. absurd (cc), λ _. refl)

made_by_stop : (y : EntityState) → Makes kinds.StopFreeze y (state_made kinds.StopFreeze y)
made_by_stop Absent = (λ _. refl, λ there. absurd (there refl))
made_by_stop Stopped = (λ absent. absurd (cc), λ _. refl)
made_by_stop Running = (λ absent. absurd (cc), λ _. refl)

-- an Acknowledge answers no other kind
made_by_kind : (flag response request : ℕ) (kind : Kind) (y : EntityState) → matches_kind (Acknowledge flag response request) kind ≡ true
    → Makes kind y (state_made kind y)
made_by_kind flag response request kinds.CreateEntity y e = refl
made_by_kind flag response request kinds.RemoveEntity y e = refl
made_by_kind flag response request kinds.StartResume y e = made_by_start y
made_by_kind flag response request kinds.StopFreeze y e = made_by_stop y
made_by_kind flag response request kinds.Acknowledge y e = absurd (cc)
made_by_kind flag response request kinds.ActionRequest y e = absurd (cc)
made_by_kind flag response request kinds.ActionResponse y e = absurd (cc)
made_by_kind flag response request kinds.DataQuery y e = absurd (cc)
made_by_kind flag response request kinds.SetData y e = absurd (cc)
made_by_kind flag response request kinds.DataPdu y e = absurd (cc)
made_by_kind flag response request kinds.EventReport y e = absurd (cc)
made_by_kind flag response request kinds.Comment y e = absurd (cc)

makes : (body : Body) (kind : Kind) (y : EntityState) → same_id (response_of body) (Some able) ≡ true → matches_kind body kind ≡ true
    → Makes kind y (state_made kind y)
makes (CreateEntity id) kind y e m = absurd (cc)
makes (RemoveEntity id) kind y e m = absurd (cc)
makes (StartResume real sim id) kind y e m = absurd (cc)
makes (StopFreeze real reason behaviour id) kind y e m = absurd (cc)
makes (Acknowledge flag response id) kind y e m = made_by_kind flag response id kind y m
makes (ActionRequest id action datums) kind y e m = absurd (cc)
makes (ActionResponse id status datums) kind y e m = absurd (cc)
makes (DataQuery id interval ids) kind y e m = absurd (cc)
makes (SetData id datums) kind y e m = absurd (cc)
makes (DataPdu id datums) kind y e m = absurd (cc)
makes (EventReport event datums) kind y e m = absurd (cc)
makes (Comment datums) kind y e m = absurd (cc)

-- an Able that is no number's to make: a number that no entity has stays Absent
outside : (x : ℕ) (o : StationData) (log : History) (e : ℕ) → is_entity e ≡ false → state_after x o log e ≡ Absent
unfolding state_after
outside x o log e none = ap (λ (v : Bool). if v then entity_state x o log e else Absent) none

-- what the four kinds make of an Absent number that no entity has, where the change is possible
stays_absent : (kind : Kind) (scope : Scope) (y : ℕ → EntityState) (e : ℕ) → is_entity e ≡ false → scope_has scope e ≡ true
    → is_hopeless kind scope y ≡ false → Makes kind Absent (state_made kind Absent) → state_made kind Absent ≡ Absent
stays_absent kinds.CreateEntity All y e none within possible made = absurd (cc)
stays_absent kinds.CreateEntity (One n) y e none within possible made =
    let other : is_entity n ≡ false = ap is_entity (eqb-true n e within) ∙ none in
    let hopeless : is_hopeless_for kinds.CreateEntity n (y n) ≡ true = ap (λ (b : Bool). not (b && is_absent (y n))) other in
    absurd (cc (hopeless, possible))
stays_absent kinds.RemoveEntity scope y e none within possible made = refl
stays_absent kinds.StartResume scope y e none within possible made = refl
stays_absent kinds.StopFreeze scope y e none within possible made = refl
stays_absent kinds.Acknowledge scope y e none within possible made = absurd made
stays_absent kinds.ActionRequest scope y e none within possible made = absurd made
stays_absent kinds.ActionResponse scope y e none within possible made = absurd made
stays_absent kinds.DataQuery scope y e none within possible made = absurd made
stays_absent kinds.SetData scope y e none within possible made = absurd made
stays_absent kinds.DataPdu scope y e none within possible made = absurd made
stays_absent kinds.EventReport scope y e none within possible made = absurd made
stays_absent kinds.Comment scope y e none within possible made = absurd made

-- the state right after a first Able, of each number in its scope
state_in_scope : (x : ℕ) (o : StationData) (log : History) (s : ℕ) (c : List ℕ) (q p : Pdu) → IsFirstAble x o log c q p
    → is_hopeless (change_of p q).kind (change_of p q).scope (state_after x o log) ≡ false
    → Makes (change_of p q).kind Absent (state_made (change_of p q).kind Absent) → (e : ℕ) → scope_has (change_of p q).scope e ≡ true
    → state_after x o (Send s c ∷ log) e ≡ state_made (change_of p q).kind (state_after x o log e)
state_in_scope x o log s c q p first possible made e within = of_entity (is_entity e) refl where
  of_entity : (b : Bool) → is_entity e ≡ b → state_after x o (Send s c ∷ log) e ≡ state_made (change_of p q).kind (state_after x o log e)
  of_entity true is =
      first_able_changes x o log s c q p first e is
      ∙ ap (λ (b : Bool). if b then state_made (change_of p q).kind (state_after x o log e) else state_after x o log e) within
  of_entity false is =
      outside x o (Send s c ∷ log) e is
      ∙ sym (stays_absent (change_of p q).kind (change_of p q).scope (state_after x o log) e is within possible made)
      ∙ ap (state_made (change_of p q).kind) (sym (outside x o log e is))

-- and of each number out of it
state_out_of_scope : (x : ℕ) (o : StationData) (log : History) (s : ℕ) (c : List ℕ) (q p : Pdu) → IsFirstAble x o log c q p
    → (e : ℕ) → scope_has (change_of p q).scope e ≡ false → state_after x o (Send s c ∷ log) e ≡ state_after x o log e
state_out_of_scope x o log s c q p first e beyond = of_entity (is_entity e) refl where
  of_entity : (b : Bool) → is_entity e ≡ b → state_after x o (Send s c ∷ log) e ≡ state_after x o log e
  of_entity true is =
      first_able_changes x o log s c q p first e is
      ∙ ap (λ (b : Bool). if b then state_made (change_of p q).kind (state_after x o log e) else state_after x o log e) beyond
  of_entity false is = outside x o (Send s c ∷ log) e is ∙ sym (outside x o log e is)

-- a Change that may be sent is possible
change_possible : (r : PlainRecording) (before : History) (s : ℕ) (b : List ℕ) (p q : Pdu) → IsAllowed r.setting before (Send s b)
    → meaning r.setting.exercise b ≡ Some p → is_answer_body p.body ≡ true
    → request_taken_up r.setting.exercise (station_at r s).address p (log_at s before) ≡ Some q
    → is_change r.setting.exercise p (log_at s before) ≡ true
    → is_hopeless (change_of p q).kind (change_of p q).scope (state_after r.setting.exercise (station_at r s) (log_at s before)) ≡ false
unfolding is_impossible
change_possible r before s b p q allowed meant answer taken change =
    let x = r.setting.exercise in
    let o : StationData = station_at r s in
    let log : History = log_at s before in
    let row = (sent_rows r before s b p allowed meant).1.1.1.1.1.0 in
    let none = and_false (is_answer_body p.body) (option_map_or (is_impossible x o log p) (request_taken_up x o.address p log) false) answer row in
    and_false (is_change x p log) (is_hopeless (change_of p q).kind (change_of p q).scope (state_after x o log)) change
    (ap (λ (r : Option Pdu). option_map_or (is_impossible x o log p) r false) (sym taken) ∙ none)

-- WHAT A CHANGE THAT MAY BE SENT CARRIES OUT
pub carried_out_where_allowed : (r : PlainRecording) (before : History) (s : ℕ) (b : List ℕ) (p : Pdu) → IsAllowed r.setting before (Send s b)
    → meaning r.setting.exercise b ≡ Some p → responds able p ≡ true → is_change r.setting.exercise p (log_at s before) ≡ true
    → (had : HadRequest r before s p)
    → IsFirstAble r.setting.exercise (station_at r s) (log_at s before) b had.request p → IsCarriedOut r s before b (change_of p had.request)
carried_out_where_allowed r before s b p allowed meant is_able change had first =
    let x = r.setting.exercise in
    let o : StationData = station_at r s in
    let log : History = log_at s before in
    let q : Pdu = had.request in
    let kind : Kind = (change_of p q).kind in
    let possible = change_possible r before s b p q allowed meant (able_is_answer x b p meant is_able) had.first change in
    let matches : matches_kind p.body kind ≡ true = (and_parts (matches_kind p.body (body_kind q.body)) _ had.answers).0 in
    let own : (e : ℕ) → state_in r s (Send s b ∷ before) e ≡ state_after x o (Send s b ∷ log) e =
    λ e. ap (λ (l : History). state_after x o l e) (log_at-own (Send s b) before) in
    let states : (e : ℕ) → scope_has (change_of p q).scope e ≡ true → state_in r s (Send s b ∷ before) e ≡ state_made kind (state_in r s before e) =
    λ e within. own e ∙ state_in_scope x o log s b q p first possible (makes p.body kind Absent is_able matches) e within in
    record {
      possible = possible;
      states = states;
      by_kind = λ e within. subst (Makes kind (state_in r s before e)) (sym (states e within)) (makes p.body kind (state_in r s before e) is_able matches);
      others = λ e beyond. own e ∙ state_out_of_scope x o log s b q p first e beyond;
    }
