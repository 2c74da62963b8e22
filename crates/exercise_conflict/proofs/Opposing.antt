-- What the clash of an entry says of the logs is so.
use Rattle.std.proofs.Common.{◌≡◌, ℕ, List, [], ◌∷◌, Bool, Option, Some, None, true, false, refl, sym, ap, ◌∙◌}
use Rattle.std.specs.Prelude.{slice_get, nat_eq, is_some, option_map, option_and_then, ◌&&◌, not, if◌then◌else◌}
use Rattle.std.specs.Option.{option_map_or}
use Rattle.std.proofs.lemmas.Option.{same_Some}
use Rattle.dis_records.specs.declared.entity.Scope.{Scope}
use Rattle.dis_records.specs.declared.entity.Scope.TheVariants.{One, All}
use Rattle.dis_records.specs.declared.entity_state.EntityState.{EntityState}
use Rattle.dis_records.specs.Header.{same_version}
use Rattle.dis_records.specs.Kind.{kind_code}
use Rattle.siman_pdus.specs.declared.pdu.Pdu.{Pdu}
use Rattle.siman_pdus.specs.Role.{is_request_body, request_id_of}
use Rattle.siman_pdus.specs.Answers.{same_id, is_answer_to}
use Rattle.siman_pdus.specs.Same.{same_entity, is_same_order}
use Rattle.siman_pdus.specs.Spelling.{body_kind}
use Rattle.exercise_model.specs.declared.cause.Cause.{Cause}
use Rattle.exercise_model.specs.declared.cause.Cause.TheVariants.{ReusedIdentifier, WrongAnswer, ChangedAnswer, Impossible, NeverSent, WrongState, Stranger}
use Rattle.exercise_model.specs.declared.state.Change.{Change}
use Rattle.exercise_model.specs.Entry.{Entry, Sent, Received, Told}
use Rattle.exercise_model.specs.Recording.{PlainRecording}
use Rattle.exercise_model.specs.History.{Event, Send, Get, Tell, event_of, station_at}
use Rattle.exercise_model.specs.Meaning.{meaning}
use Rattle.exercise_model.specs.Exchange.{is_answer_body, request_brought, request_taken_up, is_asked}
use Rattle.exercise_model.specs.Station.{is_entity}
use Rattle.exercise_model.specs.Setting.{is_recorded, may_be_heard}
use Rattle.exercise_model.specs.State.{change_of, carried_out}
use Rattle.exercise_model.specs.Cause.{first_cause, is_other_order, same_state, tell_rows, send_cause, get_cause, cause_of, was_sent}
use Rattle.exercise_model.specs.Place.{log_before, entry_taken_up}
use Rattle.exercise_model.specs.Account.{pair_of_sent}
use Rattle.exercise_model.proofs.Offered.{first_found}
use Rattle.exercise_findings.specs.Tables.{event_own_cause, own_cause}
use Rattle.exercise_findings.specs.Source.{first_send, source_of_pdu, source_of}
use Rattle.exercise_findings.proofs.Offered.{source_here}
use Rattle.exercise_findings.specs.State.{state_before}
use Rattle.exercise_conflict.specs.declared.field.PduField.{PduField}
use Rattle.exercise_conflict.specs.declared.field.PduField.TheVariants as fields
use Rattle.exercise_conflict.specs.declared.clash.Clash.TheVariants as clashes
use Rattle.exercise_conflict.specs.Difference.{unless_same, same_request, or_else, time_difference, number_difference, fixed_datums_of, fixed_ids_of, same_datums_if, same_ids_if, inner_difference, order_difference}
use Rattle.exercise_conflict.specs.Clash.{meant_by_get, got_pdu, reused_clash, answer_mismatch, wrong_answer_clash, all_entities, state_found, hopeless_scope_clash, hopeless_clash, impossible_clash, send_clash, near_of, differs_at, receipt_clash, clash_by, clash_of_entry, clash_of}
use Rattle.exercise_conflict.specs.Conflict.{IsMadeBy, ClashesByOrder, ClashesByAnswer, ClashesByOpposite, ClashesByChange, ClashesByState, ClashesBySend}
use Rattle.exercise_conflict.specs.Earlier.{sent_pdu, sends_other_at, earlier_sent, earlier_by, earlier_of_entry, earlier_of}
use Rattle.exercise_conflict.specs.Since.{last_change_entry}
use Rattle.exercise_conflict.proofs.Rows.{chain}
use Rattle.exercise_conflict.proofs.Stands.{accused}
use Rattle.exercise_conflict.proofs.Lacking.{unsent_there}
use Rattle.exercise_conflict.proofs.Entities.{since_made, since_start, same_state_where}
use Rattle.exercise_conflict.proofs.Contradicting.{both, off, SentFor, sent_for, TakesUp, takes_up, reused_contradicts, answer_contradicts, changed_contradicts}

-- ---- two orders that are not the same differ in something

some_unless : (b : Bool) (f : PduField) (o : Option PduField) → is_some o ≡ true → is_some (unless_same b f o) ≡ true
some_unless true f o e = e
some_unless false f o e = refl

some_else : (o q : Option PduField) → is_some q ≡ true → is_some (or_else o q) ≡ true
some_else None q e = e
some_else (Some f) q e = refl

somewhere : (p q : Pdu) → is_same_order p q ≡ false → is_some (order_difference p q) ≡ true
unfolding order_difference inner_difference
somewhere p q apart =
    let variable : Option PduField = unless_same (is_same_order p q) fields.Variable None in
    let ids : Option PduField = unless_same (same_ids_if (fixed_ids_of p.body) (fixed_ids_of q.body)) fields.Fixed variable in
    let datums : Option PduField = unless_same (same_datums_if (fixed_datums_of p.body) (fixed_datums_of q.body)) fields.Fixed ids in
    let numbers : Option PduField = or_else (number_difference p.body q.body) datums in
    let times : Option PduField = or_else (time_difference p.body q.body) numbers in
    let body : Option PduField = unless_same (same_request (request_id_of p.body) (request_id_of q.body)) fields.Request times in
    let to : Option PduField = unless_same (same_entity p.target q.target) fields.To body in
    let from : Option PduField = unless_same (same_entity p.origin q.origin) fields.From to in
    let kind : Option PduField = unless_same (nat_eq (kind_code (body_kind p.body)) (kind_code (body_kind q.body))) fields.Kind from in
    some_unless (same_version p.version q.version) fields.Version kind
    (some_unless (nat_eq (kind_code (body_kind p.body)) (kind_code (body_kind q.body))) fields.Kind from
    (some_unless (same_entity p.origin q.origin) fields.From to
    (some_unless (same_entity p.target q.target) fields.To body
    (some_unless (same_request (request_id_of p.body) (request_id_of q.body)) fields.Request times
    (some_else (time_difference p.body q.body) numbers
    (some_else (number_difference p.body q.body) datums
    (some_unless (same_datums_if (fixed_datums_of p.body) (fixed_datums_of q.body)) fields.Fixed ids
    (some_unless (same_ids_if (fixed_ids_of p.body) (fixed_ids_of q.body)) fields.Fixed variable
    (ap (λ (b : Bool). is_some (unless_same b fields.Variable None)) apart)))))))))

-- ---- the clash of what is sent

pub sent_clash : (r : PlainRecording) (j : ℕ) (cause : Cause) (for : SentFor r j cause) → clash_of r j ≡ send_clash r j for.station cause for.pdu
unfolding clash_of
sent_clash r j cause for =
    ap (option_and_then (clash_of_entry r j)) for.sent.sent
    ∙ ap (option_and_then (clash_by r j (Sent for.station for.sent.stamp for.sent.bytes))) for.own
    ∙ ap (option_and_then (send_clash r j for.station cause)) for.sent.meant

sent_earlier : (r : PlainRecording) (j : ℕ) (cause : Cause) (for : SentFor r j cause) → earlier_of r j ≡ earlier_sent r j for.station cause for.pdu
unfolding earlier_of
sent_earlier r j cause for =
    ap (option_and_then (earlier_of_entry r j)) for.sent.sent
    ∙ ap (option_and_then (earlier_by r j (Sent for.station for.sent.stamp for.sent.bytes))) for.own
    ∙ ap (option_and_then (earlier_sent r j for.station cause)) for.sent.meant

-- an option that is there
there : {X : Type 0} (o : Option X) → is_some o ≡ true → (x : X) × (o ≡ Some x)
there None e = absurd (cc)
there (Some x) e = (x, refl)

-- a PDU that passes is there
passing : (test : Pdu → Bool) (o : Option Pdu) → option_map_or test o false ≡ true → (q : Pdu) × (o ≡ Some q) × (test q ≡ true)
passing test None e = absurd (cc)
passing test (Some q) e = (q, refl, e)

not_same : (p q : Pdu) → is_other_order p q ≡ true → is_same_order p q ≡ false
not_same p q e =
    turned (is_same_order p q) ((both (same_id (request_id_of p.body) (request_id_of q.body)) (not (is_same_order p q)) ((both (is_request_body q.body) _ e).1)).1)
  where
    turned : (b : Bool) → not b ≡ true → b ≡ false
    turned true e = absurd (cc)
    turned false e = refl

-- 6
pub clashes_by_order : (r : PlainRecording) (j : ℕ) → own_cause r j ≡ Some ReusedIdentifier → ClashesByOrder r j
unfolding sends_other_at
clashes_by_order r j own =
    let for = sent_for r j ReusedIdentifier own refl in
    let s : ℕ = for.station in
    let p = for.pdu in
    let found = reused_contradicts r j own in
    let k : ℕ = found.0 in
    let at : earlier_sent r j s ReusedIdentifier p ≡ Some k = sym (sent_earlier r j ReusedIdentifier for) ∙ found.1 in
    let other = passing (is_other_order p) (sent_pdu r s k) (first_found (sends_other_at r s p) j k at).passes in
    let field = there (order_difference p other.0) (somewhere p other.0 (not_same p other.0 other.2)) in
    record {
      earlier = k;
      field = field.0;
      told = sent_clash r j ReusedIdentifier for
          ∙ ap (option_and_then (reused_clash r s p)) at
          ∙ ap (λ o. option_map (clashes.ReusedIdentifier k) (option_and_then (order_difference p) o)) other.1
          ∙ ap (option_map (clashes.ReusedIdentifier k)) field.1;
      conflict = found.2;
    }

-- ---- the request that is taken up

-- what brings a request receives it
brought_got : (x : ℕ) (s : ℕ) (r : PlainRecording) (p q : Pdu) (v : Event) → request_brought x (station_at r s).address p v ≡ Some q → meant_by_get x v ≡ Some q
brought_got x s r p q (Send t b) e = absurd (cc)
brought_got x s r p q (Tell t n y) e = absurd (cc)
brought_got x s r p q (Get t b) e = of_pdu (meaning x b) e
  where
    of_pdu : (o : Option Pdu) → option_and_then (λ m. if is_asked (station_at r s).address p m then Some m else None) o ≡ Some q → o ≡ Some q
    of_pdu None e = absurd (cc)
    of_pdu (Some m) e =
        elim (is_asked (station_at r s).address p m) as (λ b. (if b then Some m else None) ≡ Some q → Some m ≡ Some q) [
          | true ↦ λ e. e
          | false ↦ λ e. absurd (cc)
        ] e

-- the station received it there
taken_got : (r : PlainRecording) (s j : ℕ) (p : Pdu) (up : TakesUp r s j p) → got_pdu r s up.entry ≡ Some up.request
unfolding got_pdu
taken_got r s j p up =
    ap (option_and_then (meant_by_get r.setting.exercise)) up.own ∙ brought_got r.setting.exercise s r p up.request up.event up.brings

-- the rows up to the request
asked_row : (a b c d e f : Bool) (cause : Cause) → chain a b c d e f ≡ Some cause → (cause ≡ WrongAnswer → (c ≡ false) × (d ≡ true)) × (cause ≡ Impossible → (c ≡ false) × (d ≡ false) × (f ≡ true))
asked_row true b c d e f cause is = (λ same. absurd (cc (is ∙ ap Some same)), λ same. absurd (cc (is ∙ ap Some same)))
asked_row false true c d e f cause is = (λ same. absurd (cc (is ∙ ap Some same)), λ same. absurd (cc (is ∙ ap Some same)))
asked_row false false true d e f cause is = (λ same. absurd (cc (is ∙ ap Some same)), λ same. absurd (cc (is ∙ ap Some same)))
asked_row false false false true e f cause is = (λ same. (refl, refl), λ same. absurd (cc (is ∙ ap Some same)))
asked_row false false false false true f cause is = (λ same. absurd (cc (is ∙ ap Some same)), λ same. absurd (cc (is ∙ ap Some same)))
asked_row false false false false false true cause is = (λ same. absurd (cc (is ∙ ap Some same)), λ same. (refl, refl, refl))
asked_row false false false false false false cause is = absurd (cc)

-- the request that an answer takes up at entry j, where it takes up one
pair_here : (r : PlainRecording) (s j : ℕ) (p : Pdu) (up : TakesUp r s j p) → is_answer_body p.body ≡ true → pair_of_sent r s j p ≡ Some up.entry
pair_here r s j p up answer = ap (λ b. if b then entry_taken_up r s p j else None) answer ∙ up.taken

-- 8
pub clashes_by_answer : (r : PlainRecording) (j : ℕ) → own_cause r j ≡ Some WrongAnswer → ClashesByAnswer r j
unfolding send_cause
clashes_by_answer r j own =
    let for = sent_for r j WrongAnswer own refl in
    let s : ℕ = for.station in
    let p = for.pdu in
    let found = answer_contradicts r j own in
    let row = (asked_row _ _ _ _ _ _ WrongAnswer for.is).0 refl in
    let answer = (both (is_answer_body p.body) _ row.1).0 in
    let up = takes_up r s j p (off (is_answer_body p.body) _ answer row.0) in
    let same : up.entry ≡ found.0 = same_Some up.entry found.0 (sym (pair_here r s j p up answer) ∙ sym (sent_earlier r j WrongAnswer for) ∙ found.1) in
    let got : got_pdu r s found.0 ≡ Some up.request = ap (got_pdu r s) (sym same) ∙ taken_got r s j p up in
    record {
      earlier = found.0;
      why = answer_mismatch p up.request;
      told = sent_clash r j WrongAnswer for
          ∙ ap (option_and_then (wrong_answer_clash r s p)) (sym (sent_earlier r j WrongAnswer for) ∙ found.1)
          ∙ ap (option_map (λ q. clashes.WrongAnswer found.0 (answer_mismatch p q))) got;
      conflict = found.2;
    }

-- 9
pub clashes_by_opposite : (r : PlainRecording) (j : ℕ) → own_cause r j ≡ Some ChangedAnswer → ClashesByOpposite r j
clashes_by_opposite r j own =
    let for = sent_for r j ChangedAnswer own refl in
    let found = changed_contradicts r j own in
    record {
      earlier = found.0;
      told = sent_clash r j ChangedAnswer for ∙ ap (option_map clashes.ChangedAnswer) (sym (sent_earlier r j ChangedAnswer for) ∙ found.1);
      conflict = found.2;
    }

-- ---- states

made_by : (r : PlainRecording) (s n j : ℕ) → IsMadeBy r s n j (last_change_entry r s n j)
made_by r s n j =
    elim (last_change_entry r s n j) as (λ o. last_change_entry r s n j ≡ o → IsMadeBy r s n j o) [
      | Some k ↦ λ is. since_made r s n j k is
      | None ↦ λ none. since_start r s n j none
    ] refl

turned_answer : (b : Bool) → not b ≡ false → b ≡ true
turned_answer true e = refl
turned_answer false e = absurd (cc)

-- 10
pub clashes_by_change : (r : PlainRecording) (j : ℕ) → own_cause r j ≡ Some Impossible → ClashesByChange r j
unfolding send_cause
clashes_by_change r j own =
    let for = sent_for r j Impossible own refl in
    let x : ℕ = r.setting.exercise in
    let s : ℕ = for.station in
    let p = for.pdu in
    let row = (asked_row _ _ _ _ _ _ Impossible for.is).1 refl in
    let answer = (both (is_answer_body p.body) _ row.2).0 in
    let up = takes_up r s j p (off (is_answer_body p.body) _ answer row.0) in
    let taken : Option Pdu = request_taken_up x (station_at r s).address p (log_before r s j) in
    let answers : is_answer_to p up.request ≡ true =
    turned_answer (is_answer_to p up.request) (ap (λ o. not (option_map_or (is_answer_to p) o false)) (sym up.is)
    ∙ off (is_answer_body p.body) (not (option_map_or (is_answer_to p) taken false)) answer row.1) in
    let change : carried_out p up.request ≡ Some (change_of p up.request) = ap (λ b. if b then Some (change_of p up.request) else None) answers in
    let told : clash_of r j ≡ Some (hopeless_scope_clash r s j up.entry (change_of p up.request).scope) =
    sent_clash r j Impossible for
    ∙ ap (option_and_then (impossible_clash r s j p)) (pair_here r s j p up answer)
    ∙ ap (option_and_then (hopeless_clash r s j p up.entry)) (taken_got r s j p up)
    ∙ ap (option_map (λ (c : Change). hopeless_scope_clash r s j up.entry c.scope)) change in
    of_scope s up.entry (change_of p up.request).scope told
  where
    of_scope : (s k : ℕ) (scope : Scope) → clash_of r j ≡ Some (hopeless_scope_clash r s j k scope) → ClashesByChange r j
    of_scope s k (One n) told = record {
      earlier = k;
      station = s;
      entity = n;
      state = state_found r s n j;
      change = last_change_entry r s n j;
      told = told;
      has = λ y is. (state_is s n y is, made_by r s n j);
    }
      where
        state_is : (s n : ℕ) (y : EntityState) → state_found r s n j ≡ Some y → state_before r s n j ≡ y
        state_is s n y is =
            elim (is_entity n) as (λ b. (if b then Some (state_before r s n j) else None) ≡ Some y → state_before r s n j ≡ y) [
              | true ↦ λ e. same_Some _ _ e
              | false ↦ λ e. absurd (cc)
            ] is
    of_scope s k All told = record {
      earlier = k;
      station = s;
      entity = all_entities;
      state = None;
      change = None;
      told = told;
      has = λ y is. absurd (cc);
    }

-- ---- what no row of a sent datagram, and none of a received one, says

no_state : (a b c d e f : Bool) → chain a b c d e f ≡ Some WrongState → ⊥
no_state true b c d e f is = absurd (cc)
no_state false true c d e f is = absurd (cc)
no_state false false true d e f is = absurd (cc)
no_state false false false true e f is = absurd (cc)
no_state false false false false true f is = absurd (cc)
no_state false false false false false true is = absurd (cc)
no_state false false false false false false is = absurd (cc)

no_send : (a b c d e f : Bool) → chain a b c d e f ≡ Some NeverSent → ⊥
no_send true b c d e f is = absurd (cc)
no_send false true c d e f is = absurd (cc)
no_send false false true d e f is = absurd (cc)
no_send false false false true e f is = absurd (cc)
no_send false false false false true f is = absurd (cc)
no_send false false false false false true is = absurd (cc)
no_send false false false false false false is = absurd (cc)

sent_no_state : (r : PlainRecording) (j s : ℕ) (p : Pdu) → send_cause r.setting.exercise (station_at r s) (log_before r s j) p ≡ Some WrongState → ⊥
unfolding send_cause
sent_no_state r j s p is = no_state _ _ _ _ _ _ is

sent_no_send : (r : PlainRecording) (j s : ℕ) (p : Pdu) → send_cause r.setting.exercise (station_at r s) (log_before r s j) p ≡ Some NeverSent → ⊥
unfolding send_cause
sent_no_send r j s p is = no_send _ _ _ _ _ _ is

got_no_state : (r : PlainRecording) (b : List ℕ) (p : Pdu) → get_cause r.setting [] b p ≡ Some WrongState → ⊥
unfolding get_cause
got_no_state r b p is = rows (may_be_heard r.setting p) (is_recorded r.setting p && not (was_sent b [])) is
  where
    rows : (heard unsent : Bool) → first_cause ((not heard, Stranger) ∷ (unsent, NeverSent) ∷ []) ≡ Some WrongState → ⊥
    rows false unsent is = absurd (cc)
    rows true true is = absurd (cc)
    rows true false is = absurd (cc)

-- 13
told_state : (r : PlainRecording) (j s n : ℕ) (y : EntityState) → slice_get r.entries j ≡ Some (Told s n y) → own_cause r j ≡ Some WrongState
    → first_cause (tell_rows y (state_before r s n j)) ≡ Some WrongState → ClashesByState r j
unfolding clash_of
told_state r j s n y at own is =
    elim (same_state y (state_before r s n j)) as (λ t. same_state y (state_before r s n j) ≡ t → first_cause ((not t, WrongState) ∷ []) ≡ Some WrongState → ClashesByState r j) [
      | true ↦ λ _ e. absurd (cc)
      | false ↦ λ apart _. record {
        station = s;
        entity = n;
        said = y;
        tells = at;
        state = state_before r s n j;
        change = last_change_entry r s n j;
        told = ap (option_and_then (clash_of_entry r j)) at ∙ ap (option_and_then (clash_by r j (Told s n y))) own;
        has = refl;
        other = λ same. absurd (cc (sym apart ∙ same_state_where y (state_before r s n j) same));
        made = made_by r s n j;
      }
    ] refl is

pub clashes_by_state : (r : PlainRecording) (j : ℕ) → own_cause r j ≡ Some WrongState → ClashesByState r j
unfolding cause_of
clashes_by_state r j own = let at = accused r j WrongState own in of_entry at.entry at.at at.is
  where
    of_entry : (e : Entry) → slice_get r.entries j ≡ Some e → event_own_cause r j (event_of e) ≡ Some WrongState → ClashesByState r j
    of_entry (Sent s stamp b) at e =
        elim (meaning r.setting.exercise b) as (λ o. option_and_then (send_cause r.setting.exercise (station_at r s) (log_before r s j)) o ≡ Some WrongState → ClashesByState r j) [
          | None ↦ λ e. absurd (cc)
          | Some p ↦ λ e. absurd (sent_no_state r j s p e)
        ] e
    of_entry (Received s stamp b) at e =
        elim (meaning r.setting.exercise b) as (λ o. option_and_then (get_cause r.setting [] b) o ≡ Some WrongState → ClashesByState r j) [
          | None ↦ λ e. absurd (cc)
          | Some p ↦ λ e. absurd (got_no_state r b p e)
        ] e
    of_entry (Told s n y) at e = told_state r j s n y at own e

-- 12
got_unsent : (r : PlainRecording) (j s stamp : ℕ) (b : List ℕ) (p : Pdu) → slice_get r.entries j ≡ Some (Received s stamp b)
    → meaning r.setting.exercise b ≡ Some p → own_cause r j ≡ Some NeverSent → ClashesBySend r j
unfolding clash_of
got_unsent r j s stamp b p at meant own = record {
  station = s;
  stamp = stamp;
  bytes = b;
  pdu = p;
  got = at;
  meant = meant;
  from = p.origin;
  sent = source_of r j;
  near = near_of r p;
  differs = option_and_then (differs_at r b p) (near_of r p);
  told = ap (option_and_then (clash_of_entry r j)) at ∙ ap (option_and_then (clash_by r j (Received s stamp b))) own ∙ ap (option_and_then (receipt_clash r j b NeverSent)) meant;
  lacks = λ none t sender. unsent_there r b t
      (sym (ap (option_and_then (first_send r b)) sender) ∙ sym (ap (option_and_then (source_of_pdu r b)) meant)
      ∙ sym (source_here r j (Received s stamp b) at) ∙ none);
}

pub clashes_by_send : (r : PlainRecording) (j : ℕ) → own_cause r j ≡ Some NeverSent → ClashesBySend r j
unfolding cause_of
clashes_by_send r j own = let at = accused r j NeverSent own in of_entry at.entry at.at at.is
  where
    of_pdu : (s stamp : ℕ) (b : List ℕ) → slice_get r.entries j ≡ Some (Received s stamp b) → (o : Option Pdu) → meaning r.setting.exercise b ≡ o
        → option_and_then (get_cause r.setting [] b) o ≡ Some NeverSent → ClashesBySend r j
    of_pdu s stamp b at None meant e = absurd (cc)
    of_pdu s stamp b at (Some p) meant e = got_unsent r j s stamp b p at meant own

    told_other : (y z : EntityState) → first_cause (tell_rows y z) ≡ Some NeverSent → ⊥
    told_other y z e =
        elim (same_state y z) as (λ t. first_cause ((not t, WrongState) ∷ []) ≡ Some NeverSent → ⊥) [
          | true ↦ λ e. absurd (cc)
          | false ↦ λ e. absurd (cc)
        ] e

    of_entry : (e : Entry) → slice_get r.entries j ≡ Some e → event_own_cause r j (event_of e) ≡ Some NeverSent → ClashesBySend r j
    of_entry (Sent s stamp b) at e =
        elim (meaning r.setting.exercise b) as (λ o. option_and_then (send_cause r.setting.exercise (station_at r s) (log_before r s j)) o ≡ Some NeverSent → ClashesBySend r j) [
          | None ↦ λ e. absurd (cc)
          | Some p ↦ λ e. absurd (sent_no_send r j s p e)
        ] e
    of_entry (Received s stamp b) at e = of_pdu s stamp b at (meaning r.setting.exercise b) refl e
    of_entry (Told s n y) at e = absurd (told_other y (state_before r s n j) e)
