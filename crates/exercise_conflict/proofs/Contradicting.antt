-- The earlier entry that an entry contradicts is there, and the contradiction stands after it alone.
use Rattle.std.proofs.Common.{◌≡◌, ℕ, zero, suc, ◌<◌, List, [], ◌∷◌, Bool, Option, Some, None, true, false, refl, sym, ap, ◌∙◌}
use Rattle.std.specs.Prelude.{slice_get, is_none, is_some, option_and_then, ◌&&◌, ◌||◌, not, if◌then◌else◌}
use Rattle.std.specs.Option.{option_map_or, option_or}
use Rattle.std.specs.List.{list_any}
use Rattle.std.proofs.lemmas.Option.{same_Some}
use Rattle.siman_pdus.specs.declared.pdu.Pdu.{Pdu}
use Rattle.siman_pdus.specs.declared.roles.Role.{Role}
use Rattle.siman_pdus.specs.declared.roles.Role.TheVariants as roles
use Rattle.siman_pdus.specs.Role.{role_of, is_request_role, is_request_body}
use Rattle.siman_pdus.specs.Answers.{is_answer_to}
use Rattle.dis_records.specs.declared.entity_state.EntityState.{EntityState}
use Rattle.exercise_model.specs.declared.acknowledge.AcknowledgeKey.{AcknowledgeKey}
use Rattle.exercise_model.specs.declared.cause.Cause.{Cause}
use Rattle.exercise_model.specs.declared.cause.Cause.TheVariants.{WrongSender, ReusedIdentifier, NoRequest, WrongAnswer, ChangedAnswer, Impossible, Stranger, NeverSent, WrongState}
use Rattle.exercise_model.specs.Entry.{Entry, Sent, Received, Told}
use Rattle.exercise_model.specs.Recording.{PlainRecording}
use Rattle.exercise_model.specs.Setting.{is_recorded, may_be_heard}
use Rattle.exercise_model.specs.Station.{StationData}
use Rattle.exercise_model.specs.History.{Event, Send, Get, Tell, History, event_of, station_at}
use Rattle.exercise_model.specs.Meaning.{meaning}
use Rattle.exercise_model.specs.Exchange.{is_answer_role, is_answer_body, request_brought, request_taken_up}
use Rattle.exercise_model.specs.Change.{able, unable, responds, key_of, responds_under, sends_under, was_acknowledged}
use Rattle.exercise_model.specs.State.{state_after}
use Rattle.exercise_model.specs.Cause.{first_cause, is_other_order, sends_other, is_reused, is_changed_answer, same_state, tell_rows, send_cause, get_cause, cause_of, was_sent}
use Rattle.exercise_model.specs.Place.{own_event, log_before, first_below, brings_request, entry_taken_up}
use Rattle.exercise_model.specs.Account.{pair_of_sent, pair_of}
use Rattle.exercise_model.proofs.Offered.{first_found, log_before-more, log_before-none}
use Rattle.exercise_findings.specs.Sent.{meant_by_send}
use Rattle.exercise_findings.proofs.Offered.{pair_here}
use Rattle.exercise_findings.specs.Tables.{event_own_cause, own_cause}
use Rattle.exercise_conflict.specs.Earlier.{sent_pdu, sends_other_at, is_opposite, is_opposite_to, sends_opposite_at, IsSentAt, earlier_sent, earlier_by, earlier_of_entry, earlier_of, Contradicts, ContradictsAnswer}
use Rattle.exercise_conflict.proofs.Rows.{chain}
use Rattle.exercise_conflict.proofs.Stands.{accused}

-- ---- tests over the entries of a station

at_entry : PlainRecording → ℕ → (Event → Bool) → ℕ → Bool
at_entry r s test i = option_map_or test (own_event r s i) false

-- some event of a log passes exactly where some entry does
any_entry : (r : PlainRecording) (s : ℕ) (test : Event → Bool) (n : ℕ)
    → list_any test (log_before r s n) ≡ is_some (first_below (at_entry r s test) n)
unfolding first_below at_entry
any_entry r s test zero = ap (list_any test) (log_before-none r s)
any_entry r s test (suc n) =
    ap (list_any test) (log_before-more r s n)
    ∙ elim (own_event r s n) as (λ o. list_any test (option_map_or (λ v. v ∷ log_before r s n) o (log_before r s n))
    ≡ is_some (option_or (first_below (at_entry r s test) n) (if option_map_or test o false then Some n else None))) [
      | None ↦ any_entry r s test n ∙ or_none (first_below (at_entry r s test) n)
      | Some v ↦ ap (λ b. test v || b) (any_entry r s test n) ∙ or_some (test v) (first_below (at_entry r s test) n)
    ]
  where
    or_none : (o : Option ℕ) → is_some o ≡ is_some (option_or o None)
    or_none None = refl
    or_none (Some x) = refl

    or_some : (b : Bool) (o : Option ℕ) → (b || is_some o) ≡ is_some (option_or o (if b then Some n else None))
    or_some true None = refl
    or_some true (Some x) = refl
    or_some false None = refl
    or_some false (Some x) = refl

-- the first entry that passes, and its event
record Passes (r : PlainRecording) (s : ℕ) (test : Event → Bool) (n : ℕ) : Type 0 where
  pub entry : ℕ
  pub first : first_below (at_entry r s test) n ≡ Some entry
  pub earlier : entry < n
  pub event : Event
  pub own : own_event r s entry ≡ Some event
  pub passes : test event ≡ true

passes : (r : PlainRecording) (s : ℕ) (test : Event → Bool) (n : ℕ) → list_any test (log_before r s n) ≡ true → Passes r s test n
unfolding at_entry
passes r s test n some =
    elim (first_below (at_entry r s test) n) as (λ o. first_below (at_entry r s test) n ≡ o → is_some o ≡ true → Passes r s test n) [
      | None ↦ λ _ e. absurd (cc)
      | Some k ↦ λ found _.
          let first = first_found (at_entry r s test) n k found in
          elim (own_event r s k) as (λ o. own_event r s k ≡ o → option_map_or test o false ≡ true → Passes r s test n) [
            | None ↦ λ _ e. absurd (cc)
            | Some v ↦ λ own e. record { entry = k; first = found; earlier = first.below; event = v; own = own; passes = e }
          ] refl first.passes
    ] refl (sym (any_entry r s test n) ∙ some)

-- ---- the rows

reused_row : (a b c d e f : Bool) → chain a b c d e f ≡ Some ReusedIdentifier → (a ≡ false) × (b ≡ true)
reused_row true b c d e f is = absurd (cc)
reused_row false true c d e f is = (refl, refl)
reused_row false false true d e f is = absurd (cc)
reused_row false false false true e f is = absurd (cc)
reused_row false false false false true f is = absurd (cc)
reused_row false false false false false true is = absurd (cc)
reused_row false false false false false false is = absurd (cc)

reused_rows : (a b c d e f : Bool) → a ≡ false → b ≡ true → chain a b c d e f ≡ Some ReusedIdentifier
reused_rows a b c d e f one other = ap (λ x. chain x b c d e f) one ∙ ap (λ x. chain false x c d e f) other

answer_row : (a b c d e f : Bool) → chain a b c d e f ≡ Some WrongAnswer → (a ≡ false) × (c ≡ false) × (d ≡ true)
answer_row true b c d e f is = absurd (cc)
answer_row false true c d e f is = absurd (cc)
answer_row false false true d e f is = absurd (cc)
answer_row false false false true e f is = (refl, refl, refl)
answer_row false false false false true f is = absurd (cc)
answer_row false false false false false true is = absurd (cc)
answer_row false false false false false false is = absurd (cc)

answer_rows : (a b c d e f : Bool) → a ≡ false → b ≡ false → c ≡ false → d ≡ true → chain a b c d e f ≡ Some WrongAnswer
answer_rows a b c d e f one two three four =
    ap (λ x. chain x b c d e f) one ∙ ap (λ x. chain false x c d e f) two ∙ ap (λ x. chain false false x d e f) three ∙ ap (λ x. chain false false false x e f) four

changed_row : (a b c d e f : Bool) → chain a b c d e f ≡ Some ChangedAnswer → (a ≡ false) × (c ≡ false) × (d ≡ false) × (e ≡ true)
changed_row true b c d e f is = absurd (cc)
changed_row false true c d e f is = absurd (cc)
changed_row false false true d e f is = absurd (cc)
changed_row false false false true e f is = absurd (cc)
changed_row false false false false true f is = (refl, refl, refl, refl)
changed_row false false false false false true is = absurd (cc)
changed_row false false false false false false is = absurd (cc)

changed_rows : (a b c d e f : Bool) → a ≡ false → b ≡ false → c ≡ false → d ≡ false → e ≡ true → chain a b c d e f ≡ Some ChangedAnswer
changed_rows a b c d e f one two three four five =
    ap (λ x. chain x b c d e f) one ∙ ap (λ x. chain false x c d e f) two ∙ ap (λ x. chain false false x d e f) three ∙ ap (λ x. chain false false false x e f) four
    ∙ ap (λ x. chain false false false false x f) five

pub both : (b c : Bool) → (b && c) ≡ true → (b ≡ true) × (c ≡ true)
both true c e = (refl, e)
both false c e = absurd (cc)

pub off : (b c : Bool) → b ≡ true → (b && c) ≡ false → c ≡ false
off true c is e = e
off false c is e = absurd (cc)

-- ---- what an entry of a sent cause is

-- a cause against what a station sends, and never one of a datagram that is received or of a state that is told
abbrev pub is_sent_cause : Cause → Bool
is_sent_cause WrongSender = true
is_sent_cause ReusedIdentifier = true
is_sent_cause NoRequest = true
is_sent_cause WrongAnswer = true
is_sent_cause ChangedAnswer = true
is_sent_cause Impossible = true
is_sent_cause cause = false

pub record SentFor (r : PlainRecording) (j : ℕ) (cause : Cause) : Type 0 where
  pub station : ℕ
  pub pdu : Pdu
  pub sent : IsSentAt r j station pdu
  pub is : send_cause r.setting.exercise (station_at r station) (log_before r station j) pdu ≡ Some cause
  pub own : own_cause r j ≡ Some cause

got_other : (r : PlainRecording) (b : List ℕ) (p : Pdu) (cause : Cause) → get_cause r.setting [] b p ≡ Some cause → is_sent_cause cause ≡ true → ⊥
unfolding get_cause
got_other r b p cause is sent = rows (may_be_heard r.setting p) (is_recorded r.setting p && not (was_sent b [])) is
  where
    rows : (heard unsent : Bool) → first_cause ((not heard, Stranger) ∷ (unsent, NeverSent) ∷ []) ≡ Some cause → ⊥
    rows false unsent is = absurd (cc (ap is_sent_cause (same_Some Stranger cause is) ∙ sent))
    rows true true is = absurd (cc (ap is_sent_cause (same_Some NeverSent cause is) ∙ sent))
    rows true false is = absurd (cc)

told_other : (y z : EntityState) (cause : Cause) → first_cause (tell_rows y z) ≡ Some cause → is_sent_cause cause ≡ true → ⊥
told_other y z cause is sent =
    elim (same_state y z) as (λ t. first_cause ((not t, WrongState) ∷ []) ≡ Some cause → ⊥) [
      | true ↦ λ is. absurd (cc)
      | false ↦ λ is. absurd (cc (ap is_sent_cause (same_Some WrongState cause is) ∙ sent))
    ] is

pub sent_for : (r : PlainRecording) (j : ℕ) (cause : Cause) → own_cause r j ≡ Some cause → is_sent_cause cause ≡ true → SentFor r j cause
unfolding cause_of
sent_for r j cause own is_sent = let at = accused r j cause own in of_entry at.entry at.at at.is
  where
    of_pdu : (s stamp : ℕ) (b : List ℕ) → slice_get r.entries j ≡ Some (Sent s stamp b) → (o : Option Pdu) → meaning r.setting.exercise b ≡ o
        → option_and_then (send_cause r.setting.exercise (station_at r s) (log_before r s j)) o ≡ Some cause → SentFor r j cause
    of_pdu s stamp b at None meant e = absurd (cc)
    of_pdu s stamp b at (Some p) meant e =
        record { station = s; pdu = p; sent = record { stamp = stamp; bytes = b; sent = at; meant = meant }; is = e; own = own }

    of_entry : (e : Entry) → slice_get r.entries j ≡ Some e → event_own_cause r j (event_of e) ≡ Some cause → SentFor r j cause
    of_entry (Sent s stamp b) at e = of_pdu s stamp b at (meaning r.setting.exercise b) refl e
    of_entry (Received s stamp b) at e =
        elim (meaning r.setting.exercise b) as (λ o. option_and_then (get_cause r.setting [] b) o ≡ Some cause → SentFor r j cause) [
          | None ↦ λ e. absurd (cc)
          | Some p ↦ λ e. absurd (got_other r b p cause e is_sent)
        ] e
    of_entry (Told s n y) at e = absurd (told_other y (state_after r.setting.exercise (station_at r s) (log_before r s j) n) cause e is_sent)

pub earlier_is : (r : PlainRecording) (j : ℕ) (cause : Cause) (k : ℕ) → (for : SentFor r j cause) → earlier_sent r j for.station cause for.pdu ≡ Some k
    → earlier_of r j ≡ Some k
unfolding earlier_of
earlier_is r j cause k for is =
    ap (option_and_then (earlier_of_entry r j)) for.sent.sent
    ∙ ap (option_and_then (earlier_by r j (Sent for.station for.sent.stamp for.sent.bytes))) for.own
    ∙ ap (option_and_then (earlier_sent r j for.station cause)) for.sent.meant
    ∙ is

-- ---- a reused identifier

other_by : (r : PlainRecording) (p : Pdu) (v : Event) → sends_other r.setting.exercise p v ≡ option_map_or (is_other_order p) (meant_by_send r.setting.exercise v) false
other_by r p (Send s b) = refl
other_by r p (Get s b) = refl
other_by r p (Tell s e y) = refl

same_first : (f g : ℕ → Bool) (n : ℕ) → ((i : ℕ) → f i ≡ g i) → first_below f n ≡ first_below g n
unfolding first_below
same_first f g zero same = refl
same_first f g (suc n) same =
    ap (λ o. option_or o (if f n then Some n else None)) (same_first f g n same) ∙ ap (λ (b : Bool). option_or (first_below g n) (if b then Some n else None)) (same n)

by_pdu : (r : PlainRecording) (s : ℕ) (test : Event → Bool) (means : Pdu → Bool) → ((v : Event) → test v ≡ option_map_or means (meant_by_send r.setting.exercise v) false)
    → (i : ℕ) → at_entry r s test i ≡ option_map_or means (sent_pdu r s i) false
unfolding at_entry sent_pdu
by_pdu r s test means same i =
    elim (own_event r s i) as (λ o. option_map_or test o false ≡ option_map_or means (option_and_then (meant_by_send r.setting.exercise) o) false) [
      | None ↦ refl
      | Some v ↦ same v
    ]

other_first : (r : PlainRecording) (s : ℕ) (p : Pdu) (n : ℕ) → first_below (at_entry r s (sends_other r.setting.exercise p)) n ≡ first_below (sends_other_at r s p) n
unfolding sends_other_at
other_first r s p n = same_first _ _ n (by_pdu r s (sends_other r.setting.exercise p) (is_other_order p) (other_by r p))

pub reused_contradicts : (r : PlainRecording) (j : ℕ) → own_cause r j ≡ Some ReusedIdentifier
    → (k : ℕ) × (earlier_of r j ≡ Some k) × Contradicts r j k ReusedIdentifier
unfolding send_cause is_reused
reused_contradicts r j own =
    let for = sent_for r j ReusedIdentifier own refl in
    let x : ℕ = r.setting.exercise in
    let s : ℕ = for.station in
    let p = for.pdu in
    let row = reused_row _ _ _ _ _ _ for.is in
    let parts = both (is_request_body p.body) (is_reused x p (log_before r s j)) row.1 in
    let found = passes r s (sends_other x p) j parts.1 in (
      found.entry,
      earlier_is r j ReusedIdentifier found.entry for (sym (other_first r s p j) ∙ found.first),
      record {
        station = s;
        pdu = p;
        sent = for.sent;
        earlier = found.earlier;
        event = found.event;
        own = found.own;
        stands = reused_rows _ _ _ _ _ _ row.0 (ap (λ b. b && (sends_other x p found.event || false)) parts.0 ∙ ap (λ b. b || false) found.passes);
      },
    )

-- ---- a wrong answer

answer_no_request : (role : Role) → is_answer_role role ≡ true → is_request_role role ≡ false
answer_no_request roles.Request e = absurd (cc)
answer_no_request roles.Answer e = refl
answer_no_request roles.Notice e = absurd (cc)
answer_no_request roles.Outside e = absurd (cc)

-- what an entry of station s brings for the answer p
pub brought : PlainRecording → ℕ → Pdu → ℕ → Option Pdu
brought r s p j = option_and_then (request_brought r.setting.exercise (station_at r s).address p) (own_event r s j)

some_or : (o q : Option Pdu) → is_some o ≡ true → option_or o q ≡ o
some_or None q e = absurd (cc)
some_or (Some x) q e = refl

request_more : (r : PlainRecording) (s n : ℕ) (p : Pdu) → request_taken_up r.setting.exercise (station_at r s).address p (log_before r s (suc n))
    ≡ option_or (request_taken_up r.setting.exercise (station_at r s).address p (log_before r s n)) (brought r s p n)
unfolding request_taken_up brought
request_more r s n p =
    ap (request_taken_up r.setting.exercise (station_at r s).address p) (log_before-more r s n)
    ∙ elim (own_event r s n) as (λ o. request_taken_up r.setting.exercise (station_at r s).address p (option_map_or (λ v. v ∷ log_before r s n) o (log_before r s n))
    ≡ option_or (request_taken_up r.setting.exercise (station_at r s).address p (log_before r s n)) (option_and_then (request_brought r.setting.exercise (station_at r s).address p) o)) [
      | None ↦ or_none (request_taken_up r.setting.exercise (station_at r s).address p (log_before r s n))
      | Some v ↦ refl
    ]
  where
    or_none : (o : Option Pdu) → o ≡ option_or o None
    or_none None = refl
    or_none (Some x) = refl

-- the request that is taken up is what its entry brings
pub by_entry : (r : PlainRecording) (s : ℕ) (p : Pdu) (n : ℕ)
    → request_taken_up r.setting.exercise (station_at r s).address p (log_before r s n) ≡ option_and_then (brought r s p) (entry_taken_up r s p n)
unfolding entry_taken_up first_below request_taken_up brought
by_entry r s p zero = ap (request_taken_up r.setting.exercise (station_at r s).address p) (log_before-none r s)
by_entry r s p (suc n) =
    request_more r s n p
    ∙ ap (λ o. option_or o (brought r s p n)) (by_entry r s p n)
    ∙ elim (first_below (brings_request r s p) n) as (λ o. first_below (brings_request r s p) n ≡ o
    → option_or (option_and_then (brought r s p) o) (brought r s p n) ≡ option_and_then (brought r s p) (option_or o (if is_some (brought r s p n) then Some n else None))) [
      | None ↦ λ _. elim (brought r s p n) as (λ b. brought r s p n ≡ b → b ≡ option_and_then (brought r s p) (if is_some b then Some n else None)) [
        | None ↦ λ _. refl
        | Some q ↦ λ e. sym e
      ] refl
      | Some j ↦ λ found. some_or (brought r s p j) (brought r s p n) (first_found (brings_request r s p) n j found).passes
    ] refl

-- the request that p takes up, its entry and its event
pub record TakesUp (r : PlainRecording) (s j : ℕ) (p : Pdu) : Type 0 where
  pub request : Pdu
  pub is : request_taken_up r.setting.exercise (station_at r s).address p (log_before r s j) ≡ Some request
  pub entry : ℕ
  pub taken : entry_taken_up r s p j ≡ Some entry
  pub earlier : entry < j
  pub event : Event
  pub own : own_event r s entry ≡ Some event
  pub brings : request_brought r.setting.exercise (station_at r s).address p event ≡ Some request

pub takes_up : (r : PlainRecording) (s j : ℕ) (p : Pdu) → is_none (request_taken_up r.setting.exercise (station_at r s).address p (log_before r s j)) ≡ false → TakesUp r s j p
unfolding brought entry_taken_up
takes_up r s j p some =
    elim (request_taken_up r.setting.exercise (station_at r s).address p (log_before r s j)) as
    (λ o. request_taken_up r.setting.exercise (station_at r s).address p (log_before r s j) ≡ o → is_none o ≡ false → TakesUp r s j p) [
      | None ↦ λ _ e. absurd (cc)
      | Some q ↦ λ is _. elim (entry_taken_up r s p j) as (λ o. entry_taken_up r s p j ≡ o → option_and_then (brought r s p) o ≡ Some q → TakesUp r s j p) [
        | None ↦ λ _ e. absurd (cc)
        | Some k ↦ λ taken e. elim (own_event r s k) as (λ o. own_event r s k ≡ o → option_and_then (request_brought r.setting.exercise (station_at r s).address p) o ≡ Some q
            → TakesUp r s j p) [
              | None ↦ λ _ e. absurd (cc)
              | Some v ↦ λ own brings. record {
                request = q;
                is = is;
                entry = k;
                taken = taken;
                earlier = (first_found (brings_request r s p) j k taken).below;
                event = v;
                own = own;
                brings = brings;
              }
            ] refl e
      ] refl (sym (by_entry r s p j) ∙ is)
    ] refl some

-- what brings a request sends none
brings_sends_none : (x : ℕ) (o : StationData) (p q q' : Pdu) (v : Event) → request_brought x o.address p v ≡ Some q → sends_other x q' v ≡ false
brings_sends_none x o p q q' (Send s b) e = absurd (cc)
brings_sends_none x o p q q' (Get s b) e = refl
brings_sends_none x o p q q' (Tell s n y) e = absurd (cc)

pub answer_contradicts : (r : PlainRecording) (j : ℕ) → own_cause r j ≡ Some WrongAnswer
    → (k : ℕ) × (earlier_of r j ≡ Some k) × Contradicts r j k WrongAnswer
unfolding send_cause request_taken_up is_reused
answer_contradicts r j own =
    let for = sent_for r j WrongAnswer own refl in
    let x : ℕ = r.setting.exercise in
    let s : ℕ = for.station in
    let o = station_at r s in
    let p = for.pdu in
    let row = answer_row _ _ _ _ _ _ for.is in
    let taken : Option Pdu = request_taken_up x o.address p (log_before r s j) in
    let parts = both (is_answer_body p.body) (not (option_map_or (is_answer_to p) taken false)) row.2 in
    let up = takes_up r s j p (off (is_answer_body p.body) (is_none taken) parts.0 row.1) in
    let request : request_taken_up x o.address p (up.event ∷ []) ≡ Some up.request = up.brings in
    let fails : not (option_map_or (is_answer_to p) (Some up.request) false) ≡ true = ap (λ q. not (option_map_or (is_answer_to p) q false)) (sym up.is) ∙ parts.1 in (
      up.entry,
      earlier_is r j WrongAnswer up.entry for (ap (λ b. if b then entry_taken_up r s p j else None) parts.0 ∙ up.taken),
      record {
        station = s;
        pdu = p;
        sent = for.sent;
        earlier = up.earlier;
        event = up.event;
        own = up.own;
        stands = answer_rows _ _ _ _ _ _ row.0
            (ap (λ b. b && is_reused x p (up.event ∷ [])) (answer_no_request (role_of p.body) parts.0))
            (ap (λ q. is_answer_body p.body && is_none q) request ∙ and_false (is_answer_body p.body))
            (ap (λ q. is_answer_body p.body && not (option_map_or (is_answer_to p) q false)) request ∙ ap (λ b. b && not (option_map_or (is_answer_to p) (Some up.request) false)) parts.0 ∙ fails);
      },
    )
  where
    and_false : (b : Bool) → (b && false) ≡ false
    and_false true = refl
    and_false false = refl

-- ---- a changed answer

-- an event sends the answer opposite to p
opposite_by : ℕ → Pdu → Event → Bool
opposite_by x p v = option_map_or (is_opposite_to p) (meant_by_send x v) false

mix : (a b f g fs gs : Bool) → ((a && (f || fs)) || (b && (g || gs))) ≡ (((a && f) || (b && g)) || ((a && fs) || (b && gs)))
mix true b true g fs gs = refl
mix true false false g fs gs = refl
mix true true false true true gs = refl
mix true true false true false gs = refl
mix true true false false fs gs = refl
mix false true f g fs gs = refl
mix false false f g fs gs = refl

none_of : (a b : Bool) → ((a && false) || (b && false)) ≡ false
none_of true true = refl
none_of true false = refl
none_of false true = refl
none_of false false = refl

-- under one key
under_key : ℕ → Pdu → AcknowledgeKey → Event → Bool
under_key x p k v = (responds able p && sends_under x unable k v) || (responds unable p && sends_under x able k v)

changed_under : (x : ℕ) (p : Pdu) (k : AcknowledgeKey) (h : History)
    → ((responds able p && was_acknowledged x unable k h) || (responds unable p && was_acknowledged x able k h)) ≡ list_any (under_key x p k) h
unfolding was_acknowledged under_key
changed_under x p k [] = none_of (responds able p) (responds unable p)
changed_under x p k (v ∷ h) =
    mix (responds able p) (responds unable p) (sends_under x unable k v) (sends_under x able k v) (list_any (sends_under x unable k) h) (list_any (sends_under x able k) h)
    ∙ ap (λ b. under_key x p k v || b) (changed_under x p k h)

none_any : (h : History) → list_any (λ v. false) h ≡ false
none_any [] = refl
none_any (v ∷ h) = none_any h

-- an answer was changed exactly where some event sent the opposite one
event_under : (x : ℕ) (p : Pdu) (k : AcknowledgeKey) (v : Event) → under_key x p k v ≡ option_map_or (λ q. is_opposite p q k) (meant_by_send x v) false
unfolding under_key
event_under x p k (Send s b) =
    elim (meaning x b) as (λ o. ((responds able p && option_map_or (responds_under unable k) o false) || (responds unable p && option_map_or (responds_under able k) o false))
    ≡ option_map_or (λ q. is_opposite p q k) o false) [
      | None ↦ none_of (responds able p) (responds unable p)
      | Some q ↦ refl
    ]
event_under x p k (Get s b) = none_of (responds able p) (responds unable p)
event_under x p k (Tell s e y) = none_of (responds able p) (responds unable p)

any_alike : (f g : Event → Bool) (h : History) → ((v : Event) → f v ≡ g v) → list_any f h ≡ list_any g h
any_alike f g [] same = refl
any_alike f g (v ∷ h) same = ap (λ b. b || list_any f h) (same v) ∙ ap (λ b. g v || b) (any_alike f g h same)

changed_by : (x : ℕ) (p : Pdu) (h : History) → is_changed_answer x p h ≡ list_any (opposite_by x p) h
unfolding is_changed_answer opposite_by
changed_by x p h =
    elim (key_of p) as (λ o. option_map_or (λ k. (responds able p && was_acknowledged x unable k h) || (responds unable p && was_acknowledged x able k h)) o false
    ≡ list_any (λ v. option_map_or (λ q. option_map_or (is_opposite p q) o false) (meant_by_send x v) false) h) [
      | None ↦ sym (any_alike _ (λ v. false) h (λ v. elim (meant_by_send x v) as (λ m. option_map_or (λ q. false) m false ≡ false) [ None ↦ refl | Some q ↦ refl ]) ∙ none_any h)
      | Some k ↦ changed_under x p k h ∙ any_alike _ _ h (event_under x p k)
    ]

opposite_first : (r : PlainRecording) (s : ℕ) (p : Pdu) (n : ℕ) → first_below (at_entry r s (opposite_by r.setting.exercise p)) n ≡ first_below (sends_opposite_at r s p) n
unfolding sends_opposite_at opposite_by
opposite_first r s p n = same_first _ _ n (by_pdu r s (opposite_by r.setting.exercise p) (is_opposite_to p) (λ v. refl))

pub changed_contradicts : (r : PlainRecording) (j : ℕ) → own_cause r j ≡ Some ChangedAnswer
    → (k : ℕ) × (earlier_of r j ≡ Some k) × ContradictsAnswer r j k ChangedAnswer
unfolding send_cause request_taken_up
changed_contradicts r j own =
    let for = sent_for r j ChangedAnswer own refl in
    let x : ℕ = r.setting.exercise in
    let s : ℕ = for.station in
    let o = station_at r s in
    let p = for.pdu in
    let row = changed_row _ _ _ _ _ _ for.is in
    let taken : Option Pdu = request_taken_up x o.address p (log_before r s j) in
    let parts = both (is_answer_body p.body) (is_changed_answer x p (log_before r s j)) row.3 in
    let up = takes_up r s j p (off (is_answer_body p.body) (is_none taken) parts.0 row.1) in
    let found = passes r s (opposite_by x p) j (sym (changed_by x p (log_before r s j)) ∙ parts.1) in
    let alone : History = found.event ∷ up.event ∷ [] in
    let request : request_taken_up x o.address p alone ≡ Some up.request = ap (λ q. option_or (option_or None q) (request_brought x o.address p found.event)) up.brings in
    let altered : is_changed_answer x p alone ≡ true = changed_by x p alone ∙ ap (λ b. b || list_any (opposite_by x p) (up.event ∷ [])) found.passes in (
      found.entry,
      earlier_is r j ChangedAnswer found.entry for (sym (opposite_first r s p j) ∙ found.first),
      record {
        station = s;
        pdu = p;
        sent = for.sent;
        earlier = found.earlier;
        event = found.event;
        own = found.own;
        request = up.entry;
        asked = up.event;
        taken = ap (λ b. if b then entry_taken_up r s p j else None) parts.0 ∙ up.taken;
        got = up.own;
        stands = changed_rows _ _ _ _ _ _ row.0
            (ap (λ b. b && is_reused x p alone) (answer_no_request (role_of p.body) parts.0))
            (ap (λ q. is_answer_body p.body && is_none q) request ∙ and_false (is_answer_body p.body))
            (ap (λ q. is_answer_body p.body && not (option_map_or (is_answer_to p) q false)) (request ∙ sym up.is) ∙ row.2)
            (ap (λ b. b && is_changed_answer x p alone) parts.0 ∙ altered);
      },
    )
  where
    and_false : (b : Bool) → (b && false) ≡ false
    and_false true = refl
    and_false false = refl

-- ---- as it is looked up

-- the request that what is sent takes up is the pair of the entry
pub pair_is : (r : PlainRecording) (j s : ℕ) (p : Pdu) → IsSentAt r j s p → pair_of r j ≡ pair_of_sent r s j p
pair_is r j s p sent = pair_here r j (Sent s sent.stamp sent.bytes) sent.sent ∙ ap (option_and_then (pair_of_sent r s j)) sent.meant
