-- What its maker received tells it of an order exactly what the parties of the order have heard.
use Rattle.std.proofs.Common.{◌≡◌, ⊎_elim, ℕ, ◌+◌, ◌<◌, ◌≤◌, List, ◌∷◌, ◌++◌, length, Bool, true, false, Some, None, refl, sym, ap, ◌∙◌, subst, arith, length-append}
use Rattle.std.specs.Prelude.{nat_lt, slice_get, is_some, not, ◌&&◌, ◌==◌, option_and_then}
use Rattle.std.specs.Option.{option_map_or}
use Rattle.std.proofs.lemmas.Bool.{and_from, or_right, eqb-true, eq-eqb, lt-ltb, ltb-true, cases_lt}
use Rattle.std.proofs.lemmas.Option.{none-some, slice_get_within}
use Rattle.dis_records.specs.declared.address.SiteApplication.{SiteApplication}
use Rattle.dis_records.specs.Entity.{site_application_of, is_addressed}
use Rattle.siman_pdus.specs.declared.pdu.Pdu.{Pdu}
use Rattle.siman_pdus.specs.Role.{is_request_body, request_id_of}
use Rattle.siman_pdus.specs.Answers.{same_id, is_answer_to}
use Rattle.siman_pdus.specs.Same.{is_same_order}
use Rattle.exercise_model.specs.declared.cause.Cause.TheVariants.{Stranger}
use Rattle.exercise_model.specs.Recording.{PlainRecording, IsRecording}
use Rattle.exercise_model.specs.History.{Send, Get, History, log_at, station_at}
use Rattle.exercise_model.specs.Meaning.{meaning}
use Rattle.exercise_model.specs.Setting.{is_from, is_recorded, is_open}
use Rattle.exercise_model.specs.Place.{own_event, log_before, first_below}
use Rattle.exercise_model.specs.Run.{Explains, Contains}
use Rattle.exercise_model.specs.Account.{sender_of}
use Rattle.exercise_model.proofs.Offered.{contains_on, first_found, first_is, log_at-append, outside_is_stranger, own_address, passes}
use Rattle.exercise_findings.proofs.Offered.{recorded_sender}
use Rattle.exercise_review.specs.declared.party.Party.{Party}
use Rattle.exercise_review.specs.declared.party.Party.TheVariants as parties
use Rattle.exercise_review.specs.Entries.{bytes_received_by, bytes_sent, bytes_received, pdu_sent, pdu_received, pdu_at}
use Rattle.exercise_review.specs.Order.{OrderData, sends_order, is_outside, is_meant, order_at, sends_under_id, is_first_under_id}
use Rattle.exercise_review.specs.Party.{is_copy, first_copy, is_party, is_answer_from, is_heard_from, names, is_at, is_recorded_at, is_party_outside}
use Rattle.exercise_review.specs.Reply.{answers_order, takes_copy, is_reply, is_news}
use Rattle.exercise_review.specs.Word.{settles, settles_at}
use Rattle.exercise_review.specs.Knowing.{is_party_of, is_heard_of, IsHeardSettled, IsReceivedSettled}
use Rattle.exercise_review.proofs.Events.{own_first, entry_of, event_of_entry, got_event, sent_is, sent_event}
use Rattle.exercise_review.proofs.Runs.{some_passes, there, both, pdu_in_log, received_copy, sent_reply, reply_copied}
use Rattle.exercise_review.proofs.Heard.{allowed_at, meant_got, is_there, news_got, got_news, sent_before}
use Rattle.exercise_review.proofs.Made.{sent_own}
use Rattle.exercise_review.proofs.OneOrder.{ids_same, one_order, no_later, IsOrderOf, order_made}
use Rattle.exercise_review.proofs.TakenBy.{answer_parts, taken_by, replies_there}

-- ---- which entry comes first

did_more : (d c : History) (s : ℕ) (b : List ℕ) → Contains d c (Send s b) → length (log_at s c) < length (log_at s d)
did_more d c s b within =
    let parts : log_at s d ≡ log_at s within.0 ++ log_at s (Send s b ∷ c) = ap (log_at s) (sym within.1) ∙ log_at-append s within.0 (Send s b ∷ c) in
    let size : length (log_at s d) ≡ length (log_at s within.0) + length (log_at s (Send s b ∷ c)) =
    ap length parts ∙ length-append (log_at s within.0) (log_at s (Send s b ∷ c)) in
    let own : length (log_at s (Send s b ∷ c)) ≡ length (log_at s c) + 1 = ap length (own_first s (Send s b) c refl) ∙ omega arith in
    omega (arith, size, own)

earlier_entry : (r : PlainRecording) (s i j : ℕ) → is_some (own_event r s i) ≡ true → length (log_before r s j) < length (log_before r s i) → j < i
earlier_entry r s i j own less =
    ⊎_elim
    (λ (before : j < i). before)
    (λ (from : i ≤ j). ⊎_elim
    (λ (below : i < j). absurd (omega (arith, less, passes r s i j own below)))
    (λ (most : j ≤ i).
    let same : i ≡ j = omega (arith, from, most) in
    absurd (omega (arith, less, ap (λ n. length (log_before r s n)) same)))
    (cases_lt i j))
    (cases_lt j i)

-- what a station sends at an entry, where it is the order
sends_same : (r : PlainRecording) (s k : ℕ) (p q : Pdu) (b : List ℕ) → bytes_sent r s k ≡ Some b → meaning r.setting.exercise b ≡ Some q → is_same_order p q ≡ true
    → sends_order r s p k ≡ true
unfolding sends_order pdu_sent
sends_same r s k p q b sent means same =
    ap (λ y. option_map_or (is_same_order p) (option_and_then (meaning r.setting.exercise) y) false) sent
    ∙ ap (λ y. option_map_or (is_same_order p) y false) means ∙ same

-- THE ORDER STANDS BEFORE what its maker received of an answer to it
heard_after : (r : PlainRecording) (h : History) (i s t j : ℕ) (o : OrderData) (b : List ℕ) (p : Pdu) → IsRecording r → Explains r h → IsOrderOf r i s o
    → t < length r.setting.stations → bytes_received r s j ≡ Some b → meaning r.setting.exercise b ≡ Some p → is_from (station_at r t).address p ≡ true
    → is_answer_to p o.request ≡ true → o.head < j
heard_after r h i s t j o b p limits explains order within got meant own answers =
    let here = got_event r s j b got in
    let event = event_of_entry r h s j (Get s b) explains here in
    let sent = sent_before r h event.before s t b p limits explains within event.within meant own in
    let taken = taken_by r h sent.0 i s t o b p limits explains order (contains_on h event.before sent.0 (Send t b) (Get s b) event.within sent.1) meant answers in
    let asked : Contains event.before taken.earlier (Send s taken.bytes) =
    contains_on event.before sent.0 taken.earlier (Send s taken.bytes) (Send t b) sent.1 taken.sent in
    let whole : Contains h taken.earlier (Send s taken.bytes) =
    contains_on h event.before taken.earlier (Send s taken.bytes) (Get s b) event.within asked in
    let entry = entry_of r h taken.earlier (Send s taken.bytes) s explains refl whole in
    let less : length (log_before r s entry.0) < length (log_before r s j) =
    omega (arith, did_more event.before taken.earlier s taken.bytes asked, ap length entry.2.log, ap length event.log) in
    let before : entry.0 < j = earlier_entry r s j entry.0 (ap is_some here) less in
    let sends = sends_same r s entry.0 o.request taken.request taken.bytes (sent_is r s entry.0 taken.bytes entry.2.own) taken.meant taken.same in
    omega (arith, before, no_later (sends_order r s o.request) (length r.entries) i entry.0 order.first sends, order.head)

-- ---- what is told is what was received

-- what an entry means where it receives something
pub got_parts : (r : PlainRecording) (s j : ℕ) (p : Pdu) → pdu_received r s j ≡ Some p → (b : List ℕ) × (bytes_received r s j ≡ Some b) × (meaning r.setting.exercise b ≡ Some p)
unfolding pdu_received
got_parts r s j p got = pdu_in_log r (bytes_received r s j) p got

settles_here : (r : PlainRecording) (j : ℕ) (b : List ℕ) (p : Pdu) → pdu_at r j ≡ meaning r.setting.exercise b → meaning r.setting.exercise b ≡ Some p
    → settles_at r j ≡ settles p.body
unfolding settles_at
settles_here r j b p means meant = ap (λ o. option_map_or (λ (p : Pdu). settles p.body) o false) (means ∙ meant)

party_within : (r : PlainRecording) (o : OrderData) (t : ℕ) → is_party r o t ≡ true → t < length r.setting.stations
unfolding is_party is_meant
party_within r o t part =
    let meant = both (nat_lt t (length r.setting.stations) && is_addressed o.request.target (station_at r t).address) _ part in
    ltb-true t (length r.setting.stations) (both (nat_lt t (length r.setting.stations)) _ meant.0).0

told_station : (r : PlainRecording) (h : History) (i s t j : ℕ) (o : OrderData) → IsRecording r → Explains r h → IsOrderOf r i s o → o.maker ≡ Some s
    → is_party r o t ≡ true → is_news r o t j ≡ true → settles_at r j ≡ true → IsReceivedSettled r o s j
unfolding is_reply pdu_sent pdu_received
told_station r h i s t j o limits explains order maker part news settling =
    let x = r.setting.exercise in
    let found = news_got r o s t j maker news in
    let b : List ℕ = found.bytes in
    let reply = both (answers_order r o t found.reply) (takes_copy r o t found.reply) found.replies in
    let answer = there (λ (p : Pdu). is_answer_to p o.request) (option_and_then (meaning x) (bytes_sent r t found.reply)) reply.0 in
    let p : Pdu = answer.0 in
    let meant : meaning x b ≡ Some p = sym (ap (option_and_then (meaning x)) found.sent) ∙ answer.1 in
    let event = event_of_entry r h t found.reply (Send t b) explains (sent_event r t found.reply b found.sent) in
    let own = own_address r event.before t b p (allowed_at r.setting h event.before (Send t b) explains.run event.within) meant in
    record {
      after = heard_after r h i s t j o b p limits explains order (party_within r o t part) found.at meant own answer.2;
      pdu = p;
      got = ap (option_and_then (meaning x)) found.at ∙ meant;
      answers = answer.2;
      settles = sym (settles_here r j b p (meant_got r s j b found.at) meant) ∙ settling;
    }

told_outside : (r : PlainRecording) (s j : ℕ) (o : OrderData) (a : SiteApplication) → o.maker ≡ Some s → is_heard_from r o a j ≡ true → settles_at r j ≡ true
    → IsReceivedSettled r o s j
unfolding is_heard_from
told_outside r s j o a maker told settling =
    let one = both (is_first_under_id r o) _ told in
    let two = both (nat_lt o.head j) _ one.1 in
    let found = there (is_answer_from r o a) (option_and_then (λ s. pdu_received r s j) o.maker) two.1 in
    let p : Pdu = found.0 in
    let got : pdu_received r s j ≡ Some p = sym (ap (option_and_then (λ s. pdu_received r s j)) maker) ∙ found.1 in
    let parts = got_parts r s j p got in
    record {
      after = ltb-true o.head j two.0;
      pdu = p;
      got = got;
      answers = (both (is_answer_to p o.request) _ found.2).0;
      settles = sym (settles_here r j parts.0 p (meant_got r s j parts.0 parts.1) parts.2) ∙ settling;
    }

-- WHAT IS TOLD OF A PARTY was received
pub told_received : (r : PlainRecording) (h : History) (i s j : ℕ) (o : OrderData) → IsRecording r → Explains r h → order_at r i ≡ Some o → o.maker ≡ Some s
    → IsHeardSettled r o j → IsReceivedSettled r o s j
told_received r h i s j o limits explains order maker it = of_party it.party it.takes_part it.heard
  where
    of_party : (party : Party) → is_party_of r o party ≡ true → is_heard_of r o party j ≡ true → IsReceivedSettled r o s j
    of_party (parties.Station t) part heard = told_station r h i s t j o limits explains (order_made r i s o order maker) maker part heard it.settles
    of_party (parties.Outside a) part heard = told_outside r s j o a maker heard it.settles

-- ---- what was received is told

-- of a recorded station
heard_station : (r : PlainRecording) (h : History) (i s t j : ℕ) (o : OrderData) (b : List ℕ) (p : Pdu) → IsRecording r → Explains r h → IsOrderOf r i s o
    → o.maker ≡ Some s → t < length r.setting.stations → is_from (station_at r t).address p ≡ true → bytes_received r s j ≡ Some b
    → meaning r.setting.exercise b ≡ Some p → is_answer_to p o.request ≡ true → (is_party r o t ≡ true) × (is_news r o t j ≡ true)
unfolding is_party is_meant first_copy
heard_station r h i s t j o b p limits explains order maker within own got meant answers =
    let event = event_of_entry r h s j (Get s b) explains (got_event r s j b got) in
    let sent = sent_before r h event.before s t b p limits explains within event.within meant own in
    let reply = replies_there r h sent.0 i s t o b p limits explains order (contains_on h event.before sent.0 (Send t b) (Get s b) event.within sent.1) meant answers in
    let replied = sent_reply r h sent.0 o t b explains reply in
    let copied = received_copy r h o t explains (reply_copied r h sent.0 o t b explains reply) in
    let place = both (p.origin.site == (station_at r t).address.site) (p.origin.application == (station_at r t).address.application) own in
    let addressed : is_addressed o.request.target (station_at r t).address ≡ true =
    subst (λ n. is_addressed o.request.target (record { site = n; application = (station_at r t).address.application }) ≡ true) (eqb-true _ _ place.0)
    (subst (λ n. is_addressed o.request.target (record { site = p.origin.site; application = n }) ≡ true) (eqb-true _ _ place.1) (answer_parts p o.request answers).addressed) in
    let copy = is_there (λ k. is_copy r o t k) (length r.entries) copied.0 copied.1 copied.2 in (
      and_from _ _ (and_from _ _ (lt-ltb t (length r.setting.stations) within) addressed) (or_right _ _ copy),
      got_news r o s t j replied.0 b maker got replied.1 replied.3 replied.2,
    )

-- entry k sends a request of station s under the identifier of the order
abbrev under : PlainRecording → OrderData → ℕ → ℕ → Bool
under r o s k =
    option_map_or (λ (q : Pdu). is_request_body q.body && same_id (request_id_of o.request.body) (request_id_of q.body))
    (option_and_then (meaning r.setting.exercise) (bytes_sent r s k)) false

-- what is sent under an identifier is the order
under_same : (r : PlainRecording) (h : History) (i s k : ℕ) (o : OrderData) → Explains r h → IsOrderOf r i s o
    → same_id (request_id_of o.request.body) (request_id_of o.request.body) ≡ true → under r o s k ≡ true → sends_order r s o.request k ≡ true
under_same r h i s k o explains order itself is =
    let x = r.setting.exercise in
    let found = there (λ (q : Pdu). is_request_body q.body && same_id (request_id_of o.request.body) (request_id_of q.body))
    (option_and_then (meaning x) (bytes_sent r s k)) is in
    let q : Pdu = found.0 in
    let meant = pdu_in_log r (bytes_sent r s k) q found.1 in
    let parts = both (is_request_body q.body) (same_id (request_id_of o.request.body) (request_id_of q.body)) found.2 in
    let one = event_of_entry r h s i (Send s order.bytes) explains (sent_own r s i order.stamp order.bytes order.at) in
    let other = event_of_entry r h s k (Send s meant.0) explains (sent_event r s k meant.0 meant.1) in
    let same = one_order r h one.before other.before s order.bytes meant.0 o.request q explains one.within other.within order.meant meant.2 order.request parts.0
    parts.1 (ids_same (request_id_of o.request.body) (request_id_of q.body) (request_id_of o.request.body) parts.1 itself) in
    sends_same r s k o.request q meant.0 meant.1 meant.2 same

-- its head sends it under its identifier
under_head : (r : PlainRecording) (i s : ℕ) (o : OrderData) → IsOrderOf r i s o
    → same_id (request_id_of o.request.body) (request_id_of o.request.body) ≡ true → under r o s i ≡ true
under_head r i s o order itself =
    let test : Pdu → Bool = λ (q : Pdu). is_request_body q.body && same_id (request_id_of o.request.body) (request_id_of q.body) in
    ap (λ y. option_map_or test (option_and_then (meaning r.setting.exercise) y) false)
    (sent_is r s i order.bytes (sent_own r s i order.stamp order.bytes order.at))
    ∙ ap (λ y. option_map_or test y false) order.meant
    ∙ and_from _ _ order.request itself

-- AN ORDER is the first that its maker sent under its identifier
first_under : (r : PlainRecording) (h : History) (i s : ℕ) (o : OrderData) (p : Pdu) → Explains r h → IsOrderOf r i s o → o.maker ≡ Some s
    → is_answer_to p o.request ≡ true → is_first_under_id r o ≡ true
unfolding is_first_under_id sends_under_id pdu_sent
first_under r h i s o p explains order maker answers =
    let id = request_id_of o.request.body in
    let fits = (answer_parts p o.request answers).id in
    let itself : same_id id id ≡ true = ids_same (request_id_of p.body) id id fits fits in
    let within = (first_found (sends_order r s o.request) (length r.entries) i order.first).below in
    let before : (k : ℕ) → k < i → under r o s k ≡ false =
    λ k below. elim (under r o s k) as (λ b. under r o s k ≡ b → b ≡ false) [
      | true ↦ λ is.
          let from : i ≤ k = no_later (sends_order r s o.request) (length r.entries) i k order.first (under_same r h i s k o explains order itself is) in
          absurd (omega (arith, below, from))
      | false ↦ λ _. refl
    ] refl in
    ap (λ m. option_map_or (λ s. same_id (first_below (under r o s) (length r.entries)) (Some o.head)) m false) maker
    ∙ ap (λ x. same_id x (Some o.head)) (first_is (under r o s) (length r.entries) i within (under_head r i s o order itself) before)
    ∙ eq-eqb i o.head (sym order.head)

-- the recording is open where a station received what comes from outside
open_there : (r : PlainRecording) (h : History) (s j : ℕ) (b : List ℕ) (p : Pdu) → Explains r h → bytes_received r s j ≡ Some b → meaning r.setting.exercise b ≡ Some p
    → is_recorded r.setting p ≡ false → is_open r.setting.form ≡ true
open_there r h s j b p explains got meant outside =
    let event = event_of_entry r h s j (Get s b) explains (got_event r s j b got) in
    elim (is_open r.setting.form) as (λ t. is_open r.setting.form ≡ t → t ≡ true) [
      | true ↦ λ _. refl
      | false ↦ λ shut. absurd (none-some Stranger
          (sym (allowed_at r.setting h event.before (Get s b) explains.run event.within) ∙ outside_is_stranger r.setting event.before s b p meant outside shut))
    ] refl

-- no recorded station is where it comes from
nobody_there : (r : PlainRecording) (p : Pdu) → is_recorded r.setting p ≡ false → is_recorded_at r (site_application_of p.origin) ≡ false
unfolding is_recorded_at is_at sender_of
nobody_there r p outside =
    let a : SiteApplication = site_application_of p.origin in
    elim (is_some (first_below (λ s. nat_lt s (length r.setting.stations) && (((station_at r s).address.site == a.site) && ((station_at r s).address.application == a.application))) (length r.setting.stations)))
    as (λ t. is_some (first_below (λ s. nat_lt s (length r.setting.stations) && (((station_at r s).address.site == a.site) && ((station_at r s).address.application == a.application))) (length r.setting.stations)) ≡ t
    → t ≡ false) [
      | false ↦ λ _. refl
      | true ↦ λ some.
          let found = some_passes (λ s. nat_lt s (length r.setting.stations) && (((station_at r s).address.site == a.site) && ((station_at r s).address.application == a.application))) (length r.setting.stations) some in
          let parts = both (nat_lt found.0 (length r.setting.stations)) _ found.2 in
          let place = both ((station_at r found.0).address.site == a.site) ((station_at r found.0).address.application == a.application) parts.1 in
          let own : is_from (station_at r found.0).address p ≡ true =
          and_from _ _ (eq-eqb p.origin.site _ (sym (eqb-true _ _ place.0))) (eq-eqb p.origin.application _ (sym (eqb-true _ _ place.1))) in
          let here = is_there (λ t. is_from (station_at r t).address p) (length r.setting.stations) found.0 (ltb-true _ _ parts.0) own in
          let recorded : is_recorded r.setting p ≡ true = sym (recorded_sender r p) ∙ here in
          absurd (cc (recorded, outside))
    ] refl

-- what is told of an address outside
told_there : (r : PlainRecording) (s j : ℕ) (o : OrderData) (a : SiteApplication) (b : List ℕ) (p : Pdu) → o.maker ≡ Some s → is_first_under_id r o ≡ true
    → nat_lt o.head j ≡ true → bytes_received r s j ≡ Some b → meaning r.setting.exercise b ≡ Some p → is_answer_from r o a p ≡ true → is_heard_from r o a j ≡ true
unfolding is_heard_from pdu_received
told_there r s j o a b p maker first after got meant tells =
    let x = r.setting.exercise in
    and_from _ _ first (and_from _ _ after
    (ap (λ m. option_map_or (is_answer_from r o a) (option_and_then (λ s. option_and_then (meaning x) (bytes_received r s j)) m) false) maker
    ∙ ap (λ y. option_map_or (is_answer_from r o a) (option_and_then (meaning x) y) false) got
    ∙ ap (λ y. option_map_or (is_answer_from r o a) y false) meant ∙ tells))

told_outsider : (r : PlainRecording) (o : OrderData) (p : Pdu) → is_open r.setting.form ≡ true → is_recorded r.setting p ≡ false → is_answer_to p o.request ≡ true
    → is_answer_from r o (site_application_of p.origin) p ≡ true
unfolding is_outside
told_outsider r o p opened outside answers =
    and_from _ _ answers (and_from _ _ (and_from _ _ opened (ap not outside))
    (and_from _ _ (eq-eqb p.origin.site p.origin.site refl) (eq-eqb p.origin.application p.origin.application refl)))

heard_outside : (r : PlainRecording) (h : History) (i s j : ℕ) (o : OrderData) (b : List ℕ) (p : Pdu) → Explains r h → IsOrderOf r i s o
    → o.maker ≡ Some s → is_recorded r.setting p ≡ false → o.head < j → bytes_received r s j ≡ Some b → j < length r.entries
    → meaning r.setting.exercise b ≡ Some p → is_answer_to p o.request ≡ true
    → (is_party_outside r o (site_application_of p.origin) ≡ true) × (is_heard_from r o (site_application_of p.origin) j ≡ true)
unfolding is_party_outside
heard_outside r h i s j o b p explains order maker outside after got within meant answers =
    let a : SiteApplication = site_application_of p.origin in
    let opened = open_there r h s j b p explains got meant outside in
    let told : is_heard_from r o a j ≡ true =
    told_there r s j o a b p maker (first_under r h i s o p explains order maker answers) (lt-ltb o.head j after) got meant
    (told_outsider r o p opened outside answers) in
    let some = is_there (is_heard_from r o a) (length r.entries) j within told in (
      and_from _ _ opened (and_from _ _ (ap is_some maker) (and_from _ _ (ap not (nobody_there r p outside)) (or_right (names o.request.target a) _ some))),
      told,
    )

pub got_within : (r : PlainRecording) (s j : ℕ) (b : List ℕ) → bytes_received r s j ≡ Some b → j < length r.entries
unfolding bytes_received
got_within r s j b got =
    elim (slice_get r.entries j) as (λ o. slice_get r.entries j ≡ o → option_and_then (bytes_received_by s) o ≡ Some b → j < length r.entries) [
      | None ↦ λ _ e. absurd (cc)
      | Some e ↦ λ at _. slice_get_within r.entries j e at
    ] refl got

-- the station that a PDU comes from
sender_there : (r : PlainRecording) (p : Pdu) → is_recorded r.setting p ≡ true → (t : ℕ) × (t < length r.setting.stations) × (is_from (station_at r t).address p ≡ true)
unfolding sender_of
sender_there r p recorded =
    let found = some_passes (λ t. is_from (station_at r t).address p) (length r.setting.stations) (recorded_sender r p ∙ recorded) in
    (found.0, (first_found (λ t. is_from (station_at r t).address p) (length r.setting.stations) found.0 found.1).below, found.2)

-- WHAT WAS RECEIVED is told of a party
pub received_told : (r : PlainRecording) (h : History) (i s j : ℕ) (o : OrderData) → IsRecording r → Explains r h → order_at r i ≡ Some o → o.maker ≡ Some s
    → IsReceivedSettled r o s j → IsHeardSettled r o j
received_told r h i s j o limits explains made maker it =
    let order = order_made r i s o made maker in
    let p : Pdu = it.pdu in
    let parts = got_parts r s j p it.got in
    let settling = settles_here r j parts.0 p (meant_got r s j parts.0 parts.1) parts.2 ∙ it.settles in
    elim (is_recorded r.setting p) as (λ k. is_recorded r.setting p ≡ k → IsHeardSettled r o j) [
      | true ↦ λ recorded.
          let t = sender_there r p recorded in
          let heard = heard_station r h i s t.0 j o parts.0 p limits explains order maker t.1 t.2 parts.1 parts.2 it.answers in
          record { party = parties.Station t.0; takes_part = heard.0; heard = heard.1; settles = settling }
      | false ↦ λ outside.
          let heard = heard_outside r h i s j o parts.0 p explains order maker outside it.after parts.1 (got_within r s j parts.0 parts.1) parts.2 it.answers in
          record { party = parties.Outside (site_application_of p.origin); takes_part = heard.0; heard = heard.1; settles = settling }
    ] refl
