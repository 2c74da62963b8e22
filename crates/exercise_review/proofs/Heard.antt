-- What the maker of an order heard in every run that explains the logs.
use Rattle.std.proofs.Common.{◌≡◌, ℕ, ◌<◌, List, [], ◌∷◌, ◌++◌, length, cond, Bool, true, false, Some, None, refl, sym, ap, ◌∙◌, subst}
use Rattle.std.specs.Prelude.{nat_eq, slice_get, is_some, ◌&&◌, bytes_eq, option_and_then}
use Rattle.std.specs.Option.{option_map_or}
use Rattle.std.specs.Cmp.Lexicographic.{bytes_decides}
use Rattle.std.proofs.lemmas.Option.{same_Some}
use Rattle.siman_pdus.specs.declared.pdu.Pdu.{Pdu}
use Rattle.siman_pdus.specs.declared.pdu.Body.{Body}
use Rattle.siman_pdus.specs.declared.pdu.Body.TheVariants as bodies
use Rattle.exercise_model.specs.Entry.{Entry, Sent, Received, Told}
use Rattle.exercise_model.specs.Recording.{PlainRecording, IsRecording}
use Rattle.exercise_model.specs.History.{Event, Send, Get, History, station_at}
use Rattle.exercise_model.specs.Meaning.{meaning}
use Rattle.exercise_model.specs.Setting.{SettingData, is_from, is_recorded}
use Rattle.exercise_model.specs.Place.{first_below}
use Rattle.exercise_model.specs.Cause.{IsAllowed}
use Rattle.exercise_model.specs.Run.{IsRun, Explains, Contains}
use Rattle.exercise_model.proofs.Offered.{explained_holds, own_address, sender_found}
use Rattle.exercise_findings.proofs.Offered.{recorded_sender}
use Rattle.exercise_review.specs.declared.word.Word.{Word}
use Rattle.exercise_review.specs.Entries.{bytes_sent_by, bytes_received_by, bytes_of, bytes_sent, bytes_received, pdu_at}
use Rattle.exercise_review.specs.Order.{OrderData}
use Rattle.exercise_review.specs.Reply.{is_reply, replies_in, has_reply_in, is_news}
use Rattle.exercise_review.specs.Word.{word_of, settles, word_at, settles_at}
use Rattle.exercise_review.specs.InRuns.{Replies, Settles, Hears, HearsWord}
use Rattle.exercise_review.proofs.Events.{entry_of, event_of_entry, got_is, got_event}
use Rattle.exercise_review.proofs.Runs.{none_passes, some_passes, there, both, reply_sent, sent_reply}

-- ---- what is meant at an entry

pub meant_sent : (r : PlainRecording) (t i : ℕ) (b : List ℕ) → bytes_sent r t i ≡ Some b → pdu_at r i ≡ meaning r.setting.exercise b
unfolding bytes_sent pdu_at
meant_sent r t i b =
    elim (slice_get r.entries i) as (λ o. option_and_then (bytes_sent_by t) o ≡ Some b
    → option_and_then (meaning r.setting.exercise) (option_and_then bytes_of o) ≡ meaning r.setting.exercise b) [ None ↦ λ e. absurd (cc) | Some e ↦ of_entry e ]
  where
    of_entry : (e : Entry) → bytes_sent_by t e ≡ Some b → option_and_then (meaning r.setting.exercise) (bytes_of e) ≡ meaning r.setting.exercise b
    of_entry (Sent s stamp c) = elim (nat_eq s t) as (λ k. cond k (Some c) None ≡ Some b → meaning r.setting.exercise c ≡ meaning r.setting.exercise b)
        [ true ↦ λ e. ap (meaning r.setting.exercise) (same_Some c b e) | false ↦ λ e. absurd (cc) ]
    of_entry (Received s stamp c) = λ e. absurd (cc)
    of_entry (Told s n y) = λ e. absurd (cc)

pub meant_got : (r : PlainRecording) (t i : ℕ) (b : List ℕ) → bytes_received r t i ≡ Some b → pdu_at r i ≡ meaning r.setting.exercise b
unfolding bytes_received pdu_at
meant_got r t i b =
    elim (slice_get r.entries i) as (λ o. option_and_then (bytes_received_by t) o ≡ Some b
    → option_and_then (meaning r.setting.exercise) (option_and_then bytes_of o) ≡ meaning r.setting.exercise b) [ None ↦ λ e. absurd (cc) | Some e ↦ of_entry e ]
  where
    of_entry : (e : Entry) → bytes_received_by t e ≡ Some b → option_and_then (meaning r.setting.exercise) (bytes_of e) ≡ meaning r.setting.exercise b
    of_entry (Received s stamp c) = elim (nat_eq s t) as (λ k. cond k (Some c) None ≡ Some b → meaning r.setting.exercise c ≡ meaning r.setting.exercise b)
        [ true ↦ λ e. ap (meaning r.setting.exercise) (same_Some c b e) | false ↦ λ e. absurd (cc) ]
    of_entry (Sent s stamp c) = λ e. absurd (cc)
    of_entry (Told s n y) = λ e. absurd (cc)

-- what settles at an entry that means what these bytes mean
pub settles_in : (r : PlainRecording) (i : ℕ) (b : List ℕ) → pdu_at r i ≡ meaning r.setting.exercise b → settles_at r i ≡ true → Settles r b
unfolding settles_at
settles_in r i b means settling =
    let found = there (λ (p : Pdu). settles p.body) (pdu_at r i) settling in
    record { answer = found.0; meant = sym means ∙ found.1; settles = found.2 }

pub settles_there : (r : PlainRecording) (i : ℕ) (b : List ℕ) → pdu_at r i ≡ meaning r.setting.exercise b → Settles r b → settles_at r i ≡ true
unfolding settles_at
settles_there r i b means s = ap (λ o. option_map_or (λ p. settles p.body) o false) (means ∙ s.meant) ∙ s.settles

pub sent_settles : (r : PlainRecording) (t i : ℕ) (b : List ℕ) → bytes_sent r t i ≡ Some b → settles_at r i ≡ true → Settles r b
sent_settles r t i b at = settles_in r i b (meant_sent r t i b at)

pub settles_sent : (r : PlainRecording) (t i : ℕ) (b : List ℕ) → bytes_sent r t i ≡ Some b → Settles r b → settles_at r i ≡ true
settles_sent r t i b at = settles_there r i b (meant_sent r t i b at)

-- what settles says a word
settling_word : (body : Body) → settles body ≡ true → is_some (word_of body) ≡ true
settling_word (bodies.Acknowledge flag response request) e = refl
settling_word (bodies.ActionResponse request status datums) e = refl
settling_word (bodies.DataPdu request datums) e = refl
settling_word (bodies.CreateEntity request) e = absurd (cc)
settling_word (bodies.RemoveEntity request) e = absurd (cc)
settling_word (bodies.StartResume real sim request) e = absurd (cc)
settling_word (bodies.StopFreeze real reason behaviour request) e = absurd (cc)
settling_word (bodies.ActionRequest request action datums) e = absurd (cc)
settling_word (bodies.DataQuery request interval ids) e = absurd (cc)
settling_word (bodies.SetData request datums) e = absurd (cc)
settling_word (bodies.EventReport event datums) e = absurd (cc)
settling_word (bodies.Comment datums) e = absurd (cc)

pub word_settling : (r : PlainRecording) (i : ℕ) → settles_at r i ≡ true → is_some (word_at r i) ≡ true
unfolding settles_at word_at
word_settling r i =
    elim (pdu_at r i) as (λ o. option_map_or (λ (p : Pdu). settles p.body) o false ≡ true → is_some (option_and_then (λ (p : Pdu). word_of p.body) o) ≡ true) [
      | None ↦ λ e. absurd (cc)
      | Some p ↦ settling_word p.body
    ]

-- ---- news

-- what the maker receives at entry i
pub record GotNews (r : PlainRecording) (o : OrderData) (s t i : ℕ) : Type 0 where
  pub bytes : List ℕ
  pub at : bytes_received r s i ≡ Some bytes
  pub reply : ℕ
  pub replies : is_reply r o t reply ≡ true
  pub sent : bytes_sent r t reply ≡ Some bytes

pub news_got : (r : PlainRecording) (o : OrderData) (s t i : ℕ) → o.maker ≡ Some s → is_news r o t i ≡ true → GotNews r o s t i
unfolding is_news has_reply_in replies_in
news_got r o s t i maker news =
    let got = there (λ b. is_some (first_below (λ j. is_reply r o t j && option_map_or (bytes_eq b) (bytes_sent r t j) false) (length r.entries))) (bytes_received r s i)
    (sym (ap (λ m. option_map_or (λ b. is_some (first_below (λ j. is_reply r o t j && option_map_or (bytes_eq b) (bytes_sent r t j) false) (length r.entries)))
    (option_and_then (λ s. bytes_received r s i) m) false) maker) ∙ news) in
    let b : List ℕ = got.0 in
    let reply = some_passes (λ j. is_reply r o t j && option_map_or (bytes_eq b) (bytes_sent r t j) false) (length r.entries) got.2 in
    let parts = both (is_reply r o t reply.0) (option_map_or (bytes_eq b) (bytes_sent r t reply.0) false) reply.2 in
    let sent = there (bytes_eq b) (bytes_sent r t reply.0) parts.1 in
    record {
      bytes = b;
      at = got.1;
      reply = reply.0;
      replies = parts.0;
      sent = sent.1 ∙ ap Some (sym ((bytes_decides b sent.0).0 sent.2));
    }

pub is_there : (f : ℕ → Bool) (n i : ℕ) → i < n → f i ≡ true → is_some (first_below f n) ≡ true
is_there f n i within passes =
    elim (is_some (first_below f n)) as (λ b. is_some (first_below f n) ≡ b → b ≡ true) [
      | true ↦ λ _. refl
      | false ↦ λ none. absurd (none_passes f n i none within passes)
    ] refl

pub got_news : (r : PlainRecording) (o : OrderData) (s t i j : ℕ) (b : List ℕ) → o.maker ≡ Some s → bytes_received r s i ≡ Some b → j < length r.entries
    → is_reply r o t j ≡ true → bytes_sent r t j ≡ Some b → is_news r o t i ≡ true
unfolding is_news has_reply_in replies_in
got_news r o s t i j b maker at within replies sent =
    let test = λ (c : List ℕ). is_some (first_below (λ j. is_reply r o t j && option_map_or (bytes_eq c) (bytes_sent r t j) false) (length r.entries)) in
    ap (λ m. option_map_or test (option_and_then (λ s. bytes_received r s i) m) false) maker
    ∙ ap (λ x. option_map_or test x false) at
    ∙ is_there (λ j. is_reply r o t j && option_map_or (bytes_eq b) (bytes_sent r t j) false) (length r.entries) j within
    (ap (λ c. c && option_map_or (bytes_eq b) (bytes_sent r t j) false) replies ∙ ap (λ x. option_map_or (bytes_eq b) x false) sent ∙ (bytes_decides b b).1 refl)

-- NEWS THAT SETTLES is heard
pub news_heard : (r : PlainRecording) (h : History) (o : OrderData) (s t i : ℕ) → Explains r h → o.maker ≡ Some s → is_news r o t i ≡ true
    → settles_at r i ≡ true → (heard : Hears r h o s t) × (pdu_at r i ≡ Some heard.settles.answer)
news_heard r h o s t i explains maker news settling =
    let got = news_got r o s t i maker news in
    let event = event_of_entry r h s i (Get s got.bytes) explains (got_event r s i got.bytes got.at) in
    let reply = reply_sent r h o t got.reply explains got.replies in
    let same : reply.bytes ≡ got.bytes = same_Some reply.bytes got.bytes (sym reply.at ∙ got.sent) in
    let means = meant_got r s i got.bytes got.at in
    let settled = settles_in r i got.bytes means settling in (
      record {
        before = event.before;
        bytes = got.bytes;
        received = event.within;
        place = reply.place;
        reply = subst (Replies r h reply.place o t) same reply.reply;
        settles = settled;
      },
      means ∙ settled.meant,
    )

-- WHAT IS HEARD AND SETTLES is news
pub heard_news : (r : PlainRecording) (h : History) (o : OrderData) (s t : ℕ) → Explains r h → o.maker ≡ Some s → Hears r h o s t
    → (i : ℕ) × (i < length r.entries) × ((is_news r o t i && settles_at r i) ≡ true)
heard_news r h o s t explains maker heard =
    let entry = entry_of r h heard.before (Get s heard.bytes) s explains refl heard.received in
    let at : bytes_received r s entry.0 ≡ Some heard.bytes = got_is r s entry.0 heard.bytes entry.2.own in
    let reply = sent_reply r h heard.place o t heard.bytes explains heard.reply in
    let news = got_news r o s t entry.0 reply.0 heard.bytes maker at reply.1 reply.3 reply.2 in
    (entry.0, entry.1, ap (λ c. c && settles_at r entry.0) news ∙ settles_there r entry.0 heard.bytes (meant_got r s entry.0 heard.bytes at) heard.settles)

-- ---- and it was sent before

run_before : (w : SettingData) (later h : History) → IsRun w (later ++ h) → IsRun w h
run_before w [] h run = run
run_before w (v ∷ later) h run = run_before w later h run.0

pub allowed_at : (w : SettingData) (h before : History) (v : Event) → IsRun w h → Contains h before v → IsAllowed w before v
allowed_at w h before v run within = (run_before w within.0 (v ∷ before) (subst (IsRun w) (sym within.1) run)).1

-- what comes from a station was sent by it before it was received
pub sent_before : (r : PlainRecording) (h before : History) (s t : ℕ) (b : List ℕ) (p : Pdu) → IsRecording r → Explains r h → t < length r.setting.stations
    → Contains h before (Get s b) → meaning r.setting.exercise b ≡ Some p → is_from (station_at r t).address p ≡ true
    → (earlier : History) × Contains before earlier (Send t b)
sent_before r h before s t b p limits explains within got means own =
    let sender = sender_found r limits p t within own in
    let recorded : is_recorded r.setting p ≡ true = sym (recorded_sender r p) ∙ ap is_some sender in
    let sent = (explained_holds r h limits explains).received before s b p got means recorded in
    let same : sent.station ≡ t = same_Some sent.station t (sym (sender_found r limits p sent.station sent.recorded sent.own) ∙ sender) in
    (sent.earlier, subst (λ k. Contains before sent.earlier (Send k b)) same sent.sent)

-- what was heard was sent by its party before
pub heard_sent : (r : PlainRecording) (h : History) (o : OrderData) (s t : ℕ) (word : Word) → IsRecording r → Explains r h → t < length r.setting.stations
    → (heard : Hears r h o s t) → word_of heard.settles.answer.body ≡ Some word → HearsWord r h o s t word
heard_sent r h o s t word limits explains within heard says =
    let p = heard.reply.answer in
    let own = own_address r heard.place t heard.bytes p (allowed_at r.setting h heard.place (Send t heard.bytes) explains.run heard.reply.sent) heard.reply.meant in
    let sent = sent_before r h heard.before s t heard.bytes p limits explains within heard.received heard.reply.meant own in
    record { heard = heard; says = says; earlier = sent.0; sent = sent.1 }
