-- What the fate of an order says of every run that explains the logs.
use Rattle.std.proofs.Common.{◌≡◌, ℕ, ◌<◌, length, true, false, Option, Some, None, refl, sym, ap, ◌∙◌, subst}
use Rattle.std.specs.Prelude.{is_some, ◌&&◌, option_and_then}
use Rattle.siman_pdus.specs.declared.pdu.Pdu.{Pdu}
use Rattle.exercise_model.specs.Recording.{PlainRecording, IsRecording}
use Rattle.exercise_model.specs.History.{History}
use Rattle.exercise_model.specs.Place.{first_below}
use Rattle.exercise_model.specs.Run.{Explains}
use Rattle.exercise_model.proofs.Offered.{first_found}
use Rattle.exercise_review.specs.declared.fate.Fate.{Fate}
use Rattle.exercise_review.specs.declared.party.Party.TheVariants.{Station}
use Rattle.exercise_review.specs.declared.word.Word.{Word}
use Rattle.exercise_review.specs.Entries.{pdu_at}
use Rattle.exercise_review.specs.Order.{OrderData, gets_order}
use Rattle.exercise_review.specs.Party.{first_copy}
use Rattle.exercise_review.specs.Reply.{is_reply, is_news}
use Rattle.exercise_review.specs.Word.{word_of, word_at, settles_at, is_settling, first_settling}
use Rattle.exercise_review.specs.Fate.{fate_of_traces, word_heard, has_replied, traces_of, fate_of}
use Rattle.exercise_review.specs.InRuns.{Receives, HasReplied, HasSettled, Hears, HearsWord}
use Rattle.exercise_review.proofs.Runs.{none_passes, some_passes, both, copy_received, received_copy, reply_sent, sent_reply}
use Rattle.exercise_review.proofs.Heard.{sent_settles, settles_sent, word_settling, news_heard, heard_news, heard_sent}
use Rattle.exercise_review.proofs.Says.{Says, fate_says}

-- the traces are what the fate says
pub told : (r : PlainRecording) (o : OrderData) (s t : ℕ) (fate : Fate) → o.maker ≡ Some s → fate_of r o (Station t) ≡ fate
    → Says fate (word_heard r o t) (is_some (first_settling r (is_reply r o t))) (has_replied r o t) (is_some (first_copy r o t))
unfolding fate_of traces_of
told r o s t fate maker is =
    subst (λ f. Says f (word_heard r o t) (is_some (first_settling r (is_reply r o t))) (has_replied r o t) (is_some (first_copy r o t)))
    (sym (ap (λ m. fate_of_traces (record { made = is_some m; heard = word_heard r o t; settled = is_some (first_settling r (is_reply r o t)); replied = has_replied r o t; got = is_some (first_copy r o t) })) maker) ∙ is)
    (fate_says (word_heard r o t) (is_some (first_settling r (is_reply r o t))) (has_replied r o t) (is_some (first_copy r o t)))

-- no copy
pub none_received : (r : PlainRecording) (h : History) (o : OrderData) (t : ℕ) → Explains r h → is_some (first_copy r o t) ≡ false → Receives r h o t → ⊥
unfolding first_copy
none_received r h o t explains none got =
    let copy = received_copy r h o t explains got in none_passes (gets_order r t o.request) (length r.entries) copy.0 none copy.1 copy.2

pub some_received : (r : PlainRecording) (h : History) (o : OrderData) (t : ℕ) → Explains r h → is_some (first_copy r o t) ≡ true → Receives r h o t
unfolding first_copy
some_received r h o t explains some =
    let copy = some_passes (gets_order r t o.request) (length r.entries) some in copy_received r h o t copy.0 explains copy.2

-- no reply
pub none_replied : (r : PlainRecording) (h : History) (o : OrderData) (t : ℕ) → Explains r h → has_replied r o t ≡ false → HasReplied r h o t → ⊥
none_replied r h o t explains none it =
    let sent = sent_reply r h it.place o t it.bytes explains it.reply in none_passes (is_reply r o t) (length r.entries) sent.0 none sent.1 sent.3

pub some_replied : (r : PlainRecording) (h : History) (o : OrderData) (t : ℕ) → Explains r h → has_replied r o t ≡ true → HasReplied r h o t
some_replied r h o t explains some =
    let entry = some_passes (is_reply r o t) (length r.entries) some in
    let sent = reply_sent r h o t entry.0 explains entry.2 in
    record { place = sent.place; bytes = sent.bytes; reply = sent.reply }

-- no reply that settles
pub none_settled : (r : PlainRecording) (h : History) (o : OrderData) (t : ℕ) → Explains r h → is_some (first_settling r (is_reply r o t)) ≡ false → HasSettled r h o t → ⊥
unfolding first_settling
none_settled r h o t explains none it =
    let sent = sent_reply r h it.place o t it.bytes explains it.reply in
    none_passes (is_settling r (is_reply r o t)) (length r.entries) sent.0 none sent.1
    (ap (λ c. c && settles_at r sent.0) sent.3 ∙ settles_sent r t sent.0 it.bytes sent.2 it.settles)

pub some_settled : (r : PlainRecording) (h : History) (o : OrderData) (t : ℕ) → Explains r h → is_some (first_settling r (is_reply r o t)) ≡ true → HasSettled r h o t
unfolding first_settling
some_settled r h o t explains some =
    let entry = some_passes (is_settling r (is_reply r o t)) (length r.entries) some in
    let parts = both (is_reply r o t entry.0) (settles_at r entry.0) entry.2 in
    let sent = reply_sent r h o t entry.0 explains parts.0 in
    record { place = sent.place; bytes = sent.bytes; reply = sent.reply; settles = sent_settles r t entry.0 sent.bytes sent.at parts.1 }

-- nothing heard that settles
pub none_heard : (r : PlainRecording) (h : History) (o : OrderData) (s t : ℕ) → Explains r h → o.maker ≡ Some s → word_heard r o t ≡ None → Hears r h o s t → ⊥
unfolding first_settling
none_heard r h o s t explains maker none heard =
    let entry = heard_news r h o s t explains maker heard in
    none_passes (is_settling r (is_news r o t)) (length r.entries) entry.0 (nothing (first_below (is_settling r (is_news r o t)) (length r.entries)) refl none) entry.1 entry.2
  where
    nothing : (x : Option ℕ) → first_below (is_settling r (is_news r o t)) (length r.entries) ≡ x → option_and_then (word_at r) x ≡ None → is_some x ≡ false
    nothing None is e = refl
    nothing (Some i) is e =
        let passes = (first_found (is_settling r (is_news r o t)) (length r.entries) i is).passes in
        absurd (cc (word_settling r i (both (is_news r o t i) (settles_at r i) passes).1, e))

-- a word that was heard
pub word_was_heard : (r : PlainRecording) (h : History) (o : OrderData) (s t : ℕ) (word : Word) → IsRecording r → Explains r h → t < length r.setting.stations
    → o.maker ≡ Some s → word_heard r o t ≡ Some word → HearsWord r h o s t word
unfolding first_settling word_at
word_was_heard r h o s t word limits explains within maker some = at (first_below (is_settling r (is_news r o t)) (length r.entries)) refl some
  where
    at : (x : Option ℕ) → first_below (is_settling r (is_news r o t)) (length r.entries) ≡ x
        → option_and_then (λ i. option_and_then (λ (p : Pdu). word_of p.body) (pdu_at r i)) x ≡ Some word → HearsWord r h o s t word
    at None is e = absurd (cc)
    at (Some i) is e =
        let parts = both (is_news r o t i) (settles_at r i) (first_found (is_settling r (is_news r o t)) (length r.entries) i is).passes in
        let heard = news_heard r h o s t i explains maker parts.0 parts.1 in
        heard_sent r h o s t word limits explains within heard.0 (sym (ap (option_and_then (λ (p : Pdu). word_of p.body)) heard.1) ∙ e)
