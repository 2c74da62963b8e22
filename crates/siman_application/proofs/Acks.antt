-- Which Acknowledges a log of turns sends.
use Rattle.std.proofs.Common.{◌≡◌, ℕ, List, [], ◌∷◌, refl, ap, sym, ◌∙◌, subst}
use Rattle.std.specs.Prelude.{Bool, true, false, ◌&&◌, ◌||◌, Option, Some, None, if◌then◌else◌}
use Rattle.std.specs.Option.{option_or, option_map_or}
use Rattle.dis_records.specs.declared.entity_state.EntityState.{EntityState}
use Rattle.siman_pdus.specs.declared.pdu.Body.{Body}
use Rattle.siman_pdus.specs.declared.pdu.Body.TheVariants.{CreateEntity, RemoveEntity, StartResume, StopFreeze, Acknowledge, ActionRequest, ActionResponse, DataQuery, SetData, DataPdu, EventReport, Comment}
use Rattle.siman_pdus.specs.declared.pdu.Pdu.{Pdu}
use Rattle.siman_pdus.specs.Answers.{same_id}
use Rattle.siman_pdus.specs.Role.{is_request_body}
use Rattle.siman_pdus.specs.Spelling.{carried, pdu_text}
use Rattle.exercise_model.specs.declared.acknowledge.AcknowledgeKey.{AcknowledgeKey}
use Rattle.exercise_model.specs.History.{History, Send, Get, Tell}
use Rattle.exercise_model.specs.Meaning.{meaning}
use Rattle.exercise_model.specs.Change.{key_of, responds_under, response_of, same_key, was_acknowledged}
use Rattle.siman_application.specs.AppProfile.{AppProfile}
use Rattle.siman_application.specs.Distinct.{Placed, is_for, is_under_key, first_under, distinct}
use Rattle.siman_application.specs.Answer.{Knowledge, answer}
use Rattle.siman_application.specs.Play.{known, reply}
use Rattle.siman_application.specs.OwnLog.{OwnTurn, Tells, Orders, Passes, Takes, Loses, taken_in, sent_after, log_in}
use Rattle.siman_application.proofs.Answered.{for_parts, is_answer, answer_stamped, outside}
use Rattle.siman_application.proofs.Played.{IsKeyOf, other_key}
use Rattle.siman_application.proofs.Replies.{for_at}
use Rattle.siman_application.proofs.Meanings.{answer_means}
use Rattle.siman_application.proofs.Meant.{IsReplyText, AreMeant}
use Rattle.siman_application.proofs.Turns.{same_key_of, first_same, first_more, first_has, GoesTo, answer_at, Course, Foreign, Fresh, Same, Other, course}

-- Replies.

pub text_of : (o : Option Pdu) (p : Pdu) → o ≡ Some p → IsReplyText o → IsReplyText (Some p)
text_of o p e text = subst IsReplyText e text

pub goes : (a : AppProfile) (k : Knowledge) (d : Pdu) (stamp : ℕ) → is_for a d ≡ true → GoesTo d (answer a k d stamp)
goes a k d stamp own = let is = is_answer a k d stamp own in record { target = is.target; id = is.id }

-- an answer with another timestamp responds alike
pub responds_stamped : (a : AppProfile) (f : Placed) (stamp n : ℕ) (k : AcknowledgeKey) → is_for a f.request ≡ true
    → responds_under n k (answer_at a f stamp) ≡ responds_under n k (answer_at a f 0)
responds_stamped a f stamp n k own =
    ap (responds_under n k) (answer_stamped a (known a f.before) f.request stamp 0 (for_parts a f.request own).request)

-- a request responds nothing
pub silent_by : (body : Body) (n : ℕ) → is_request_body body ≡ true → same_id (response_of body) (Some n) ≡ false
silent_by (CreateEntity request) n e = refl
silent_by (RemoveEntity request) n e = refl
silent_by (StartResume real sim request) n e = refl
silent_by (StopFreeze real reason behaviour request) n e = refl
silent_by (Acknowledge flag response request) n e = absurd (outside flag response request e)
silent_by (ActionRequest request action datums) n e = refl
silent_by (ActionResponse request status datums) n e = refl
silent_by (DataQuery request interval ids) n e = refl
silent_by (SetData request datums) n e = refl
silent_by (DataPdu request datums) n e = refl
silent_by (EventReport event datums) n e = refl
silent_by (Comment datums) n e = refl

pub silent : (p : Pdu) (n : ℕ) (k : AcknowledgeKey) → is_request_body p.body ≡ true → responds_under n k p ≡ false
silent p n k e = ap (λ (b : Bool). b && option_map_or (same_key k) (key_of p) false) (silent_by p.body n e)

-- Acknowledges.

pub ack_send : (x n : ℕ) (k : AcknowledgeKey) (s : ℕ) (b : List ℕ) (p : Pdu) (log : History) → meaning x b ≡ Some p
    → was_acknowledged x n k (Send s b ∷ log) ≡ (responds_under n k p || was_acknowledged x n k log)
unfolding was_acknowledged
ack_send x n k s b p log m = ap (λ (o : Option Pdu). option_map_or (responds_under n k) o false || was_acknowledged x n k log) m

pub ack_get : (x n : ℕ) (k : AcknowledgeKey) (s : ℕ) (b : List ℕ) (log : History)
    → was_acknowledged x n k (Get s b ∷ log) ≡ was_acknowledged x n k log
unfolding was_acknowledged
ack_get x n k s b log = refl

pub ack_tell : (x n : ℕ) (k : AcknowledgeKey) (s e : ℕ) (y : EntityState) (log : History)
    → was_acknowledged x n k (Tell s e y ∷ log) ≡ was_acknowledged x n k log
unfolding was_acknowledged
ack_tell x n k s e y log = refl

pub ack_start : (x n : ℕ) (k : AcknowledgeKey) → was_acknowledged x n k [] ≡ false
unfolding was_acknowledged
ack_start x n k = refl

pub none_under : (r : Pdu) → first_under r [] ≡ None
unfolding first_under
none_under r = refl

-- what was acknowledged of the first of the distinct requests under the key of r
abbrev pub acked_as : AppProfile → ℕ → AcknowledgeKey → Option Placed → Bool
acked_as a n k o = option_map_or (λ f. responds_under n k (answer_at a f 0)) o false

pub or_same : (b : Bool) → (b || b) ≡ b
or_same true = refl
or_same false = refl

-- the reply to a request whose key is known
pub acks_same : (a : AppProfile) (r p q : Pdu) (ds : List Pdu) (n stamp : ℕ) (k : AcknowledgeKey) (f : Placed) → GoesTo r p → IsKeyOf k p
    → is_for a f.request ≡ true → first_under q ds ≡ Some f
    → (b : Bool) → is_under_key r f.request ≡ b
    → (responds_under n k (answer_at a f stamp) || acked_as a n k (first_under r ds)) ≡ acked_as a n k (first_under r ds)
acks_same a r p q ds n stamp k f to key own first false u =
    let g = goes a (known a f.before) f.request stamp own in
    ap (λ (b : Bool). b || acked_as a n k (first_under r ds)) (other_key r f.request p (answer_at a f stamp) n k to.target to.id g.target g.id key u)
acks_same a r p q ds n stamp k f to key own first true u =
    let found : first_under r ds ≡ Some f = first_same r f.request (same_key_of r f.request u) ds ∙ sym
    (first_same q f.request (same_key_of q f.request (first_has q ds f first)) ds) ∙ first in
    ap (λ (b : Bool). b || acked_as a n k (first_under r ds)) (responds_stamped a f stamp n k own)
    ∙ ap (λ (o : Option Placed). responds_under n k (answer_at a f 0) || acked_as a n k o) found ∙ or_same (responds_under n k (answer_at a f 0)) ∙ sym
    (ap (acked_as a n k) found)

-- the reply to one that is the first under its key
pub acks_fresh : (a : AppProfile) (r p q : Pdu) (ds : List Pdu) (n stamp : ℕ) (k : AcknowledgeKey) → GoesTo r p → IsKeyOf k p → is_for a q ≡ true
    → first_under q ds ≡ None
    → (b : Bool) → is_under_key r q ≡ b
    → (responds_under n k (answer a (known a ds) q stamp) || acked_as a n k (first_under r ds)) ≡ acked_as a n k
    (option_or (first_under r ds) (if b then Some (record { request = q; before = ds }) else None))
acks_fresh a r p q ds n stamp k to key own none false u =
    let g = goes a (known a ds) q stamp own in
    ap (λ (b : Bool). b || acked_as a n k (first_under r ds)) (other_key r q p (answer a (known a ds) q stamp) n k to.target to.id g.target g.id key u)
    ∙ same (first_under r ds) where
      same : (o : Option Placed) → acked_as a n k o ≡ acked_as a n k (option_or o None)
      same None = refl
      same (Some f) = refl
acks_fresh a r p q ds n stamp k to key own none true u =
    let gone : first_under r ds ≡ None = first_same r q (same_key_of r q u) ds ∙ none in
    let f : Placed = record { request = q; before = ds } in
    ap (λ (o : Option Placed). responds_under n k (answer a (known a ds) q stamp) || acked_as a n k o) gone
    ∙ or_none (responds_under n k (answer a (known a ds) q stamp)) ∙ responds_stamped a f stamp n k own
    ∙ sym (ap (λ (o : Option Placed). acked_as a n k (option_or o (Some f))) gone) where
      or_none : (b : Bool) → (b || false) ≡ b
      or_none true = refl
      or_none false = refl

pub acks_taken : (a : AppProfile) (r p q : Pdu) (s stamp n : ℕ) (k : AcknowledgeKey) (b : List ℕ) (qs : List Pdu) (log : History) → GoesTo r p
    → IsKeyOf k p → IsReplyText (reply a qs q stamp) → Course a (distinct a qs) q stamp
    → was_acknowledged a.exercise n k log ≡ acked_as a n k (first_under r (distinct a qs))
    → was_acknowledged a.exercise n k (sent_after s (reply a qs q stamp) (Get s b ∷ log)) ≡ acked_as a n k (first_under r (distinct a (q ∷ qs)))
acks_taken a r p q s stamp n k b qs log to key text (Foreign reply_is same out) rest =
    ap (λ (o : Option Pdu). was_acknowledged a.exercise n k (sent_after s o (Get s b ∷ log))) reply_is ∙ ack_get a.exercise n k s b log ∙ rest
    ∙ sym (ap (λ (ds : List Pdu). acked_as a n k (first_under r ds)) same)
acks_taken a r p q s stamp n k b qs log to key text (Other f own first reply_is same) rest =
    ap (λ (o : Option Pdu). was_acknowledged a.exercise n k (sent_after s o (Get s b ∷ log))) reply_is ∙ ack_get a.exercise n k s b log ∙ rest
    ∙ sym (ap (λ (ds : List Pdu). acked_as a n k (first_under r ds)) same)
acks_taken a r p q s stamp n k b qs log to key text (Same f own first reply_is same) rest =
    let kept = for_at a qs q f first in
    ap (λ (o : Option Pdu). was_acknowledged a.exercise n k (sent_after s o (Get s b ∷ log))) reply_is
    ∙ ack_send a.exercise n k s (pdu_text (answer_at a f stamp)) (answer_at a f stamp) (Get s b ∷ log)
    (answer_means a (known a f.before) f.request stamp kept (text_of (reply a qs q stamp) (answer_at a f stamp) reply_is text))
    ∙ ap (λ (v : Bool). responds_under n k (answer_at a f stamp) || v) (ack_get a.exercise n k s b log ∙ rest)
    ∙ acks_same a r p q (distinct a qs) n stamp k f to key kept first (is_under_key r f.request) refl
    ∙ sym (ap (λ (ds : List Pdu). acked_as a n k (first_under r ds)) same)
acks_taken a r p q s stamp n k b qs log to key text (Fresh own none reply_is same) rest =
    ap (λ (o : Option Pdu). was_acknowledged a.exercise n k (sent_after s o (Get s b ∷ log))) reply_is
    ∙ ack_send a.exercise n k s (pdu_text (answer a (known a (distinct a qs)) q stamp)) (answer a (known a (distinct a qs)) q stamp) (Get s b ∷ log)
    (answer_means a (known a (distinct a qs)) q stamp own (text_of (reply a qs q stamp) (answer a (known a (distinct a qs)) q stamp) reply_is text))
    ∙ ap (λ (v : Bool). responds_under n k (answer a (known a (distinct a qs)) q stamp) || v) (ack_get a.exercise n k s b log ∙ rest)
    ∙ acks_fresh a r p q (distinct a qs) n stamp k to key own none (is_under_key r q) refl
    ∙ sym (ap (acked_as a n k) (ap (first_under r) same ∙ first_more r q (distinct a qs)))

-- WHICH ACKNOWLEDGES a log of turns sends under the key of an answer to r: those of the first of the distinct requests under the key of r
pub acks_turns : (a : AppProfile) (s : ℕ) (ts : List OwnTurn) → AreMeant a true ts → (r p : Pdu) → GoesTo r p → (n : ℕ) (k : AcknowledgeKey) → IsKeyOf k p
    → was_acknowledged a.exercise n k (log_in a s ts) ≡ acked_as a n k (first_under r (distinct a (taken_in ts)))
acks_turns a s [] are r p to n k key = ack_start a.exercise n k ∙ sym (ap (acked_as a n k) (none_under r))
acks_turns a s (Tells e y ∷ ts) are r p to n k key = ack_tell a.exercise n k s e y (log_in a s ts) ∙ acks_turns a s ts are r p to n k key
acks_turns a s (Orders b o ∷ ts) are r p to n k key =
    ack_send a.exercise n k s b o (log_in a s ts) are.0.means ∙ ap (λ (v : Bool). v || was_acknowledged a.exercise n k (log_in a s ts))
    (silent o n k are.0.request) ∙ acks_turns a s ts are.1 r p to n k key
acks_turns a s (Passes b ∷ ts) are r p to n k key = ack_get a.exercise n k s b (log_in a s ts) ∙ acks_turns a s ts are r p to n k key
acks_turns a s (Takes b q stamp ∷ ts) are r p to n k key =
    acks_taken a r p q s stamp n k b (taken_in ts) (log_in a s ts) to key are.1 (course a (distinct a (taken_in ts)) q stamp)
    (acks_turns a s ts are.2 r p to n k key)
acks_turns a s (Loses b q stamp ∷ ts) are r p to n k key = let clash : true ≡ false = are.1 in absurd cc
