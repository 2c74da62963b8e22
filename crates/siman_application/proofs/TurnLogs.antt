-- In a log of turns no answer has a cause against it.
use Rattle.std.proofs.Common.{◌≡◌, ℕ, List, [], ◌∷◌, refl, ap, sym, ◌∙◌, subst, arith}
use Rattle.std.specs.Prelude.{Bool, true, false, ◌==◌, ◌&&◌, ◌||◌, not, is_none, is_some, Option, Some, None}
use Rattle.std.specs.Option.{option_map_or}
use Rattle.std.proofs.lemmas.Bool.Decides.{nat_tests}
use Rattle.std.proofs.lemmas.Bool.{and_from}
use Rattle.dis_records.specs.declared.entity_state.EntityState.{EntityState}
use Rattle.siman_pdus.specs.declared.pdu.Pdu.{Pdu}
use Rattle.siman_pdus.specs.declared.roles.Role.{Role}
use Rattle.siman_pdus.specs.declared.roles.Role.TheVariants as roles
use Rattle.siman_pdus.specs.Answers.{same_id, is_answer_to}
use Rattle.siman_pdus.specs.Role.{role_of, is_request_role, is_request_body}
use Rattle.siman_pdus.specs.Same.{IsSameOrder}
use Rattle.siman_pdus.specs.Spelling.{carried, pdu_text}
use Rattle.exercise_model.specs.declared.acknowledge.AcknowledgeKey.{AcknowledgeKey}
use Rattle.exercise_model.specs.declared.cause.Cause.{Cause}
use Rattle.exercise_model.specs.declared.cause.Cause.TheVariants.{WrongSender, ReusedIdentifier, NoRequest, WrongAnswer, ChangedAnswer, Impossible}
use Rattle.exercise_model.specs.declared.state.Change.{Change}
use Rattle.exercise_model.specs.History.{History, Get}
use Rattle.exercise_model.specs.Setting.{is_from}
use Rattle.exercise_model.specs.Meaning.{meaning}
use Rattle.exercise_model.specs.Exchange.{is_answer_role, is_answer_body, request_taken_up}
use Rattle.exercise_model.specs.Change.{able, unable, responds, key_of, responds_under, response_of, same_key, was_acknowledged, is_change}
use Rattle.exercise_model.specs.State.{changed, change_of, state_after}
use Rattle.exercise_model.specs.Cause.{first_cause, is_reused, is_changed_answer, is_hopeless, is_impossible, send_cause}
use Rattle.exercise_model.proofs.Offered.{received_keeps}
use Rattle.siman_application.specs.AppProfile.{AppProfile}
use Rattle.siman_application.specs.Distinct.{Placed, is_for, first_under, with_request, distinct}
use Rattle.siman_application.specs.Answer.{answer}
use Rattle.siman_application.specs.Play.{known, reply, state_over}
use Rattle.siman_application.specs.Ranges.{IsProfileInRange}
use Rattle.siman_application.specs.OwnLog.{OwnTurn, Tells, Orders, Passes, Takes, Loses, taken_in, sent_after, log_in, is_due, AnswersHaveNoCause}
use Rattle.siman_application.proofs.Answered.{IsAnswer, is_answer, equal_self}
use Rattle.siman_application.proofs.Played.{key_is}
use Rattle.siman_application.proofs.Replies.{for_at}
use Rattle.siman_application.proofs.Meant.{IsReplyText, IsTaken, AreMeant}
use Rattle.siman_application.proofs.Turns.{same_key_of, first_same, first_has, answer_at, Course, Foreign, Fresh, Same, Other, course, AreSettled, PassedAlike}
use Rattle.siman_application.proofs.Acks.{goes, responds_stamped, ack_get, acked_as, acks_turns}
use Rattle.siman_application.proofs.TurnStates.{not_change, again_no_change, fresh_acks, takes_up, first_then, answers_same, change_same, known_text, states_turns}

-- Causes.

causes : Bool → Bool → Bool → Bool → Bool → Bool → Option Cause
causes b c d e f g =
    first_cause ((b, WrongSender) ∷ (c, ReusedIdentifier) ∷ (d, NoRequest) ∷ (e, WrongAnswer) ∷ (f, ChangedAnswer) ∷ (g, Impossible) ∷ [])

no_causes : (b c d e f g : Bool) → b ≡ false → c ≡ false → d ≡ false → e ≡ false → f ≡ false → g ≡ false → causes b c d e f g ≡ None
unfolding causes
no_causes b c d e f g p q r s t u = rw (p, q, r, s, t, u) refl

and_false : (b c : Bool) → c ≡ false → (b && c) ≡ false
and_false true c e = e
and_false false c e = refl

false_and : (b c : Bool) → b ≡ false → (b && c) ≡ false
false_and b c e = ap (λ (v : Bool). v && c) e

none_sent : (x : ℕ) (a : AppProfile) (log : History) (p f : Pdu) → request_taken_up x a.station.address p log ≡ Some f
    → is_from a.station.address p ≡ true → is_request_body p.body ≡ false → is_answer_to p f ≡ true
    → is_changed_answer x p log ≡ false → is_impossible x a.station log p f ≡ false → send_cause x a.station log p ≡ None
unfolding send_cause causes
none_sent x a log p f taken sender request answers changed impossible =
    no_causes (not (is_from a.station.address p)) (is_request_body p.body && is_reused x p log)
    (is_answer_body p.body && is_none (request_taken_up x a.station.address p log))
    (is_answer_body p.body && not (option_map_or (is_answer_to p) (request_taken_up x a.station.address p log) false))
    (is_answer_body p.body && is_changed_answer x p log)
    (is_answer_body p.body && option_map_or (is_impossible x a.station log p) (request_taken_up x a.station.address p log) false)
    (ap not sender) (false_and (is_request_body p.body) (is_reused x p log) request)
    (and_false (is_answer_body p.body) (is_none (request_taken_up x a.station.address p log)) (ap is_none taken))
    (and_false (is_answer_body p.body) (not (option_map_or (is_answer_to p) (request_taken_up x a.station.address p log) false))
    (ap (λ (o : Option Pdu). not (option_map_or (is_answer_to p) o false)) taken ∙ ap not answers))
    (and_false (is_answer_body p.body) (is_changed_answer x p log) changed)
    (and_false (is_answer_body p.body) (option_map_or (is_impossible x a.station log p) (request_taken_up x a.station.address p log) false)
    (ap (λ (o : Option Pdu). option_map_or (is_impossible x a.station log p) o false) taken ∙ impossible))

exclusive_in : (o : Option ℕ) → same_id o (Some able) ≡ true → same_id o (Some unable) ≡ false
exclusive_in None e = absurd cc
exclusive_in (Some n) e = let is : n ≡ 1 = grind (arith, nat_tests) in grind (arith, nat_tests)

neither : (b c y z : Bool) → (b ≡ true → c ≡ true → ⊥) → (b && (c && y) || c && (b && z)) ≡ false
neither true true y z h = absurd (h refl refl)
neither true false y z h = refl
neither false true y z h = refl
neither false false y z h = refl

never_both : (b c : Bool) → (b && false || c && false) ≡ false
never_both true true = refl
never_both true false = refl
never_both false true = refl
never_both false false = refl

-- an answer that comes again is no other than before
again_unchanged : (a : AppProfile) (s stamp : ℕ) (b : List ℕ) (q : Pdu) (f : Placed) (ts : List OwnTurn) → AreMeant a true ts → is_for a f.request ≡ true
    → first_under q (distinct a (taken_in ts)) ≡ Some f
    → is_changed_answer a.exercise (answer_at a f stamp) (Get s b ∷ log_in a s ts) ≡ false
unfolding is_changed_answer
again_unchanged a s stamp b q f ts are own first = by (key_of (answer_at a f stamp)) refl where
  acked : (n : ℕ) (k : AcknowledgeKey) → key_of (answer_at a f stamp) ≡ Some k → was_acknowledged a.exercise n k (Get s b ∷ log_in a s ts) ≡ responds_under n k (answer_at a f stamp)
  acked n k e =
      ack_get a.exercise n k s b (log_in a s ts)
      ∙ acks_turns a s ts are f.request (answer_at a f stamp) (goes a (known a f.before) f.request stamp own) n k (key_is (answer_at a f stamp) k e)
      ∙ ap (acked_as a n k) (sym (first_same q f.request (same_key_of q f.request (first_has q (distinct a (taken_in ts)) f first)) (distinct a (taken_in ts)))
      ∙ first)
      ∙ sym (responds_stamped a f stamp n k own)

  by : (o : Option AcknowledgeKey) → key_of (answer_at a f stamp) ≡ o
      → option_map_or (λ k. (responds able (answer_at a f stamp) && was_acknowledged a.exercise unable k (Get s b ∷ log_in a s ts)) ||
      (responds unable (answer_at a f stamp) && was_acknowledged a.exercise able k (Get s b ∷ log_in a s ts))) o false ≡ false
  by None e = refl
  by (Some k) e =
      ap (λ (v : Bool). (responds able (answer_at a f stamp) && v) ||
      (responds unable (answer_at a f stamp) && was_acknowledged a.exercise able k (Get s b ∷ log_in a s ts))) (acked unable k e)
      ∙ ap (λ (v : Bool). (responds able (answer_at a f stamp) && responds_under unable k (answer_at a f stamp)) ||
      (responds unable (answer_at a f stamp) && v)) (acked able k e)
      ∙ neither (responds able (answer_at a f stamp)) (responds unable (answer_at a f stamp)) (option_map_or (same_key k) (key_of (answer_at a f stamp)) false)
      (option_map_or (same_key k) (key_of (answer_at a f stamp)) false)
      (λ r u. let no : responds unable (answer_at a f stamp) ≡ false = exclusive_in (response_of (answer_at a f stamp).body) r in absurd cc)

fresh_unchanged : (a : AppProfile) (s stamp : ℕ) (b : List ℕ) (q : Pdu) (ts : List OwnTurn) → AreMeant a true ts → is_for a q ≡ true
    → first_under q (distinct a (taken_in ts)) ≡ None
    → is_changed_answer a.exercise (answer a (known a (distinct a (taken_in ts))) q stamp) (Get s b ∷ log_in a s ts) ≡ false
unfolding is_changed_answer
fresh_unchanged a s stamp b q ts are own none = by (key_of (answer a (known a (distinct a (taken_in ts))) q stamp)) refl where
  by : (o : Option AcknowledgeKey) → key_of (answer a (known a (distinct a (taken_in ts))) q stamp) ≡ o
      → option_map_or (λ k.
      (responds able (answer a (known a (distinct a (taken_in ts))) q stamp) && was_acknowledged a.exercise unable k (Get s b ∷ log_in a s ts))
      || (responds unable (answer a (known a (distinct a (taken_in ts))) q stamp) && was_acknowledged a.exercise able k
      (Get s b ∷ log_in a s ts))) o false ≡ false
  by None e = refl
  by (Some k) e =
      ap (λ (v : Bool). (responds able (answer a (known a (distinct a (taken_in ts))) q stamp) && v) ||
      (responds unable (answer a (known a (distinct a (taken_in ts))) q stamp) && was_acknowledged a.exercise able k (Get s b ∷ log_in a s ts)))
      (fresh_acks a s stamp unable b q ts are own none k e)
      ∙ ap (λ (v : Bool). (responds able (answer a (known a (distinct a (taken_in ts))) q stamp) && false) ||
      (responds unable (answer a (known a (distinct a (taken_in ts))) q stamp) && v)) (fresh_acks a s stamp able b q ts are own none k e)
      ∙ never_both (responds able (answer a (known a (distinct a (taken_in ts))) q stamp))
      (responds unable (answer a (known a (distinct a (taken_in ts))) q stamp))

-- what is no change is not impossible
unchanged_possible : (a : AppProfile) (p f : Pdu) (log : History) → is_change a.exercise p log ≡ false
    → is_impossible a.exercise a.station log p f ≡ false
unfolding is_impossible
unchanged_possible a p f log e =
    ap (λ (b : Bool). b && is_hopeless (change_of p f).kind (change_of p f).scope (state_after a.exercise a.station log)) e

fresh_possible : (a : AppProfile) (s stamp : ℕ) (b : List ℕ) (q f : Pdu) (ts : List OwnTurn) → is_for a q ≡ true → IsSameOrder f q
    → ((e : ℕ) → state_after a.exercise a.station (log_in a s ts) e ≡ state_over a (distinct a (taken_in ts)) e)
    → is_impossible a.exercise a.station (Get s b ∷ log_in a s ts) (answer a (known a (distinct a (taken_in ts))) q stamp) f ≡ false
unfolding is_impossible
fresh_possible a s stamp b q f ts own same rest = by (responds able (answer a (known a (distinct a (taken_in ts))) q stamp)) refl where
  by : (v : Bool) → responds able (answer a (known a (distinct a (taken_in ts))) q stamp) ≡ v
      → (is_change a.exercise (answer a (known a (distinct a (taken_in ts))) q stamp) (Get s b ∷ log_in a s ts)
      && is_hopeless (change_of (answer a (known a (distinct a (taken_in ts))) q stamp) f).kind
      (change_of (answer a (known a (distinct a (taken_in ts))) q stamp) f).scope (state_after a.exercise a.station (Get s b ∷ log_in a s ts))) ≡ false
  by false r =
      false_and (is_change a.exercise (answer a (known a (distinct a (taken_in ts))) q stamp) (Get s b ∷ log_in a s ts))
      (is_hopeless (change_of (answer a (known a (distinct a (taken_in ts))) q stamp) f).kind
      (change_of (answer a (known a (distinct a (taken_in ts))) q stamp) f).scope (state_after a.exercise a.station (Get s b ∷ log_in a s ts)))
      (not_change a.exercise (answer a (known a (distinct a (taken_in ts))) q stamp) (Get s b ∷ log_in a s ts)
      (λ yes. let clash : true ≡ false = sym yes ∙ r in absurd cc))
  by true r =
      and_false (is_change a.exercise (answer a (known a (distinct a (taken_in ts))) q stamp) (Get s b ∷ log_in a s ts))
      (is_hopeless (change_of (answer a (known a (distinct a (taken_in ts))) q stamp) f).kind
      (change_of (answer a (known a (distinct a (taken_in ts))) q stamp) f).scope (state_after a.exercise a.station (Get s b ∷ log_in a s ts)))
      (ap (λ (c : Change). is_hopeless c.kind c.scope (state_after a.exercise a.station (Get s b ∷ log_in a s ts)))
      (change_same (answer a (known a (distinct a (taken_in ts))) q stamp) q f same)
      ∙ ap (is_hopeless (change_of (answer a (known a (distinct a (taken_in ts))) q stamp) q).kind
      (change_of (answer a (known a (distinct a (taken_in ts))) q stamp) q).scope)
      (λ i e. (received_keeps a.exercise a.station (log_in a s ts) s b e ∙ rest e) i)
      ∙ ((is_answer a (known a (distinct a (taken_in ts))) q stamp own).able_can r).possible)

-- THE ANSWERS STAND

answer_from : (a : AppProfile) (y : ℕ → EntityState) (q p : Pdu) → IsAnswer a y q p → is_from a.station.address p ≡ true
answer_from a y q p is =
    and_from (p.origin.site == a.station.address.site) (p.origin.application == a.station.address.application)
    (ap (λ (n : ℕ). n == a.station.address.site) is.site ∙ equal_self a.station.address.site)
    (ap (λ (n : ℕ). n == a.station.address.application) is.application ∙ equal_self a.station.address.application)

no_request_by : (r : Role) → is_answer_role r ≡ true → is_request_role r ≡ false
no_request_by roles.Request e = absurd cc
no_request_by roles.Answer e = refl
no_request_by roles.Notice e = absurd cc
no_request_by roles.Outside e = absurd cc

stands_same : (a : AppProfile) (s stamp : ℕ) (b : List ℕ) (q : Pdu) (f : Placed) (ts : List OwnTurn) → IsTaken b q
    → IsReplyText (reply a (taken_in ts) q stamp) → AreMeant a true ts → (is_for a q ≡ true → PassedAlike a q ts) → AreSettled a ts
    → first_under q (distinct a (taken_in ts)) ≡ Some f → with_request a (distinct a (taken_in ts)) q ≡ distinct a (taken_in ts)
    → is_answer_body (answer_at a f stamp).body ≡ true
    → send_cause a.exercise a.station (Get s b ∷ log_in a s ts) (answer_at a f stamp) ≡ None
stands_same a s stamp b q f ts read text are alike settled first same body =
    let kept = for_at a (taken_in ts) q f first in
    let p = answer_at a f stamp in
    let is = is_answer a (known a f.before) f.request stamp kept in
    let found : first_under f.request (distinct a (q ∷ taken_in ts)) ≡ Some f =
    ap (first_under f.request) same ∙ sym (first_same q f.request (same_key_of q f.request (first_has q (distinct a (taken_in ts)) f first))
    (distinct a (taken_in ts))) ∙ first in
    let up = takes_up a s stamp b q f.request p f ts read text are alike settled (goes a (known a f.before) f.request stamp kept) found in
    none_sent a.exercise a (Get s b ∷ log_in a s ts) p up.request up.taken (answer_from a (known a f.before).states f.request p is)
    (no_request_by (role_of p.body) body)
    (answers_same p f.request up.request up.same is.answers) (again_unchanged a s stamp b q f ts are kept first)
    (unchanged_possible a p up.request (Get s b ∷ log_in a s ts) (again_no_change a s stamp b q f ts are kept first))

stands_fresh : (a : AppProfile) → IsProfileInRange a → (s stamp : ℕ) (b : List ℕ) (q : Pdu) (ts : List OwnTurn) → IsTaken b q
    → IsReplyText (reply a (taken_in ts) q stamp) → AreMeant a true ts → (is_for a q ≡ true → PassedAlike a q ts) → AreSettled a ts
    → is_for a q ≡ true → first_under q (distinct a (taken_in ts)) ≡ None → with_request a (distinct a (taken_in ts)) q ≡ q ∷ distinct a (taken_in ts)
    → is_answer_body (answer a (known a (distinct a (taken_in ts))) q stamp).body ≡ true
    → send_cause a.exercise a.station (Get s b ∷ log_in a s ts) (answer a (known a (distinct a (taken_in ts))) q stamp) ≡ None
stands_fresh a station s stamp b q ts read text are alike settled own none same body =
    let ds = distinct a (taken_in ts) in
    let p = answer a (known a ds) q stamp in
    let is = is_answer a (known a ds) q stamp own in
    let up = takes_up a s stamp b q q p (record { request = q; before = ds }) ts read text are alike settled (goes a (known a ds) q stamp own)
    (first_then a q ds own none same) in
    none_sent a.exercise a (Get s b ∷ log_in a s ts) p up.request up.taken (answer_from a (known a ds).states q p is) (no_request_by (role_of p.body) body)
    (answers_same p q up.request up.same is.answers) (fresh_unchanged a s stamp b q ts are own none)
    (fresh_possible a s stamp b q up.request ts own up.same (states_turns a station s ts are settled))

one_of : (p r : Pdu) (o : Option Pdu) → o ≡ Some p → o ≡ Some r → p ≡ r
one_of p r o e f = cc

or_true : (b : Bool) → (b || true) ≡ true
or_true true = refl
or_true false = refl

-- before a turn in which a reply is due, one is due later on
due_later : (a : AppProfile) (later : Bool) (q : Pdu) (stamp : ℕ) (ts : List OwnTurn) (p : Pdu) → reply a (taken_in ts) q stamp ≡ Some p
    → AreMeant a (later || is_due a ts q stamp) ts → AreMeant a true ts
due_later a later q stamp ts p e are = subst (λ (b : Bool). AreMeant a b ts) (ap (λ (o : Option Pdu). later || is_some o) e ∙ or_true later) are

stands_taken : (a : AppProfile) → IsProfileInRange a → (s stamp : ℕ) (later : Bool) (b : List ℕ) (q : Pdu) (ts : List OwnTurn) → IsTaken b q
    → IsReplyText (reply a (taken_in ts) q stamp) → AreMeant a (later || is_due a ts q stamp) ts → (is_for a q ≡ true → PassedAlike a q ts)
    → AreSettled a ts
    → Course a (distinct a (taken_in ts)) q stamp → AnswersHaveNoCause a (log_in a s ts)
    → AnswersHaveNoCause a (sent_after s (reply a (taken_in ts) q stamp) (Get s b ∷ log_in a s ts))
stands_taken a station s stamp later b q ts read text are alike settled (Foreign reply_is same out) rest =
    subst (λ (o : Option Pdu). AnswersHaveNoCause a (sent_after s o (Get s b ∷ log_in a s ts))) (sym reply_is) rest
stands_taken a station s stamp later b q ts read text are alike settled (Other f own first reply_is same) rest =
    subst (λ (o : Option Pdu). AnswersHaveNoCause a (sent_after s o (Get s b ∷ log_in a s ts))) (sym reply_is) rest
stands_taken a station s stamp later b q ts read text are alike settled (Same f own first reply_is same) rest =
    let p = answer_at a f stamp in
    let m = known_text a (taken_in ts) q stamp (known a f.before) f.request (for_at a (taken_in ts) q f first) reply_is text in
    subst (λ (o : Option Pdu). AnswersHaveNoCause a (sent_after s o (Get s b ∷ log_in a s ts))) (sym reply_is) (
      λ r e body. let is : p ≡ r = one_of p r (meaning a.exercise (pdu_text p)) m e in
          subst (λ (w : Pdu). send_cause a.exercise a.station (Get s b ∷ log_in a s ts) w ≡ None) is
          (stands_same a s stamp b q f ts read text (due_later a later q stamp ts p reply_is are) alike settled first same
          (ap (λ (w : Pdu). is_answer_body w.body) is ∙ body)),
      rest,
    )
stands_taken a station s stamp later b q ts read text are alike settled (Fresh own none reply_is same) rest =
    let p = answer a (known a (distinct a (taken_in ts))) q stamp in
    let m = known_text a (taken_in ts) q stamp (known a (distinct a (taken_in ts))) q own reply_is text in
    subst (λ (o : Option Pdu). AnswersHaveNoCause a (sent_after s o (Get s b ∷ log_in a s ts))) (sym reply_is) (
      λ r e body. let is : p ≡ r = one_of p r (meaning a.exercise (pdu_text p)) m e in
          subst (λ (w : Pdu). send_cause a.exercise a.station (Get s b ∷ log_in a s ts) w ≡ None) is
          (stands_fresh a station s stamp b q ts read text (due_later a later q stamp ts p reply_is are) alike settled own none same
          (ap (λ (w : Pdu). is_answer_body w.body) is ∙ body)),
      rest,
    )

pub stands_turns : (a : AppProfile) → IsProfileInRange a → (s : ℕ) (later : Bool) (ts : List OwnTurn) → AreMeant a later ts → AreSettled a ts
    → AnswersHaveNoCause a (log_in a s ts)
stands_turns a station s later [] are settled = tt
stands_turns a station s later (Tells e y ∷ ts) are settled = stands_turns a station s later ts are settled
stands_turns a station s later (Orders b o ∷ ts) are settled = (
  λ r e body. let is : o ≡ r = one_of o r (meaning a.exercise b) are.0.means e in
      let no : is_request_body r.body ≡ false = no_request_by (role_of r.body) body in
      let yes : is_request_body r.body ≡ true = ap (λ (w : Pdu). is_request_body w.body) (sym is) ∙ are.0.request in absurd cc,
  stands_turns a station s later ts are.1 settled,
)
stands_turns a station s later (Passes b ∷ ts) are settled = stands_turns a station s later ts are settled
stands_turns a station s later (Takes b q stamp ∷ ts) are settled =
    stands_taken a station s stamp later b q ts are.0 are.1 are.2 settled.0 settled.1 (course a (distinct a (taken_in ts)) q stamp)
    (stands_turns a station s (later || is_due a ts q stamp) ts are.2 settled.1)
stands_turns a station s later (Loses b q stamp ∷ ts) are settled = stands_turns a station s true ts are.2 settled.1
