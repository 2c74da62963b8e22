-- The laws of the logs that a station writes, and of requests that come again.
use Rattle.std.proofs.Common.{◌≡◌, ℕ, List, [], ◌∷◌, ◌++◌, inl, inr, refl, ap, sym, ◌∙◌, subst}
use Rattle.std.specs.Prelude.{Bool, true, false, ◌&&◌, ◌||◌, is_none, option_and_then, Option, Some, None, if◌then◌else◌}
use Rattle.siman_pdus.specs.declared.pdu.Pdu.{Pdu}
use Rattle.siman_pdus.specs.Reading.{reading}
use Rattle.exercise_model.specs.History.{History, Get}
use Rattle.exercise_model.specs.Meaning.{meant, meaning}
use Rattle.exercise_model.specs.State.{state_after}
use Rattle.siman_application.specs.AppProfile.{AppProfile}
use Rattle.siman_application.specs.Distinct.{is_for, first_under, with_request, distinct}
use Rattle.siman_application.specs.Play.{state_over, reply, reply_after}
use Rattle.siman_application.specs.Application.{ApplicationData, Takes, came}
use Rattle.siman_application.specs.OwnLog.{OwnTurn, Tells, Orders, Passes, Takes as takes, Loses, taken_in, sent_after, log_in, is_due, IsOwnLog, MissNone, TakesAll, HasGet, AreOneOrder, IsClear, AnswersHaveNoCause}
use Rattle.siman_application.proofs.Answered.{for_parts}
use Rattle.siman_application.proofs.Meanings.{taken_means}
use Rattle.siman_application.proofs.Meant.{AreMeant, meant_turns}
use Rattle.siman_application.proofs.Turns.{PassedAlike, AreSettled, Course, Foreign, Fresh, Same, Other, course}
use Rattle.siman_application.proofs.TurnStates.{states_turns}
use Rattle.siman_application.proofs.TurnLogs.{stands_turns}

-- What was passed.

unread : (x : ℕ) (b : List ℕ) → reading b ≡ None → meaning x b ≡ None
unfolding meaning
unread x b e = ap (option_and_then (meant x)) e

all_alike : (a : AppProfile) (q : Pdu) (ts : List OwnTurn) → TakesAll ts → PassedAlike a q ts
all_alike a q [] all = tt
all_alike a q (Tells e y ∷ ts) all = all_alike a q ts all
all_alike a q (Orders b o ∷ ts) all = all_alike a q ts all
all_alike a q (Passes b ∷ ts) all =
    (λ p m own under. let none : meaning a.exercise b ≡ None = unread a.exercise b all.0 in absurd cc, all_alike a q ts all.1)
all_alike a q (takes b p stamp ∷ ts) all = all_alike a q ts all
all_alike a q (Loses b p stamp ∷ ts) all = all_alike a q ts all

all_settled : (a : AppProfile) (ts : List OwnTurn) → TakesAll ts → AreSettled a ts
all_settled a [] all = tt
all_settled a (Tells e y ∷ ts) all = all_settled a ts all
all_settled a (Orders b o ∷ ts) all = all_settled a ts all
all_settled a (Passes b ∷ ts) all = all_settled a ts all.1
all_settled a (takes b q stamp ∷ ts) all = (λ own. all_alike a q ts all, all_settled a ts all)
all_settled a (Loses b q stamp ∷ ts) all = (λ own. all_alike a q ts all, all_settled a ts all)

get_sent : (s : ℕ) (o : Option Pdu) (log : History) (c : List ℕ) → HasGet log c → HasGet (sent_after s o log) c
get_sent s None log c h = h
get_sent s (Some p) log c h = h

one_alike : (a : AppProfile) (s : ℕ) (h : History) → AreOneOrder a h → (b : List ℕ) (q : Pdu) → HasGet h b → meaning a.exercise b ≡ Some q
    → is_for a q ≡ true
    → (ts : List OwnTurn) → ((c : List ℕ) → HasGet (log_in a s ts) c → HasGet h c) → PassedAlike a q ts
one_alike a s h one b q got m own [] within = tt
one_alike a s h one b q got m own (Tells e y ∷ ts) within = one_alike a s h one b q got m own ts within
one_alike a s h one b q got m own (Orders d c ∷ ts) within = one_alike a s h one b q got m own ts within
one_alike a s h one b q got m own (Passes c ∷ ts) within = (
  λ p n mine under. one c b p q (within c (inl refl)) got n m (for_parts a p mine).request
      (for_parts a q own).request under,
  one_alike a s h one b q got m own ts (λ d g. within d (inr g)),
)
one_alike a s h one b q got m own (takes c p stamp ∷ ts) within =
    one_alike a s h one b q got m own ts (λ d g. within d (get_sent s (reply a (taken_in ts) p stamp) (Get s c ∷ log_in a s ts) d (inr g)))
one_alike a s h one b q got m own (Loses c p stamp ∷ ts) within = one_alike a s h one b q got m own ts (λ d g. within d (inr g))

one_settled : (a : AppProfile) (s : ℕ) (h : History) → AreOneOrder a h → (later : Bool) (ts : List OwnTurn) → AreMeant a later ts
    → ((c : List ℕ) → HasGet (log_in a s ts) c → HasGet h c) → AreSettled a ts
one_settled a s h one later [] are within = tt
one_settled a s h one later (Tells e y ∷ ts) are within = one_settled a s h one later ts are within
one_settled a s h one later (Orders b o ∷ ts) are within = one_settled a s h one later ts are.1 within
one_settled a s h one later (Passes b ∷ ts) are within = one_settled a s h one later ts are (λ d g. within d (inr g))
one_settled a s h one later (takes b q stamp ∷ ts) are within =
    let after = get_sent s (reply a (taken_in ts) q stamp) (Get s b ∷ log_in a s ts) in (
      λ own. one_alike a s h one b q (within b (after b (inl refl))) (taken_means a b q are.0.read own) own ts (λ d g. within d (after d (inr g))),
      one_settled a s h one (later || is_due a ts q stamp) ts are.2 (λ d g. within d (after d (inr g))),
    )
one_settled a s h one later (Loses b q stamp ∷ ts) are within = (
  λ own. one_alike a s h one b q (within b (inl refl)) (taken_means a b q are.0.read own) own ts (λ d g. within d (inr g)),
  one_settled a s h one true ts are.2 (λ d g. within d (inr g)),
)

settled : (a : AppProfile) (s : ℕ) (ts : List OwnTurn) (h : History) → log_in a s ts ≡ h → AreMeant a false ts → IsClear a ts h → AreSettled a ts
settled a s ts h e are (inl all) = all_settled a ts all
settled a s ts h e are (inr one) = one_settled a s h one false ts are (λ c g. subst (λ (log : History). HasGet log c) e g)

-- The laws.

pub answers_stand : (a : AppProfile) (s : ℕ) (ts : List OwnTurn) (h : History) (qs : List Pdu) → IsOwnLog a s ts h qs → IsClear a ts h → AnswersHaveNoCause a h
answers_stand a s ts h qs own clear =
    let are = meant_turns a own.outfit false ts own.turns in
    subst (AnswersHaveNoCause a) own.log_is (stands_turns a own.outfit s false ts are (settled a s ts h own.log_is are clear))

miss_none : (a : AppProfile) (later : Bool) (ts : List OwnTurn) → MissNone ts → AreMeant a later ts → AreMeant a true ts
miss_none a later [] none are = tt
miss_none a later (Tells e y ∷ ts) none are = miss_none a later ts none are
miss_none a later (Orders b o ∷ ts) none are = (are.0, miss_none a later ts none are.1)
miss_none a later (Passes b ∷ ts) none are = miss_none a later ts none are
miss_none a later (takes b q stamp ∷ ts) none are = (are.0, are.1, miss_none a (later || is_due a ts q stamp) ts none are.2)
miss_none a later (Loses b q stamp ∷ ts) none are = absurd none

pub states_stand : (a : AppProfile) (s : ℕ) (ts : List OwnTurn) (h : History) (qs : List Pdu) → IsOwnLog a s ts h qs → IsClear a ts h → MissNone ts → (e : ℕ)
    → state_after a.exercise a.station h e ≡ state_over a (distinct a qs) e
states_stand a s ts h qs own clear none e =
    let are = meant_turns a own.outfit false ts own.turns in
    ap (λ (log : History). state_after a.exercise a.station log e) (sym own.log_is)
    ∙ states_turns a own.outfit s ts (miss_none a false ts none are) (settled a s ts h own.log_is are clear) e
    ∙ ap (λ (rs : List Pdu). state_over a (distinct a rs) e) own.taken_is

-- Requests that come again.

pub again_same : (a : AppProfile) (q : Pdu) (newer older : List Pdu) → (is_for a q && is_none (first_under q (distinct a older))) ≡ false
    → distinct a (newer ++ q ∷ older) ≡ distinct a (newer ++ older)
again_same a q [] older e = ap (λ (b : Bool). if b then q ∷ distinct a older else distinct a older) e
again_same a q (r ∷ newer) older e = ap (λ (ds : List Pdu). with_request a ds r) (again_same a q newer older e)

once_by : (a : AppProfile) (q : Pdu) (ds : List Pdu) → distinct a ds ≡ ds → Course a ds q 0 → distinct a (with_request a ds q) ≡ with_request a ds q
once_by a q ds rest (Foreign reply_is same out) = ap (distinct a) same ∙ rest ∙ sym same
once_by a q ds rest (Same f own first reply_is same) = ap (distinct a) same ∙ rest ∙ sym same
once_by a q ds rest (Other f own first reply_is same) = ap (distinct a) same ∙ rest ∙ sym same
once_by a q ds rest (Fresh own none reply_is same) = ap (distinct a) same ∙ ap (λ (xs : List Pdu). with_request a xs q) rest

pub once_same : (a : AppProfile) (qs : List Pdu) → distinct a (distinct a qs) ≡ distinct a qs
once_same a [] = refl
once_same a (q ∷ qs) = once_by a q (distinct a qs) (once_same a qs) (course a (distinct a qs) q 0)

-- Steps.

pub steps_on : (old new : ApplicationData) (qs : List Pdu) (q : Pdu) → Takes old q new → came old ≡ distinct old.outfit qs
    → came new ≡ distinct new.outfit (q ∷ qs)
steps_on old new qs q step e =
    step.came_is ∙ ap (λ (ds : List Pdu). with_request old.outfit ds q) e ∙ ap (λ (a : AppProfile). with_request a (distinct a qs) q) (sym step.outfit)

pub replies_on : (s : ApplicationData) (qs : List Pdu) (q : Pdu) (stamp : ℕ) → came s ≡ distinct s.outfit qs
    → reply_after s.outfit (came s) q stamp ≡ reply s.outfit qs q stamp
replies_on s qs q stamp e = ap (λ (ds : List Pdu). reply_after s.outfit ds q stamp) e
