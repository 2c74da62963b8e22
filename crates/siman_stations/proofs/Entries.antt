-- Entries and the log of a station: how it goes on by entries of its own, and not by those of another.
use Rattle.std.proofs.Common.{◌≡◌, ℕ, List, [], ◌∷◌, ◌++◌, refl, ap, sym, ◌∙◌}
use Rattle.std.specs.Prelude.{Bool, true, false, ◌==◌, cond, Option, Some, None, if◌then◌else◌}
use Rattle.std.specs.List.{AllByRecursion}
use Rattle.std.proofs.lemmas.Bool.{eq-eqb}
use Rattle.siman_pdus.specs.declared.pdu.Pdu.{Pdu}
use Rattle.siman_pdus.specs.Spelling.{pdu_text}
use Rattle.exercise_model.specs.Entry.{Entry, Sent, Received}
use Rattle.exercise_model.specs.History.{Event, Get, History, event_of, station_of, past, log_at}
use Rattle.exercise_model.proofs.Offered.{log_at-append, past-append}
use Rattle.siman_application.specs.OwnLog.{sent_after}
use Rattle.siman_stations.specs.StationTurn.{sent_as, AreOf}

-- a history that goes on by one entry
pub past-one : (e : Entry) → past (e ∷ []) ≡ event_of e ∷ []
unfolding past
past-one e = refl

pub past-first : (e : Entry) (es : List Entry) → past (e ∷ es) ≡ past es ++ event_of e ∷ []
past-first e es = past-append (e ∷ []) es ∙ ap (λ (h : History). past es ++ h) (past-one e)

pub past-none : past [] ≡ []
unfolding past
past-none = refl

pub past-sent : (s now : ℕ) (o : Option Pdu) (log : History) → past (sent_as s now o) ++ log ≡ sent_after s o log
past-sent s now None log = ap (λ (h : History). h ++ log) past-none
past-sent s now (Some p) log = ap (λ (h : History). h ++ log) (past-one (Sent s now (pdu_text p)))

past-reply : (s now : ℕ) (b : List ℕ) (o : Option Pdu) → past (sent_as s now o) ++ Get s b ∷ [] ≡ sent_after s o (Get s b ∷ [])
past-reply s now b o = past-sent s now o (Get s b ∷ [])

after-on : (s : ℕ) (b : List ℕ) (o : Option Pdu) (log : History) → sent_after s o (Get s b ∷ []) ++ log ≡ sent_after s o (Get s b ∷ log)
after-on s b None log = refl
after-on s b (Some p) log = refl

-- what is received, and the reply that is sent, as events
pub past-came : (s now : ℕ) (b : List ℕ) (o : Option Pdu) (log : History) → past (Received s now b ∷ sent_as s now o) ++ log ≡ sent_after s o (Get s b ∷ log)
past-came s now b o log =
    ap (λ (h : History). h ++ log) (past-first (Received s now b) (sent_as s now o) ∙ past-reply s now b o) ∙ after-on s b o log

-- Entries of one station.

pub own_sent : (s now : ℕ) (o : Option Pdu) → AreOf s (sent_as s now o)
own_sent s now None = tt
own_sent s now (Some p) = (refl, tt)

-- the log of a station where a history goes on by one event of it
pub log-first : (s : ℕ) (v : Event) (h : History) → station_of v ≡ s → log_at s (v ∷ h) ≡ v ∷ log_at s h
unfolding log_at
log-first s v h e = ap (λ (b : Bool). cond b (v ∷ log_at s h) (log_at s h)) (eq-eqb (station_of v) s e)

log-one : (t s : ℕ) (v : Event) (b : Bool) → station_of v ≡ t → (t == s) ≡ b → log_at s (v ∷ []) ≡ (if b then v ∷ [] else [])
unfolding log_at
log-one t s v b at e = ap (λ (n : ℕ). cond (n == s) (v ∷ []) []) at ∙ ap (λ (x : Bool). cond x (v ∷ []) []) e

log-all : (t s : ℕ) (b : Bool) (es : List Entry) → (t == s) ≡ b → AreOf t es → log_at s (past es) ≡ (if b then past es else [])
unfolding past log_at
log-all t s true [] e at = refl
log-all t s false [] e at = refl
log-all t s true (x ∷ es) e at =
    ap (log_at s) (past-first x es) ∙ log_at-append s (past es) (event_of x ∷ [])
    ∙ ap (λ (h : History). h ++ log_at s (event_of x ∷ [])) (log-all t s true es e at.1)
    ∙ ap (λ (h : History). past es ++ h) (log-one t s (event_of x) true at.0 e)
    ∙ sym (past-first x es)
log-all t s false (x ∷ es) e at =
    ap (log_at s) (past-first x es) ∙ log_at-append s (past es) (event_of x ∷ [])
    ∙ ap (λ (h : History). h ++ log_at s (event_of x ∷ [])) (log-all t s false es e at.1)
    ∙ log-one t s (event_of x) false at.0 e

-- the log of a station goes on by entries of its own
pub log-own : (s : ℕ) (es more : List Entry) → AreOf s more → log_at s (past (es ++ more)) ≡ past more ++ log_at s (past es)
log-own s es more own =
    ap (log_at s) (past-append es more) ∙ (log_at-append s (past more) (past es)
    ∙ ap (λ (h : History). h ++ log_at s (past es)) (log-all s s true more (eq-eqb s s refl) own))

-- and not by those of another
pub log-other : (t s : ℕ) (es more : List Entry) → (t == s) ≡ false → AreOf t more → log_at s (past (es ++ more)) ≡ log_at s (past es)
log-other t s es more apart own =
    ap (log_at s) (past-append es more) ∙ (log_at-append s (past more) (past es)
    ∙ ap (λ (h : History). h ++ log_at s (past es)) (log-all t s false more apart own))

-- What is said of each of two lists is said of both.
pub all_append : {X : Type 0} (P : X → Type 0) (xs ys : List X) → AllByRecursion P xs → AllByRecursion P ys → AllByRecursion P (xs ++ ys)
all_append P [] ys all more = more
all_append P (x ∷ xs) ys all more = (all.0, all_append P xs ys all.1 more)
