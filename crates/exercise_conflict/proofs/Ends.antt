-- Each recording has a run of beginnings of its logs that can't go on.
use Rattle.std.proofs.Common.{◌≡◌, ◌≢◌, ◌⊎◌, inl, inr, ⊎_elim, ℕ, zero, suc, ◌+◌, ◌<◌, ◌≤◌, List, [], ◌∷◌, ◌++◌, get_or, length, cond, Bool, true, false, Option, Some, None, refl, sym, ap, ◌∙◌, subst, arith, append_assoc, append-nil}
use Rattle.std.specs.Prelude.{nat_eq, nat_lt, ◌&&◌}
use Rattle.std.specs.List.{list_all}
use Rattle.std.proofs.lemmas.Bool.{cases_lt, eqb-true, lt-ltb}
use Rattle.exercise_model.specs.declared.cause.Cause.{Cause}
use Rattle.exercise_model.specs.Recording.{PlainRecording, IsRecording}
use Rattle.exercise_model.specs.History.{Event, History, station_of, past, log_at, log_of}
use Rattle.exercise_model.specs.Cause.{cause_of, IsAllowed}
use Rattle.exercise_model.specs.Run.{IsRun, IsBeginning, CoversPrefixes, IsStuck}
use Rattle.exercise_model.proofs.Offered.{beginning_length, length-past, no_log, past_within, same_beginnings}
use Rattle.exercise_audit.specs.Audit.{IsHeld}
use Rattle.exercise_conflict.proofs.Fewer.{fewer_by_logs}
use Rattle.exercise_conflict.proofs.Lacking.{own_first}
use Rattle.exercise_conflict.proofs.Sending.{own_in}

-- the last of a list
LastOf : History → Type 0
LastOf xs = (xs ≡ []) ⊎ ((first : History) × (v : Event) × (xs ≡ first ++ v ∷ []))

last_of : (xs : History) → LastOf xs
unfolding LastOf
last_of [] = inl refl
last_of (x ∷ xs) =
    ⊎_elim
    (λ (none : xs ≡ []). inr ([], x, ap (λ ys. x ∷ ys) none))
    (λ (some : (first : History) × (v : Event) × (xs ≡ first ++ v ∷ [])). inr (x ∷ some.0, some.1, ap (λ ys. x ∷ ys) some.2))
    (last_of xs)

-- an event by which station s may go on
GoesOn : PlainRecording → History → ℕ → Type 0
GoesOn r k s = (v : Event) × IsAllowed r.setting k v × IsBeginning (v ∷ log_at s k) (log_of r s)

too_long : (v : Event) (l whole : History) → l ≡ whole → IsBeginning (v ∷ l) whole → ⊥
too_long v l whole same begins =
    let long = beginning_length (v ∷ l) whole begins in
    let lengths : length l ≡ length whole = ap length same in
    omega (arith, long, lengths)

head_same : (v w : Event) (h k : History) → v ∷ h ≡ w ∷ k → v ≡ w
head_same v w h k e = ap (λ xs. get_or xs 0 v) e

held_or_goes : (r : PlainRecording) (k : History) (s : ℕ) → IsBeginning (log_at s k) (log_of r s) → IsHeld r k s ⊎ GoesOn r k s
unfolding LastOf GoesOn
held_or_goes r k s begins =
    ⊎_elim
    (λ (none : begins.0 ≡ []).
    let same : log_at s k ≡ log_of r s = ap (λ ys. ys ++ log_at s k) (sym none) ∙ begins.1 in
    inl (λ v next _. too_long v (log_at s k) (log_of r s) same next))
    (λ (some : (first : History) × (v : Event) × (begins.0 ≡ first ++ v ∷ [])).
    let v : Event = some.1 in
    let next : IsBeginning (v ∷ log_at s k) (log_of r s) =
    (some.0, sym (append_assoc some.0 (v ∷ []) (log_at s k)) ∙ ap (λ ys. ys ++ log_at s k) (sym some.2) ∙ begins.1) in
    elim (cause_of r.setting k v) as (λ o. cause_of r.setting k v ≡ o → IsHeld r k s ⊎ GoesOn r k s) [
      | None ↦ λ allowed. inr (v, allowed, next)
      | Some cause ↦ λ event_clash. inl (λ w other allowed.
          let same : w ≡ v = head_same w v (log_at s k) (log_at s k) (same_beginnings (w ∷ log_at s k) (v ∷ log_at s k) (log_of r s) other next refl) in
          absurd (cc (sym allowed ∙ ap (cause_of r.setting k) same ∙ event_clash)))
    ] refl)
    (last_of begins.0)

-- so far all stations below n are held, or one goes on
all_held : (r : PlainRecording) (k : History) → CoversPrefixes r k → (n : ℕ) → ((s : ℕ) → s < n → IsHeld r k s) ⊎ ((s : ℕ) × (s < n) × GoesOn r k s)
all_held r k covers zero = inl (λ s below. absurd (omega (arith, below)))
all_held r k covers (suc n) =
    ⊎_elim
    (λ (held : (s : ℕ) → s < n → IsHeld r k s). ⊎_elim
    (λ (here : IsHeld r k n). inl (λ s below. ⊎_elim
    (λ (less : s < n). held s less)
    (λ (most : n ≤ s). let same : n ≡ s = omega (arith, below, most) in subst (IsHeld r k) same here)
    (cases_lt s n)))
    (λ (goes : GoesOn r k n). inr (n, omega arith, goes))
    (held_or_goes r k n (covers.logs n)))
    (λ (goes : (s : ℕ) × (s < n) × GoesOn r k s). inr (goes.0, omega (arith, goes.1), goes.2))
    (all_held r k covers n)

-- the stations that there are not have nothing to do
none_beyond : (r : PlainRecording) (k : History) (s : ℕ) → IsRecording r → length r.setting.stations ≤ s → IsHeld r k s
unfolding log_of
none_beyond r k s limits beyond v next allowed =
    let none : length (log_at s (past r.entries)) ≡ 0 = no_log (length r.setting.stations) (past r.entries) s (past_within r limits) beyond in
    let long = beginning_length (v ∷ log_at s k) (log_at s (past r.entries)) next in
    omega (arith, none, long)

-- a run of beginnings, of stations that there are
record Going (r : PlainRecording) (k : History) : Type 0 where
  pub covers : CoversPrefixes r k
  pub within : list_all (λ v. nat_lt (station_of v) (length r.setting.stations)) k ≡ true

log_other : (s : ℕ) (v : Event) (k : History) → (station_of v ≡ s → ⊥) → log_at s (v ∷ k) ≡ log_at s k
unfolding log_at
log_other s v k apart =
    elim (nat_eq (station_of v) s) as (λ b. nat_eq (station_of v) s ≡ b → cond b (v ∷ log_at s k) (log_at s k) ≡ log_at s k) [
      | true ↦ λ same. absurd (apart (eqb-true _ _ same))
      | false ↦ λ _. refl
    ] refl

same_or_not : (a b : ℕ) → (a ≡ b) ⊎ (a ≡ b → ⊥)
same_or_not a b =
    ⊎_elim
    (λ (less : a < b). inr (λ same. omega (arith, less, same)))
    (λ (most : b ≤ a). ⊎_elim
    (λ (more : b < a). inr (λ same. omega (arith, more, same)))
    (λ (least : a ≤ b). inl (omega (arith, most, least)))
    (cases_lt b a))
    (cases_lt a b)

goes_further : (r : PlainRecording) (k : History) (s : ℕ) → Going r k → s < length r.setting.stations → (goes : GoesOn r k s) → (v : Event) × Going r (v ∷ k)
unfolding GoesOn
goes_further r k s going below goes =
    let v : Event = goes.0 in
    let own : station_of v ≡ s = own_in r s v (log_at s k, goes.2) in
    let logs : (t : ℕ) → IsBeginning (log_at t (v ∷ k)) (log_of r t) =
    λ t. ⊎_elim
    (λ (here : station_of v ≡ t).
    subst (λ u. IsBeginning (log_at u (v ∷ k)) (log_of r u)) here
    (subst (λ l. IsBeginning l (log_of r (station_of v))) (sym (own_first v k))
    (subst (λ u. IsBeginning (v ∷ log_at u k) (log_of r u)) (sym own) goes.2)))
    (λ (other : station_of v ≡ t → ⊥). subst (λ l. IsBeginning l (log_of r t)) (sym (log_other t v k other)) (going.covers.logs t))
    (same_or_not (station_of v) t) in (
      v,
      record {
        covers = record { run = (going.covers.run, goes.1); logs = logs };
        within = ap (λ b. b && list_all (λ v. nat_lt (station_of v) (length r.setting.stations)) k) (lt-ltb (station_of v) (length r.setting.stations) (omega (arith, own, below)))
            ∙ going.within;
      },
    )

-- it has no more events than there are entries
few_events : (r : PlainRecording) (k : History) → Going r k → length k ≤ length r.entries
unfolding log_of
few_events r k going =
    let fewer = fewer_by_logs (length r.setting.stations) k (past r.entries) going.within
    (λ s. beginning_length (log_at s k) (log_at s (past r.entries)) (going.covers.logs s)) in
    omega (arith, fewer, length-past r.entries)

go_on : (r : PlainRecording) → IsRecording r → (fuel : ℕ) (k : History) → Going r k → length r.entries < length k + fuel → (end : History) × IsStuck r end
unfolding GoesOn
go_on r limits zero k going enough = absurd (omega (arith, enough, few_events r k going))
go_on r limits (suc fuel) k going enough =
    ⊎_elim
    (λ (held : (s : ℕ) → s < length r.setting.stations → IsHeld r k s). (
      k,
      record {
        covers = going.covers;
        stuck = λ v next. ⊎_elim
            (λ (below : station_of v < length r.setting.stations). held (station_of v) below v next)
            (λ (beyond : length r.setting.stations ≤ station_of v). none_beyond r k (station_of v) limits beyond v next)
            (cases_lt (station_of v) (length r.setting.stations));
      },
    ))
    (λ (goes : (s : ℕ) × (s < length r.setting.stations) × GoesOn r k s).
    let next = goes_further r k goes.0 going goes.1 goes.2 in
    go_on r limits fuel (next.0 ∷ k) next.1 (omega (arith, enough)))
    (all_held r k going.covers (length r.setting.stations))

-- THERE IS AN END
pub some_end : (r : PlainRecording) → IsRecording r → (end : History) × IsStuck r end
unfolding log_at
some_end r limits =
    go_on r limits (suc (length r.entries)) []
    (record { covers = record { run = tt; logs = λ s. (log_of r s, append-nil (log_of r s)) }; within = refl }) (omega arith)
