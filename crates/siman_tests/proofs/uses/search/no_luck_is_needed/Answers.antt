-- The event of another station is in no log but its own.
use Rattle.std.proofs.Common.{Bool, [], false, refl, sym, true, ℕ, ◌==◌, ◌∷◌, ◌≡◌}
use Rattle.exercise_model.specs.History.{Event, History, log_at, station_of}
use Rattle.exercise_model.specs.Run.{IsBeginning}
use Rattle.siman_tests.proofs.uses.search.no_luck_is_needed.Goals as goal

same_log : (s : ℕ) (u : Event) (h : History) → (station_of u == s) ≡ false → log_at s (u ∷ h) ≡ log_at s h
unfolding log_at
same_log s u h e = rw e refl

longer_log : (s : ℕ) (u : Event) (h : History) → (station_of u == s) ≡ true → log_at s (u ∷ h) ≡ u ∷ log_at s h
unfolding log_at
longer_log s u h e = rw e refl

begins : (s : ℕ) (u : Event) (h : History) → IsBeginning (log_at s h) (log_at s (u ∷ h))
begins s u h = by (station_of u == s) refl where
  by : (b : Bool) → (station_of u == s) ≡ b → IsBeginning (log_at s h) (log_at s (u ∷ h))
  by true e = (u ∷ [], sym (longer_log s u h e))
  by false e = ([], sym (same_log s u h e))

pub returns-clause-later : goal.returns-clause-later
returns-clause-later c = λ h v u other allowed.
    c.allowed_stays_allowed.ensures c.args.recording.now.setting h (u ∷ h) v (sym (same_log (station_of v) u h other)) (λ s. begins s u h) allowed
