-- The way back to a station, one step more at a time.
use Rattle.std.proofs.Common.{◌≡◌, ◌≢◌, ℕ, suc, ◌+◌, ◌-◌, ◌<◌, List, [], ◌∷◌, ◌++◌, cond, Option, Some, None, true, false, refl, sym, ap, ◌∙◌, arith, append_assoc, append-nil}
use Rattle.std.specs.Prelude.{nat_lt, option_map, option_and_then}
use Rattle.std.proofs.lemmas.Bool.{eq-eqb, ne_eqb, lt-ltb, le-ltb}
use Rattle.exercise_model.specs.declared.station.TheConstants.{MOST_STATIONS}
use Rattle.exercise_conflict.specs.declared.waits.Wait.{Wait}
use Rattle.exercise_conflict.specs.Cycles.{wait_at, waiting_path, IsWaitingPath}

-- what stands behind what stood there begins the way back, which goes on from `place`
pub record IsSoFar (waits : List Wait) (s from : ℕ) (old new : List ℕ) (place step : ℕ) : Type 0 where
  pub done : List ℕ
  pub added : new ≡ old ++ done
  pub goes : (left : ℕ) → left + step ≡ MOST_STATIONS → waiting_path waits s from MOST_STATIONS ≡ option_map (λ rest. done ++ rest) (waiting_path waits s place left)

-- ---- one step

none_left : (waits : List Wait) (s t : ℕ) → waiting_path waits s t 0 ≡ None
unfolding waiting_path
none_left waits s t = refl

back_there : (waits : List Wait) (s t n : ℕ) → t ≡ s → waiting_path waits s t (suc n) ≡ Some []
unfolding waiting_path
back_there waits s t n same =
    ap (λ b. cond b (Some []) (cond (nat_lt s t) (option_and_then (λ w. option_map (λ way. t ∷ way) (waiting_path waits s w.on n)) (wait_at waits t)) None)) (eq-eqb t s same)

not_there : (waits : List Wait) (s t n : ℕ) → t ≢ s → waiting_path waits s t (suc n)
    ≡ cond (nat_lt s t) (option_and_then (λ w. option_map (λ way. t ∷ way) (waiting_path waits s w.on n)) (wait_at waits t)) None
unfolding waiting_path
not_there waits s t n apart =
    ap (λ b. cond b (Some []) (cond (nat_lt s t) (option_and_then (λ w. option_map (λ way. t ∷ way) (waiting_path waits s w.on n)) (wait_at waits t)) None)) (ne_eqb t s apart)

back_below : (waits : List Wait) (s t n : ℕ) → t < s → waiting_path waits s t (suc n) ≡ None
back_below waits s t n less =
    not_there waits s t n (λ same. omega (arith, less, same))
    ∙ ap (λ b. cond b (option_and_then (λ w. option_map (λ way. t ∷ way) (waiting_path waits s w.on n)) (wait_at waits t)) None) (le-ltb s t (omega (arith, less)))

back_above : (waits : List Wait) (s t n : ℕ) → s < t → waiting_path waits s t (suc n)
    ≡ option_and_then (λ w. option_map (λ way. t ∷ way) (waiting_path waits s w.on n)) (wait_at waits t)
back_above waits s t n more =
    not_there waits s t n (λ same. omega (arith, more, same))
    ∙ ap (λ b. cond b (option_and_then (λ w. option_map (λ way. t ∷ way) (waiting_path waits s w.on n)) (wait_at waits t)) None) (lt-ltb s t more)

-- ---- the loop

kept : (o : Option (List ℕ)) → o ≡ option_map (λ rest. [] ++ rest) o
kept None = refl
kept (Some xs) = refl

pub begins : (waits : List Wait) (s from : ℕ) (old : List ℕ) → IsSoFar waits s from old old from 0
begins waits s from old = record {
  done = [];
  added = sym (append-nil old);
  goes = λ left all. let same : MOST_STATIONS ≡ left = omega (arith, all) in ap (waiting_path waits s from) same ∙ kept (waiting_path waits s from left);
}

-- what is left, where a step is taken
abbrev rest_of : List Wait → ℕ → ℕ
rest_of waits step = MOST_STATIONS - (step + 1)

at_left : (waits : List Wait) (s from : ℕ) (old new : List ℕ) (place step : ℕ) → (far : IsSoFar waits s from old new place step) → step < MOST_STATIONS
    → waiting_path waits s from MOST_STATIONS ≡ option_map (λ rest. far.done ++ rest) (waiting_path waits s place (suc (rest_of waits step)))
at_left waits s from old new place step far less = far.goes (suc (rest_of waits step)) (omega (arith, less))

pub arrives : (waits : List Wait) (s from : ℕ) (old new : List ℕ) (place step : ℕ) → IsSoFar waits s from old new place step → step < MOST_STATIONS
    → place ≡ s → IsWaitingPath waits s from old new true
arrives waits s from old new place step far less same = (
  far.done,
  at_left waits s from old new place step far less
      ∙ ap (option_map (λ rest. far.done ++ rest)) (back_there waits s place (rest_of waits step) same)
      ∙ ap Some (append-nil far.done),
  far.added,
)

pub falls : (waits : List Wait) (s from : ℕ) (old new : List ℕ) (place step : ℕ) → IsSoFar waits s from old new place step → step < MOST_STATIONS
    → place < s → IsWaitingPath waits s from old new false
falls waits s from old new place step far less below =
    at_left waits s from old new place step far less
    ∙ ap (option_map (λ rest. far.done ++ rest)) (back_below waits s place (rest_of waits step) below)

pub stops : (waits : List Wait) (s from : ℕ) (old new : List ℕ) (place step : ℕ) → IsSoFar waits s from old new place step → step < MOST_STATIONS
    → s < place → wait_at waits place ≡ None → IsWaitingPath waits s from old new false
stops waits s from old new place step far less above none =
    at_left waits s from old new place step far less
    ∙ ap (option_map (λ rest. far.done ++ rest)) (back_above waits s place (rest_of waits step) above
    ∙ ap (option_and_then (λ w. option_map (λ way. place ∷ way) (waiting_path waits s w.on (rest_of waits step)))) none)

joined : (done : List ℕ) (place : ℕ) (o : Option (List ℕ))
    → option_map (λ rest. done ++ rest) (option_map (λ way. place ∷ way) o) ≡ option_map (λ rest. (done ++ place ∷ []) ++ rest) o
joined done place None = refl
joined done place (Some xs) = ap Some (sym (append_assoc done (place ∷ []) xs))

pub goes_on : (waits : List Wait) (s from : ℕ) (old new more : List ℕ) (place step : ℕ) (w : Wait) → IsSoFar waits s from old new place step
    → step < MOST_STATIONS → s < place → wait_at waits place ≡ Some w → more ≡ new ++ place ∷ [] → IsSoFar waits s from old more w.on (step + 1)
goes_on waits s from old new more place step w far less above is pushed = record {
  done = far.done ++ place ∷ [];
  added = pushed ∙ ap (λ xs. xs ++ place ∷ []) far.added ∙ append_assoc old far.done (place ∷ []);
  goes = λ left all. far.goes (suc left) (omega (arith, all))
      ∙ ap (option_map (λ rest. far.done ++ rest)) (back_above waits s place left above
      ∙ ap (option_and_then (λ w. option_map (λ way. place ∷ way) (waiting_path waits s w.on left))) is)
      ∙ joined far.done place (waiting_path waits s w.on left);
}

pub ends : (waits : List Wait) (s from : ℕ) (old new : List ℕ) (place step : ℕ) → IsSoFar waits s from old new place step → step ≡ MOST_STATIONS
    → IsWaitingPath waits s from old new false
ends waits s from old new place step far all =
    far.goes 0 (omega (arith, all)) ∙ ap (option_map (λ rest. far.done ++ rest)) (none_left waits s place)
