-- Where a way goes round, the cycle is told at the least station of the ring.
use Rattle.std.proofs.Common.{◌≡◌, ◌≢◌, ⊎_elim, ℕ, zero, suc, ◌+◌, ◌-◌, ◌<◌, ◌≤◌, List, [], ◌∷◌, cond, Some, None, true, false, refl, sym, ap, ◌∙◌, subst, arith}
use Rattle.std.specs.Prelude.{nat_eq, nat_lt, option_map, option_and_then}
use Rattle.std.proofs.lemmas.Bool.{cases_lt, eqb-true, eq-eqb, lt-ltb}
use Rattle.std.proofs.lemmas.Option.{same_Some}
use Rattle.exercise_model.specs.declared.station.TheConstants.{MOST_STATIONS}
use Rattle.exercise_conflict.specs.declared.waits.Wait.{Wait}
use Rattle.exercise_conflict.specs.Cycles.{wait_at, waiting_path, cycle_at, station_reached, IsCircular, IsTold}

-- ---- steps after steps

come_on : (waits : List Wait) (s n : ℕ) → station_reached waits s (suc n) ≡ option_and_then (λ t. option_map (λ (w : Wait). w.on) (wait_at waits t)) (station_reached waits s n)
unfolding station_reached
come_on waits s n = refl

come_none : (waits : List Wait) (s : ℕ) → station_reached waits s 0 ≡ Some s
unfolding station_reached
come_none waits s = refl

-- as many steps more as from where one came to
come_more : (waits : List Wait) (s i t : ℕ) → station_reached waits s i ≡ Some t → (j : ℕ) → station_reached waits s (j + i) ≡ station_reached waits t j
come_more waits s i t is zero =
    let same : 0 + i ≡ i = omega arith in
    ap (station_reached waits s) same ∙ is ∙ sym (come_none waits t)
come_more waits s i t is (suc j) =
    let next : suc j + i ≡ suc (j + i) = omega arith in
    ap (station_reached waits s) next ∙ come_on waits s (j + i)
    ∙ ap (option_and_then (λ t. option_map (λ (w : Wait). w.on) (wait_at waits t))) (come_more waits s i t is j) ∙ sym (come_on waits t j)

-- whoever came so far came less far
record Comes (waits : List Wait) (s n : ℕ) : Type 0 where
  pub station : ℕ
  pub is : station_reached waits s n ≡ Some station

came_before : (waits : List Wait) (s n : ℕ) → Comes waits s (suc n) → Comes waits s n
came_before waits s n comes =
    elim (station_reached waits s n) as (λ o. station_reached waits s n ≡ o → option_and_then (λ t. option_map (λ (w : Wait). w.on) (wait_at waits t)) o ≡ Some comes.station → Comes waits s n) [
      | None ↦ λ _ e. absurd (cc)
      | Some t ↦ λ is _. record { station = t; is = is }
    ] refl (sym (come_on waits s n) ∙ comes.is)

came_below : (waits : List Wait) (s n m : ℕ) → Comes waits s n → m ≤ n → Comes waits s m
came_below waits s zero m comes le = let same : 0 ≡ m = omega (arith, le) in subst (Comes waits s) same comes
came_below waits s (suc n) m comes le =
    ⊎_elim
    (λ (less : m < suc n). came_below waits s n m (came_before waits s n comes) (omega (arith, less)))
    (λ (most : suc n ≤ m). let same : suc n ≡ m = omega (arith, le, most) in subst (Comes waits s) same comes)
    (cases_lt m (suc n))

-- ---- the least station that is come to

record Least (waits : List Wait) (t n : ℕ) : Type 0 where
  pub steps : ℕ
  pub within : steps ≤ n
  pub station : ℕ
  pub is : station_reached waits t steps ≡ Some station
  pub least : (j u : ℕ) → j ≤ n → station_reached waits t j ≡ Some u → station ≤ u

least_of : (waits : List Wait) (t n : ℕ) → Comes waits t n → Least waits t n
least_of waits t zero comes =
    record {
      steps = 0;
      within = omega arith;
      station = comes.station;
      is = comes.is;
      least = λ j u le is.
          let at : j ≡ 0 = omega (arith, le) in
          let same : comes.station ≡ u = same_Some comes.station u (sym comes.is ∙ ap (station_reached waits t) (sym at) ∙ is) in
          omega (arith, same);
    }
least_of waits t (suc n) comes =
    let before = least_of waits t n (came_before waits t n comes) in
    ⊎_elim
    (λ (less : comes.station < before.station).
    record {
      steps = suc n;
      within = omega arith;
      station = comes.station;
      is = comes.is;
      least = λ j u le is. ⊎_elim
          (λ (early : j < suc n). let rest = before.least j u (omega (arith, early)) is in omega (arith, less, rest))
          (λ (late : suc n ≤ j). let at : j ≡ suc n = omega (arith, le, late) in
          let same : comes.station ≡ u = same_Some comes.station u (sym comes.is ∙ ap (station_reached waits t) (sym at) ∙ is) in omega (arith, same))
          (cases_lt j (suc n));
    })
    (λ (most : before.station ≤ comes.station).
    record {
      steps = before.steps;
      within = omega (arith, before.within);
      station = before.station;
      is = before.is;
      least = λ j u le is. ⊎_elim
          (λ (early : j < suc n). before.least j u (omega (arith, early)) is)
          (λ (late : suc n ≤ j). let at : j ≡ suc n = omega (arith, le, late) in
          let same : comes.station ≡ u = same_Some comes.station u (sym comes.is ∙ ap (station_reached waits t) (sym at) ∙ is) in omega (arith, most, same))
          (cases_lt j (suc n));
    })
    (cases_lt comes.station before.station)

-- ---- the ring from its least station on

-- a ring of so many steps from m on, of which m is the least
record IsRing (waits : List Wait) (m d : ℕ) : Type 0 where
  pub some : 0 < d
  pub back : station_reached waits m d ≡ Some m
  pub least : (j u : ℕ) → j ≤ d → station_reached waits m j ≡ Some u → m ≤ u

ring_of : (waits : List Wait) (t d : ℕ) → 0 < d → station_reached waits t d ≡ Some t → (low : Least waits t d) → IsRing waits low.station d
ring_of waits t d some back low =
    let m : ℕ = low.station in
    let k : ℕ = low.steps in
    let order : d + k ≡ k + d = omega arith in
    record {
      some = some;
      back = sym (come_more waits t k m low.is d) ∙ ap (station_reached waits t) order ∙ come_more waits t d t back k ∙ low.is;
      least = λ j u le is.
          let far : station_reached waits t (j + k) ≡ Some u = come_more waits t k m low.is j ∙ is in
          ⊎_elim
          (λ (near : j + k < d). low.least (j + k) u (omega (arith, near)) far)
          (λ (over : d ≤ j + k).
          let parts : j + k ≡ (j + k - d) + d = omega (arith, over) in
          let within : j + k - d ≤ d = omega (arith, over, le, low.within) in
          low.least (j + k - d) u within (sym (come_more waits t d t back (j + k - d)) ∙ ap (station_reached waits t) (sym parts) ∙ far))
          (cases_lt (j + k) d);
    }

-- one step of the way back
back_there : (waits : List Wait) (s t n : ℕ) → t ≡ s → waiting_path waits s t (suc n) ≡ Some []
unfolding waiting_path
back_there waits s t n same =
    ap (λ b. cond b (Some []) (cond (nat_lt s t) (option_and_then (λ w. option_map (λ way. t ∷ way) (waiting_path waits s w.on n)) (wait_at waits t)) None)) (eq-eqb t s same)

back_on : (waits : List Wait) (s t n : ℕ) (w : Wait) (way : List ℕ) → nat_eq t s ≡ false → s < t → wait_at waits t ≡ Some w → waiting_path waits s w.on n ≡ Some way
    → waiting_path waits s t (suc n) ≡ Some (t ∷ way)
unfolding waiting_path
back_on waits s t n w way apart above is back =
    ap (λ b. cond b (Some []) (cond (nat_lt s t) (option_and_then (λ w. option_map (λ way. t ∷ way) (waiting_path waits s w.on n)) (wait_at waits t)) None)) apart
    ∙ ap (λ b. cond b (option_and_then (λ w. option_map (λ way. t ∷ way) (waiting_path waits s w.on n)) (wait_at waits t)) None) (lt-ltb s t above)
    ∙ ap (option_and_then (λ w. option_map (λ way. t ∷ way) (waiting_path waits s w.on n))) is
    ∙ ap (option_map (λ way. t ∷ way)) back

-- the wait of a station from which one comes on
record WaitsOn (waits : List Wait) (t u : ℕ) : Type 0 where
  pub wait : Wait
  pub is : wait_at waits t ≡ Some wait
  pub on : wait.on ≡ u

waits_on : (waits : List Wait) (s n t u : ℕ) → station_reached waits s n ≡ Some t → station_reached waits s (suc n) ≡ Some u → WaitsOn waits t u
waits_on waits s n t u here next =
    let step : option_map (λ (w : Wait). w.on) (wait_at waits t) ≡ Some u =
    sym (ap (option_and_then (λ t. option_map (λ (w : Wait). w.on) (wait_at waits t))) here) ∙ sym (come_on waits s n) ∙ next in
    elim (wait_at waits t) as (λ o. wait_at waits t ≡ o → option_map (λ (w : Wait). w.on) o ≡ Some u → WaitsOn waits t u) [
      | None ↦ λ _ e. absurd (cc)
      | Some w ↦ λ is e. record { wait = w; is = is; on = same_Some w.on u e }
    ] refl step

-- the way back is found from each place of the ring
found_back : (waits : List Wait) (m d : ℕ) → IsRing waits m d → (n j u : ℕ) → d + 1 ≤ j + n → j ≤ d → station_reached waits m j ≡ Some u
    → (way : List ℕ) × (waiting_path waits m u n ≡ Some way)
found_back waits m d ring zero j u enough within is = absurd (omega (arith, enough, within))
found_back waits m d ring (suc n) j u enough within is =
    elim (nat_eq u m) as (λ b. nat_eq u m ≡ b → (way : List ℕ) × (waiting_path waits m u (suc n) ≡ Some way)) [
      | true ↦ λ same. ([], back_there waits m u n (eqb-true u m same))
      | false ↦ λ apart.
          let differ : u ≢ m = λ same. absurd (cc (sym apart ∙ eq-eqb u m same)) in
          let low = ring.least j u within is in
          let above : m < u = omega (arith, low, differ) in
          let before : j < d = ⊎_elim (λ (less : j < d). less)
          (λ (most : d ≤ j). let end : j ≡ d = omega (arith, within, most) in
          absurd (differ (same_Some u m (sym is ∙ ap (station_reached waits m) end ∙ ring.back)))) (cases_lt j d) in
          let next = came_below waits m d (suc j) (record { station = m; is = ring.back }) (omega (arith, before)) in
          let wait = waits_on waits m j u next.station is next.is in
          let rest = found_back waits m d ring n (suc j) next.station (omega (arith, enough)) (omega (arith, before)) next.is in
          (u ∷ rest.0, back_on waits m u n wait.wait rest.0 apart above wait.is (ap (λ k. waiting_path waits m k n) wait.on ∙ rest.1))
    ] refl

-- A WAY THAT GOES ROUND COMES TO A CYCLE THAT IS TOLD
pub round_told : (waits : List Wait) (s : ℕ) → IsCircular waits s → IsTold waits s
unfolding cycle_at
round_told waits s round =
    let t : ℕ = round.station in
    let d : ℕ = round.second - round.first in
    let some : 0 < d = omega (arith, round.later) in
    let parts : round.second ≡ d + round.first = omega (arith, round.later) in
    let back : station_reached waits t d ≡ Some t = sym (come_more waits s round.first t round.come d) ∙ ap (station_reached waits s) (sym parts) ∙ round.again in
    let low = least_of waits t d (record { station = t; is = back }) in
    let m : ℕ = low.station in
    let ring = ring_of waits t d some back low in
    let one = came_below waits m d 1 (record { station = m; is = ring.back }) (omega (arith, some)) in
    let wait = waits_on waits m 0 m one.station (come_none waits m) one.is in
    let rest = found_back waits m d ring MOST_STATIONS 1 one.station (omega (arith, round.soon, round.later)) (omega (arith, some)) one.is in
    record {
      steps = low.steps + round.first;
      station = m;
      come = come_more waits s round.first t round.come low.steps ∙ low.is;
      cycle = m ∷ rest.0;
      told = ap (option_and_then (λ (w : Wait). option_map (λ way. m ∷ way) (waiting_path waits m w.on MOST_STATIONS))) wait.is
          ∙ ap (λ k. option_map (λ way. m ∷ way) (waiting_path waits m k MOST_STATIONS)) wait.on
          ∙ ap (option_map (λ way. m ∷ way)) rest.1;
    }
