-- The stretches of a life begin and end at entries of the station, at which it changes.
use Rattle.std.proofs.Common.{◌≡◌, ℕ, zero, suc, [], ◌∷◌, ◌++◌, length, true, false, Option, Some, None, refl, sym, ap, ◌∙◌}
use Rattle.std.specs.Prelude.{All, IfSome, is_some, if◌then◌else◌}
use Rattle.std.specs.Option.{option_map_or}
use Rattle.std.proofs.lemmas.List.Elements.{All-nil, All-cons, All-append}
use Rattle.dis_records.specs.declared.entity_state.EntityState.{EntityState}
use Rattle.dis_records.specs.declared.entity_state.EntityState.TheVariants as states
use Rattle.exercise_model.specs.Station.{is_absent}
use Rattle.exercise_model.specs.Recording.{PlainRecording}
use Rattle.exercise_model.specs.History.{Event, History, station_at}
use Rattle.exercise_model.specs.State.{state_after}
use Rattle.exercise_model.specs.Cause.{same_state}
use Rattle.exercise_model.specs.Place.{own_event, log_before}
use Rattle.exercise_model.proofs.Offered.{log_before-more}
use Rattle.exercise_review.specs.declared.life.Stretch.{Stretch}
use Rattle.exercise_review.specs.Life.{LifeSoFar, state_before, stretch_of, life_after, life_before, lives_of}

-- an entry is one of station s
abbrev pub IsOwn : PlainRecording → ℕ → ℕ → Type 0
IsOwn r s i = is_some (own_event r s i) ≡ true

-- the ends of a stretch are entries of station s
pub record HasOwnEnds (r : PlainRecording) (s : ℕ) (x : Stretch) : Type 0 where
  pub from : IfSome x.from (IsOwn r s)
  pub until : IfSome x.until (IsOwn r s)

record IsOwnLife (r : PlainRecording) (s : ℕ) (y : EntityState) (l : LifeSoFar) : Type 0 where
  ended : All (HasOwnEnds r s) l.ended
  since : IfSome l.since (IsOwn r s)
  state : l.state ≡ y

same_is : (y z : EntityState) → same_state y z ≡ true → y ≡ z
same_is states.Absent states.Absent e = refl
same_is states.Absent states.Stopped e = absurd (cc)
same_is states.Absent states.Running e = absurd (cc)
same_is states.Stopped states.Absent e = absurd (cc)
same_is states.Stopped states.Stopped e = refl
same_is states.Stopped states.Running e = absurd (cc)
same_is states.Running states.Absent e = absurd (cc)
same_is states.Running states.Stopped e = absurd (cc)
same_is states.Running states.Running e = refl

same_itself : (y : EntityState) → same_state y y ≡ true
same_itself states.Absent = refl
same_itself states.Stopped = refl
same_itself states.Running = refl

-- where the state changes, the entry is one of the station
changes_here : (r : PlainRecording) (s e n : ℕ) → same_state (state_before r s e (suc n)) (state_before r s e n) ≡ false → IsOwn r s n
changes_here r s e n other =
    elim (own_event r s n) as (λ o. own_event r s n ≡ o → is_some o ≡ true) [
      | Some v ↦ λ _. refl
      | None ↦ λ none.
          let still : log_before r s (suc n) ≡ log_before r s n =
          log_before-more r s n ∙ ap (λ (o : Option Event). option_map_or (λ v. v ∷ log_before r s n) o (log_before r s n)) none in
          let same : state_before r s e (suc n) ≡ state_before r s e n = ap (λ (h : History). state_after r.setting.exercise (station_at r s) h e) still in
          let yes : false ≡ true = sym other ∙ ap (λ (y : EntityState). same_state y (state_before r s e n)) same ∙ same_itself (state_before r s e n) in
          absurd (cc)
    ] refl

-- the stretch that a life is in
stretch_own : (r : PlainRecording) (s : ℕ) (y : EntityState) (l : LifeSoFar) (end : Option ℕ) → IsOwnLife r s y l → IfSome end (IsOwn r s)
    → All (HasOwnEnds r s) (stretch_of l end)
stretch_own r s y l end own at =
    elim (is_absent l.state) as (λ b. All (HasOwnEnds r s) (if b then [] else record { state = l.state; from = l.since; until = end } ∷ [])) [
      | true ↦ All-nil (HasOwnEnds r s)
      | false ↦ All-cons (HasOwnEnds r s) (record { state = l.state; from = l.since; until = end }) [] (record { from = own.since; until = at }) (All-nil (HasOwnEnds r s))
    ]

life_own : (r : PlainRecording) (s e n : ℕ) → IsOwnLife r s (state_before r s e n) (life_before r s e n)
unfolding life_before
life_own r s e zero = record { ended = All-nil (HasOwnEnds r s); since = tt; state = refl }
life_own r s e (suc n) = on (life_before r s e n) (life_own r s e n)
  where
    y : EntityState
    y = state_before r s e (suc n)

    on : (l : LifeSoFar) → IsOwnLife r s (state_before r s e n) l → IsOwnLife r s y (life_after l n y)
    on l own =
        elim (same_state y l.state) as (λ b. same_state y l.state ≡ b
        → IsOwnLife r s y (if b then l else record { ended = l.ended ++ stretch_of l (Some n); state = y; since = Some n })) [
          | true ↦ λ same. record { ended = own.ended; since = own.since; state = sym (same_is y l.state same) }
          | false ↦ λ other.
              let here : IsOwn r s n = changes_here r s e n (ap (same_state y) (sym own.state) ∙ other) in
              record {
                ended = All-append (HasOwnEnds r s) l.ended (stretch_of l (Some n)) own.ended (stretch_own r s (state_before r s e n) l (Some n) own here);
                since = here;
                state = refl;
              }
        ] refl

-- THE STRETCHES OF A LIFE have ends of their station
pub lives_own : (r : PlainRecording) (s e : ℕ) → All (HasOwnEnds r s) (lives_of r s e)
unfolding lives_of
lives_own r s e =
    let l : LifeSoFar = life_before r s e (length r.entries) in
    let own : IsOwnLife r s (state_before r s e (length r.entries)) l = life_own r s e (length r.entries) in
    All-append (HasOwnEnds r s) l.ended (stretch_of l None) own.ended (stretch_own r s (state_before r s e (length r.entries)) l None own tt)
