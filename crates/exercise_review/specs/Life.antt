-- The life of an entity: the stretches of its station's log in which it had one state (profile, over IEEE 1278.1-2012,
-- 5.6.5).
use Rattle.std.specs.Prelude.{ℕ, zero, suc, List, [], ◌∷◌, ◌++◌, length, Bool, true, ◌&&◌, nat_lt, nat_le, Option, Some, None, if◌then◌else◌}
use Rattle.dis_records.specs.declared.entity_state.EntityState.{EntityState}
use Rattle.exercise_model.specs.Station.{is_absent}
use Rattle.exercise_model.specs.Recording.{PlainRecording}
use Rattle.exercise_model.specs.Cause.{same_state}
pub use Rattle.exercise_findings.specs.State.{state_before}
use Rattle.exercise_review.specs.declared.life.Stretch.{Stretch}
use Rattle.exercise_review.specs.declared.life.Life.{Life}

-- a life so far: the ended stretches, and the current state since an entry, or since the start
pub record LifeSoFar : Type 0 where
  pub ended : List Stretch
  pub state : EntityState
  pub since : Option ℕ

-- the life that a value of the code represents
abbrev pub life_in : Life → LifeSoFar
life_in l = record { ended = l.ended.items; state = l.state; since = l.since }

-- the current stretch of a life, up to an entry or to the end of the log: none if the entity is Absent
abbrev pub stretch_of : LifeSoFar → Option ℕ → List Stretch
stretch_of l end = if is_absent l.state then [] else record { state = l.state; from = l.since; until = end } ∷ []

-- a life after entry n, which leaves the entity in state y: it continues if the state is equal, else the stretch ends
-- there and another begins
abbrev pub life_after : LifeSoFar → ℕ → EntityState → LifeSoFar
life_after l n y = if same_state y l.state then l else record { ended = l.ended ++ stretch_of l (Some n); state = y; since = Some n }

-- the life of entity e of station s before entry n
unfoldable pub life_before : PlainRecording → ℕ → ℕ → ℕ → LifeSoFar
life_before r s e zero = record { ended = []; state = state_before r s e 0; since = None }
life_before r s e (suc n) = life_after (life_before r s e n) n (state_before r s e (suc n))

-- THE LIFE OF ENTITY e of station s: the longest stretches of the log in which it has one state other than Absent, in
-- order, each from the change that began it (none: from the start) to the change that ended it (none: to the end)
unfoldable pub lives_of : PlainRecording → ℕ → ℕ → List Stretch
lives_of r s e = let l = life_before r s e (length r.entries) in l.ended ++ stretch_of l None

-- ---- the states that stretches give for a place in the log

-- the place before entry n lies after entry i, if there is one
abbrev pub is_after : Option ℕ → ℕ → Bool
is_after None n = true
is_after (Some i) n = nat_lt i n

-- it lies no later than before entry i, if there is such an entry
abbrev pub is_no_later : Option ℕ → ℕ → Bool
is_no_later None n = true
is_no_later (Some i) n = nat_le n i

-- a stretch covers the place before entry n
abbrev pub covers : ℕ → Stretch → Bool
covers n x = is_after x.from n && is_no_later x.until n

-- the states of the stretches that cover the place before entry n
abbrev pub states_at : ℕ → List Stretch → List EntityState
states_at n [] = []
states_at n (x ∷ xs) = if covers n x then x.state ∷ states_at n xs else states_at n xs

-- a state as a list of one, or no state if it is Absent
abbrev pub if_there : EntityState → List EntityState
if_there y = if is_absent y then [] else y ∷ []
