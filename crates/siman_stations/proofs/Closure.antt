-- What moves make of a world: the states that its stations tell are those of their applications, and its entries, in their order, are a run.
use Rattle.std.proofs.Common.{◌≡◌, ℕ, ◌<◌, List, [], ◌∷◌, length, reverse, sym, subst}
use Rattle.std.specs.Prelude.{Bool, true, false, Option, Some, None, if◌then◌else◌}
use Rattle.std.specs.List.{AllByRecursion}
use Rattle.std.proofs.lemmas.List.{reverse-append}
use Rattle.exercise_model.specs.History.{past}
use Rattle.exercise_model.specs.Run.{IsRun}
use Rattle.siman_application.specs.Distinct.{distinct}
use Rattle.siman_application.specs.Play.{state_over}
use Rattle.siman_scripts.specs.declared.act.Move.{Move}
use Rattle.siman_stations.specs.declared.world_fault.WorldFault.{WorldFault}
use Rattle.siman_stations.specs.declared.world_fault.WorldFault.TheVariants.{Stations}
use Rattle.siman_stations.specs.World.{WorldData, setting_of, outfit_of, state_by, are_world_stations, first_fault, course_of, entries_of, world_refusal}
use Rattle.siman_stations.specs.WorldLaw.{IsWorldInRange, IsActInRange, AreMovesInRange}
use Rattle.siman_stations.proofs.Offered.{all_append}
use Rattle.siman_stations.proofs.Made.{all_made}
use Rattle.siman_stations.proofs.Stations.{state_is, all_sound, sound_run}

-- THE STATE that a station tells after moves that can be made, the latest first, is that of its application
pub state_is_told : (w : WorldData) (moves : List Move) → IsWorldInRange w → AreMovesInRange moves → first_fault w moves ≡ None → (s : ℕ)
    → s < length w.stations → (e : ℕ)
    → state_by w (course_of w moves) s e ≡ state_over (outfit_of w s) (distinct (outfit_of w s) ((course_of w moves).came s)) e
state_is_told w moves own ranges none s within e =
    state_is w (course_of w moves) s ((all_sound w moves own (all_made w moves ranges none)).halves s within) e

-- A WORLD IS A RUN: the entries of moves that can be made, the latest first
pub is_run : (w : WorldData) (moves : List Move) → IsWorldInRange w → AreMovesInRange moves → first_fault w moves ≡ None
    → IsRun (setting_of w) (past (course_of w moves).entries)
is_run w moves own ranges none = sound_run w (course_of w moves) (all_sound w moves own (all_made w moves ranges none))

no_refusal : (stations : Bool) (fault : Option WorldFault) → (if stations then fault else Some Stations) ≡ None → fault ≡ None
no_refusal true fault e = e
no_refusal false fault e = absurd cc

all_reverse : {X : Type 0} (P : X → Type 0) (xs : List X) → AllByRecursion P xs → AllByRecursion P (reverse xs)
all_reverse P [] all = tt
all_reverse P (x ∷ xs) all =
    subst (AllByRecursion P) (sym (reverse-append (x ∷ []) xs)) (all_append P (reverse xs) (x ∷ []) (all_reverse P xs all.1) (all.0, tt))

-- the same of moves in their order
pub entries_are_run : (w : WorldData) (moves : List Move) → IsWorldInRange w → AreMovesInRange moves → world_refusal w moves ≡ None
    → IsRun (setting_of w) (past (entries_of w moves))
entries_are_run w moves own ranges none =
    is_run w (reverse moves) own (all_reverse (λ (m : Move). IsActInRange m.act) moves ranges)
    (no_refusal (are_world_stations w.stations) (first_fault w (reverse moves)) none)
