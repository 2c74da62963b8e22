-- Why a move is not made, where its station is there.
use Rattle.std.proofs.Common.{◌≡◌, ℕ, ◌+◌, ◌<◌, ◌≤◌, nat_le, true, List, length, get_or, Option, Some, None, Result, Ok, Err, refl, sym, ap, ◌∙◌, arith}
use Rattle.std.proofs.lemmas.Bool.Decides.{nat_tests}
use Rattle.std.proofs.lemmas.Option.{slice_get-get_or}
use Rattle.std.specs.Prelude.{slice_get, option_map, IfErr, OnOk}
use Rattle.std.specs.Result.{IsErrAnd}
use Rattle.exercise_model.specs.declared.recording.TheConstants.{MOST_ENTRIES}
use Rattle.siman_scripts.specs.declared.act.Act.{Act}
use Rattle.siman_stations.specs.declared.turn.Node.{Node}
use Rattle.siman_stations.specs.declared.world_fault.MoveFault.{MoveFault}
use Rattle.siman_exercise_commands.specs.declared.live.moves.LiveMoveFault.{LiveMoveFault}
use Rattle.siman_exercise_commands.specs.declared.live.moves.LiveMoveFault.TheVariants as halts
use Rattle.siman_exercise_commands.specs.Live.Moves.{live_fault, judged, Gives}

-- what stands at a place
pub stands_at : {X : Type 0} (xs : List X) (i s : ℕ) (x : X) → i < length xs → i ≡ s → x ≡ get_or xs i x → slice_get xs s ≡ Some x
stands_at xs i s x below same is = ap (slice_get xs) (sym same) ∙ (slice_get-get_or xs i x below ∙ ap Some (sym is))

room_is : (n : ℕ) → n + 2 ≤ MOST_ENTRIES → nat_le (n + 2) MOST_ENTRIES ≡ true
room_is n h = grind (arith, nat_tests)

-- where there is room, and the station is there, its halves decide
pub judged_there : {X : Type 0} (node : X → Node) (x : X) (entries : ℕ) (there : Option X) (now : ℕ) (act : Act) → entries + 2 ≤ MOST_ENTRIES
    → there ≡ Some x → judged entries (option_map node there) now act ≡ live_fault (node x) now act
judged_there node x entries there now act room is = rw is (rw (room_is entries room) refl)

pub passes_on : {X : Type 0} (result : Result X LiveMoveFault) (halt : LiveMoveFault) (reason other : Option MoveFault) → reason ≡ other
    → IsErrAnd result (λ e. e ≡ halt) → Gives other halt → IfErr result (Gives reason)
passes_on (Ok x) halt reason other same passed gives = tt
passes_on (Err e) halt reason other same passed gives = rw passed (rw same gives)

pub on_any : {X E P : Type 0} (result : Result X E) → P → OnOk result P
on_any (Ok x) p = p
on_any (Err e) p = tt

-- What came of serving stations is no reason against a move.
pub served_any : {X : Type 0} (result : Result X LiveMoveFault) (reason : Option MoveFault) → IfErr result (Gives None) → IfErr result (Gives reason)
served_any (Ok x) reason h = tt
served_any (Err (halts.Move fault)) reason h = absurd cc
served_any (Err halts.Line) reason h = tt
served_any (Err halts.Record) reason h = tt
served_any (Err halts.Memory) reason h = tt
