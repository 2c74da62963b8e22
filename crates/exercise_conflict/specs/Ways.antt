-- The way of each blocked station, and further causes beside a blocked list (profile).
use Rattle.std.specs.Prelude.{ℕ, zero, suc, List, [], ◌++◌, length, Option, option_map}
use Rattle.std.specs.Option.{option_or, option_to_list}
use Rattle.std.specs.List.{filter_map}
use Rattle.std.specs.Global.{Vec}
use Rattle.exercise_model.specs.declared.cause.Cause.{Cause}
use Rattle.exercise_model.specs.Recording.{PlainRecording}
use Rattle.exercise_audit.specs.declared.blocks.Block.{Block}
use Rattle.exercise_conflict.specs.declared.clash.Clash.{Clash}
use Rattle.exercise_conflict.specs.declared.waits.Wait.{Wait}
use Rattle.exercise_conflict.specs.declared.way.Way.{Way}
use Rattle.exercise_conflict.specs.declared.way.Way.TheVariants as ways
use Rattle.exercise_conflict.specs.declared.way.Also.{Also}
use Rattle.exercise_conflict.specs.Final.{is_final}
use Rattle.exercise_conflict.specs.Waits.{wait_of, waits_of}
use Rattle.exercise_conflict.specs.Cycles.{cycle_at}
use Rattle.exercise_conflict.specs.Clash.{clash_of}
use Rattle.exercise_conflict.specs.Also.{further_cause_at}

-- ---- ways

-- the station of block b waits for nobody: its next entry contradicts something
abbrev pub clashes_by : Block → Clash → Way
clashes_by b clash = ways.Clash b.entry clash (is_final b.cause)

-- THE WAY OF A BLOCKED STATION: its wait, else the contradiction of its next entry
unfoldable pub way_of : PlainRecording → List Block → Block → Option Way
way_of r blocks b = option_or (option_map ways.Waits (wait_of r blocks b)) (option_map (clashes_by b) (clash_of r b.entry))

-- THE WAYS of a blocked list, in its order
abbrev pub ways_of : PlainRecording → List Block → List Way
ways_of r blocks = filter_map (way_of r blocks) blocks

-- ---- cycles

-- the cycles at the stations below n
unfoldable pub cycles_below : List Wait → ℕ → List (List ℕ)
cycles_below waits zero = []
cycles_below waits (suc n) = cycles_below waits n ++ option_to_list (cycle_at waits n)

-- THE CYCLES of a blocked list, by their lowest station
abbrev pub cycles_of : PlainRecording → List Block → List (List ℕ)
cycles_of r blocks = cycles_below (waits_of r blocks) (length r.setting.stations)

-- the stations of a cycle, without their place in memory
abbrev pub stations_in : Vec ℕ → List ℕ
stations_in cycle = cycle.items

-- ---- further causes

abbrev pub further_cause : ℕ → Cause → Also
further_cause j cause = record { entry = j; cause = cause }

-- the further causes against the entries below n
unfoldable pub further_causes_below : PlainRecording → List Block → ℕ → List Also
further_causes_below r blocks zero = []
further_causes_below r blocks (suc n) = further_causes_below r blocks n ++ option_to_list (option_map (further_cause n) (further_cause_at r blocks n))

-- THE FURTHER CAUSES beside a blocked list, by rising entries
abbrev pub further_causes : PlainRecording → List Block → List Also
further_causes r blocks = further_causes_below r blocks (length r.entries)
