use Rattle.std.proofs.Common.{◌++◌, map, sym, ap, ◌∙◌}
use Rattle.std.specs.Option.{option_to_list}
use Rattle.exercise_conflict.specs.Cycles.{cycle_at}
use Rattle.exercise_conflict.specs.Ways.{cycles_below, stations_in}
use Rattle.exercise_conflict.proofs.Counted.{cycles_none, cycles_more}
use Rattle.exercise_conflict.proofs.way.cycles_of.Goals as goal

pub loop-station-init : goal.loop-station-init
loop-station-init g c = ap (map stations_in) c.new-cycles.ensures.items ∙ sym (cycles_none c.in_ok-waits.waits.items)

pub loop-station-preserved : goal.loop-station-preserved
loop-station-preserved g c =
    let n = c.loop-station.station in
    let waits = c.in_ok-waits.waits.items in
    c.in_ok-push_cycle.ensures
    ∙ ap (λ xs. xs ++ option_to_list (cycle_at c.deref.result.now n)) c.loop-station.invariant
    ∙ ap (λ w. cycles_below waits n ++ option_to_list (cycle_at w n)) c.deref.ensures.value
    ∙ sym (cycles_more waits n)
