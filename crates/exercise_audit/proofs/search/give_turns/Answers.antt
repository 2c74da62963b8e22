use Rattle.exercise_audit.proofs.Given.{given_more}
use Rattle.exercise_audit.proofs.search.give_turns.Goals as goal

pub loop-station-preserved : goal.loop-station-preserved
loop-station-preserved g c =
    given_more c.args.course.now c.args.stations.now c.loop-station.station-index c.args.turns.now c.loop-station.turns c.set.new.self c.next_turn.result
    c.loop-station-test.true c.loop-station.invariant c.next_turn.ensures c.set.ensures
