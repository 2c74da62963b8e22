use Rattle.exercise_chart.specs.Columns.{name_text}
use Rattle.exercise_chart.proofs.Below.{texts_begin, texts_next}
use Rattle.exercise_chart.proofs.columns.put_station_names.Goals as goal

pub loop-station-init : goal.loop-station-init
loop-station-init g c = texts_begin _ _

pub loop-station-preserved : goal.loop-station-preserved
loop-station-preserved g c =
    texts_next (name_text c.args.frame.now (g.L.ExerciseLog.recording c.args.log.now) c.args.y) c.loop-station.station _ _ _ c.loop-station.invariant c.in_ok-put_name.ensures
