-- The marks are of the stations of the recording.
use Rattle.std.proofs.Common.{length, ap, ◌∙◌}
use Rattle.exercise_chart.specs.Frame.{FrameData}
use Rattle.exercise_chart.proofs.KeptStations.{columns_count}
use Rattle.exercise_chart.proofs.DrawnStations.{marks_are_of_stations}
use Rattle.exercise_chart.proofs.picture.draw.Goals as goal

pub picture_in-requires-clause-marks : goal.picture_in-requires-clause-marks
picture_in-requires-clause-marks g c =
    rw (c.log-log.ensures, c.in_ok-marks.ensures.marks)
    (marks_are_of_stations c.args.register.now c.args.steps.now c.args.selection.now.rows c.args.selection.now.entities.now c.args.selection.now.blocked.now (rw c.log-log.ensures at c.frame_of-frame.ensures.limits))

pub picture_in-requires-clause-columns : goal.picture_in-requires-clause-columns
picture_in-requires-clause-columns g c =
    ap (λ (f : FrameData). length f.columns) c.frame_of-frame.ensures.frame ∙ columns_count _ c.args.selection.now.stations.now
