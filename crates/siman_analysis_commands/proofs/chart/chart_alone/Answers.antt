-- The recording is read.
use Rattle.std.proofs.Common.{Some}
use Rattle.siman_outside.specs.Outside.{stream}
use Rattle.siman_analysis_commands.proofs.chart.chart_alone.Goals as goal

pub returns-clause-comes : goal.returns-clause-comes
returns-clause-comes g c = (stream (Some c.new-nothing.result.items) (Some c.say_of_recording.new.out.items), rw (c.read-recording.ensures.same) at c.say_of_recording.ensures.says)
