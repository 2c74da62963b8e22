-- The marks of a good certificate show a run.
use Rattle.std.proofs.Common.{ℕ, List, [], map}
use Rattle.siman_analysis_commands.specs.ChartWords.{entities_of}
use Rattle.siman_analysis_commands.specs.Chart.{IsCertified}
use Rattle.siman_analysis_commands.proofs.Pictured.{run_drawn}
use Rattle.siman_analysis_commands.proofs.drawn.picture_of_run.Goals as goal

pub returns : goal.returns
returns g c =
    let r = g.L.ExerciseLog.recording c.args.log.now in
    let words : List (List ℕ) = map (λ word. word.now) c.args.command.now.words.now in
    let steps = c.args.steps.now in
    let law = c.pictures_are_runs.ensures in
    let good : IsCertified r steps = record { good = c.requires.good; holds = c.requires.holds } in
    run_drawn words c.args.command.now.window r steps good
    (λ limits rows within. record {
      steps_are = law.rows r steps rows (entities_of words) [] c.requires.good within;
      arrows = law.arrows r steps rows (entities_of words) [] limits c.requires.good;
      bars = law.bars r steps rows (entities_of words) [] limits c.requires.good;
    })
    c.picture_of.result c.picture_of.ensures.picture c.picture_of.ensures.limits
