use Rattle.std.proofs.Common.{List, refl}
use Rattle.exercise_model.specs.Entry.{Entry}
use Rattle.exercise_model.specs.History.{log_of, past}
use Rattle.exercise_model.specs.Recording.{PlainRecording}
use Rattle.exercise_model.specs.Run.{Explains, IsRun}
use Rattle.exercise_model.specs.Setting.{SettingData}
use Rattle.siman_tests.proofs.uses.line.explain_what_they_wrote.Goals as goal

explains : (w : SettingData) (es : List Entry) → IsRun w (past es) → (let r : PlainRecording = record { setting = w; entries = es } in Explains r (past es))
unfolding log_of
explains w es run = record { run = run; logs = λ s. refl }

pub returns : goal.returns
returns c = λ before w stations calls old new begun has made.
    let comes = c.calls_make_a_run.ensures before w stations calls old new begun has made in
    (comes.entries, λ sent. explains w comes.entries (comes.run sent))
