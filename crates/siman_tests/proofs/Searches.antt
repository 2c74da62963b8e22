-- A second search finds the same steps.
use Rattle.std.proofs.Common.{◌≡◌, List, Result, Ok, Err}
use Rattle.std.specs.Prelude.{IfOk}
use Rattle.exercise_model.specs.Recording.{PlainRecording, IsRecording}
use Rattle.exercise_check.specs.declared.certificate.Step.{Step}
use Rattle.exercise_check.specs.Sequence.{sequence_of}
use Rattle.exercise_check.specs.Goodness.{IsGood}
use Rattle.exercise_check.proofs.Offered.{good_explains}
use Rattle.exercise_audit.specs.declared.blocks.Audit.{Audit}
use Rattle.exercise_audit.specs.declared.blocks.Audit.TheVariants.{Explained, Blocked}
use Rattle.exercise_audit.specs.Time.{IsTimely}
use Rattle.exercise_audit.specs.Audit.{IsAuditOf}
use Rattle.siman_tests.specs.SearchedAgain.{IsFoundAgain}

pub found_again : {E : Type 0} (r : PlainRecording) (steps : List Step) (result : Result Audit E) → IsRecording r → IsGood r steps → IsTimely r steps
    → ((steps others : List Step) → IsGood r steps → IsTimely r steps → IsGood r others → IsTimely r others → steps ≡ others)
    → IfOk result (IsAuditOf r) → IfOk result (IsFoundAgain steps)
found_again r steps (Ok (Explained certificate)) limits good timely one both = one certificate.steps.items steps both.0 both.1 good timely
found_again r steps (Ok (Blocked blocks)) limits good timely one blocked = blocked.unexplained (sequence_of r steps) (good_explains r limits steps good)
found_again r steps (Err e) limits good timely one none = none
