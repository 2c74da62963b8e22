-- The longest run in the sequence of time, and what stands against each entry that it leaves (profile).
use Rattle.std.specs.Prelude.{◌≡◌, ◌≢◌, List, [], length}
use Rattle.exercise_model.specs.Recording.{PlainRecording}
use Rattle.exercise_model.specs.Run.{IsStuck}
use Rattle.exercise_check.specs.declared.certificate.Step.{Step}
use Rattle.exercise_check.specs.Sequence.{sequence_of}
use Rattle.exercise_check.specs.Goodness.{GoodBelow, IsGood}
use Rattle.exercise_audit.specs.declared.blocks.Block.{Block}
use Rattle.exercise_audit.specs.Time.{IsTimely}
use Rattle.exercise_audit.specs.Audit.{IsBlocked, AreBlocks}

-- THE LONGEST RUN, in the sequence of time: each step is good, no station can go on after the last one, and the blocks
-- are those of the stations that have entries left. Without blocks it explains the recording; with blocks no run does
pub record IsLongest (r : PlainRecording) (steps : List Step) (blocks : List Block) : Type 0 where
  pub good : GoodBelow r steps (length steps)
  pub timely : IsTimely r steps
  pub stuck : IsStuck r (sequence_of r steps)
  pub blocks_are : AreBlocks r (sequence_of r steps) (length r.setting.stations) blocks
  pub explains : blocks ≡ [] → IsGood r steps
  pub blocked : blocks ≢ [] → IsBlocked r blocks
