-- Result of a search for a sequence (profile).
use Rattle.std.specs.Prelude.{◌≡◌, ◌⊎◌, ℕ, zero, suc, List, [], ◌∷◌, ◌++◌, length, Some, Bool, true, false}
use Rattle.exercise_model.specs.Recording.{PlainRecording}
use Rattle.exercise_model.specs.History.{Event, History}
use Rattle.exercise_model.specs.Cause.{cause_of}
use Rattle.exercise_model.specs.Run.{Explains, IsStuck}
use Rattle.exercise_check.specs.Goodness.{IsGood}
pub use Rattle.exercise_audit.specs.Next.{IsNextEntry, IsDone, IsHeld}
use Rattle.exercise_audit.specs.Time.{IsTimely}
use Rattle.exercise_audit.specs.declared.blocks.Block.{Block}
use Rattle.exercise_audit.specs.declared.blocks.Audit.{Audit}
use Rattle.exercise_audit.specs.declared.blocks.Audit.TheVariants.{Explained, Blocked}

-- the block has the next entry of its station after h and the first cause against it
pub record IsBlock (r : PlainRecording) (h : History) (s : ℕ) (b : Block) : Type 0 where
  pub station : b.station ≡ s
  pub event : Event
  pub next : IsNextEntry r h s b.entry event
  pub cause : cause_of r.setting h event ≡ Some b.cause

-- the blocks of the first n stations after h, by rising indices: one for each station that is not done
abbrev pub AreBlocks : PlainRecording → History → ℕ → List Block → Type 0
AreBlocks r h zero blocks = blocks ≡ []
AreBlocks r h (suc s) blocks =
    (IsDone r h s × AreBlocks r h s blocks)
    ⊎ ((others : List Block) × (b : Block) × (blocks ≡ others ++ b ∷ []) × AreBlocks r h s others × IsBlock r h s b)

-- NO RUN EXPLAINS the recording, some run is stuck, and the blocks are those of every stuck run
pub record IsBlocked (r : PlainRecording) (blocks : List Block) : Type 0 where
  pub unexplained : (k : History) → Explains r k → ⊥
  pub some_end : (end : History) × IsStuck r end
  pub blocks_are : (end : History) → IsStuck r end → AreBlocks r end (length r.setting.stations) blocks

-- some run explains the recording, or none does
abbrev pub IsExplained : PlainRecording → (explained : Bool) → Type 0
IsExplained r true = (h : History) × Explains r h
IsExplained r false = (h : History) → Explains r h → ⊥

-- THE RESULT: a good certificate in the sequence of time, or the blocks where no run explains the recording
abbrev pub IsAuditOf : PlainRecording → Audit → Type 0
IsAuditOf r (Explained certificate) = IsGood r certificate.steps.items × IsTimely r certificate.steps.items
IsAuditOf r (Blocked blocks) = IsBlocked r blocks.items
