-- Why the search of a world's recording is never blocked, and what a trial answers.
use Rattle.std.proofs.Common.{◌≡◌, ℕ, List, ◌++◌, Option, None, refl, subst, ap, ◌∙◌}
use Rattle.std.specs.Io.KnownBytes.{Appends}
use Rattle.byte_files.specs.Writing.{WritesPart}
use Rattle.exercise_check.specs.declared.certificate.Step.{Step}
use Rattle.exercise_check.specs.Goodness.{IsGood}
use Rattle.siman_scripts.specs.Script.{ScriptData}
use Rattle.siman_exercise_commands.specs.ScriptTrial.{trial_text, IsClosed, IsTried, IsTriedInPart}
use Rattle.siman_exercise_commands.specs.World.{recording_of, refusal_of}
use Rattle.exercise_model.specs.History.{past, log_at, log_of}
use Rattle.exercise_model.specs.Recording.{PlainRecording}
use Rattle.exercise_model.specs.Run.{IsRun, Explains}

same_logs : (r : PlainRecording) (s : ℕ) → log_at s (past r.entries) ≡ log_of r s
unfolding log_of
same_logs r s = refl

-- entries that are a run in their order are explained by that order
pub file_order_explains : (r : PlainRecording) → IsRun r.setting (past r.entries) → Explains r (past r.entries)
file_order_explains r run = record { run = run; logs = same_logs r }

-- what a world that runs comes to
closed : (s : ScriptData) (r : PlainRecording) → r ≡ recording_of s → refusal_of s ≡ None → IsRun r.setting (past r.entries)
    → (steps : List Step) × IsGood r steps → IsClosed s
closed s r same runs run found = record {
  runs = runs;
  run = subst (λ (r : PlainRecording). IsRun r.setting (past r.entries)) same run;
  steps = found.0;
  good = subst (λ r. IsGood r found.0) same found.1;
}

pub is_tried : (s : ScriptData) (r : PlainRecording) (text : List ℕ) (old new : Option (List ℕ)) → r ≡ recording_of s → refusal_of s ≡ None
    → IsRun r.setting (past r.entries) → (steps : List Step) × IsGood r steps → text ≡ trial_text r → Appends old new text → IsTried s old new
is_tried s r text old new same runs run found texts out =
    (closed s r same runs run found, subst (Appends old new) (texts ∙ ap trial_text same) out)

pub is_tried_in_part : (s : ScriptData) (r : PlainRecording) (text : List ℕ) (old new : Option (List ℕ)) → r ≡ recording_of s → refusal_of s ≡ None
    → IsRun r.setting (past r.entries) → (steps : List Step) × IsGood r steps → text ≡ trial_text r → WritesPart old new text → IsTriedInPart s old new
is_tried_in_part s r text old new same runs run found texts part =
    (closed s r same runs run found, subst (WritesPart old new) (texts ∙ ap trial_text same) part)

-- three texts, one behind the other
pub joined : (whole most first second third one two three : List ℕ) → whole ≡ most ++ third → most ≡ first ++ second → first ≡ one → second ≡ two
    → third ≡ three → whole ≡ (one ++ two) ++ three
joined whole most first second third one two three a b c d e =
    a ∙ ap (λ t. t ++ third) (b ∙ ap (λ t. t ++ second) c ∙ ap (λ t. one ++ t) d) ∙ ap (λ t. (one ++ two) ++ t) e
