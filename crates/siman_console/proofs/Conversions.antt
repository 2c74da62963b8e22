-- What is said of a recording is said of its conversion.
use Rattle.std.proofs.Common.{◌≡◌, ◌↔◌, ℕ, List, refl, sym, inl, inr, ◌∙◌}
use Rattle.exercise_model.specs.declared.form.Form.TheVariants.{First}
use Rattle.exercise_model.specs.Recording.{PlainRecording}
use Rattle.exercise_model.specs.Account.{pair_of, change_behind, sender_of, first_able, others_of}
use Rattle.exercise_model.specs.History.{log_of}
use Rattle.exercise_model.specs.Place.{entry_taken_up, own_event}
use Rattle.exercise_model.specs.Conversion.{converted}
use Rattle.exercise_check.specs.declared.certificate.Step.{Step}
use Rattle.exercise_check.specs.declared.checker.CheckFault.TheVariants.{Bad}
use Rattle.exercise_check.proofs.Offered.{good_alike, refused_alike}
use Rattle.exercise_audit.specs.declared.blocks.Block.{Block}
use Rattle.exercise_audit.proofs.Offered.{blocked_alike}
use Rattle.exercise_check.specs.Report.{report_text}
use Rattle.siman_file_commands.specs.Check.{IsDue}
use Rattle.siman_file_commands.specs.Audit.{blocked_text, IsListOf}

pub report_alike : (r : PlainRecording) → report_text (converted r) ≡ report_text r
unfolding pair_of change_behind sender_of first_able entry_taken_up own_event others_of log_of
report_alike r = refl

pub list_alike : (r : PlainRecording) (blocks : List Block) → blocked_text (converted r) blocks ≡ blocked_text r blocks
list_alike r blocks = refl

due_then : (r : PlainRecording) (steps : List Step) (text : List ℕ) → r.setting.form ≡ First → IsDue r steps text → IsDue (converted r) steps text
due_then r steps text first (inl good) = inl ((good_alike r steps first).0 good.0, good.1 ∙ sym (report_alike r))
due_then r steps text first (inr bad) = inr (bad.0, bad.1, (refused_alike r steps (Bad bad.0 bad.1) first).0 bad.2, bad.3)

due_before : (r : PlainRecording) (steps : List Step) (text : List ℕ) → r.setting.form ≡ First → IsDue (converted r) steps text → IsDue r steps text
due_before r steps text first (inl good) = inl ((good_alike r steps first).1 good.0, good.1 ∙ report_alike r)
due_before r steps text first (inr bad) = inr (bad.0, bad.1, (refused_alike r steps (Bad bad.0 bad.1) first).1 bad.2, bad.3)

pub due_alike : (r : PlainRecording) (steps : List Step) (text : List ℕ) → r.setting.form ≡ First → IsDue r steps text ↔ IsDue (converted r) steps text
due_alike r steps text first = (due_then r steps text first, due_before r steps text first)

pub listed_alike : (r : PlainRecording) (text : List ℕ) → r.setting.form ≡ First → IsListOf r text ↔ IsListOf (converted r) text
listed_alike r text first =
    (λ l. (l.0, (blocked_alike r l.0 first).0 l.1, l.2), λ l. (l.0, (blocked_alike r l.0 first).1 l.1, l.2))
