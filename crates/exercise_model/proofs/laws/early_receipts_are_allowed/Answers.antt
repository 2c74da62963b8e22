use Rattle.exercise_model.proofs.EarlyReceipts.{early_sound, early_states, run_is}
use Rattle.exercise_model.proofs.laws.early_receipts_are_allowed.Goals as goal

pub returns : goal.returns
returns c = record { sound = early_sound; states = early_states; runs = run_is }
