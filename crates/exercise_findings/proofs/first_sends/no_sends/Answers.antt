use Rattle.std.proofs.Common.{refl}
use Rattle.exercise_findings.proofs.FirstSends.{no_first_sends}
use Rattle.exercise_findings.proofs.first_sends.no_sends.Goals as goal

pub returns : goal.returns
returns c r = no_first_sends r (record { kept = c.empty_table.result; hashed = 0 }) c.empty_table.ensures.slots c.empty_table.ensures.order refl
