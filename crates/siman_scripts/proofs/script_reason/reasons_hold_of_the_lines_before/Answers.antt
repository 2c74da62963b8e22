use Rattle.siman_scripts.proofs.HoldingAfter.{draft_reason-holds}
use Rattle.siman_scripts.proofs.script_reason.reasons_hold_of_the_lines_before.Goals as goal

pub returns : goal.returns
returns c = draft_reason-holds
