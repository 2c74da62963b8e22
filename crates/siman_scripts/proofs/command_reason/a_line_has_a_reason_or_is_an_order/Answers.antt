use Rattle.siman_scripts.proofs.ScriptReasons.{order_explained}
use Rattle.siman_scripts.proofs.command_reason.a_line_has_a_reason_or_is_an_order.Goals as goal

pub returns : goal.returns
returns c = order_explained c.args.line.now
