use Rattle.siman_scripts.proofs.ScriptReasons.{explained}
use Rattle.siman_scripts.proofs.script_reason.a_text_has_a_reason_or_is_a_script.Goals as goal

pub returns : goal.returns
returns c = explained c.args.text.now
