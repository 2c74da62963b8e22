use Rattle.exercise_conflict.proofs.Tables.{no_request_keys}
use Rattle.exercise_conflict.proofs.asks.request_keys.Goals as goal

pub loop-entry-init : goal.loop-entry-init
loop-entry-init g c = no_request_keys c.args.findings.now c.no_request_keys-asks.result c.no_request_keys-asks.ensures
