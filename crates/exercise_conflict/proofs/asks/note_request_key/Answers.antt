use Rattle.std.proofs.Common.{sym, ◌∙◌}
use Rattle.exercise_conflict.proofs.Tables.{asks_still, asks_more}
use Rattle.exercise_conflict.proofs.asks.note_request_key.Goals as goal

pub returns-in_ok-keep_first : goal.returns-in_ok-keep_first
returns-in_ok-keep_first g c =
    let kept = c.in_ok-keep_first.ensures in
    asks_more c.args.findings.now c.args.entry c.in_ok-keep_first.field-0 c.in-Some.ask c.args.asks.now c.keep_first.new.table
    (sym c.request_key_at.ensures ∙ c.in-Some.is) kept.kept kept.noted c.requires

pub returns-in_default : goal.returns-in_default
returns-in_default g c = asks_still c.args.findings.now c.args.entry c.args.asks.now (sym c.request_key_at.ensures ∙ c.in_default.is) c.requires
