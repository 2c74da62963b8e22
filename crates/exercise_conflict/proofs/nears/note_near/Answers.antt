use Rattle.std.proofs.Common.{sym, ◌∙◌}
use Rattle.exercise_conflict.proofs.Likeness.{nears_still, nears_more}
use Rattle.exercise_conflict.proofs.nears.note_near.Goals as goal

pub returns-in_ok-keep_first : goal.returns-in_ok-keep_first
returns-in_ok-keep_first g c =
    let kept = c.in_ok-keep_first.ensures in
    nears_more c.args.findings.now c.args.entry c.in_ok-keep_first.field-0 c.in-Some.near c.args.nears.now c.keep_first.new.table
    (sym c.near_at.ensures ∙ c.in-Some.is) kept.kept kept.noted c.requires

pub returns-in_default : goal.returns-in_default
returns-in_default g c = nears_still c.args.findings.now c.args.entry c.args.nears.now (sym c.near_at.ensures ∙ c.in_default.is) c.requires
