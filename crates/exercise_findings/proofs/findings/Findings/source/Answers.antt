use Rattle.std.proofs.Common.{◌<◌, length, sym, subst, arith}
use Rattle.std.specs.Prelude.{IfSome}
use Rattle.std.proofs.lemmas.Option.{slice_get_past}
use Rattle.exercise_findings.proofs.Sources.{source_past, source_within}
use Rattle.exercise_findings.proofs.findings.Findings.source.Goals as goal

pub returns-then-entry-entry_count-clause-source : goal.returns-then-entry-entry_count-clause-source
returns-then-entry-entry_count-clause-source g c =
    let r = g.L.ExerciseLog.recording c.self.inside.log.now in
    rw (← c.self.view_is) (sym (source_past r c.args.entry (slice_get_past r.entries c.args.entry (omega (arith, c.entry_count.ensures.count, c.if-entry-entry_count.true)))))

pub returns-clause-within : goal.returns-clause-within
returns-clause-within g c =
    let r = g.L.ExerciseLog.recording c.self.inside.log.now in
    rw (← c.self.view_is) (subst (λ o. IfSome o (λ e. e < length r.entries)) (sym c.column_source.ensures) (source_within r c.args.entry))
