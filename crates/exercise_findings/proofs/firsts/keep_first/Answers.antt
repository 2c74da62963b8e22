use Rattle.std.proofs.Common.{sym, ◌∙◌, subst}
use Rattle.exercise_findings.specs.Kept.{IsAppended}
use Rattle.exercise_findings.proofs.FirstEntries.{firsts_later, firsts_kept}
use Rattle.exercise_findings.proofs.firsts.keep_first.Goals as goal

pub returns-in-Some-clause-tied : goal.returns-in-Some-clause-tied
returns-in-Some-clause-tied g c =
    let r = g.L.ExerciseLog.recording c.args.log.now in
    firsts_later r c.args.entry c.in-Some.field-0 c.args.key.now c.args.firsts.now c.requires.key (sym c.first_hashed.ensures ∙ c.in-Some.is) c.requires.tied

pub returns-in_ok-append_entry-in-None-clause-tied : goal.returns-in_ok-append_entry-in-None-clause-tied
returns-in_ok-append_entry-in-None-clause-tied g c =
    let r = g.L.ExerciseLog.recording c.args.log.now in
    let old = c.args.firsts.now in
    let new = c.append_entry.new.kept in
    firsts_kept r c.args.entry c.args.key.now old new c.requires.key (sym c.first_hashed.ensures ∙ c.in-None.is)
    (subst (λ h. IsAppended h c.args.entry old new) c.key_hash-hash.ensures c.in_ok-append_entry-in-None.ensures) c.requires.tied

pub returns-in_ok-append_entry-in-None-clause-new : goal.returns-in_ok-append_entry-in-None-clause-new
returns-in_ok-append_entry-in-None-clause-new g c new =
    (c.args.key.now, (c.requires.key, sym c.first_hashed.ensures ∙ c.in-None.is))
