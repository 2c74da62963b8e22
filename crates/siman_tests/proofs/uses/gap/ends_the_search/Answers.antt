use Rattle.std.proofs.Common.{subst, sym, ℕ, ◌+◌, ◌≤◌, length}
use Rattle.exercise_conflict.specs.Repair.{IsEnough}
use Rattle.exercise_conflict.specs.declared.repair.Enough.{Enough}
use Rattle.siman_tests.proofs.Results.{if_then}
use Rattle.siman_tests.proofs.uses.gap.ends_the_search.Goals as goal

pub returns-clause-yes : goal.returns-clause-yes
returns-clause-yes g c =
    if_then c.repair_of.result
    (λ repair of word. c.enough_is_one_word.ensures.yes c.args.findings.now (subst (λ (w : Enough). IsEnough c.args.findings.now w) word of.enough))
    c.repair_of.ensures

pub returns-clause-fewer : goal.returns-clause-fewer
returns-clause-fewer g c =
    if_then c.repair_of.result
    (λ repair of wide h limits good wider run.
    subst (λ (n : ℕ). length c.args.findings.now.entries + n ≤ length wide.entries) (sym of.sends)
    (c.fewer_do_not_do.ensures c.args.findings.now wide h limits good wider run))
    c.repair_of.ensures

pub returns-clause-no : goal.returns-clause-no
returns-clause-no g c =
    if_then c.repair_of.result
    (λ repair of word wide h limits good further run.
    c.nowhere_else.ensures c.args.findings.now wide h limits good (subst (λ (w : Enough). IsEnough c.args.findings.now w) word of.enough) further run)
    c.repair_of.ensures
