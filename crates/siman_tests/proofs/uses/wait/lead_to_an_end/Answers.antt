use Rattle.std.proofs.Common.{subst, sym}
use Rattle.exercise_conflict.specs.Cycles.{AreWaits}
use Rattle.siman_tests.proofs.Results.{if_then}
use Rattle.siman_tests.proofs.uses.wait.lead_to_an_end.Goals as goal

pub returns : goal.returns
returns g c = λ is blocked.
    if_then c.waits_of.result
    (λ waits same s within.
    c.ways_end.ensures c.args.findings.now waits.items s is
    (subst (AreWaits c.args.findings.now) (sym same) (c.ways_are_blocked.ensures.waits c.args.findings.now c.args.blocks.now blocked)) within)
    c.waits_of.ensures
