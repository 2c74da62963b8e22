-- No file is opened where a word says no step.
use Rattle.std.proofs.Common.{◌++◌, codes, refl, inl, inr, append-nil}
use Rattle.std.proofs.KnownBytes.{Keeps-refl}
use Rattle.siman_outside.specs.declared.fault.Fault.TheVariants.{Filter}
use Rattle.siman_outside.proofs.Offered.{did_nothing, did_so}
use Rattle.siman_analysis_commands.proofs.chart.chart_named.Goals as goal

pub returns-in-Err : goal.returns-in-Err
returns-in-Err g c =
    did_nothing g.O.Outside.deeds g.O.Outside.holds _ _
    (inl (c.in-Err.word.now, Filter c.in-Err.word, c.in-Err.ensures.bad, append-nil (codes "filter: " ++ c.in-Err.word.now), refl, refl, Keeps-refl (g.W.Write.contents c.args.out.now)))

pub returns-in-Ok : goal.returns-in-Ok
returns-in-Ok g c = did_so g.O.Outside.deeds g.O.Outside.holds _ _ _ _ (λ deeds did. inr (c.in-Ok.window, c.in-Ok.ensures.said, did)) c.chart_of.ensures
