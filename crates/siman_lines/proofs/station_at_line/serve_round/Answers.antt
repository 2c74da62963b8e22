-- The station of a number was served, or not whole.
use Rattle.std.proofs.Common.{arith}
use Rattle.siman_lines.specs.AtLines.{RoundEnds}
use Rattle.siman_lines.proofs.Rounds.{at_fault, stands_at, follows_on, round_on, round_stops}
use Rattle.siman_lines.proofs.station_at_line.serve_round.Goals as goal

pub returns-in_err-serve_at-clause-ends : goal.returns-in_err-serve_at-clause-ends
returns-in_err-serve_at-clause-ends g c =
    let before = c.loop-number.invariant in
    let there = stands_at c.loop-number.stations.items c.loop-number.number c.index_mut.result.now
    (omega (arith, c.loop-number-test.true, c.len-number-end.ensures, before.1.count)) c.index_mut.ensures.value in
    at_fault (RoundEnds _ _ _ _ _) c.in_err-serve_at.field-0.0 c.from_residual.result c.from_residual.ensures.1
    (round_stops _ _ _ _ _ _ _ _ _ _ _ (omega (arith, c.loop-number-test.true, c.len-number-end.ensures)) before.0 there c.in_err-serve_at.ensures.ends)

pub returns-in_err-serve_at-clause-follows : goal.returns-in_err-serve_at-clause-follows
returns-in_err-serve_at-clause-follows g c =
    let before = c.loop-number.invariant in
    let there = stands_at c.loop-number.stations.items c.loop-number.number c.index_mut.result.now
    (omega (arith, c.loop-number-test.true, c.len-number-end.ensures, before.1.count)) c.index_mut.ensures.value in
    follows_on _ _ _ _ _ _ _ _ before.1 there c.in_err-serve_at.ensures.ends.index c.in_err-serve_at.ensures.keeps

pub loop-number-preserved : goal.loop-number-preserved
loop-number-preserved g c =
    let before = c.loop-number.invariant in
    let there = stands_at c.loop-number.stations.items c.loop-number.number c.index_mut.result.now
    (omega (arith, c.loop-number-test.true, c.len-number-end.ensures, before.1.count)) c.index_mut.ensures.value in
    let served = c.in_ok-serve_at.ensures.ends in (
      round_on _ _ _ _ _ _ _ _ _ _ before.0 there served,
      follows_on _ _ _ _ _ _ _ _ before.1 there served.index c.in_ok-serve_at.ensures.keeps,
    )
