-- A round was made, or not whole.
use Rattle.std.proofs.Common.{arith}
use Rattle.siman_lines.specs.AtLines.{RoundsEnd}
use Rattle.siman_lines.proofs.Rounds.{at_fault, follows_then, each_as, each_more}
use Rattle.siman_lines.proofs.station_at_line.serve_rounds.Goals as goal

pub returns-in_err-serve_round-clause-ends : goal.returns-in_err-serve_round-clause-ends
returns-in_err-serve_round-clause-ends g c =
    at_fault (RoundsEnd _ _ _ _ _ _) c.in_err-serve_round.field-0.0 c.from_residual.result c.from_residual.ensures.1
    (record {
      number = c.loop.counter;
      within = c.loop-test.true;
      mid = record { stations = c.loop.stations.items; recorder = c.loop.recorder };
      made = c.loop.invariant.0;
      fails = c.in_err-serve_round.ensures.ends;
    })

pub returns-in_err-serve_round-clause-follows : goal.returns-in_err-serve_round-clause-follows
returns-in_err-serve_round-clause-follows g c = follows_then _ _ _ _ c.loop.invariant.1 c.in_err-serve_round.ensures.follows

pub loop-preserved : goal.loop-preserved
loop-preserved g c = (
  each_more _ _ _ (record { stations = c.loop.stations.items; recorder = c.loop.recorder }) _ c.loop.invariant.0 c.in_ok-serve_round.ensures.ends,
  follows_then _ _ _ _ c.loop.invariant.1 c.in_ok-serve_round.ensures.follows,
)

pub returns-clause-ends : goal.returns-clause-ends
returns-clause-ends g c =
    each_as _ c.loop.counter c.args.rounds _ _ (omega (arith, c.loop-test.false, c.loop.auto.counter-end)) c.loop.invariant.0
