-- Until something comes, the line goes on.
use Rattle.std.proofs.Common.{sym, ◌∙◌, arith}
use Rattle.siman_operator.proofs.Waited.{ended, lasted, never_tick, comes_on, waits_on}
use Rattle.siman_operator.proofs.coming.next_coming.Goals as goal

pub loop-init : goal.loop-init
loop-init g c = (c.requires, λ rest begun. begun)

pub returns-in-Some-clause-goes : goal.returns-in-Some-clause-goes
returns-in-Some-clause-goes g c =
    let read = rw c.wait-found.ensures at c.in_ok-said.ensures.goes in
    λ rest begun. comes_on rest _ _ _ c.args.until c.wait-found.result _ _ (sym c.come_of.ensures ∙ c.in-Some.is) (read rest (c.loop.invariant.1 rest begun))

pub returns-in-Some-clause-no_tick : goal.returns-in-Some-clause-no_tick
returns-in-Some-clause-no_tick g c = never_tick c.args.until c.in-Some.come.found c.in-Some.come.coming (ended c.args.until c.wait-found.result _ _ c.in_ok-said.ensures.text (sym c.come_of.ensures ∙ c.in-Some.is))

pub returns-in-Some-clause-until : goal.returns-in-Some-clause-until
returns-in-Some-clause-until g c = lasted c.args.until c.wait-found.result _ _ (sym c.come_of.ensures ∙ c.in-Some.is)

pub returns-in-Some-clause-ends : goal.returns-in-Some-clause-ends
returns-in-Some-clause-ends g c = ended c.args.until c.wait-found.result _ _ c.in_ok-said.ensures.text (sym c.come_of.ensures ∙ c.in-Some.is)

pub loop-preserved : goal.loop-preserved
loop-preserved g c =
    let read = rw c.wait-found.ensures at c.in_ok-said.ensures.goes in
    (omega (arith, c.loop.invariant.0, c.read_on.auto.buffer), λ rest begun. waits_on rest _ _ _ c.args.until c.wait-found.result _ (sym c.come_of.ensures ∙ c.in_default.is) (read rest (c.loop.invariant.1 rest begun)))
