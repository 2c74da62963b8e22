use Rattle.std.proofs.Common.{None, Option, Some, is_some, option_map, sym, true, ◌≡◌}
use Rattle.siman_tests.proofs.Results.{if_then}
use Rattle.siman_tests.proofs.uses.wait.block_in_a_ring.Goals as goal

ring : {X Y : Type 0} (f : X → Y) (o : Option X) (p : Option Y) → option_map f o ≡ p → is_some o ≡ true → (y : Y) × (p ≡ Some y)
ring f None p same some = absurd cc
ring f (Some x) p same some = (f x, sym same)

pub returns : goal.returns
returns c = λ is waits.
    if_then c.cycle_at.result
    (λ found same some h run.
    let there = ring _ found _ same some in
    c.cycles_block.ensures c.args.recording.now c.args.waits.now c.args.station there.0 h is waits there.1 run)
    c.cycle_at.ensures
