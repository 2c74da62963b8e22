-- Each block has its way.
use Rattle.std.proofs.Common.{refl}
use Rattle.siman_tests.proofs.uses.wait.comes_to_something.Goals as goal

pub returns : goal.returns
returns g c = λ n blocked at.
    let found = c.each_block_has_its_way.ensures c.args.findings.now c.args.blocks.now n c.args.block blocked at in
    rw (c.way_of.ensures, found.1) refl
