use Rattle.std.proofs.Common.{◌≡◌, ◌⊎◌, Some, reverse, sym, subst, rules}
use Rattle.std.specs.Prelude.{List}
use Rattle.std.specs.Iterator.Adapters.{enumerate_source}
use Rattle.std.proofs.lemmas.Iterator.Consumers.{YieldsList-from_enumerate, YieldsList-so_far, YieldsList-turn, YieldsList-end}
use Rattle.std.proofs.lemmas.Iterator.Adapters.{YieldsList-from_vec}
use Rattle.siman_scripts.specs.declared.act.Move.{Move}
use Rattle.siman_stations.specs.declared.world_fault.WorldFault.{WorldFault}
use Rattle.siman_stations.specs.declared.world_fault.WorldFault.TheVariants.{Memory}
use Rattle.siman_stations.specs.World.{first_fault}
use Rattle.siman_stations.specs.Holds.{IsAfter}
use Rattle.siman_stations.proofs.NumberedMoves.{plain, all_plain, latest_first, stands, run_fault}
use Rattle.siman_stations.proofs.world.World.run.Goals as goal

pub make-requires : goal.make-requires
make-requires c =
    (c.requires.0, reverse (plain c.loop-number.yielded), c.loop-number.invariant c.requires.0 c.requires.1)

pub loop-number-preserved : goal.loop-number-preserved
loop-number-preserved c = λ w h.
    subst (λ (ms : List Move). IsAfter w ms c.make.new.self) (sym (latest_first c.loop-number.yielded (c.in-Some.number, c.in-Some.step)))
    (c.in-Ok.ensures.after w (reverse (plain c.loop-number.yielded)) (c.loop-number.invariant w h))

pub returns-in-Err-clause-fault : goal.returns-in-Err-clause-fault
returns-in-Err-clause-fault c = λ w h.
    let it = c.into_iter-number-iterator in
    let road = YieldsList-from_enumerate {s = it.result}
    (YieldsList-from_vec {s = enumerate_source it.result} c.args.moves.items (search rules) (search rules)) (search rules) in
    let xs = c.args.moves.items in
    let ps = c.loop-number.yielded in
    let before = YieldsList-so_far road ps c.loop-number.number-iterator c.loop-number.yielded_by in
    let turn = YieldsList-turn road ps c.loop-number.number-iterator c.loop-number.yielded_by c.next.result c.next.new.self
    (c.in-Some.number, c.in-Some.step) c.in-Some.is c.next.ensures.steps in
    subst (λ (f : WorldFault). (f ≡ Memory) ⊎ (first_fault w (reverse xs) ≡ Some f)) (sym c.at.ensures)
    (let after = c.loop-number.invariant w h in
    run_fault w xs ps (c.in-Some.number, c.in-Some.step) c.in-Err.fault (stands xs ps (c.in-Some.number, c.in-Some.step) before turn) after.made
    (c.in-Err.ensures.fault w (reverse (plain ps)) after))

pub returns-clause-after : goal.returns-clause-after
returns-clause-after c = λ w h.
    let it = c.into_iter-number-iterator in
    let road = YieldsList-from_enumerate {s = it.result}
    (YieldsList-from_vec {s = enumerate_source it.result} c.args.moves.items (search rules) (search rules)) (search rules) in
    let end = YieldsList-end road c.loop-number.yielded c.loop-number.number-iterator c.loop-number.yielded_by c.next.result c.next.new.self
    c.in-None.is c.next.ensures.steps in
    subst (λ (ms : List Move). IsAfter w (reverse ms) c.loop-number.self) (all_plain c.loop-number.yielded c.args.moves.items end.0)
    (c.loop-number.invariant w h)
