use Rattle.std.proofs.Common.{ℕ, length, set, Option, sym, subst, ap, ◌∙◌, arith}
use Rattle.std.specs.Prelude.{IfErr}
use Rattle.std.proofs.lemmas.Result.{on_ok_weaker}
use Rattle.siman_stations.specs.declared.world_fault.MoveFault.{MoveFault}
use Rattle.siman_stations.specs.Acts.{Gives, AreShort}
use Rattle.siman_stations.proofs.Steps.{both_ok, all_short, node_at, fault_at}
use Rattle.siman_stations.proofs.world.World.step.Goals as goal
use Rattle.std.proofs.lemmas.Grind.{elements}

pub act_at-requires-clause-short : goal.act_at-requires-clause-short
act_at-requires-clause-short c =
    let w = c.args.self.now in
    subst AreShort (sym c.requires.sends)
    (all_short (length w.journal.recording.setting.stations) w.journal.recording.entries c.entry_count.ensures.limits.each_entry)

pub act_at-requires-clause-repeats : goal.act_at-requires-clause-repeats
act_at-requires-clause-repeats c =
    let n = c.index_mut-node.result.now in
    c.requires.repeats c.args.step.station n
    (node_at c.args.self.now.nodes.items c.from-2.result c.args.step.station n (omega arith) c.from-2.ensures c.index_mut-node.ensures.value)

pub returns-clause-does : goal.returns-clause-does
returns-clause-does c =
    let n = c.index_mut-node.result.now in
    let w = c.args.self.now in
    both_ok c.act_at.result (λ halves entries. record {
      before = n;
      after = c.act_at.new.node;
      stood = node_at w.nodes.items c.from-2.result c.args.step.station n (omega arith) c.from-2.ensures c.index_mut-node.ensures.value;
      nodes = ap (λ (i : ℕ). set w.nodes.items i c.act_at.new.node) c.from-2.ensures;
      halves = halves;
      entries = record { recording = entries.recording; sends = entries.sends };
    }) c.act_at.ensures.halves c.act_at.ensures.entries

pub returns-clause-made : goal.returns-clause-made
returns-clause-made c =
    let n = c.index_mut-node.result.now in
    let w = c.args.self.now in
    let stood = node_at w.nodes.items c.from-2.result c.args.step.station n (omega arith) c.from-2.ensures c.index_mut-node.ensures.value in
    on_ok_weaker c.act_at.result (λ f. fault_at w c.args.step n (omega arith) stood ∙ f) c.act_at.ensures.done

pub returns-clause-fault : goal.returns-clause-fault
returns-clause-fault c =
    let n = c.index_mut-node.result.now in
    let w = c.args.self.now in
    let stood = node_at w.nodes.items c.from-2.result c.args.step.station n (omega arith) c.from-2.ensures c.index_mut-node.ensures.value in
    subst (λ (o : Option MoveFault). IfErr c.act_at.result (Gives o)) (sym (fault_at w c.args.step n (omega arith) stood)) c.act_at.ensures.fault

pub returns-then-from-len-clause-fault : goal.returns-then-from-len-clause-fault
returns-then-from-len-clause-fault c = grind (arith, elements)
