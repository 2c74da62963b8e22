use Rattle.std.proofs.Common.{◌∙◌, arith}
use Rattle.exercise_review.proofs.entry_chains.entry_chains.Goals as goal

pub loop-entry-init : goal.loop-entry-init
loop-entry-init g c = record {
  few = omega (arith, c.no_entry_chains-ways.ensures.none);
  kept = c.no_entry_chains-ways.ensures.kept (g.K.EntryKeys.keys c.args.keying.now);
}

pub loop-entry-preserved : goal.loop-entry-preserved
loop-entry-preserved g c = record {
  few = c.in_ok-note_index_key.ensures.keys;
  kept = c.in_ok-note_index_key.ensures.kept (g.K.EntryKeys.keys c.args.keying.now) (c.index_key_of.ensures c.loop-entry.ways.keys ∙ c.key.ensures) c.loop-entry.invariant.kept;
}
