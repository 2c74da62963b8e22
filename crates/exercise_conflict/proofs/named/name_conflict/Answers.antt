-- The entries of each list stand behind those before.
use Rattle.exercise_conflict.specs.Told.{conflict_entries}
use Rattle.exercise_conflict.proofs.Joined.{behind_both}
use Rattle.exercise_conflict.proofs.named.name_conflict.Goals as goal

pub returns : goal.returns
unfolding conflict_entries
returns c =
    let blocks = rw c.deref.ensures.value at c.in_ok-name_blocks.ensures in
    let ways = rw c.deref-2.ensures.value at c.in_ok-name_ways.ensures in
    let also = rw c.deref-3.ensures.value at c.in_ok-name_further_causes.ensures in
    let lacks = rw c.deref-4.ensures.value at c.in_ok-name_missing_sends.ensures in
    behind_both _ _ _ _ _ (behind_both _ _ _ _ _ (behind_both _ _ _ _ _ blocks ways) also) lacks
