-- The tables of a manager are right after an order was written.
use Rattle.std.proofs.Common.{◌≡◌, ℕ, List, set, ap, sym, ◌∙◌, subst, length-set}
use Rattle.std.specs.Prelude.{slice_get, Some}
use Rattle.indexmap.specs.IndexMap.{keys, values, index_map_len, with_value_at}
use Rattle.siman_manager.specs.declared.kept.MadeOrder.{MadeOrder}
use Rattle.siman_manager.specs.declared.settings.Settings.{Settings}
use Rattle.siman_manager.specs.Table.{Table, numbers_from, IsNumbered}
use Rattle.siman_manager.specs.Blocks.{IsLater, AreLater, AreBlocks, IsRight}
use Rattle.siman_manager.proofs.Tables.{values-with_value_at, keys-written, len-written, length-values}
use Rattle.siman_manager.proofs.Quiet.{later-set, blocks-later}

pub numbered-same : (first : ℕ) (old new : Table) → keys new ≡ keys old → index_map_len new ≡ index_map_len old → IsNumbered first old
    → IsNumbered first new
numbered-same first old new same len numbered = same ∙ numbered ∙ ap (numbers_from first) (sym len)

pub numbered-written : (first : ℕ) (m : Table) (i : ℕ) (w : MadeOrder) → IsNumbered first m → IsNumbered first (with_value_at m i w)
numbered-written first m i w numbered = numbered-same first m (with_value_at m i w) (keys-written m i w) (len-written m i w) numbered

pub blocks-written : (s : Settings) (times : List ℕ) (m : Table) (i : ℕ) (x w : MadeOrder) → slice_get (values m) i ≡ Some x → IsLater s x w
    → AreBlocks s times (values m)
    → AreBlocks s times (values (with_value_at m i w))
blocks-written s times m i x w at later are =
    subst (AreBlocks s times) (sym (values-with_value_at m i w))
    (blocks-later s times (values m) (set (values m) i w) are (later-set s (values m) i x w at later) (length-set (values m) i w))

-- after a walk over orders that are due no sooner
pub right-later : (s : Settings) (times : List ℕ) (old new : Table) → keys new ≡ keys old → index_map_len new ≡ index_map_len old
    → AreLater s (values old) (values new) → IsRight s times old
    → IsRight s times new
right-later s times old new same len later right = record {
  numbered = numbered-same s.first_id old new same len right.numbered;
  blocks = blocks-later s times (values old) (values new) right.blocks later (length-values new ∙ len ∙ sym (length-values old));
}
