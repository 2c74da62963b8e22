-- Blocks of 64 orders, each with a time before which none of its orders is due.
use Rattle.std.specs.Prelude.{◌≡◌, ◌<◌, ◌≤◌, ◌+◌, ◌*◌, ℕ, false, List, ◌++◌, length, take, drop, slice_get, Option, Some}
use Rattle.siman_manager.specs.declared.kept.MadeOrder.{MadeOrder}
use Rattle.siman_manager.specs.declared.settings.Settings.{Settings}
use Rattle.siman_manager.specs.Book.{is_due, after_tick, repeated}
use Rattle.siman_pdus.specs.declared.pdu.Pdu.{Pdu}
use Rattle.siman_manager.specs.Table.{Table, IsNumbered}
use Rattle.indexmap.specs.IndexMap.{values}

-- the order is not due before this time
abbrev pub IsQuiet : Settings → ℕ → MadeOrder → Type 0
IsQuiet s time k = (now : ℕ) → now < time → is_due s now k ≡ false

-- no order of a block is due before the block's time, and the blocks have all orders
pub record AreBlocks (s : Settings) (times : List ℕ) (orders : List MadeOrder) : Type 0 where
  pub quiet : (b time p : ℕ) (k : MadeOrder) → slice_get times b ≡ Some time → slice_get orders p ≡ Some k → 64 * b ≤ p → p < 64 * b + 64 → IsQuiet s time k
  pub have_all : length orders ≤ 64 * length times
  pub last_begun : 64 * length times < length orders + 64

-- the order y is due no sooner than x was
abbrev pub IsLater : Settings → (x y : MadeOrder) → Type 0
IsLater s x y = (time : ℕ) → IsQuiet s time x → IsQuiet s time y

-- each order is due no sooner than it was
abbrev pub AreLater : Settings → (old new : List MadeOrder) → Type 0
AreLater s old new = (p : ℕ) (y : MadeOrder) → slice_get new p ≡ Some y → (x : MadeOrder) × (slice_get old p ≡ Some x) × IsLater s x y

-- the orders after a tick that looks at those from a place on
abbrev pub ticked_from : Settings → ℕ → ℕ → ℕ → List MadeOrder → List MadeOrder
ticked_from s now stamp place orders = take place orders ++ after_tick s now stamp (drop place orders)

-- the PDU that this tick sends
abbrev pub repeated_from : Settings → ℕ → ℕ → ℕ → List MadeOrder → Option Pdu
repeated_from s now stamp place orders = repeated s now stamp (drop place orders)

-- the tables of a manager are right: each order is under its identifier, and in a block
pub record IsRight (s : Settings) (times : List ℕ) (table : Table) : Type 0 where
  pub numbered : IsNumbered s.first_id table
  pub blocks : AreBlocks s times (values table)
