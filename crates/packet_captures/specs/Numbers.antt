-- Numbers in either byte order.
use Rattle.std.specs.Prelude.{ℕ, List, take, drop}
use Rattle.std.specs.Int.{Width, byte_len, from_be_bytes, from_le_bytes}
use Rattle.packet_captures.specs.declared.byte_order.ByteOrder.{ByteOrder}
use Rattle.packet_captures.specs.declared.byte_order.ByteOrder.TheVariants.{Little, Big}

-- the number in the bytes of a width at an offset
unfoldable pub number_at : ByteOrder → Width → (at : ℕ) → List ℕ → ℕ
number_at Little w at b = from_le_bytes w (take (byte_len w) (drop at b))
number_at Big w at b = from_be_bytes w (take (byte_len w) (drop at b))
