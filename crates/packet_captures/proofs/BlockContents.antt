-- A block that is not looked into tells nothing.
use Rattle.std.proofs.Common.{◌≡◌, ℕ, List, Option, None, false, arith}
use Rattle.std.specs.Prelude.{Ok}
use Rattle.std.proofs.lemmas.Grind.{common_steps}
use Rattle.packet_captures.specs.declared.byte_order.ByteOrder.{ByteOrder}
use Rattle.packet_captures.specs.Pcapng.{block_content, packet_in_block, state_after, is_looked_into}
use Rattle.packet_captures.specs.State.{State}

pub no_content : (order : ByteOrder) (name : Option (List ℕ)) (s : State) (kind at : ℕ) (block : List ℕ)
    → is_looked_into kind ≡ false → block_content order name s kind at block ≡ Ok (None, s)
unfolding block_content packet_in_block state_after
no_content order name s kind at block h = grind (arith, common_steps)
