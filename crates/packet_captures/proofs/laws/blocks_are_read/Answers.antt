use Rattle.packet_captures.proofs.Spellings.{block-kind, block-sized, block-taken, block-dropped}
use Rattle.packet_captures.proofs.laws.blocks_are_read.Goals as goal

pub returns : goal.returns
returns c order head at kind body rest h g e =
    (block-kind order kind body rest h, block-sized order head at kind body rest g e, block-taken order kind body rest, block-dropped order kind body rest)
