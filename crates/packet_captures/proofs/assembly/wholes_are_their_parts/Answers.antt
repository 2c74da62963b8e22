use Rattle.std.proofs.Common.{arith}
use Rattle.packet_captures.proofs.PartLaws.{joined_length, parts_stand}
use Rattle.packet_captures.proofs.assembly.wholes_are_their_parts.Goals as goal

pub returns-clause-size : goal.returns-clause-size
returns-clause-size c = λ end ps whole. let e = joined_length 0 end ps whole in omega arith

pub returns-clause-parts : goal.returns-clause-parts
returns-clause-parts c = parts_stand 0
