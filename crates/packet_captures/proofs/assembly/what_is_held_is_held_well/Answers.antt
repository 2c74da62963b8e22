use Rattle.std.proofs.Common.{arith}
use Rattle.packet_captures.proofs.HeldLaws.{taken_kept, without_kept}
use Rattle.packet_captures.proofs.assembly.what_is_held_is_held_well.Goals as goal

pub returns-clause-none : goal.returns-clause-none
returns-clause-none c = record { limit = omega arith; distinct = tt; each = tt }

pub returns-clause-taken : goal.returns-clause-taken
returns-clause-taken c = taken_kept

pub returns-clause-refused : goal.returns-clause-refused
returns-clause-refused c = λ held key. without_kept key held
