-- Why a move is refused, as the fault of a command has it (profile).
use Rattle.siman_manager.specs.declared.fault.OrderFault.TheVariants as orders
use Rattle.siman_outside.specs.declared.move_refusal.MoveRefusal.{MoveRefusal}
use Rattle.siman_outside.specs.declared.move_refusal.MoveRefusal.TheVariants as refusals
use Rattle.siman_stations.specs.declared.world_fault.MoveFault.{MoveFault}
use Rattle.siman_stations.specs.declared.world_fault.MoveFault.TheVariants as moves

abbrev pub move_refusal : MoveFault → MoveRefusal
move_refusal moves.Records = refusals.Records
move_refusal moves.NoSuchStation = refusals.NoSuchStation
move_refusal moves.NoSuchSend = refusals.NoSuchSend
move_refusal moves.NoSuchEntity = refusals.NoSuchEntity
move_refusal moves.NotARequest = refusals.NotARequest
move_refusal (moves.Order orders.IdsSpent) = refusals.IdsSpent
move_refusal (moves.Order orders.TooLong) = refusals.TooLong
move_refusal (moves.Order orders.Memory) = refusals.Memory
