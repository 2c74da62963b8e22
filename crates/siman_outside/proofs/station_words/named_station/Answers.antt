use Rattle.std.proofs.Common.{arith}
use Rattle.std.proofs.lemmas.Grind.{common_steps}
use Rattle.siman_outside.proofs.station_words.named_station.Goals as goal

pub scale_in_slice-setup : goal.scale_in_slice-setup
scale_in_slice-setup g c = grind (arith, common_steps)

pub scale_in_slice-address : goal.scale_in_slice-address
scale_in_slice-address g c = grind (arith, common_steps)

pub scale_in_slice-recording : goal.scale_in_slice-recording
scale_in_slice-recording g c = grind (arith, common_steps)

pub scale_in_slice-bind : goal.scale_in_slice-bind
scale_in_slice-bind g c = grind (arith, common_steps)

pub scale_in_slice-peers : goal.scale_in_slice-peers
scale_in_slice-peers g c = grind (arith, common_steps)

pub slice_bounds-peers-count : goal.slice_bounds-peers-count
slice_bounds-peers-count g c = grind (arith, common_steps)

pub bounds-names-0 : goal.bounds-names-0
bounds-names-0 g c = grind (arith, common_steps)

pub bounds-names-1 : goal.bounds-names-1
bounds-names-1 g c = grind (arith, common_steps)

pub bounds-names-2 : goal.bounds-names-2
bounds-names-2 g c = grind (arith, common_steps)

pub bounds-names-3 : goal.bounds-names-3
bounds-names-3 g c = grind (arith, common_steps)

pub slice_bounds-peers-start : goal.slice_bounds-peers-start
slice_bounds-peers-start g c = grind (arith, common_steps)

pub slice_bounds-peers-end : goal.slice_bounds-peers-end
slice_bounds-peers-end g c = grind (arith, common_steps)

pub returns-in-len4-up : goal.returns-in-len4-up
returns-in-len4-up g c = grind (arith, common_steps)

pub returns-in_default : goal.returns-in_default
returns-in_default g c = grind (arith, common_steps)
