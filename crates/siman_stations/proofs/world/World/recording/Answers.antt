use Rattle.siman_stations.proofs.world.World.recording.Goals as goal

pub returns : goal.returns
returns c = λ w ms h. h.holds.recording
