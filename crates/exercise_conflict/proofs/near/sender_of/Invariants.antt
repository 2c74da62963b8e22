use Rattle.std.proofs.Common.{◌≡◌, None}
use Rattle.siman_pdus.specs.Reading.{pdu_of}
use Rattle.exercise_model.specs.History.{station_at}
use Rattle.exercise_model.specs.Setting.{is_from}
use Rattle.exercise_model.specs.Place.{first_below}
use Rattle.exercise_conflict.proofs.near.sender_of.Given as goal

-- It comes from none of the stations so far.
abbrev pub invariant-loop-station : goal.invariant-loop-station
invariant-loop-station g l = first_below (λ t. is_from (station_at l.findings t).address (pdu_of l.pdu)) l.station ≡ None
