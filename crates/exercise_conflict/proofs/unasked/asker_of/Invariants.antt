use Rattle.std.proofs.Common.{◌≡◌, None}
use Rattle.siman_pdus.specs.declared.pdu.Pdu.{Pdu}
use Rattle.siman_pdus.specs.Reading.{pdu_of}
use Rattle.exercise_model.specs.History.{station_at}
use Rattle.exercise_model.specs.Setting.{is_from}
use Rattle.exercise_model.specs.Place.{first_below}
use Rattle.exercise_conflict.proofs.unasked.asker_of.Given as goal

-- It goes to none of the stations so far.
abbrev pub invariant-loop-station : goal.invariant-loop-station
invariant-loop-station g l =
    let p : Pdu = pdu_of l.answer in
    first_below (λ t. is_from (station_at l.findings t).address (record p { origin = p.target })) l.station ≡ None
