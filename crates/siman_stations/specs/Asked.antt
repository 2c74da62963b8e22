-- Why a station refuses a call (profile).
use Rattle.std.specs.Prelude.{ℕ, Option, Some, None, option_map, if◌then◌else◌}
use Rattle.siman_pdus.specs.Role.{is_request_body}
use Rattle.exercise_model.specs.Station.{is_entity}
use Rattle.siman_manager.specs.declared.order.Order.{Order}
use Rattle.siman_manager.specs.Answers.{refusal_of}
use Rattle.siman_manager.specs.Book.{Book}
use Rattle.siman_stations.specs.declared.station_fault.StationFault.{StationFault}
use Rattle.siman_stations.specs.declared.station_fault.StationFault.TheVariants as faults

-- why an order is not made with this timestamp
abbrev pub order_fault : Book → ℕ → Order → Option StationFault
order_fault b stamp order = if is_request_body order.body then option_map faults.Order (refusal_of b order stamp) else Some faults.NotARequest

-- why a state is not told
abbrev pub tell_fault : ℕ → Option StationFault
tell_fault e = if is_entity e then None else Some faults.NoSuchEntity
