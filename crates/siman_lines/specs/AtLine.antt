-- Faults of a call at a station and its link (profile).
use Rattle.std.specs.Prelude.{◌≡◌, Option, Some}
use Rattle.siman_stations.specs.declared.station_fault.StationFault.{StationFault}
use Rattle.siman_lines.specs.declared.fault.AtLineFault.{AtLineFault}
use Rattle.siman_lines.specs.declared.fault.AtLineFault.TheVariants as faults

-- a fault of the station itself is the reason against the call; a link, the recorder or memory may fail at any time
abbrev pub Hinders : Option StationFault → AtLineFault → Type 0
Hinders reason (faults.Station fault) = reason ≡ Some fault
Hinders reason faults.Line = Unit {0}
Hinders reason (faults.Record fault) = Unit {0}
Hinders reason faults.Memory = Unit {0}
