-- The moments of a station: a time of its clock, and the timestamp of what is sent at it (IEEE 1278.1-2012, 6.2.88:
-- bit 0 is set if it is absolute, the upper 31 bits are the time past the hour in units of an hour / 2^31).
use Rattle.std.specs.Prelude.{ℕ, ◌+◌, ◌*◌, ◌/◌, ◌%◌, ◌^◌}
use Rattle.siman_stations.specs.declared.moment.Moment.{Moment}
use Rattle.siman_stations.specs.StationTurn.{stamp_of}

-- the moment of a world at this time of its clock
abbrev pub moment_of : ℕ → Moment
moment_of now = record { now = now; stamp = stamp_of now }

-- the absolute timestamp of this many microseconds since 1970; an hour has 3,600,000,000 of them
abbrev pub absolute_stamp : ℕ → ℕ
absolute_stamp n = 2 * (((n % 3600000000) * 2 ^ 31) / 3600000000) + 1

-- the moment of this many microseconds since 1970
abbrev pub absolute_moment : ℕ → Moment
absolute_moment microseconds = record { now = microseconds; stamp = absolute_stamp microseconds }
