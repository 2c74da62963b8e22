-- Clock times (IEEE 1278.1-2012, 6.2.14).
use Rattle.std.specs.Prelude.{ℕ, List, [], ◌∷◌, ◌+◌}
use Rattle.std.specs.Int.{w32}
use Rattle.dis_records.specs.declared.clock_time.ClockTime.{ClockTime}
use Rattle.dis_records.specs.Layout.{Field, Number, spelled_number}

-- hours since 1 January 1970, time past the hour
abbrev pub clock_time_layout : ClockTime → List Field
clock_time_layout t = Number w32 t.hour ∷ Number w32 t.past ∷ []

-- the clock time at an offset
abbrev pub clock_time_at : ℕ → List ℕ → ClockTime
clock_time_at at b = record { hour = spelled_number w32 at b; past = spelled_number w32 (at + 4) b }
