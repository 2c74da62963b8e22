-- The clock of a row: the time of day, in UTC, of the stamp of its entry (profile).
use Rattle.std.specs.Prelude.{ℕ, ◌/◌, ◌%◌, List, ◌++◌, codes, decimal}
use Rattle.exercise_chart.specs.declared.clock.ClockUnit.{ClockUnit}
use Rattle.exercise_chart.specs.declared.clock.ClockUnit.TheVariants as units

abbrev pub two_digits : ℕ → List ℕ
two_digits n = decimal (n / 10) ++ decimal (n % 10)

abbrev pub three_digits : ℕ → List ℕ
three_digits n = decimal (n / 100) ++ two_digits (n % 100)

abbrev pub six_digits : ℕ → List ℕ
six_digits n = three_digits (n / 1000) ++ three_digits (n % 1000)

-- HH:MM:SS of seconds since 1970-01-01
unfoldable pub day_text : ℕ → List ℕ
day_text seconds =
    two_digits (seconds / 3600 % 24) ++ codes ":" ++ two_digits (seconds / 60 % 60) ++ codes ":" ++ two_digits (seconds % 60)

-- THE TIME OF DAY of a stamp that counts microseconds, milliseconds or seconds since 1970-01-01, with
-- 6, 3 or 0 digits behind the second
unfoldable pub clock_text : ClockUnit → (stamp : ℕ) → List ℕ
clock_text units.Microsecond stamp = day_text (stamp / 1000000) ++ codes "." ++ six_digits (stamp % 1000000)
clock_text units.Millisecond stamp = day_text (stamp / 1000) ++ codes "." ++ three_digits (stamp % 1000)
clock_text units.Second stamp = day_text stamp
