-- The range of shown steps (profile).
use Rattle.std.specs.Prelude.{ℕ, Bool, ◌&&◌, nat_le, nat_lt}
use Rattle.exercise_chart.specs.declared.point.Rows.{Rows}

-- step k is shown
abbrev pub is_row : Rows → ℕ → Bool
is_row w k = nat_le w.first k && nat_lt k w.end
