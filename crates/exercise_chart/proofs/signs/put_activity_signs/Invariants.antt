-- The signs so far.
use Rattle.std.proofs.Common.{◌≡◌, ◌++◌, take, string_bytes}
use Rattle.std.specs.List.{flat_map}
use Rattle.exercise_chart.specs.declared.row.Row.{Row}
use Rattle.exercise_chart.specs.Signs.{activity_sign_text}
use Rattle.exercise_chart.proofs.signs.put_activity_signs.Given as goal

abbrev pub invariant-loop-row : goal.invariant-loop-row
invariant-loop-row l = string_bytes l.text ≡ string_bytes l.initial.text ++ flat_map (λ (row : Row). activity_sign_text l.frame l.bars row.at row.did) (take l.row-index l.rows)
