-- Properties of the marks of a good certificate (profile).
use Rattle.std.specs.Prelude.{◌≡◌, ◌<◌, ℕ, ◌+◌, List, length, take, Bool, true, ◌&&◌, ◌||◌, nat_le, nat_lt, Option, Some}
use Rattle.std.specs.Option.{option_map_or}
use Rattle.dis_records.specs.declared.entity_state.EntityState.{EntityState}
use Rattle.exercise_model.specs.Recording.{PlainRecording}
use Rattle.exercise_model.specs.History.{log_at, station_at}
use Rattle.exercise_model.specs.State.{state_after}
use Rattle.exercise_findings.specs.Source.{source_of}
use Rattle.exercise_check.specs.declared.certificate.Step.{Step}
use Rattle.exercise_check.specs.Sequence.{sequence_of}
use Rattle.exercise_check.specs.Links.{step_at}
use Rattle.exercise_chart.specs.declared.point.Point.{Point}
use Rattle.exercise_chart.specs.declared.point.Rows.{Rows}
use Rattle.exercise_chart.specs.declared.row.Row.{Row}
use Rattle.exercise_chart.specs.declared.arrow.Arrow.{Arrow}
use Rattle.exercise_chart.specs.declared.bar.Bar.{Bar}
use Rattle.exercise_chart.specs.Window.{is_row}
use Rattle.exercise_chart.specs.Point.{point_of}

-- the step and the entry of a row
abbrev pub row_fact : Row → ℕ × ℕ
row_fact row = (row.at.step, row.at.entry)

-- the step and the entry of the n-th shown step of a certificate
abbrev pub step_fact : List Step → Rows → ℕ → ℕ × ℕ
step_fact steps w n = (w.first + n, (step_at steps (w.first + n)).place)

-- AN ARROW LEADS DOWN from the source of a receipt to the receipt, and one of the two is in a row
pub record LeadsDown (r : PlainRecording) (steps : List Step) (w : Rows) (a : Arrow) : Type 0 where
  pub source : source_of r a.to.entry ≡ Some a.from.entry
  pub from : a.from ≡ point_of r steps a.from.entry
  pub to : a.to ≡ point_of r steps a.to.entry
  pub down : a.from.step < a.to.step
  pub shown : (is_row w a.from.step || is_row w a.to.step) ≡ true

-- a change, if one is given, is at step k or before it
abbrev pub is_done : Option Point → ℕ → Bool
is_done change k = option_map_or (λ (p : Point). nat_le p.step k) change true

-- a change, if one is given, is after step k
abbrev pub is_ahead : Option Point → ℕ → Bool
is_ahead change k = option_map_or (λ (p : Point). nat_lt k p.step) change true

-- A BAR COVERS STEP k: it began there or before, and ends after
abbrev pub bar_covers : Bar → ℕ → Bool
bar_covers b k = is_done b.from k && is_ahead b.to k

-- the state of entity e of station s after step k
abbrev pub state_at_step : PlainRecording → List Step → (s e k : ℕ) → EntityState
state_at_step r steps s e k = state_after r.setting.exercise (station_at r s) (log_at s (sequence_of r (take (k + 1) steps))) e

-- A BAR HAS THE STATE that its entity has after each step that it covers
pub record HasState (r : PlainRecording) (steps : List Step) (b : Bar) : Type 0 where
  pub after : (k : ℕ) → k < length steps → bar_covers b k ≡ true → state_at_step r steps b.station b.entity.entity k ≡ b.state
