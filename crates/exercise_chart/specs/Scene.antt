-- The input of a picture: a recording, the steps of a certificate of it, the range of steps to show,
-- the entities that are chosen for bars, of which none means all, and the next entries of stations that
-- cannot go on (profile).
use Rattle.std.specs.Prelude.{ℕ, List, length, Option}
use Rattle.dis_records.specs.declared.entity.EntityId.{EntityId}
use Rattle.exercise_model.specs.Recording.{PlainRecording}
use Rattle.exercise_model.specs.Stamps.{AreStamps}
use Rattle.exercise_check.specs.declared.certificate.Step.{Step}
use Rattle.exercise_review.specs.Entries.{bytes_sent, bytes_received}
use Rattle.exercise_chart.specs.declared.point.Point.{Point}
use Rattle.exercise_chart.specs.declared.point.Rows.{Rows}
use Rattle.exercise_chart.specs.declared.selection.BlockedEntry.{BlockedEntry}
use Rattle.exercise_chart.specs.Point.{point_of, AreTaken}
use Rattle.exercise_chart.specs.Deeds.{Firsts, AreFirsts}

pub record SceneData : Type 0 where
  pub recording : PlainRecording
  pub steps : List Step
  pub rows : Rows
  pub chosen : List EntityId
  pub blocked : List BlockedEntry

-- the point of entry i
abbrev pub point_in : SceneData → ℕ → Point
point_in c i = point_of c.recording c.steps i

-- the indexes of a scene: the step and the stamp of each entry, and the first send and the first receipt of each
-- datagram at each station
pub record IsScene (r : PlainRecording) (steps : List Step) (taken : List (Option ℕ)) (stamps : List ℕ) (sent got : Firsts) : Type 0 where
  pub stepped : AreTaken steps (length steps) (length r.entries) taken
  pub sends : AreFirsts (bytes_sent r) (length r.entries) sent
  pub stamped : AreStamps r stamps
  pub receipts : AreFirsts (bytes_received r) (length r.entries) got
