-- Findings of a pass over a log, entry by entry, and their tables (profile).
use Rattle.std.specs.Prelude.{◌≡◌, ◌≤◌, ℕ, Bool, true, false, [], length, take, slice_get, Option, None, IfSome, IfNone, option_and_then}
use Rattle.std.specs.Option.{option_map_or}
use Rattle.exercise_model.specs.declared.cause.Cause.{Cause}
use Rattle.exercise_model.specs.Recording.{PlainRecording, IsRecording}
use Rattle.exercise_model.specs.History.{Event, Send, Get, Tell, event_of, station_at}
use Rattle.exercise_model.specs.Meaning.{meaning}
use Rattle.exercise_model.specs.State.{state_after}
use Rattle.exercise_model.specs.Cause.{send_cause, cause_of, tell_rows, first_cause}
use Rattle.exercise_model.specs.Place.{log_before}
use Rattle.exercise_model.specs.Account.{pair_of, change_at, is_other, others_among}
use Rattle.exercise_findings.specs.declared.tables.Tables.{Tables}
use Rattle.exercise_findings.specs.declared.pass.Pass.{Pass}
use Rattle.exercise_findings.specs.declared.pass.PassResult.{PassResult}
use Rattle.exercise_findings.specs.declared.found.Found.{Found}
use Rattle.exercise_findings.specs.Firsts.{key_at, AreFirsts, IsBased}
use Rattle.exercise_findings.specs.ChangeNumber.{change_in}
use Rattle.exercise_findings.specs.Column.{IsColumn, IsShortColumn}
use Rattle.exercise_findings.specs.Behind.{change_key_at, AreChangeKeys}
use Rattle.exercise_findings.specs.Answered.{unasked_at, AreAnswered}
use Rattle.exercise_findings.specs.Source.{source_at}
use Rattle.exercise_findings.specs.Earlier.{IsBackReference, IsBackReferenceSoFar}
use Rattle.exercise_findings.specs.FirstSends.{AreFirstSends, IsNewSend}
use Rattle.exercise_findings.specs.Senders.{AreSenders}
use Rattle.exercise_findings.specs.States.{AreStates}

-- THE TIE of the tables, after the entries below n
pub record AreTablesBelow (r : PlainRecording) (n : ℕ) (t : Tables) : Type 0 where
  pub firsts : AreFirsts r n t.firsts
  pub states : AreStates r n t.states.items

-- The first cause that its station's log shows against the event of entry j, where a receipt is judged as if nothing had been sent before.
abbrev pub event_own_cause : PlainRecording → ℕ → Event → Option Cause
event_own_cause r j (Send s b) = option_and_then (send_cause r.setting.exercise (station_at r s) (log_before r s j)) (meaning r.setting.exercise b)
event_own_cause r j (Get s b) = cause_of r.setting [] (Get s b)
event_own_cause r j (Tell s e y) = first_cause (tell_rows y (state_after r.setting.exercise (station_at r s) (log_before r s j) e))

unfoldable pub own_cause : PlainRecording → ℕ → Option Cause
own_cause r j = option_and_then (λ e. event_own_cause r j (event_of e)) (slice_get r.entries j)

abbrev pub IsOwnCause : PlainRecording → ℕ → Option Cause → Type 0
IsOwnCause r j cause = cause ≡ own_cause r j

-- the number encodes the change of entry j
abbrev pub IsChangeAt : PlainRecording → ℕ → ℕ → Type 0
IsChangeAt r j number = change_in number ≡ change_at r j

-- the datagram of entry j is "other"
unfoldable pub other_at : PlainRecording → ℕ → Bool
other_at r j = option_map_or (is_other r.setting.exercise) (slice_get r.entries j) false

-- The findings about entry n
pub record IsFound (r : PlainRecording) (n : ℕ) (f : Found) : Type 0 where
  pub cause : f.cause ≡ own_cause r n
  pub pair : f.pair ≡ pair_of r n
  pub unasked : f.is_unasked ≡ unasked_at r n
  pub change : f.change ≡ change_at r n
  pub key : f.key ≡ key_at r n
  pub based : IsBased r n f.base
  pub behind : f.behind ≡ change_key_at r n
  pub source : f.is_source ≡ source_at r n
  pub fresh : f.is_new ≡ true → IsNewSend r n
  pub other : f.other ≡ other_at r n

-- WHAT A PASS FINDS in the entries below n
pub record IsPass (r : PlainRecording) (n : ℕ) (f : Pass) : Type 0 where
  pub tied : AreTablesBelow r n f.tables
  pub causes : IsColumn None (IsOwnCause r) n f.causes.items
  pub changes : IsShortColumn 0 (IsChangeAt r) n f.changes.items
  pub earlier : IsShortColumn 0xFFFFFFFF (IsBackReferenceSoFar r) n f.earlier.items
  pub later : f.looks.later ≡ 0 → IsShortColumn 0xFFFFFFFF (IsBackReference r) n f.earlier.items
  pub ables : AreChangeKeys r n f.ables.items
  pub answered : AreAnswered r n f.answered
  pub sends : AreFirstSends r n f.sends
  pub others : f.others ≡ others_among r.setting.exercise (take n r.entries)
  pub few : f.others ≤ n

-- WHAT IS FOUND in a whole log
pub record AreFound (r : PlainRecording) (f : PassResult) : Type 0 where
  pub tied : AreTablesBelow r (length r.entries) f.tables
  pub causes : IsColumn None (IsOwnCause r) (length r.entries) f.causes.items
  pub changes : IsShortColumn 0 (IsChangeAt r) (length r.entries) f.changes.items
  pub earlier : IsShortColumn 0xFFFFFFFF (IsBackReferenceSoFar r) (length r.entries) f.earlier.items
  pub senders : IfSome f.senders (AreSenders r (length r.entries))
  pub sources : IfNone f.senders (IsShortColumn 0xFFFFFFFF (IsBackReference r) (length r.entries) f.earlier.items)
  pub ables : AreChangeKeys r (length r.entries) f.ables.items
  pub others : f.others ≡ others_among r.setting.exercise (take (length r.entries) r.entries)

pub record AreFindings (r : PlainRecording) (f : PassResult) : Type 0 where
  pub limits : IsRecording r
  pub found : AreFound r f
