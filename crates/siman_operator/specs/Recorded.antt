-- A recorded session, from the start of the recording to its end (profile). Histories have THE LAST EVENT FIRST.
use Rattle.std.specs.Prelude.{◌≡◌, ◌≤◌, ◌⊎◌, ℕ, List, ◌++◌, length, Option, Some, Ok, Err}
use Rattle.std.specs.Io.KnownBytes.{Appends}
use Rattle.byte_files.specs.Writing.{WritesPart}
use Rattle.dis_records.specs.declared.address.SiteApplication.{SiteApplication}
use Rattle.exercise_model.specs.declared.form.Form.TheVariants.{Open}
use Rattle.exercise_model.specs.Entry.{Entry}
use Rattle.exercise_model.specs.History.{past, log_at}
use Rattle.exercise_model.specs.Recording.{PlainRecording, IsRecording, opened}
use Rattle.exercise_model.specs.Run.{Explains}
use Rattle.exercise_model.specs.Setting.{SettingData}
use Rattle.exercise_recording.specs.Text.{head_text, recording_text}
use Rattle.exercise_recording.specs.Writer.{WriterState, Starts}
use Rattle.siman_application.specs.AppProfile.{AppProfile}
use Rattle.siman_application.specs.OwnLog.{AreOneOrder}
use Rattle.siman_lines.specs.declared.line.PassedOver.{PassedOver}
use Rattle.siman_lines.specs.Calls.{IsFresh}
use Rattle.siman_operator.specs.declared.printing.PrintFault.TheVariants as prints
use Rattle.siman_operator.specs.Deeds.{PostData}
use Rattle.siman_operator.specs.Posts.{begun_post}
use Rattle.siman_operator.specs.Explained.{HearsOwnSent}
use Rattle.siman_operator.specs.Noting.{datagrams_sent}
use Rattle.siman_operator.specs.declared.recorded.ReadyStation.{ReadyStation}
use Rattle.siman_operator.specs.declared.session_report.SessionReport.{SessionReport}
use Rattle.siman_operator.specs.Sessions.{Plays}
use Rattle.siman_operator.specs.Told.{WritesMore, closed_text}

-- the setting of the recording that a session writes: its station alone, in the second format, open
abbrev pub open_setting : PlainRecording → SettingData
open_setting head = record { form = Open; exercise = head.setting.exercise; stations = head.setting.stations }

-- A STATION IN ITS INITIAL STATE: it is the only one of its recording, no row was made of it, it has received nothing
-- and made no order, and its link has sent nothing
pub record IsReady {L : Type 0} (ready : ReadyStation L) : Type 0 where
  pub one : length ready.head.setting.stations ≡ 1
  pub log : ready.log ≡ opened (open_setting ready.head)
  pub index : ready.station.index ≡ 0
  pub fresh : IsFresh 0 ready.station.node (open_setting ready.head) (Some (datagrams_sent ready.station.line))

-- a post is played; its file has what the recorder wrote
abbrev pub RecordsBegun : {L : Type 0} → (stations : List SiteApplication) → (passed : L → PassedOver) → (known : Option (List ℕ)) → PostData L → (out out_after errors errors_after : Option (List ℕ))
    → (file : Option (List ℕ)) → SessionReport → Type 0
RecordsBegun {L} stations passed known post out out_after errors errors_after file told =
    (after : PostData L) × (file ≡ after.recorder.contents) × Plays stations passed known post after out out_after errors errors_after told

-- the head was not written whole: this is reported, and no line is read
pub record RecordsNone (w : SettingData) (file file_after out out_after errors errors_after : Option (List ℕ)) (told : SessionReport) : Type 0 where
  pub head : WritesPart file file_after (head_text w)
  pub out_is : out_after ≡ out
  pub status : told.status ≡ 2
  pub tells : WritesMore (Ok tt) told.written errors errors_after (closed_text (Err prints.Write))

-- A SESSION IS RECORDED: the head is written, and then the post is played
abbrev pub Records : {L : Type 0} → (passed : L → PassedOver) → (known : Option (List ℕ)) → ReadyStation L → (file file_after out out_after errors errors_after : Option (List ℕ))
    → SessionReport → Type 0
Records passed known ready file file_after out out_after errors errors_after told =
    RecordsNone (open_setting ready.head) file file_after out out_after errors errors_after told
    ⊎ ((w : WriterState) × Starts file (open_setting ready.head) w × RecordsBegun ready.stations.items passed known (begun_post ready.log ready.address ready.station w ready.source) out out_after errors errors_after file_after told)

-- WHAT THE FILE HAS: the text of a recording of some entries and at most one more, or a prefix of it; with status 0
-- the whole text with these entries. What the station recorded is explained: each prefix of the entries is a run in
-- the order of the file, if no received datagram names the station as its originator except what it had sent
-- before, and if no site and application used one request identifier for two orders
pub record IsLeft (w : SettingData) (outfit : AppProfile) (status : ℕ) (file file_after : Option (List ℕ)) : Type 0 where
  pub entries : List Entry
  pub torn : List Entry
  pub few : length torn ≤ 1
  pub is : IsRecording (record { setting = w; entries = entries ++ torn })
  pub part : WritesPart file file_after (recording_text (record { setting = w; entries = entries ++ torn }))
  pub whole : status ≡ 0 → Appends file file_after (recording_text (record { setting = w; entries = entries }))
  pub explained : (front back : List Entry) → entries ≡ front ++ back → AreOneOrder outfit (log_at 0 (past entries)) → HearsOwnSent w (past front)
      → Explains (record { setting = w; entries = front }) (past front)
