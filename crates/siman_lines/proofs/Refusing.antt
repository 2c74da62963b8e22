-- Where a recorder refuses an entry of a call.
use Rattle.std.proofs.Common.{◌≡◌, ℕ, ◌<◌, ◌≤◌, List, [], ◌∷◌, length, refl, sym, ◌∙◌, subst, inl, inr, arith}
use Rattle.std.specs.Prelude.{Bool, true, false, nat_lt, nat_le, ◌&&◌, Option, Some, None, Result, Ok, Err}
use Rattle.std.proofs.lemmas.Bool.Decides.{nat_tests}
use Rattle.dis_records.specs.declared.header.TheConstants.{LARGEST_DATAGRAM}
use Rattle.siman_pdus.specs.Spelling.{pdu_text}
use Rattle.exercise_model.specs.Entry.{Sent, Received, is_entry}
use Rattle.exercise_model.specs.Setting.{SettingData}
use Rattle.exercise_recording.specs.declared.fault.WriterFault.{WriterFault}
use Rattle.exercise_recording.specs.Writer.{WriterState}
use Rattle.siman_manager.specs.declared.order.Order.{Order}
use Rattle.siman_stations.specs.declared.moment.Moment.{Moment}
use Rattle.siman_stations.specs.declared.turn.Node.{Node}
use Rattle.siman_stations.specs.declared.turn.TurnFault.TheVariants as turn_faults
use Rattle.siman_stations.specs.Sending.{next_order}
use Rattle.siman_stations.specs.Recording.{WritesOne, WritesNone}
use Rattle.siman_stations.specs.StationTurn.{FailsTurn}
use Rattle.siman_lines.specs.declared.fault.ServeFault.{ServeFault}
use Rattle.siman_lines.specs.declared.fault.ServeFault.TheVariants as faults
use Rattle.siman_lines.specs.declared.fault.IssueFault.{IssueFault}
use Rattle.siman_lines.specs.declared.fault.IssueFault.TheVariants as issue_faults
use Rattle.siman_lines.specs.declared.served.Served.{Served}
use Rattle.siman_lines.specs.Serving.{State, ServeEndsAt, is_short}
use Rattle.siman_lines.specs.LineDatagrams.{Datagrams, Same}
use Rattle.siman_lines.specs.Ordering.{Rests, IssueEndsAt, NudgeEndsAt}
use Rattle.siman_lines.specs.KeptAtLine.{IsRightRefusal, RefusesServe, RefusesIssue}
use Rattle.siman_lines.proofs.Writings.{right_refusal, refusal_before, setting_all}

good_at : (s n : ℕ) (b : List ℕ) → s < n → length b ≤ LARGEST_DATAGRAM → (nat_lt s n && nat_le (length b) LARGEST_DATAGRAM) ≡ true
good_at s n b h k = grind (arith, nat_tests)

good_text : (s now : ℕ) (b : List ℕ) (v w : SettingData) → s < length w.stations → v ≡ w → length b ≤ LARGEST_DATAGRAM
    → is_entry (length v.stations) (Sent s now b) ≡ true
good_text s now b v w within same short = subst (λ (x : SettingData). is_entry (length x.stations) (Sent s now b) ≡ true) (sym same) (good_at s
    (length w.stations) b within short)

good_came : (s now : ℕ) (b : List ℕ) (v w : SettingData) → s < length w.stations → v ≡ w → is_short b ≡ true
    → is_entry (length v.stations) (Received s now b) ≡ true
good_came s now b v w within same short =
    subst (λ (x : SettingData). is_entry (length x.stations) (Received s now b) ≡ true) (sym same) (by (length w.stations) within) where
      by : (n : ℕ) → s < n → (nat_lt s n && nat_le (length b) LARGEST_DATAGRAM) ≡ true
      by n h = grind (arith, nat_tests, short)

turn_refused : (s : ℕ) (at : Moment) (b : List ℕ) (fault : WriterFault) (n m : Node) (first w new : WriterState) → s < length first.setting.stations
    → w.setting ≡ first.setting
    → is_short b ≡ true → FailsTurn WritesOne WritesNone s at b (turn_faults.Record fault) w new n m → IsRightRefusal fault w new
turn_refused s at b fault n m first w new within same short (inl u) =
    right_refusal w new (Received s at.now b) fault (good_came s at.now b w.setting first.setting within same short) u.refused
turn_refused s at b fault n m first w new within same short (inr u) =
    refusal_before (Received s at.now b ∷ []) w u.next new fault (u.next, u.received, refl)
    (right_refusal u.next new (Sent s at.now (pdu_text u.unsent.answer)) fault
    (good_text s at.now (pdu_text u.unsent.answer) u.next.setting first.setting within (u.received.adds.setting ∙ same) u.unsent.size) u.unsent.refused)

pub serve_refused : (s : ℕ) (at : Moment) (turns : ℕ) (old new : State) (result : Result Served ServeFault) → s < length old.recorder.setting.stations
    → ServeEndsAt s at turns old new result → RefusesServe old.recorder new.recorder result
serve_refused s at turns old new (Ok served) within ends = tt
serve_refused s at turns old new (Err faults.Receive) within ends = tt
serve_refused s at turns old new (Err faults.Send) within ends = tt
serve_refused s at turns old new (Err (faults.Record fault)) within ends =
    refusal_before _ old.recorder ends.recorder new.recorder fault ends.taken.entries
    (turn_refused s at ends.datagram fault ends.node new.node old.recorder ends.recorder new.recorder within
    (setting_all _ old.recorder ends.recorder ends.taken.entries) ends.short ends.broken)
serve_refused s at turns old new (Err faults.Memory) within ends = tt

pub issue_refused : (s : ℕ) (at : Moment) (order : Order) (old new : State) (result : Result ℕ IssueFault) → s < length old.recorder.setting.stations
    → IssueEndsAt s at order old new result → RefusesIssue old.recorder new.recorder result
issue_refused s at order old new (Ok id) within ends = tt
issue_refused s at order old new (Err (issue_faults.Order fault)) within ends = tt
issue_refused s at order old new (Err issue_faults.Send) within ends = tt
issue_refused s at order old new (Err (issue_faults.Record fault)) within ends =
    (let text = pdu_text (next_order old.node.manager at.stamp order) in
    right_refusal old.recorder new.recorder (Sent s at.now text) fault (good_text s at.now text old.recorder.setting old.recorder.setting within refl
    ends.size) ends.left.refused)
issue_refused s at order old new (Err issue_faults.Memory) within ends = tt

pub nudge_refused : (s : ℕ) (at : Moment) (old new : State) (result : Result Bool IssueFault) → s < length old.recorder.setting.stations
    → NudgeEndsAt s at old new result → RefusesIssue old.recorder new.recorder result
nudge_refused s at old new (Ok true) within ends = tt
nudge_refused s at old new (Ok false) within ends = tt
nudge_refused s at old new (Err (issue_faults.Order fault)) within ends = tt
nudge_refused s at old new (Err issue_faults.Send) within ends = tt
nudge_refused s at old new (Err (issue_faults.Record fault)) within ends =
    right_refusal old.recorder new.recorder (Sent s at.now (pdu_text ends.1.repeat)) fault
    (good_text s at.now (pdu_text ends.1.repeat) old.recorder.setting old.recorder.setting within refl ends.1.size) ends.1.left.refused
nudge_refused s at old new (Err issue_faults.Memory) within ends = tt

-- Where nothing was done.

same_told : (o : Option Datagrams) → Same o o
same_told None = tt
same_told (Some ds) = refl

pub rests_same : (x : State) → Rests x x
rests_same x = record { recorder = refl; sent_are = same_told x.sent; received_are = same_told x.received; worked = refl }
