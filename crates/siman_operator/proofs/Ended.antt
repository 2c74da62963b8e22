-- How a session ends.
use Rattle.siman_lines.specs.declared.line.PassedOver.{PassedOver}
use Rattle.std.proofs.Common.{◌≡◌, ℕ, List, refl, ap, inl, inr, ◌∙◌}
use Rattle.std.specs.Prelude.{Bool, true, false, if◌then◌else◌, Option, Some, None, is_some, IsSome, Result, Err}
use Rattle.exercise_recording.specs.declared.fault.WriterFault.{WriterFault}
use Rattle.exercise_recording.specs.declared.fault.WriterFault.TheVariants as faults
use Rattle.exercise_recording.specs.Text.{end_text}
use Rattle.exercise_recording.specs.Writer.{WriterState, Tears, finish_refusal, unless_write}
use Rattle.siman_operator.specs.Deeds.{PostData}
use Rattle.siman_operator.specs.declared.printing.PrintFault.{PrintFault}
use Rattle.siman_operator.specs.declared.playing.Stop.{Stop}
use Rattle.siman_operator.specs.declared.playing.Stop.TheVariants as stops
use Rattle.siman_operator.specs.declared.session_report.SessionReport.{SessionReport}
use Rattle.siman_operator.specs.Closing.{IsUnended, PrintsCounts, PrintsEnd}
use Rattle.siman_operator.specs.Sessions.{ReportsUnread, ClosesAt, EndsSession}

-- a recorder that is refused an end was spent before
spent_by : (spent : Bool) (fault : WriterFault) → (if spent then Some faults.Spent else None) ≡ Some fault → spent ≡ true
spent_by true fault refused = refl
spent_by false fault refused = absurd cc

-- why an end was not written
unended_by : (old new : WriterState) (fault : WriterFault) → finish_refusal old ≡ unless_write fault → (IsSome (unless_write fault) → new ≡ old)
    → (fault ≡ faults.Write → Tears old new (end_text old.entries)) → IsUnended old new
unended_by old new faults.Write refused unchanged torn = inr (refused, torn refl)
unended_by old new faults.Spent refused unchanged torn = inl (spent_by old.spent faults.Spent refused, unchanged refl)
unended_by old new faults.Count refused unchanged torn = inl (spent_by old.spent faults.Count refused, unchanged refl)
unended_by old new faults.Argument refused unchanged torn = inl (spent_by old.spent faults.Argument refused, unchanged refl)

pub unended : (old new : WriterState) (r : Result (Unit {0}) WriterFault) (fault : WriterFault) → r ≡ Err fault → finish_refusal old ≡ unless_write fault
    → (IsSome (unless_write fault) → new ≡ old) → (r ≡ Err faults.Write → Tears old new (end_text old.entries)) → IsUnended old new
unended old new r fault was refused unchanged torn = unended_by old new fault refused unchanged (λ is. torn (was ∙ ap Err is))

-- a failed read was told before
pub ends_unread : {L : Type 0} (passed : L → PassedOver) (stop : Stop) (p q : PostData L) (o u : Option (List ℕ)) (before after : SessionReport) (e f : Option (List ℕ))
    (told : SessionReport) (mid : Option (List ℕ)) → stop ≡ stops.Unread → ReportsUnread before told e mid → ClosesAt passed p q o u told after mid f
    → EndsSession passed stop p q o u before after e f
ends_unread passed stops.End p q o u before after e f told mid is tells closes = absurd cc
ends_unread passed stops.Quit p q o u before after e f told mid is tells closes = absurd cc
ends_unread passed stops.Unread p q o u before after e f told mid is tells closes = (told, mid, tells, closes)
ends_unread passed stops.Unrecorded p q o u before after e f told mid is tells closes = absurd cc

-- the counts are printed, where each entry was
pub prints_end : (fault : Option PrintFault) (text : List ℕ) (o p : Option (List ℕ)) (closed : Result (Unit {0}) PrintFault) → is_some fault ≡ false
    → PrintsCounts text o p closed → PrintsEnd fault text o p closed
prints_end None text o p closed none prints = prints
prints_end (Some fault) text o p closed none prints = absurd cc
