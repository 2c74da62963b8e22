use Rattle.std.proofs.Common.{◌≡◌, length, refl, sym, ap, ◌∙◌, subst, arith}
use Rattle.exercise_model.specs.Recording.{PlainRecording}
use Rattle.exercise_check.specs.Course.{CourseData}
use Rattle.exercise_audit.specs.Time.{StampsNeverFall}
use Rattle.exercise_audit.proofs.InOrder.{none_taken, next_is, taken_more, ended, all_taken}
use Rattle.exercise_audit.proofs.first_entries.take_as_written.Goals as goal

pub loop-entry-init : goal.loop-entry-init
loop-entry-init g c = record { recording = refl; taken = none_taken c.args.course.now c.requires.course c.requires.begun }

pub go_on-requires-clause-next : goal.go_on-requires-clause-next
go_on-requires-clause-next g c =
    let count : c.args.entries ≡ length c.loop-entry.course.recording.entries =
    c.requires.count ∙ ap (λ (r : PlainRecording). length r.entries) (sym c.loop-entry.invariant.recording) in
    next_is c.loop-entry.course c.loop-entry.entry c.loop-entry.invariant.taken (omega (arith, c.loop-entry-test.true, count))

pub returns-in-Barred-clause-recording : goal.returns-in-Barred-clause-recording
returns-in-Barred-clause-recording g c =
    let count : c.args.entries ≡ length c.loop-entry.course.recording.entries =
    c.requires.count ∙ ap (λ (r : PlainRecording). length r.entries) (sym c.loop-entry.invariant.recording) in
    let end = ended c.loop-entry.course c.go_on.new.self c.loop-entry.entry c.in-Barred.field-0 c.loop-entry.invariant.taken
    (omega (arith, c.loop-entry-test.true, count)) (rw c.in-Barred.is at c.in_ok-go_on.ensures.judged) in
    ap (λ (v : CourseData). v.recording) end.0 ∙ c.loop-entry.invariant.recording

pub returns-in-Barred-clause-taken : goal.returns-in-Barred-clause-taken
returns-in-Barred-clause-taken g c =
    let count : c.args.entries ≡ length c.loop-entry.course.recording.entries =
    c.requires.count ∙ ap (λ (r : PlainRecording). length r.entries) (sym c.loop-entry.invariant.recording) in
    (ended c.loop-entry.course c.go_on.new.self c.loop-entry.entry c.in-Barred.field-0 c.loop-entry.invariant.taken
    (omega (arith, c.loop-entry-test.true, count)) (rw c.in-Barred.is at c.in_ok-go_on.ensures.judged)).1

pub loop-entry-preserved : goal.loop-entry-preserved
loop-entry-preserved g c =
    let count : c.args.entries ≡ length c.loop-entry.course.recording.entries =
    c.requires.count ∙ ap (λ (r : PlainRecording). length r.entries) (sym c.loop-entry.invariant.recording) in
    let rising = subst StampsNeverFall (sym c.loop-entry.invariant.recording) c.requires.rising in
    let more = taken_more c.loop-entry.course c.go_on.new.self c.loop-entry.entry c.in-Taken.field-0 c.loop-entry.invariant.taken rising
    (omega (arith, c.loop-entry-test.true, count)) c.in_ok-go_on.ensures.course (rw c.in-Taken.is at c.in_ok-go_on.ensures.judged) in
    record { recording = more.0 ∙ c.loop-entry.invariant.recording; taken = more.1 }

pub returns-clause-taken : goal.returns-clause-taken
returns-clause-taken g c =
    let count : c.args.entries ≡ length c.loop-entry.course.recording.entries =
    c.requires.count ∙ ap (λ (r : PlainRecording). length r.entries) (sym c.loop-entry.invariant.recording) in
    all_taken c.loop-entry.course c.loop-entry.entry c.loop-entry.invariant.taken (omega (arith, c.loop-entry-test.false, count))
