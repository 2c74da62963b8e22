use Rattle.exercise_audit.proofs.Held.{next_of, barred_held, barred_block, held_takes_none}
use Rattle.exercise_audit.proofs.longest.block_at.Goals as goal

pub returns-in-Barred-clause-block : goal.returns-in-Barred-clause-block
returns-in-Barred-clause-block g c =
    let v = c.args.course.now in
    let next = next_of v c.args.station c.in-Some.entry c.in-Some.ensures.within c.in-Some.ensures.own c.in-Some.ensures.next in
    barred_block v c.go_on.new.self c.args.station c.in-Some.entry c.in-Barred.cause next (rw c.in-Barred.is at c.in_ok-cause.ensures.judged)

pub returns-in-Barred-clause-same : goal.returns-in-Barred-clause-same
returns-in-Barred-clause-same g c =
    let v = c.args.course.now in
    let next = next_of v c.args.station c.in-Some.entry c.in-Some.ensures.within c.in-Some.ensures.own c.in-Some.ensures.next in
    (barred_held v c.go_on.new.self c.args.station c.in-Some.entry c.in-Barred.cause next (rw c.in-Barred.is at c.in_ok-cause.ensures.judged)).1

pub returns-in-Taken-clause-done : goal.returns-in-Taken-clause-done
returns-in-Taken-clause-done g c =
    let v = c.args.course.now in
    let next = next_of v c.args.station c.in-Some.entry c.in-Some.ensures.within c.in-Some.ensures.own c.in-Some.ensures.next in
    absurd (held_takes_none v c.go_on.new.self c.args.station c.in-Some.entry c.in-Taken.field-0 c.in-Some.ensures.course c.requires next
    (rw c.in-Taken.is at c.in_ok-cause.ensures.judged))

pub returns-in-Taken-clause-same : goal.returns-in-Taken-clause-same
returns-in-Taken-clause-same g c =
    let v = c.args.course.now in
    let next = next_of v c.args.station c.in-Some.entry c.in-Some.ensures.within c.in-Some.ensures.own c.in-Some.ensures.next in
    absurd (held_takes_none v c.go_on.new.self c.args.station c.in-Some.entry c.in-Taken.field-0 c.in-Some.ensures.course c.requires next
    (rw c.in-Taken.is at c.in_ok-cause.ensures.judged))
