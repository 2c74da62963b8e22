use Rattle.exercise_check.proofs.Courses.{own_here, next_here, done_if}
use Rattle.exercise_check.proofs.Moved.{finds}
use Rattle.exercise_check.proofs.course.Course.next_entry.Goals as goal

pub returns-clause-own : goal.returns-clause-own
returns-clause-own g c =
    let r = c.self.inside.found in
    let e = c.next_entry.ensures in
    let within = rw c.log.ensures at e.within in
    let none = rw c.log.ensures at e.none in
    let f = finds r c.self.inside.steps.items c.args.station c.self.inside.cursors c.next_entry.result c.self.invariant.course.limits
    c.self.invariant.next within e.at e.some none in
    rw (← c.self.view_is) (own_here r c.args.station c.next_entry.result f.own)

pub returns-clause-next : goal.returns-clause-next
returns-clause-next g c =
    let r = c.self.inside.found in
    let e = c.next_entry.ensures in
    let within = rw c.log.ensures at e.within in
    let none = rw c.log.ensures at e.none in
    let f = finds r c.self.inside.steps.items c.args.station c.self.inside.cursors c.next_entry.result c.self.invariant.course.limits
    c.self.invariant.next within e.at e.some none in
    rw (← c.self.view_is) (next_here r c.self.inside.steps.items c.args.station c.next_entry.result f.own f.place)

pub returns-clause-done : goal.returns-clause-done
returns-clause-done g c =
    let r = c.self.inside.found in
    let e = c.next_entry.ensures in
    let within = rw c.log.ensures at e.within in
    let none = rw c.log.ensures at e.none in
    let f = finds r c.self.inside.steps.items c.args.station c.self.inside.cursors c.next_entry.result c.self.invariant.course.limits
    c.self.invariant.next within e.at e.some none in
    rw (← c.self.view_is) (done_if r c.self.inside.steps.items c.args.station c.next_entry.result c.self.invariant.course.good f.none)
