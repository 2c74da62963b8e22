use Rattle.std.proofs.Common.{sym, ap, subst}
use Rattle.exercise_check.specs.Course.{CourseData}
use Rattle.exercise_model.specs.Stamps.{AreStamps}
use Rattle.exercise_audit.specs.Search.{IsSearch, HaveTurns}
use Rattle.exercise_audit.proofs.Onward.{can_be_judged, one_longer, search_taken, barred_same, search_stopped}
use Rattle.exercise_audit.proofs.search.take_turn.Goals as goal

pub go_on_at-requires-clause-within : goal.go_on_at-requires-clause-within
go_on_at-requires-clause-within g c =
    (can_be_judged c.args.course.now c.args.waiting.now c.args.turns.now c.args.turn c.requires.search c.requires.first).within

pub go_on_at-requires-clause-own : goal.go_on_at-requires-clause-own
go_on_at-requires-clause-own g c =
    (can_be_judged c.args.course.now c.args.waiting.now c.args.turns.now c.args.turn c.requires.search c.requires.first).own

pub go_on_at-requires-clause-next : goal.go_on_at-requires-clause-next
go_on_at-requires-clause-next g c =
    (can_be_judged c.args.course.now c.args.waiting.now c.args.turns.now c.args.turn c.requires.search c.requires.first).next

pub next_turn-requires : goal.next_turn-requires
next_turn-requires g c =
    let goes = rw c.in-Taken.is at c.in_ok-go_on_at.ensures.judged in
    let longer = one_longer c.args.course.now c.go_on_at.new.self c.args.waiting.now c.args.turns.now c.args.turn c.in-Taken.field-0 c.requires.search
    c.requires.first goes in
    subst (λ r. AreStamps r c.args.stamps.now) (sym longer.0) c.requires.stamps

pub give_turns-requires : goal.give_turns-requires
give_turns-requires g c =
    let goes = rw c.in-Taken.is at c.in_ok-go_on_at.ensures.judged in
    let longer = one_longer c.args.course.now c.go_on_at.new.self c.args.waiting.now c.args.turns.now c.args.turn c.in-Taken.field-0 c.requires.search
    c.requires.first goes in
    subst (λ r. AreStamps r c.args.stamps.now) (sym longer.0) c.requires.stamps

pub returns-in-Taken-clause-recording : goal.returns-in-Taken-clause-recording
returns-in-Taken-clause-recording g c =
    let goes = rw c.in-Taken.is at c.in_ok-go_on_at.ensures.judged in
    (one_longer c.args.course.now c.go_on_at.new.self c.args.waiting.now c.args.turns.now c.args.turn c.in-Taken.field-0 c.requires.search c.requires.first goes).0

pub returns-in-Taken-clause-taken : goal.returns-in-Taken-clause-taken
returns-in-Taken-clause-taken g c =
    let goes = rw c.in-Taken.is at c.in_ok-go_on_at.ensures.judged in
    λ _. (one_longer c.args.course.now c.go_on_at.new.self c.args.waiting.now c.args.turns.now c.args.turn c.in-Taken.field-0 c.requires.search
    c.requires.first goes).1

pub returns-in-Taken-clause-search : goal.returns-in-Taken-clause-search
returns-in-Taken-clause-search g c =
    let goes = rw c.in-Taken.is at c.in_ok-go_on_at.ensures.judged in
    let given = subst (λ turns. HaveTurns c.go_on_at.new.self c.as_slice.result.now turns c.give_turns.new.turns) c.set.ensures c.give_turns.ensures in
    search_taken c.args.course.now c.go_on_at.new.self c.args.waiting.now c.wake-woken.new.waiting c.args.turns.now c.give_turns.new.turns c.args.turn
    c.next_turn.result c.in-Taken.field-0 c.as_slice.result.now c.requires.search c.requires.first goes c.in_ok-go_on_at.ensures.course c.next_turn.ensures
    (cc (c.as_slice.ensures.value, c.wake-woken.ensures.woken)) c.wake-woken.ensures.leaves given

pub returns-in_err-wait_for-in-Barred-clause-recording : goal.returns-in_err-wait_for-in-Barred-clause-recording
returns-in_err-wait_for-in-Barred-clause-recording g c =
    let goes = rw c.in-Barred.is at c.in_ok-go_on_at.ensures.judged in
    ap (λ (v : CourseData). v.recording)
    (barred_same c.args.course.now c.go_on_at.new.self c.args.waiting.now c.args.turns.now c.args.turn c.in-Barred.cause c.requires.search c.requires.first goes)

pub returns-in_ok-wait_for-in-Barred-clause-recording : goal.returns-in_ok-wait_for-in-Barred-clause-recording
returns-in_ok-wait_for-in-Barred-clause-recording g c =
    let goes = rw c.in-Barred.is at c.in_ok-go_on_at.ensures.judged in
    ap (λ (v : CourseData). v.recording)
    (barred_same c.args.course.now c.go_on_at.new.self c.args.waiting.now c.args.turns.now c.args.turn c.in-Barred.cause c.requires.search c.requires.first goes)

pub returns-in_ok-wait_for-in-Barred-clause-same : goal.returns-in_ok-wait_for-in-Barred-clause-same
returns-in_ok-wait_for-in-Barred-clause-same g c =
    let goes = rw c.in-Barred.is at c.in_ok-go_on_at.ensures.judged in
    λ _. barred_same c.args.course.now c.go_on_at.new.self c.args.waiting.now c.args.turns.now c.args.turn c.in-Barred.cause c.requires.search
    c.requires.first goes

pub returns-in_ok-wait_for-in-Barred-clause-search : goal.returns-in_ok-wait_for-in-Barred-clause-search
returns-in_ok-wait_for-in-Barred-clause-search g c =
    let goes = rw c.in-Barred.is at c.in_ok-go_on_at.ensures.judged in
    let search = search_stopped c.args.course.now c.go_on_at.new.self c.args.waiting.now c.wait_for.new.waiting c.args.turns.now c.args.turn c.in-Barred.cause
    c.requires.search c.requires.first goes c.in_ok-wait_for-in-Barred.ensures in
    subst (λ turns. IsSearch c.go_on_at.new.self c.wait_for.new.waiting turns) (sym c.set-in-Barred.ensures) search
