use Rattle.std.proofs.Common.{refl, sym, ◌∙◌, arith}
use Rattle.exercise_findings.proofs.FirstAnswers.{taken_within, answered_marked, new_unmarked}
use Rattle.exercise_findings.proofs.answered.note_pair.Goals as goal

pub mark-was_taken-requires : goal.mark-was_taken-requires
mark-was_taken-requires g c =
    omega (
      arith,
      c.in_ok-make_room-in-Some.ensures.room,
      c.entry_count.ensures.count,
      taken_within (g.L.ExerciseLog.recording c.args.log.now) c.args.entry c.in-Some.request c.requires.within (sym c.requires.pair ∙ c.in-Some.is),
    )

pub returns-in_ok-make_room-in-Some-clause-tied : goal.returns-in_ok-make_room-in-Some-clause-tied
returns-in_ok-make_room-in-Some-clause-tied g c =
    let r = g.L.ExerciseLog.recording c.args.log.now in
    let pair = sym c.requires.pair ∙ c.in-Some.is in
    let room = c.in_ok-make_room-in-Some.ensures.room in
    let count = c.entry_count.ensures.count in
    let within = taken_within r c.args.entry c.in-Some.request c.requires.within pair in
    answered_marked r c.args.entry c.in-Some.request c.make_room.new.taken.items c.args.answered.now _ pair (omega (arith, room, count, within))
    (omega (arith, room, count)) c.in_ok-make_room-in-Some.ensures.kept c.mark-was_taken.ensures.now refl c.requires.unasked c.requires.tied

pub returns-in_ok-make_room-in-Some-clause-new : goal.returns-in_ok-make_room-in-Some-clause-new
returns-in_ok-make_room-in-Some-clause-new g c new =
    new_unmarked (g.L.ExerciseLog.recording c.args.log.now) c.args.entry c.in-Some.request c.mark-was_taken.result c.make_room.new.taken.items c.args.answered.now
    c.requires.key (sym c.requires.pair ∙ c.in-Some.is) c.in_ok-make_room-in-Some.ensures.kept c.mark-was_taken.ensures.before new c.requires.tied
