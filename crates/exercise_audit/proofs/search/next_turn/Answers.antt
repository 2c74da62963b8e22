use Rattle.exercise_audit.proofs.Onward.{next_moment}
use Rattle.exercise_audit.proofs.search.next_turn.Goals as goal

pub returns : goal.returns
returns g c =
    next_moment c.args.course.now c.args.station c.in_ok-entry.entry c.at.result c.args.stamps.now c.requires c.in_ok-entry.ensures.within
    c.in_ok-entry.ensures.own c.in_ok-entry.ensures.next c.at.ensures
