-- What was done of a script that was begun, and in which line of it a move stands that was not made.
use Rattle.siman_exercise_commands.proofs.live.live_text.Goals as goal

pub returns : goal.returns
returns g c =
    let rest = c.live_begun-lived.ensures in
    let placed = rw c.deref.ensures.value at c.placed.ensures in
    (rest.0, rest.1, rest.2, ((c.live_begun-lived.result.answered, rest.3.0, placed), rest.3.1))
