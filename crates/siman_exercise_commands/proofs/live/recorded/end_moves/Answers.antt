-- The moves were made, and the end was written or not; or they were not.
use Rattle.std.proofs.Common.{refl, ◌∙◌}
use Rattle.std.specs.Prelude.{Ok, Err}
use Rattle.siman_outside.proofs.Offered.{at_fault}
use Rattle.siman_exercise_commands.specs.Live.Lived.{Performs}
use Rattle.siman_exercise_commands.proofs.Lived.{unfinished}
use Rattle.siman_exercise_commands.proofs.live.recorded.end_moves.Goals as goal

pub returns-in_err-make_moves : goal.returns-in_err-make_moves
returns-in_err-make_moves g c =
    at_fault (Performs _ _ _ _) c.in_err-make_moves.field-0.0 c.from_residual.result c.from_residual.ensures.1
    (record {
      mid = c.make_moves.new.recorder;
      moved = Err c.in_err-make_moves.field-0.0;
      made = c.in_err-make_moves.ensures.ends;
      follows = c.in_err-make_moves.ensures.follows;
      end = (refl, refl);
    })

pub returns-in-Ok : goal.returns-in-Ok
returns-in-Ok g c = record {
  mid = c.make_moves.new.recorder;
  moved = Ok tt;
  made = c.in_ok-make_moves.ensures.ends;
  follows = c.in_ok-make_moves.ensures.follows;
  end = (c.entry_count.ensures.entries ∙ c.in-Ok.ensures.end.entries, c.in-Ok.ensures.taken, c.in-Ok.ensures.end);
}

pub returns-in-Err : goal.returns-in-Err
returns-in-Err g c = record {
  mid = c.make_moves.new.recorder;
  moved = Ok tt;
  made = c.in_ok-make_moves.ensures.ends;
  follows = c.in_ok-make_moves.ensures.follows;
  end = (refl, unfinished c.make_moves.new.recorder c.finish.new.self c.finish.result c.in-Err.field-0 c.in-Err.is c.in-Err.ensures.refused c.in-Err.ensures.unchanged c.finish.ensures.torn);
}
