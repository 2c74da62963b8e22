-- The moves were made, and the end was written or not; or they were not.
use Rattle.std.proofs.Common.{inr, ◌∙◌, ap, refl}
use Rattle.std.specs.Prelude.{Ok, Err}
use Rattle.siman_trials.specs.declared.recorded.ExerciseFault.TheVariants.{Move, Record}
use Rattle.siman_trials.specs.Ended.{Performs}
use Rattle.siman_trials.specs.Recorded.{Leaves}
use Rattle.siman_trials.proofs.Moves.{at_fault}
use Rattle.siman_trials.proofs.Ends.{stopped, ended, not_ended}
use Rattle.siman_trials.proofs.recorded.end_moves.Goals as goal

pub returns-in_err-make_moves-clause-performs : goal.returns-in_err-make_moves-clause-performs
returns-in_err-make_moves-clause-performs g c =
    at_fault (Performs _ _ _ _) (Move c.in_err-make_moves.field-0.0) c.from_residual.result c.from_residual.ensures.1
    (record {
      mid = c.make_moves.new.recorder;
      moved = Err c.in_err-make_moves.field-0.0;
      made = c.in_err-make_moves.ensures.ends;
      end = (refl, refl);
    })

pub returns-in_err-make_moves-clause-leaves : goal.returns-in_err-make_moves-clause-leaves
returns-in_err-make_moves-clause-leaves g c = λ before w fresh starts.
    let has = c.lines_make_a_run.ensures _ before w _ _ _ fresh starts c.in_err-make_moves.ensures.follows in
    at_fault (Leaves w before c.make_moves.new.recorder.contents) (Move c.in_err-make_moves.field-0.0) c.from_residual.result c.from_residual.ensures.1
    (inr (stopped w before _ has.0 has.1))

pub returns-in-Ok-clause-performs : goal.returns-in-Ok-clause-performs
returns-in-Ok-clause-performs g c = record {
  mid = c.make_moves.new.recorder;
  moved = Ok tt;
  made = c.in_ok-make_moves.ensures.ends;
  end = (c.in-Ok.ensures.taken, c.in-Ok.ensures.end);
}

pub returns-in-Ok-clause-leaves : goal.returns-in-Ok-clause-leaves
returns-in-Ok-clause-leaves g c = λ before w fresh starts.
    let has = c.lines_make_a_run.ensures _ before w _ _ _ fresh starts c.in_ok-make_moves.ensures.follows in
    ended w before _ _ has.0 has.1 c.in-Ok.ensures.taken c.in-Ok.ensures.end

pub returns-in-Err-clause-performs : goal.returns-in-Err-clause-performs
returns-in-Err-clause-performs g c = record {
  mid = c.make_moves.new.recorder;
  moved = Ok tt;
  made = c.in_ok-make_moves.ensures.ends;
  end = (c.in-Err.ensures.refused, c.in-Err.ensures.unchanged, λ is. c.finish.ensures.torn (c.in-Err.is ∙ ap Err is));
}

pub returns-in-Err-clause-leaves : goal.returns-in-Err-clause-leaves
returns-in-Err-clause-leaves g c = λ before w fresh starts.
    let has = c.lines_make_a_run.ensures _ before w _ _ _ fresh starts c.in_ok-make_moves.ensures.follows in
    inr (not_ended w before _ _ c.in-Err.fault (Record c.in-Err.fault) has.0 has.1 c.in-Err.ensures.refused c.in-Err.ensures.unchanged
    (λ is. c.finish.ensures.torn (c.in-Err.is ∙ ap Err is)))
