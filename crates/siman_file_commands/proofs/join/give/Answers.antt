-- Memory ran out for the line, or an opening list does not agree.
use Rattle.std.proofs.Common.{map, inl, inr, refl}
use Rattle.exercise_recording.specs.declared.join_fault.JoinFault.TheVariants as joins
use Rattle.siman_file_commands.specs.Join.{Gives}
use Rattle.siman_outside.proofs.Offered.{at_fault}
use Rattle.siman_file_commands.proofs.join.give.Goals as goal

pub returns-in_err-judge_openings : goal.returns-in_err-judge_openings
returns-in_err-judge_openings g c =
    at_fault (Gives (map g.S.AsStr.text c.args.names.now) c.args.joining) _ _ c.from_residual.ensures.1 (elim c.in_err-judge_openings.ensures [
      | inl memory ↦ inl (joins.Memory, tt, memory)
      | inr other ↦ inr (c.in-Ok.joint, c.in-Ok.ensures, other)
    ])

pub returns-in_err-line : goal.returns-in_err-line
returns-in_err-line g c = at_fault (Gives (map g.S.AsStr.text c.args.names.now) c.args.joining) _ _ c.from_residual-in_err-line.ensures.1 (inl (joins.Memory, tt, refl))
