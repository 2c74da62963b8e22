-- An order that nobody gets, and its line.
use Rattle.std.proofs.Common.{rules, refl, arith}
use Rattle.std.proofs.lemmas.Grind.{common_steps}
use Rattle.std.proofs.lemmas.Option.{slice_get-get_or}
use Rattle.siman_exercise_commands.proofs.warned.no_such_station.Goals as goal

pub returns : goal.returns
returns c =
    let lookup = rw c.as_slice.ensures.value at c.in-Some.ensures.lookup in
    record {
      number = c.in_ok-number.number;
      move = c.in-Some.step.now;
      there = let at = slice_get-get_or c.args.script.now.moves c.in_ok-number.number c.in-Some.step.now in grind (arith, common_steps, at, lookup);
      nobody = c.in_ok-to.to;
      receiver = search rules;
      line = c.in_ok-line.line;
      line_is = search rules;
      warning_is = refl;
    }
