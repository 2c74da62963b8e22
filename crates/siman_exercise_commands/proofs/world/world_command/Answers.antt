-- The command ends as what it made says.
use Rattle.std.proofs.Common.{ℕ, List, Option, inl, inr}
use Rattle.siman_scripts.specs.Script.{script_at}
use Rattle.siman_outside.specs.declared.product.Product.TheVariants.{File, Nothing}
use Rattle.siman_outside.specs.Making.{Answered, PutsOfFile}
use Rattle.siman_outside.specs.Outside.{Given, Stream, stream}
use Rattle.siman_exercise_commands.specs.World.{RunsFile, PutsWorld, GivesWorld}
use Rattle.siman_exercise_commands.proofs.world.world_command.Goals as goal

-- the recording of a script is written, or it yields none
gives_world : (known : Option (List ℕ)) (answered : Answered) (file out : Stream) → PutsOfFile RunsFile PutsWorld known answered file out
    → Given known (λ text. GivesWorld (script_at text) answered file out)
gives_world known answered file out (inl (fault, none, is, kept, keeps)) = (none.0, none.1, inl (fault, none.2.0, is, kept, keeps))
gives_world known answered file out (inr (File r, made, puts)) = (made.0, made.1, inr (r, made.2.0, puts))
gives_world known answered file out (inr (Nothing text, made, puts)) = absurd made

pub returns-clause-ends : goal.returns-clause-ends
returns-clause-ends g c =
    let said = gives_world _ c.put_of_file-made.result (stream _ _) (stream _ _) c.put_of_file-made.ensures in
    (said.0, said.1, (c.put_of_file-made.result, said.2, (c.end.result.written, c.end.ensures)))
