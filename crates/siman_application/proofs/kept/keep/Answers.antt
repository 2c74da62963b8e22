use Rattle.std.proofs.Common.{refl, ◌∙◌}
use Rattle.siman_application.proofs.Places.{inserted_last, on_ok}
use Rattle.siman_application.proofs.kept.keep.Goals as goal
use Rattle.std.proofs.Common.{arith}
use Rattle.std.proofs.lemmas.Grind.{common_steps}

pub returns-clause-kept : goal.returns-clause-kept
returns-clause-kept c =
    on_ok c.insert.result (c.insert.ensures.succeeds c.requires.room) c.insert.ensures.entries
    ∙ inserted_last c.args.request c.args.key _ (λ j k. refl) c.requires.key
    (record { request = c.args.request; answer = c.args.answer }) c.args.kept.now.entries c.requires.keyed c.requires.first

pub returns-clause-place : goal.returns-clause-place
returns-clause-place c = grind (arith, common_steps) steps 2000000
