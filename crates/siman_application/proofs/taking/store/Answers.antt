use Rattle.std.proofs.Common.{◌≡◌, None, ap, sym, ◌∙◌, rules}
use Rattle.std.specs.Prelude.{Option}
use Rattle.std.specs.Option.{unwrap_or}
use Rattle.siman_pdus.specs.DatumLists.{DatumLists}
use Rattle.siman_application.specs.Answer.{no_datums}
use Rattle.siman_application.specs.Holding.{held_by, held_in, stored_in}
use Rattle.siman_application.proofs.NothingStored.{stored_nothing}
use Rattle.siman_application.proofs.taking.store.Goals as goal

pub returns-in_default : goal.returns-in_default
returns-in_default c =
    let none : c.args.brought ≡ None = search rules in
    sym (ap (λ (o : Option DatumLists). stored_in (held_by (unwrap_or o no_datums)) (held_in c.args.held.now)) none
    ∙ stored_nothing (held_in c.args.held.now))
