use Rattle.std.proofs.Common.{rules}
use Rattle.std.proofs.lemmas.Bool.Decides.{Decides-at}
use Rattle.siman_pdus.specs.DatumLists.{same_datums}
use Rattle.siman_pdus.specs.Equality.{datums_decide}
use Rattle.siman_pdus.proofs.datums.DatumsPartialEq.eq.Goals as goal

pub returns-then-eq-clause-exact : goal.returns-then-eq-clause-exact
returns-then-eq-clause-exact c =
    Decides-at c.eq-then-eq.result (same_datums c.args.self.now c.args.other.now) (search rules) (datums_decide c.args.self.now c.args.other.now)

pub returns-else-eq-clause-exact : goal.returns-else-eq-clause-exact
returns-else-eq-clause-exact c =
    Decides-at c.eq.result (same_datums c.args.self.now c.args.other.now) (search rules) (datums_decide c.args.self.now c.args.other.now)
