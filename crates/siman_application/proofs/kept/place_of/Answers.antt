use Rattle.std.proofs.Common.{ℕ, Option, refl, sym, subst}
use Rattle.indexmap.specs.IndexMap.{values}
use Rattle.siman_application.specs.KeptRequests.{IsPlace}
use Rattle.siman_application.proofs.Places.{place_is}
use Rattle.siman_application.proofs.kept.place_of.Goals as goal

pub returns : goal.returns
returns c =
    subst (λ (o : Option ℕ). IsPlace c.args.pdu.now (values c.args.kept.now) o) (sym c.get_index_of.ensures.index)
    (place_is c.args.pdu.now c.args.key _ (λ k. refl) c.requires.key c.args.kept.now.entries c.requires.keyed)
