use Rattle.std.proofs.Common.{◌+◌, ◌-◌, ◌<◌, ◌≤◌, ℕ, Option, SomeIff, sym, subst}
use Rattle.indexmap.specs.IndexMap.{index_map_len}
use Rattle.siman_manager.proofs.Tables.{place_known}
use Rattle.siman_manager.proofs.settling.place_of.Goals as goal

pub returns : goal.returns
returns c =
    subst (λ (o : Option ℕ). SomeIff o ((c.args.first_id ≤ c.args.id) × (c.args.id < c.args.first_id + index_map_len c.args.orders.now))
    (c.args.id - c.args.first_id))
    (sym c.get_index_of.ensures.index) (place_known c.args.first_id c.args.id c.args.orders.now c.requires)
