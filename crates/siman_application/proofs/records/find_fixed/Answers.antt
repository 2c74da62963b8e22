use Rattle.std.proofs.Common.{◌++◌, take, drop, ap, sym, ◌∙◌, List, ℕ, arith, append-nil}
use Rattle.std.proofs.lemmas.List.{take_all, drop_all}
use Rattle.std.specs.Prelude.{nat_eq}
use Rattle.indexmap.specs.IndexMap.{get}
use Rattle.siman_application.specs.Records.{stored, found}
use Rattle.siman_application.proofs.Found.{take_full}
use Rattle.siman_application.proofs.records.find_fixed.Goals as goal
use Rattle.std.proofs.lemmas.Grind.{common_steps}

pub returns-then-len-ge-MOST_FIXED : goal.returns-then-len-ge-MOST_FIXED
returns-then-len-ge-MOST_FIXED c =
    sym (take_full 1019 c.loop-id.records.items (found (λ id. stored (get nat_eq c.args.came.now id) (get nat_eq c.args.held.now id)) (drop c.loop-id.id-index c.args.ids.now)) (omega arith))
    ∙ ap (take 1019) c.loop-id.invariant.found

pub returns : goal.returns
returns c =
    sym (take_all 1019 c.loop-id.records.items c.loop-id.invariant.few)
    ∙ ap (take 1019) (sym (append-nil c.loop-id.records.items)
    ∙ ap (λ (ids : List ℕ). c.loop-id.records.items ++ found (λ id. stored (get nat_eq c.args.came.now id) (get nat_eq c.args.held.now id)) ids)
    (sym (drop_all c.loop-id.id-index c.args.ids.now c.loop-id-test.false))
    ∙ c.loop-id.invariant.found)

pub loop-id-preserved : goal.loop-id-preserved
loop-id-preserved c = grind (arith, common_steps) steps 2000000
