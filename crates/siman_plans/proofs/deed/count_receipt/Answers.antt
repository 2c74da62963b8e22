use Rattle.std.proofs.Common.{◌≡◌, ◌<◌, ◌≤◌, ℕ, List, ◌++◌, take, drop, set, Some, refl, ap, subst, ◌∙◌, arith}
use Rattle.std.specs.Prelude.{slice_get, IfSome}
use Rattle.std.proofs.lemmas.Option.{slice_get_read, get_or_from_slice_get}
use Rattle.siman_plans.specs.declared.deed.Receipt.{Receipt}
use Rattle.siman_plans.specs.Sent.{one_more, received_at}
use Rattle.siman_plans.proofs.Receipts.{found, placed, next_where, next_none}
use Rattle.siman_plans.proofs.deed.count_receipt.Goals.{else-place-len-via-then-place-len+else-index-station, else-place-len-via-else-place-len}
use Rattle.siman_plans.proofs.deed.count_receipt.Goals as goal

pub returns-then-index-station : goal.returns-then-index-station
returns-then-index-station c =
    let rs = c.args.receipts.now.items in
    let p = c.place_of-place.result in
    let before = subst (λ (xs : List Receipt). received_at c.args.station xs ≡ take p xs ++ received_at c.args.station (drop p xs))
    c.deref.ensures.value c.place_of-place.ensures.before in
    let r = c.index.result.now in
    let at : slice_get rs p ≡ Some r = slice_get_read rs _ p r refl (omega arith) c.index.ensures in
    let first : c.index_mut.result.now ≡ r = c.index_mut.ensures.value ∙ get_or_from_slice_get rs p r c.index_mut.result.now at in
    let second : c.index-then-index-station.result.now ≡ r =
    c.index-then-index-station.ensures ∙ get_or_from_slice_get rs p r c.index-then-index-station.result.now at in
    ap (λ (q : Receipt). set rs p (record { station = q.station; times = c.one_more.result })) first
    ∙ (ap (λ (n : ℕ). set rs p (record { station = r.station; times = n })) (c.one_more.ensures ∙ ap (λ (q : Receipt). one_more q.times) second)
    ∙ found c.args.station p rs r (omega arith) before at c.if-index-station.true)

pub returns : goal.returns
returns c =
    let rs = c.args.receipts.now.items in
    let p = c.place_of-place.result in
    let s = c.args.station in
    let before = subst (λ (xs : List Receipt). received_at c.args.station xs ≡ take p xs ++ received_at c.args.station (drop p xs))
    c.deref.ensures.value c.place_of-place.ensures.before in
    let there = subst (λ (xs : List Receipt). IfSome (slice_get xs p) (λ r. s ≤ r.station)) c.deref.ensures.value c.place_of-place.ensures.there in
    let next : IfSome (slice_get rs p) (λ r. s < r.station) = elim c.else-place-len.branch [
      | else-place-len-via-then-place-len+else-index-station w ↦ next_where s p rs w.index.result.now
          (slice_get_read rs _ p w.index.result.now refl (omega arith) w.index.ensures) there w.if-index-station.false
      | else-place-len-via-else-place-len w ↦ next_none s p rs (omega (arith, w.if-place-len.false))
    ] in
    c.in_ok-insert.ensures.items ∙ placed s p rs (omega arith) before next
