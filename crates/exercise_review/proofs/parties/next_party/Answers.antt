use Rattle.std.proofs.Common.{◌≡◌, ℕ, length, sym, ap, ◌∙◌, ◌+◌, subst, arith, Some, None}
use Rattle.exercise_model.specs.Recording.{PlainRecording}
use Rattle.exercise_review.specs.Order.{OrderData, order_of}
use Rattle.exercise_review.specs.Parties.{number_of, candidate_at}
use Rattle.exercise_review.proofs.PartyPlaces.{IsNearest, still_nearest, nearest_more, nearest_is_next}
use Rattle.exercise_review.proofs.parties.next_party.Goals.{in-Some, in_default}
use Rattle.exercise_review.proofs.parties.next_party.Goals as goal

pub loop-place-preserved : goal.loop-place-preserved
loop-place-preserved g c =
    let r : PlainRecording = c.args.findings.now in
    let o : OrderData = order_of c.args.order.now in
    let k : ℕ = c.loop-place.place in
    let from : ℕ = c.args.first in
    elim c.match-candidate.branch as (λ _. IsNearest r o from (k + 1) c.match-candidate.next) [
      | in-Some w ↦
          let n : ℕ = number_of w.in-Some.address in
          let at : candidate_at r o k ≡ Some n = sym w.in-Some.ensures in
          subst (IsNearest r o from (k + 1)) (sym (w.next-is ∙ w.lower_party-next.ensures.next))
          (nearest_more r o from k n c.loop-place.next at w.lower_party-next.ensures.within c.loop-place.invariant)
      | in_default w ↦
          let none : candidate_at r o k ≡ None = sym w.in_default.ensures in
          subst (IsNearest r o from (k + 1)) (sym w.next-is) (still_nearest r o from k c.loop-place.next none c.loop-place.invariant)
    ]

pub returns : goal.returns
returns g c =
    let r : PlainRecording = c.args.findings.now in
    let o : OrderData = order_of c.args.order.now in
    let count = c.station_count.ensures.count ∙ ap (λ (x : PlainRecording). length x.setting.stations) c.log.ensures in
    nearest_is_next r o c.args.first c.loop-place.place c.loop-place.next
    (omega (arith, c.loop-place-test.false, c.loop-place.auto.place-end, count, c.entry_count.ensures)) c.loop-place.invariant
