use Rattle.std.proofs.Common.{ℕ, List, [], ◌∷◌, ◌++◌, sym, ap, ◌∙◌, arith}
use Rattle.exercise_model.specs.Recording.{PlainRecording}
use Rattle.exercise_review.specs.declared.party.Party.{Party}
use Rattle.exercise_review.specs.Order.{OrderData, order_of}
use Rattle.exercise_review.specs.Parties.{parties_of}
use Rattle.exercise_review.proofs.PartyPlaces.{no_parties, one_party, all_parties}
use Rattle.exercise_review.proofs.parties.parties_by_search.Goals as goal

pub loop-number-init : goal.loop-number-init
loop-number-init g c =
    let r : PlainRecording = c.args.findings.now in
    let o : OrderData = order_of c.args.order.now in
    record { parties = c.requires ∙ sym (no_parties r o); within = omega arith }

pub loop-number-preserved : goal.loop-number-preserved
loop-number-preserved g c =
    let r : PlainRecording = c.args.findings.now in
    let o : OrderData = order_of c.args.order.now in
    let x : ℕ × Party = (c.in-Some.number, c.in-Some.party) in
    record {
      parties = c.in_ok-push.ensures.items
          ∙ ap (λ (ps : List Party). ps ++ c.in-Some.party ∷ []) c.loop-number.invariant.parties
          ∙ sym (one_party r o c.loop-number.first x c.in-Some.ensures);
      within = omega (arith, c.in-Some.ensures.0.below);
    }

pub returns : goal.returns
unfolding parties_of
returns g c =
    let r : PlainRecording = c.args.findings.now in
    let o : OrderData = order_of c.args.order.now in
    c.loop-number.invariant.parties ∙ sym (all_parties r o c.loop-number.first c.loop-number.invariant.within c.in_default.ensures)
