use Rattle.std.proofs.Common.{◌≡◌, ◌<◌, ℕ, List, length, true, false, not, sym, ap, ◌∙◌, subst, arith}
use Rattle.std.specs.Prelude.{is_some, is_none, slice_index_or}
use Rattle.exercise_model.specs.Account.{pair_of}
use Rattle.exercise_model.specs.Place.{first_below}
use Rattle.exercise_model.specs.Recording.{PlainRecording}
use Rattle.exercise_findings.specs.Number.{entry_of}
use Rattle.exercise_review.specs.Register.{key_at, AreRegistered}
use Rattle.exercise_review.specs.Sourced.{entry_in, is_unreceived}
use Rattle.exercise_review.proofs.Numbers.{first_none, first_still, first_end}
use Rattle.exercise_review.proofs.Paired.{unpaired}
use Rattle.exercise_review.proofs.Sourced.{alone_heard, kept_heard, one_unheard}
use Rattle.exercise_review.proofs.sources.are_all_received.Goals as goal
use Rattle.exercise_review.proofs.sources.are_all_received.Goals.{else-is_some-via-then-is_some+else-is_none, else-is_some-via-else-is_some}

pub loop-entry-init : goal.loop-entry-init
loop-entry-init g c = first_none (is_unreceived c.args.findings.now c.args.sources.now)

pub returns-then-is_none : goal.returns-then-is_none
returns-then-is_none g c =
    let r : PlainRecording = c.args.findings.now in
    let i : ℕ = c.loop-entry.entry in
    let count = c.entry_count.ensures.count ∙ ap (λ (x : PlainRecording). length x.entries) c.log.ensures in
    let within : i < length r.entries = omega (arith, c.loop-entry-test.true, c.indexed_end-entry-end.ensures.within, count) in
    let first : c.entry_of-first.result ≡ entry_in c.args.sources.now.first.items i =
    c.entry_of-first.ensures ∙ ap entry_of (c.number_at.ensures ∙ ap (λ (xs : List ℕ). slice_index_or xs i 4294967295) c.deref.ensures.value) in
    let paired : is_some (pair_of r i) ≡ true = ap is_some (sym c.pair.ensures) ∙ sym c.is_some.ensures ∙ c.if-is_some.true in
    one_unheard r c.args.sources.now (length r.entries) i within paired (ap is_some (sym first) ∙ c.is_none.ensures ∙ ap not c.if-is_none.true)

pub loop-entry-preserved : goal.loop-entry-preserved
loop-entry-preserved g c =
    let r : PlainRecording = c.args.findings.now in
    let i : ℕ = c.loop-entry.entry in
    let first : c.entry_of-first.result ≡ entry_in c.args.sources.now.first.items i =
    c.entry_of-first.ensures ∙ ap entry_of (c.number_at.ensures ∙ ap (λ (xs : List ℕ). slice_index_or xs i 4294967295) c.deref.ensures.value) in
    first_still (is_unreceived r c.args.sources.now) i c.loop-entry.invariant
    (elim c.else-is_some.branch as (λ _. is_unreceived r c.args.sources.now i ≡ false) [
      | else-is_some-via-then-is_some+else-is_none w ↦
          kept_heard r c.args.sources.now i (ap is_some (sym first) ∙ w.is_none.ensures ∙ ap not w.if-is_none.false)
      | else-is_some-via-else-is_some w ↦
          alone_heard r c.args.sources.now i (ap is_some (sym c.pair.ensures) ∙ sym c.is_some.ensures ∙ w.if-is_some.false)
    ])

pub returns : goal.returns
returns g c =
    let r : PlainRecording = c.args.findings.now in
    let keyed = c.indexed_end-entry-end in
    let count : c.entry_count.result ≡ length r.entries = c.entry_count.ensures.count ∙ ap (λ (x : PlainRecording). length x.entries) c.log.ensures in
    let end : c.loop-entry.entry ≡ keyed.result = omega (arith, c.loop-entry-test.false, c.loop-entry.auto.entry-end) in
    let tied = subst (λ n. AreRegistered (key_at r) n c.args.orders.now) (sym count) c.requires in
    sym (ap is_none (first_end (is_unreceived r c.args.sources.now) keyed.result (length r.entries) (omega (arith, keyed.ensures.within, count))
    (ap (first_below (is_unreceived r c.args.sources.now)) (sym end) ∙ c.loop-entry.invariant)
    (λ i from below. alone_heard r c.args.sources.now i (unpaired r i (keyed.ensures.rest (key_at r) tied i from (omega (arith, below, count)))))))
