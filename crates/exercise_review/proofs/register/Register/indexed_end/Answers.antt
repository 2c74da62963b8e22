use Rattle.std.proofs.Common.{◌≡◌, ◌<◌, length, sym, ap, ◌∙◌, subst, arith}
use Rattle.exercise_model.specs.Recording.{PlainRecording}
use Rattle.exercise_review.specs.Register.{key_at, AreRegistered}
use Rattle.exercise_review.proofs.register.Register.indexed_end.Goals as goal

pub returns-clause-rest : goal.returns-clause-rest
returns-clause-rest g c i from within =
    let r : PlainRecording = c.self.inside.findings in
    let same : r ≡ c.args.self.now = c.self.view_is in
    let count = c.entry_count.ensures.count ∙ ap (λ (x : PlainRecording). length x.entries) c.log.ensures in
    let all : length r.entries ≡ c.entry_count.result = ap (λ (x : PlainRecording). length x.entries) same ∙ sym count in
    let tied = subst (λ n. AreRegistered (key_at r) n c.self.inside.kept.noted.orders) all c.self.invariant.first.orders in
    let below : i < c.entry_count.result = omega (arith, within, count) in
    ap (λ (x : PlainRecording). key_at x i) (sym same) ∙ c.indexed_end.ensures.rest (key_at r) tied i from below
