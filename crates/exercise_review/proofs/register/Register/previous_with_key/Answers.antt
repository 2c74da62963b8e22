use Rattle.std.proofs.Common.{◌≡◌, ℕ, ◌<◌, length, true, sym, subst}
use Rattle.exercise_model.specs.Recording.{PlainRecording}
use Rattle.exercise_review.specs.Counted.{last_below}
use Rattle.exercise_review.specs.Register.{key_at, has_key}
use Rattle.exercise_review.proofs.register.Register.previous_with_key.Goals as goal

pub returns : goal.returns
returns g c k has =
    let r : PlainRecording = c.self.inside.findings in
    let n : ℕ = c.args.entry in
    let same : r ≡ c.args.self.now = c.self.view_is in
    let within : n < length r.entries = subst (λ (x : PlainRecording). n < length x.entries) (sym same) c.requires in
    let has : has_key r k n ≡ true = subst (λ (x : PlainRecording). has_key x k n ≡ true) (sym same) has in
    subst (λ (x : PlainRecording). c.entry_before.result ≡ last_below (has_key x k) n) same
    (c.entry_before.ensures (key_at r) (length r.entries) k c.self.invariant.first.orders within has)
