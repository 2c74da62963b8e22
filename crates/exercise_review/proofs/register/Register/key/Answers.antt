use Rattle.std.proofs.Common.{◌≡◌, ℕ, ◌<◌, length, sym, subst}
use Rattle.exercise_model.specs.Recording.{PlainRecording}
use Rattle.exercise_review.specs.Register.{key_at}
use Rattle.exercise_review.proofs.register.Register.key.Goals as goal

pub returns : goal.returns
returns g c =
    let r : PlainRecording = c.self.inside.findings in
    let n : ℕ = c.args.entry in
    let same : r ≡ c.args.self.now = c.self.view_is in
    let within : n < length r.entries = subst (λ (x : PlainRecording). n < length x.entries) (sym same) c.requires in
    subst (λ (x : PlainRecording). c.key_of_entry.result ≡ key_at x n) same
    (c.key_of_entry.ensures (key_at r) (length r.entries) c.self.invariant.first.orders within)
