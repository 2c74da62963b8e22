use Rattle.std.proofs.Common.{rules, ◌≡◌, ℕ, false, Some, None, sym, ap, ◌∙◌}
use Rattle.std.specs.Prelude.{is_some, slice_get}
use Rattle.exercise_model.specs.Account.{pair_of}
use Rattle.exercise_model.specs.Held.{shown}
use Rattle.exercise_model.specs.Recording.{PlainRecording}
use Rattle.exercise_model.specs.Setting.{is_open}
use Rattle.exercise_review.specs.Register.{order_key, key_at}
use Rattle.exercise_review.proofs.Moved.{answer_brought, request_brought}
use Rattle.exercise_review.proofs.Options.{nothing}
use Rattle.exercise_review.proofs.keys.derived_index_key.Goals as goal

pub returns-then-is_some : goal.returns-then-is_some
returns-then-is_some g c =
    let r : PlainRecording = c.args.findings.now in
    let closed : is_open r.setting.form ≡ false = search rules in
    answer_brought r c.args.station c.args.entry c.in_ok-source.field-0 (ap is_some c.requires.received) closed c.in_ok-source.ensures
    (ap is_some (sym c.pair.ensures) ∙ sym c.is_some.ensures ∙ c.if-is_some.true)

pub returns : goal.returns
returns g c =
    let r : PlainRecording = c.args.findings.now in
    let j : ℕ = c.in_ok-source.field-0 in
    let closed : is_open r.setting.form ≡ false = search rules in
    let none : pair_of r j ≡ None = sym c.pair.ensures ∙ nothing c.pair.result (sym c.is_some.ensures ∙ c.if-is_some.false) in
    let at : slice_get r.entries j ≡ Some (shown c.entry.result) =
    ap (λ (x : PlainRecording). slice_get x.entries j) (sym c.log-log.ensures) ∙ c.entry.ensures.entry in
    let from = request_brought r c.args.station c.args.entry j (shown c.entry.result) (ap is_some c.requires.received) closed c.in_ok-source.ensures at none in
    c.moved_index_key.ensures (key_at r) c.args.entry from.0 c.requires.tied c.if-source-entry.false
    (from.1 ∙ ap (λ t. order_key t from.0) (sym c.station.ensures))
    ∙ from.2
