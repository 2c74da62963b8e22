use Rattle.std.proofs.Common.{◌≡◌, ℕ, List, Some, sym, ap, ◌∙◌}
use Rattle.std.specs.Borrow.{Bor}
use Rattle.std.specs.Prelude.{option_map}
use Rattle.exercise_model.specs.Recording.{PlainRecording}
use Rattle.exercise_review.specs.Entries.{bytes_received}
use Rattle.exercise_review.specs.Register.{key_at}
use Rattle.exercise_review.proofs.Stamped.{got_again}
use Rattle.exercise_review.proofs.keys.repeat_index_key.Goals as goal

pub returns-in-Some : goal.returns-in-Some
returns-in-Some g c =
    let r : PlainRecording = c.args.findings.now in
    let s : ℕ = c.args.station in
    let j : ℕ = c.in_ok-earlier.earlier in
    let a : List ℕ = c.in-Some.other.now in
    let got : bytes_received r s j ≡ Some a =
    sym (ap (λ (x : PlainRecording). bytes_received x s j) c.log.ensures) ∙ sym c.bytes_received_in.ensures ∙ ap (option_map (λ (x : Bor (List ℕ)). x.now)) c.in-Some.is in
    c.indexed_key_place.ensures (key_at r) c.args.entry c.requires.tied c.if-earlier-entry.false
    ∙ got_again r s j c.args.entry a c.args.bytes.now got c.requires.received (c.is_resent.ensures c.if-is_resent.true)
