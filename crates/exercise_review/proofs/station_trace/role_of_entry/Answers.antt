use Rattle.std.proofs.Common.{◌≡◌, ℕ, true, sym, ap, ◌∙◌}
use Rattle.std.specs.Prelude.{◌&&◌}
use Rattle.exercise_model.specs.Recording.{PlainRecording}
use Rattle.exercise_review.specs.Order.{OrderData, order_of}
use Rattle.exercise_review.specs.Party.{is_copy}
use Rattle.exercise_review.specs.Word.{settles_at}
use Rattle.exercise_review.proofs.Under.{copy_alone}
use Rattle.exercise_review.proofs.station_trace.role_of_entry.Goals as goal

is_known : (r : PlainRecording) (o : OrderData) (t i copy : ℕ) → is_copy r o t copy ≡ true → copy ≡ i → is_copy r o t i ≡ true
is_known r o t i copy known same = ap (is_copy r o t) (sym same) ∙ known

pub returns-in-Some-clause-send : goal.returns-in-Some-clause-send
returns-in-Some-clause-send g c =
    let r : PlainRecording = c.args.replies.now.findings.now in
    let o : OrderData = order_of c.args.replies.now.order.now in
    let t : ℕ = c.args.replies.now.station in
    let known = rw c.in-Some.is at c.requires.known in
    sym (copy_alone r o t c.args.entry (is_known r o t c.args.entry c.in-Some.copy known c.if-copy-entry.true)).0

pub returns-in-Some-clause-reply : goal.returns-in-Some-clause-reply
returns-in-Some-clause-reply g c =
    let r : PlainRecording = c.args.replies.now.findings.now in
    let o : OrderData = order_of c.args.replies.now.order.now in
    let t : ℕ = c.args.replies.now.station in
    let known = rw c.in-Some.is at c.requires.known in
    sym (copy_alone r o t c.args.entry (is_known r o t c.args.entry c.in-Some.copy known c.if-copy-entry.true)).1

pub returns-in-Some-clause-settles : goal.returns-in-Some-clause-settles
returns-in-Some-clause-settles g c =
    let r : PlainRecording = c.args.replies.now.findings.now in
    let o : OrderData = order_of c.args.replies.now.order.now in
    let t : ℕ = c.args.replies.now.station in
    let known = rw c.in-Some.is at c.requires.known in
    ap (λ b. b && settles_at r c.args.entry)
    (sym (copy_alone r o t c.args.entry (is_known r o t c.args.entry c.in-Some.copy known c.if-copy-entry.true)).1)
