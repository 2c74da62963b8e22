use Rattle.std.proofs.Common.{◌≡◌, ℕ, List, Option, Some, None, sym}
use Rattle.std.specs.Borrow.{Bor}
use Rattle.std.specs.Prelude.{option_map}
use Rattle.exercise_model.specs.Recording.{PlainRecording}
use Rattle.exercise_review.specs.Entries.{bytes_sent}
use Rattle.exercise_review.specs.Order.{OrderData, order_of}
use Rattle.exercise_review.specs.Stamped.{IsSaid}
use Rattle.exercise_review.proofs.Stamped.{head_says}
use Rattle.exercise_review.proofs.outcome.bytes_at_head.Goals as goal

pub returns : goal.returns
returns g c = of_bytes c.bytes_sent.result c.bytes_sent.ensures
  where
    r : PlainRecording
    r = c.args.findings.now

    o : OrderData
    o = order_of c.args.order.now

    of_bytes : (said : Option (Bor (List ℕ))) → option_map (λ (x : Bor (List ℕ)). x.now) said ≡ bytes_sent r c.args.maker o.head → IsSaid r o.request said
    of_bytes None is = tt
    of_bytes (Some b) is = head_says r o c.args.maker b.now c.requires.maker c.requires.head (sym is)
