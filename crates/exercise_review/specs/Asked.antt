-- Data about an order that every party's outcome needs, so that they are computed once (profile).
use Rattle.std.specs.Prelude.{◌≡◌}
use Rattle.exercise_model.specs.Recording.{PlainRecording}
use Rattle.exercise_review.specs.declared.outcome.OrderFacts.{OrderFacts}
use Rattle.exercise_review.specs.StationTrace.{IsOwn}
use Rattle.exercise_review.specs.Order.{OrderData}
use Rattle.exercise_review.specs.Outcome.{known_sends}
use Rattle.exercise_review.specs.Register.{request_digest}
use Rattle.exercise_review.specs.Stamped.{IsSaid}

-- bytes that mean the order, if available; the digest of its request; how often it was sent; and the data collected at
-- its maker, if any
pub record IsAsked (r : PlainRecording) (o : OrderData) (x : OrderFacts) : Type 0 where
  pub said : IsSaid r o.request x.said
  pub digest : x.digest ≡ request_digest o.request
  pub sends : x.sends ≡ known_sends r o
  pub own : IsOwn r o x.own
