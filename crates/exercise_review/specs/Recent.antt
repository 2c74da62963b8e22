-- The last entries that sent and received a request, against which a new one is compared first (profile).
use Rattle.std.specs.Prelude.{ℕ, Some}
use Rattle.exercise_model.specs.Entry.{Entry, Sent, Received, Told}
use Rattle.exercise_review.specs.declared.recent.Recent.{Recent}

-- these entries, updated by entry i
abbrev pub after : Recent → Entry → ℕ → Recent
after x (Sent s stamp b) i = record { sent = Some i; got = x.got }
after x (Received s stamp b) i = record { sent = x.sent; got = Some i }
after x (Told s e y) i = x
