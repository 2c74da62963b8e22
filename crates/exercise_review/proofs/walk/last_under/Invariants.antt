use Rattle.std.proofs.Common.{length}
use Rattle.exercise_review.specs.Register.{has_key}
use Rattle.exercise_review.proofs.Walks.{past, IsLastOn, IsOn}
use Rattle.exercise_review.proofs.walk.last_under.Given as goal

-- None behind the entry that is next passes.
abbrev pub invariant-loop-next : goal.invariant-loop-next
invariant-loop-next g l = record {
  on : IsOn (has_key l.register l.key) (length l.register.entries) l.next;
  last : IsLastOn (g.Q.Question.test l.question) (length l.register.entries) l.next;
}

abbrev pub decreases-loop-next : goal.decreases-loop-next
decreases-loop-next g l = past l.next
