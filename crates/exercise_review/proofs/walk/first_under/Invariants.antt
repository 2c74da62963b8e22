use Rattle.std.proofs.Common.{◌<◌, length}
use Rattle.std.specs.Prelude.{IfSome}
use Rattle.exercise_review.specs.Register.{has_key}
use Rattle.exercise_review.proofs.Walks.{past, IsFirstOn, IsOn}
use Rattle.exercise_review.proofs.walk.first_under.Given as goal

-- The first of those behind the entry that is next.
abbrev pub invariant-loop-next : goal.invariant-loop-next
invariant-loop-next g l = record {
  on : IsOn (has_key l.register l.key) (length l.register.entries) l.next;
  first : IsFirstOn (g.Q.Question.test l.question) (length l.register.entries) l.next l.first;
  within : IfSome l.first (λ entry. entry < length l.register.entries);
}

abbrev pub decreases-loop-next : goal.decreases-loop-next
decreases-loop-next g l = past l.next
