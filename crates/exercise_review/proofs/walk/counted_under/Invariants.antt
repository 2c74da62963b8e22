use Rattle.std.proofs.Common.{◌≤◌, ◌+◌, length}
use Rattle.exercise_review.specs.Register.{has_key}
use Rattle.exercise_review.proofs.Walks.{past, IsCountOn, IsFirstOn, IsOn}
use Rattle.exercise_review.proofs.walk.counted_under.Given as goal

-- As many pass as were asked behind the entry that is next, and this is the first of them.
abbrev pub invariant-loop-next : goal.invariant-loop-next
invariant-loop-next g l = record {
  on : IsOn (has_key l.register l.key) (length l.register.entries) l.next;
  count : IsCountOn (g.Q.Question.test l.question) (length l.register.entries) l.next l.count;
  first : IsFirstOn (g.Q.Question.test l.question) (length l.register.entries) l.next l.found;
  room : past l.next + l.count ≤ length l.register.entries;
}

abbrev pub decreases-loop-next : goal.decreases-loop-next
decreases-loop-next g l = past l.next
