use Rattle.std.specs.Prelude.{unwrap_or}
use Rattle.exercise_review.specs.Register.{holds}
use Rattle.exercise_review.proofs.FirstOnes.{IsBackOn}
use Rattle.exercise_review.proofs.Walks.{past, IsOn}
use Rattle.exercise_review.proofs.entry_chains.is_first_with_key.Given as goal

-- None between the entry and the one that is next passes.
abbrev pub invariant-loop-next : goal.invariant-loop-next
invariant-loop-next g l = record {
  on : IsOn (holds (g.K.EntryKeys.keys l.keying) (unwrap_or (g.K.EntryKeys.keys l.keying l.entry) 0)) l.entry l.next;
  back : IsBackOn (g.Q.Question.test l.question) l.entry l.next;
}

abbrev pub decreases-loop-next : goal.decreases-loop-next
decreases-loop-next g l = past l.next
