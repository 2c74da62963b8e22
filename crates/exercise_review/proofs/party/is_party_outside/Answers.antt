use Rattle.exercise_review.proofs.Under.{under_steps}
use Rattle.exercise_review.specs.Party.{is_party_outside}
use Rattle.std.proofs.Common.{arith}
use Rattle.exercise_review.proofs.party.is_party_outside.Goals as goal

pub first_entry-requires : goal.first_entry-requires
unfolding is_party_outside
first_entry-requires g c = grind (arith, under_steps)
