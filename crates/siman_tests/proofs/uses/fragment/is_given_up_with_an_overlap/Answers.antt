use Rattle.std.proofs.Common.{◌≡◌, Bool, true, false, Option, None, refl}
use Rattle.std.specs.Prelude.{if◌then◌else◌}
use Rattle.packet_captures.specs.Pending.{PlainPending, extended, is_wrong}
use Rattle.siman_tests.proofs.uses.fragment.is_given_up_with_an_overlap.Goals as goal

none_of_both : (t : Bool) → (let none : Option PlainPending = None in if t then none else none) ≡ None
none_of_both true = refl
none_of_both false = refl

pub returns : goal.returns
unfolding extended
returns c = λ d p more order overlap. rw (c.overlaps_are_found.ensures.only p d.parts order overlap) (none_of_both (is_wrong d p more))
