-- The lines that are left decide.
use Rattle.std.proofs.Common.{◌≡◌, length}
use Rattle.siman_operator.specs.ShortForm.{is_short_form}
use Rattle.siman_operator.proofs.short_form.is_short_form.Given as goal

abbrev pub invariant-loop-rest : goal.invariant-loop-rest
invariant-loop-rest l = is_short_form l.address l.text ≡ is_short_form l.address l.rest

abbrev pub decreases-loop-rest : goal.decreases-loop-rest
decreases-loop-rest l = length l.rest
