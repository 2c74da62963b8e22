use Rattle.siman_application.proofs.Places.{values_stamped}
use Rattle.siman_application.proofs.kept.stamp_again.Goals as goal

pub returns : goal.returns
returns c = record { kept = values_stamped c.args.place c.args.stamp c.args.kept.now.entries c.index_mut.result.now c.index_mut.ensures.value }
