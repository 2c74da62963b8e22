use Rattle.std.proofs.Common.{subst}
use Rattle.exercise_model.specs.OwnLog.{IsSoundLog}
use Rattle.exercise_model.specs.Setting.{station_in}
use Rattle.siman_tests.proofs.uses.receipt.may_be_noted_early.Goals as goal

pub returns : goal.returns
returns c = λ w h later before s sent got run log.
    c.early_receipts_are_allowed.ensures.sound w.exercise (station_in w s) later before s s sent got
    (subst (IsSoundLog w.exercise (station_in w s)) log (((c.early_receipts_are_allowed.ensures.runs w h).0 run).0 s))
