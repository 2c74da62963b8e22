-- What was ready is written, or nothing is.
use Rattle.std.proofs.Common.{inl, refl}
use Rattle.std.proofs.KnownBytes.{Keeps-refl}
use Rattle.siman_outside.specs.Outside.{stream}
use Rattle.siman_outside.proofs.Offered.{at_fault}
use Rattle.siman_analysis_commands.specs.Review.{PrintsReview}
use Rattle.siman_analysis_commands.proofs.review.print_review.Goals as goal

pub returns-in_err-head : goal.returns-in_err-head
returns-in_err-head g c =
    let kept = g.W.Write.contents c.args.out.now in
    at_fault (λ answered. PrintsReview c.args.form c.args.filters.now (g.L.ExerciseLog.recording c.args.log.now) answered (stream kept kept)) _ _ c.from_residual.ensures.1
    (inl (_, c.in_err-head.ensures, refl, Keeps-refl kept))
