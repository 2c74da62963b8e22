use Rattle.std.proofs.Common.{length, subst}
use Rattle.std.specs.List.{flat_map}
use Rattle.std.specs.Io.KnownBytes.{Appends}
use Rattle.byte_files.specs.Writing.{WritesPart}
use Rattle.byte_files.proofs.Offered.{writes_then, writes_part, at_error}
use Rattle.exercise_check.specs.Certificate.{step_text, head_text}
use Rattle.exercise_check.proofs.certificate_text.put_certificate.Goals as goal

pub returns-in_err-put : goal.returns-in_err-put
returns-in_err-put g c =
    let ss = c.args.steps.now in
    at_error c.from_residual.result _ _ _ c.from_residual.ensures.0
    (writes_part _ _ (head_text (length ss)) (flat_map step_text ss) (subst (WritesPart _ _) c.head_bytes.ensures c.in_err-put.ensures))

pub returns : goal.returns
returns g c =
    let ss = c.args.steps.now in
    writes_then c.put_steps.result _ _ _ (head_text (length ss)) (flat_map step_text ss)
    (subst (Appends _ _) c.head_bytes.ensures c.in_ok-put.ensures) c.put_steps.ensures
