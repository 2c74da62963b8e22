-- The subject and the name, and then the place.
use Rattle.std.proofs.Common.{◌≡◌, ◌++◌, subst, refl}
use Rattle.std.specs.Io.KnownBytes.{Appends}
use Rattle.byte_files.specs.Writing.{Writes, WritesPart}
use Rattle.byte_files.proofs.Offered.{at_error, writes_part, writes_then}
use Rattle.siman_outside.specs.Ending.{reported_as, place_text}
use Rattle.siman_outside.proofs.fault.put_fault_text.Goals as goal

pub returns-in_err-put_both : goal.returns-in_err-put_both
returns-in_err-put_both g c =
    let told = reported_as c.args.fault in
    let both : c.as_bytes.result.now ++ c.as_bytes-2.result.now ≡ told.0 ++ told.1 = rw
    (c.as_bytes.ensures.value, c.told.ensures.subject, c.as_bytes-2.ensures.value, c.told.ensures.name) refl in
    at_error c.from_residual.result _ _ _ c.from_residual.ensures.0
    (writes_part _ _ (told.0 ++ told.1) (place_text told.2) (subst (WritesPart _ _) both c.in_err-put_both.ensures))

pub returns : goal.returns
returns g c =
    let told = reported_as c.args.fault in
    let both : c.as_bytes.result.now ++ c.as_bytes-2.result.now ≡ told.0 ++ told.1 = rw
    (c.as_bytes.ensures.value, c.told.ensures.subject, c.as_bytes-2.ensures.value, c.told.ensures.name) refl in
    let first = subst (Appends _ _) both c.in_ok-put_both.ensures in
    let place = subst (λ at. Writes c.put_any_place.result (g.E.Write.contents c.put_both.new.writer) (g.E.Write.contents c.put_any_place.new.errors)
    (place_text at)) c.told.ensures.place c.put_any_place.ensures in
    writes_then c.put_any_place.result _ _ _ (told.0 ++ told.1) (place_text told.2) first place
