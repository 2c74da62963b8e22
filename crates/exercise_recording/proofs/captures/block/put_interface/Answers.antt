-- The front of an interface with the site, the application, and then the padding and the end.
use Rattle.std.proofs.Common.{◌≡◌, ◌+◌, ℕ, ◌++◌, length, ap, subst, ◌∙◌, arith, length-append}
use Rattle.std.specs.Prelude.{codes, decimal}
use Rattle.byte_files.specs.Writing.{Writes}
use Rattle.packet_captures.specs.Options.{padded}
use Rattle.byte_files.proofs.Offered.{at_error, writes_part, writes_then, writes_later}
use Rattle.exercise_recording.specs.Captures.Blocks.{padding_text, interface_front, interface_end}
use Rattle.exercise_recording.proofs.Captured.Blocks.{interface-parts}
use Rattle.exercise_recording.proofs.captures.block.put_interface.Goals as goal

pub returns-in_err-put_both : goal.returns-in_err-put_both
returns-in_err-put_both g c =
    let a = c.args.address in
    let site : c.as_bytes-site.result.now ≡ decimal a.site = c.as_bytes-site.ensures.value ∙ c.format.ensures.text ∙ ap decimal c.site.ensures.site in
    let application : c.as_bytes-application.result.now ≡ decimal a.application =
    c.as_bytes-application.ensures.value ∙ c.format-2.ensures.text ∙ ap decimal c.application.ensures.application in
    let size : ℕ = length (decimal a.site) + 1 + length (decimal a.application) in
    let total : ℕ = 36 + padded size in
    let size_is : length (decimal a.site ++ (codes ":" ++ decimal a.application)) ≡ size =
    omega (arith, length-append (decimal a.site) (codes ":" ++ decimal a.application), length-append (codes ":") (decimal a.application)) in
    subst (Writes c.from_residual.result _ _) (interface-parts a size total size_is (omega arith))
    (at_error c.from_residual.result _ _ _ c.from_residual.ensures.0
    (writes_part _ _ (interface_front total size ++ decimal a.site) ((codes ":" ++ decimal a.application) ++ (padding_text size ++ interface_end total))
    (rw (c.interface_front.ensures, c.padded.ensures, site, application) at c.in_err-put_both.ensures)))

pub returns-in_err-put_both-2 : goal.returns-in_err-put_both-2
returns-in_err-put_both-2 g c =
    let a = c.args.address in
    let site : c.as_bytes-site.result.now ≡ decimal a.site = c.as_bytes-site.ensures.value ∙ c.format.ensures.text ∙ ap decimal c.site.ensures.site in
    let application : c.as_bytes-application.result.now ≡ decimal a.application =
    c.as_bytes-application.ensures.value ∙ c.format-2.ensures.text ∙ ap decimal c.application.ensures.application in
    let size : ℕ = length (decimal a.site) + 1 + length (decimal a.application) in
    let total : ℕ = 36 + padded size in
    let size_is : length (decimal a.site ++ (codes ":" ++ decimal a.application)) ≡ size =
    omega (arith, length-append (decimal a.site) (codes ":" ++ decimal a.application), length-append (codes ":") (decimal a.application)) in
    subst (Writes c.from_residual-in_err-put_both-2.result _ _) (interface-parts a size total size_is (omega arith))
    (at_error c.from_residual-in_err-put_both-2.result _ _ _ c.from_residual-in_err-put_both-2.ensures.0
    (writes_later _ _ _ (interface_front total size ++ decimal a.site) ((codes ":" ++ decimal a.application) ++ (padding_text size ++ interface_end total))
    (rw (c.interface_front.ensures, c.padded.ensures, site, application) at c.in_ok-put_both.ensures)
    (writes_part _ _ (codes ":" ++ decimal a.application) (padding_text size ++ interface_end total) (rw application at c.in_err-put_both-2.ensures))))

pub returns : goal.returns
returns g c =
    let a = c.args.address in
    let site : c.as_bytes-site.result.now ≡ decimal a.site = c.as_bytes-site.ensures.value ∙ c.format.ensures.text ∙ ap decimal c.site.ensures.site in
    let application : c.as_bytes-application.result.now ≡ decimal a.application =
    c.as_bytes-application.ensures.value ∙ c.format-2.ensures.text ∙ ap decimal c.application.ensures.application in
    let size : ℕ = length (decimal a.site) + 1 + length (decimal a.application) in
    let total : ℕ = 36 + padded size in
    let size_is : length (decimal a.site ++ (codes ":" ++ decimal a.application)) ≡ size =
    omega (arith, length-append (decimal a.site) (codes ":" ++ decimal a.application), length-append (codes ":") (decimal a.application)) in
    subst (Writes c.put_padded.result _ _) (interface-parts a size total size_is (omega arith))
    (writes_then c.put_padded.result _ _ _ (interface_front total size ++ decimal a.site) ((codes ":" ++ decimal a.application) ++ (padding_text size ++ interface_end total))
    (rw (c.interface_front.ensures, c.padded.ensures, site, application) at c.in_ok-put_both.ensures)
    (writes_then c.put_padded.result _ _ _ (codes ":" ++ decimal a.application) (padding_text size ++ interface_end total)
    (rw application at c.in_ok-put_both-2.ensures)
    (rw (c.interface_end.ensures, c.padded.ensures, site, application) at c.put_padded.ensures)))
