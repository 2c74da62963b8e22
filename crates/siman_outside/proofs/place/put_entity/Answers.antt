-- The site, and then the application, the entity and the name.
use Rattle.std.proofs.Common.{◌++◌, codes, decimal}
use Rattle.byte_files.proofs.Offered.{at_error, writes_part, writes_then}
use Rattle.siman_outside.specs.Ending.{words_under_site}
use Rattle.siman_outside.proofs.place.put_entity.Goals as goal

pub returns-in_err-put_number : goal.returns-in_err-put_number
returns-in_err-put_number g c =
    at_error c.from_residual.result _ _ _ c.from_residual.ensures.0
    (writes_part _ _ (codes " " ++ decimal c.args.site) (words_under_site c.args.application c.args.entity c.args.name.now) c.in_err-put_number.ensures)

pub returns : goal.returns
returns g c =
    writes_then c.put_under_site.result _ _ _ (codes " " ++ decimal c.args.site) (words_under_site c.args.application c.args.entity c.args.name.now)
    c.in_ok-put_number.ensures c.put_under_site.ensures
