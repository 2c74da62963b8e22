use Rattle.std.proofs.Common.{◌∙◌}
use Rattle.siman_tests.proofs.Results.{if_then}
use Rattle.siman_tests.proofs.uses.report.says_in_json_what_the_text_says.Goals as goal

pub returns : goal.returns
returns g c = if_then c.review_text.result (λ text is. is ∙ c.review_json_says_the_same.ensures.json _ c.args.explained c.args.filters.now) c.review_text.ensures
