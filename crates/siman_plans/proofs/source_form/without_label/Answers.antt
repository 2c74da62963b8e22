use Rattle.std.proofs.Common.{◌-◌, length}
use Rattle.std.proofs.lemmas.List.{length-map, take-map}
use Rattle.siman_plans.specs.SourceForms.{seen}
use Rattle.siman_plans.proofs.source_form.without_label.Goals as goal

pub returns-then-has_label : goal.returns-then-has_label
returns-then-has_label c =
    rw (← c.has_label.ensures, c.if-has_label.true, length-map, take-map seen (length c.args.words.now - 2) c.args.words.now)
