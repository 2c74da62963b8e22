use Rattle.std.proofs.Common.{sym, ◌∙◌}
use Rattle.std.specs.Str.{bytes_eq}
use Rattle.siman_plans.proofs.SourceLabels.{position-map}
use Rattle.siman_plans.proofs.source_label.Labels.place_of.Goals as goal

pub returns : goal.returns
returns c =
    rw (← c.self.view_is) (c.get_index_of.ensures.index ∙ sym (position-map (λ w. w.now) (λ l. bytes_eq c.args.word.now l) c.self.inside.names.keys))
