use Rattle.std.specs.Str.{bytes_eq}
use Rattle.siman_plans.proofs.SourceLabels.{list_any-map, given-map}
use Rattle.siman_plans.proofs.source_label.Labels.add.Goals as goal

pub returns-clause-added : goal.returns-clause-added
returns-clause-added c =
    rw (← c.self.view_is, list_any-map (λ w. w.now) (λ l. bytes_eq c.args.word.now l) c.self.inside.names.keys) c.in_ok-insert.ensures.added

pub returns-clause-labels : goal.returns-clause-labels
returns-clause-labels c =
    rw (← c.self.view_is, c.in_ok-insert.ensures.keys) (given-map c.self.inside.names.keys c.args.word)
