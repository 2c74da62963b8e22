use Rattle.std.proofs.Common.{ap, ◌∙◌}
use Rattle.siman_application.specs.Answer.{Knowledge}
use Rattle.siman_application.specs.Play.{variable_after}
use Rattle.siman_application.specs.Application.{ApplicationData, came}
use Rattle.siman_application.proofs.application.Application.variable.Goals as goal

pub returns : goal.returns
returns c =
    c.variable.ensures ∙ ap (λ (k : Knowledge). k.variable c.args.id) c.self.invariant.known_is
    ∙ ap (λ (s : ApplicationData). variable_after s.outfit (came s) c.args.id) c.self.view_is
