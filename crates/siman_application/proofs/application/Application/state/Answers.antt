use Rattle.std.proofs.Common.{ap, ◌∙◌}
use Rattle.siman_application.specs.Answer.{Knowledge}
use Rattle.siman_application.specs.Play.{state_over}
use Rattle.siman_application.specs.Application.{ApplicationData, came}
use Rattle.siman_application.proofs.application.Application.state.Goals as goal

pub returns : goal.returns
returns c =
    c.state.ensures ∙ ap (λ (k : Knowledge). k.states c.args.entity) c.self.invariant.known_is
    ∙ ap (λ (s : ApplicationData). state_over s.outfit (came s) c.args.entity) c.self.view_is
