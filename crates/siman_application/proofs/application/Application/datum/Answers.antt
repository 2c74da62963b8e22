use Rattle.std.proofs.Common.{ap, ◌∙◌}
use Rattle.std.specs.Option.{option_map}
use Rattle.siman_application.specs.Answer.{Knowledge}
use Rattle.siman_application.specs.Play.{fixed_after}
use Rattle.siman_application.specs.Application.{ApplicationData, came}
use Rattle.siman_application.proofs.application.Application.datum.Goals as goal

pub returns : goal.returns
returns c =
    c.value.ensures ∙ ap (λ (k : Knowledge). option_map (λ d. d.value) (k.fixed c.args.id)) c.self.invariant.known_is
    ∙ ap (λ (s : ApplicationData). option_map (λ d. d.value) (fixed_after s.outfit (came s) c.args.id)) c.self.view_is
