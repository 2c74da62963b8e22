use Rattle.std.proofs.Common.{sym, refl, ◌∙◌}
use Rattle.siman_plans.proofs.Lines.{lost_at}
use Rattle.siman_plans.proofs.planner.Planner.lose.Goals as goal

pub returns-in_ok-lose-in-Ok-sent_before : goal.returns-in_ok-lose-in-Ok-sent_before
returns-in_ok-lose-in-Ok-sent_before c = λ w d h.
    lost_at w d c.args.self.now (record { world = c.args.self.now.world; notes = c.lose.new.self }) c.args.line c.args.column c.args.which c.in-Ok.number
    c.in-Ok-sent_before.number h (sym c.named.ensures ∙ c.in-Ok.is) (sym c.sent_before.ensures ∙ c.in-Ok-sent_before.is) refl
    c.in_ok-lose-in-Ok-sent_before.ensures
