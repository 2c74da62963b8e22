use Rattle.std.proofs.Common.{sym, subst, ◌∙◌}
use Rattle.std.specs.Prelude.{Option, IfErr}
use Rattle.std.proofs.lemmas.Result.{on_ok_weaker, IfErr-weaker}
use Rattle.siman_stations.specs.declared.world_fault.MoveFault.{MoveFault}
use Rattle.siman_stations.specs.Acts.{Gives}
use Rattle.siman_stations.specs.Holds.{IsStillAfter}
use Rattle.siman_stations.specs.Moves.{Stays}
use Rattle.siman_stations.specs.World.{course_of}
use Rattle.siman_stations.proofs.Courses.{made_after, is_fit, moves_same, still_after}
use Rattle.siman_stations.proofs.world.World.make.Goals as goal

pub step-requires : goal.step-requires
step-requires c = is_fit c.requires.0 c.requires.1 c.args.self.now c.requires.2

pub returns-clause-after : goal.returns-clause-after
returns-clause-after c = λ w ms h.
    made_after w ms c.args.step c.args.self.now c.step.new.self c.step.result h c.step.ensures.does c.step.ensures.made c.step.ensures.in_range

pub returns-clause-made : goal.returns-clause-made
returns-clause-made c = λ w ms h.
    on_ok_weaker c.step.result (λ e. sym (moves_same w (course_of w ms) c.args.step c.args.self.now h.holds) ∙ e) c.step.ensures.made

pub returns-clause-fault : goal.returns-clause-fault
returns-clause-fault c = λ w ms h.
    subst (λ (o : Option MoveFault). IfErr c.step.result (Gives o)) (moves_same w (course_of w ms) c.args.step c.args.self.now h.holds)
    c.step.ensures.fault

pub returns-clause-kept : goal.returns-clause-kept
returns-clause-kept c = λ w ms h.
    IfErr-weaker c.step.result (Stays c.args.self.now c.step.new.self) (IsStillAfter w ms c.step.new.self)
    (still_after w ms c.args.self.now c.step.new.self h) c.step.ensures.kept
