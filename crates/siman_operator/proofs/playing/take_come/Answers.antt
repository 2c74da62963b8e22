-- The clock was set, and then the line or the tick taken.
use Rattle.std.proofs.Common.{sym, ◌∙◌, subst}
use Rattle.std.specs.Prelude.{Bool, Some}
use Rattle.siman_scripts.specs.declared.command.Command.TheVariants as commands
use Rattle.siman_scripts.specs.declared.command.StationTask.TheVariants as tasks
use Rattle.siman_operator.specs.Deeds.{PostData, GoesOn, at_time, data_of, printed}
use Rattle.siman_operator.specs.Noting.{telling}
use Rattle.siman_operator.specs.Posts.{TakesLine}
use Rattle.siman_operator.specs.Reading.{said_by}
use Rattle.siman_operator.specs.Sessions.{command_taken}
use Rattle.siman_operator.proofs.playing.take_come.Goals as goal

pub returns-then-is_tick-clause-ends : goal.returns-then-is_tick-clause-ends
returns-then-is_tick-clause-ends g c =
    let told = telling g.L.Line.passed in
    let after = data_of c.take_tick.new.self in
    subst (λ (b : Bool). TakesLine told (command_taken c.args.post.now.address b c.args.held.now) (at_time c.args.come.found.time (data_of c.args.post.now)) after c.take_tick.result)
    (sym (sym c.is_tick.ensures ∙ c.if-is_tick.true))
    (subst (λ (p : PostData g.row.L.Denot). TakesLine told (Some (commands.Asks p.address tasks.Repeat)) p after c.take_tick.result) c.see_time.ensures c.take_tick.ensures.ends)

pub returns-then-is_tick-clause-goes : goal.returns-then-is_tick-clause-goes
returns-then-is_tick-clause-goes g c =
    subst (λ (p : PostData g.row.L.Denot). GoesOn (printed p (g.O.Write.contents c.args.out.now)) (printed (data_of c.take_tick.new.self) (g.O.Write.contents c.take_tick.new.out)))
    c.see_time.ensures c.take_tick.ensures.goes

pub returns-clause-ends : goal.returns-clause-ends
returns-clause-ends g c =
    let told = telling g.L.Line.passed in
    let after = data_of c.take_line.new.self in
    subst (λ (b : Bool). TakesLine told (command_taken c.args.post.now.address b c.args.held.now) (at_time c.args.come.found.time (data_of c.args.post.now)) after c.take_line.result)
    (sym (sym c.is_tick.ensures ∙ c.if-is_tick.false))
    (subst (λ (p : PostData g.row.L.Denot). TakesLine told (said_by c.args.held.now) p after c.take_line.result) c.see_time.ensures
    (rw c.line_or_placeholder.ensures at c.take_line.ensures.ends))

pub returns-clause-goes : goal.returns-clause-goes
returns-clause-goes g c =
    subst (λ (p : PostData g.row.L.Denot). GoesOn (printed p (g.O.Write.contents c.args.out.now)) (printed (data_of c.take_line.new.self) (g.O.Write.contents c.take_line.new.out)))
    c.see_time.ensures c.take_line.ensures.goes
