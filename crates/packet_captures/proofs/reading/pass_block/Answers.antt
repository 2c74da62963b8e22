use Rattle.packet_captures.proofs.Passing.{sized-passed, passes-end-ok}
use Rattle.packet_captures.proofs.reading.pass_block.Goals as goal

pub returns-clause-size : goal.returns-clause-size
returns-clause-size g c =
    sized-passed c.args.order c.args.window.now c.pass_whole.new.window c.hold_whole.new.window c.in_ok-size.size c.pass_end.result c.in_ok-size.ensures.least
    c.in_ok-pass_whole.ensures.passed c.in_ok-hold_whole.ensures.same c.in_ok-hold_whole.ensures.held c.in_ok-size.ensures.size c.pass_end.ensures.size

pub returns-clause-passed : goal.returns-clause-passed
returns-clause-passed g c =
    passes-end-ok c.args.window.now c.pass_whole.new.window c.hold_whole.new.window c.pass_end.new.window c.in_ok-size.size c.pass_end.result c.in_ok-size.ensures.least
    c.in_ok-pass_whole.ensures.passed c.in_ok-hold_whole.ensures.same c.pass_end.ensures.same c.pass_end.ensures.passed
