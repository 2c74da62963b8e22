-- All digits but the last two, and behind them these.
use Rattle.std.proofs.Common.{arith}
use Rattle.siman_print.proofs.Digits.{pair_behind}
use Rattle.siman_print.proofs.text_line.add_hundreds.Goals as goal

pub returns-clause-bytes : goal.returns-clause-bytes
returns-clause-bytes c =
    pair_behind c.args.line.now.bytes c.add_tens.new.line.bytes c.add_pair.new.line.bytes c.args.number (omega (arith, c.requires.from))
    (omega (arith, c.requires.below)) c.add_tens.ensures.bytes c.add_pair.ensures.bytes
