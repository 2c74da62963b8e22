use Rattle.std.proofs.Common.{arith}
use Rattle.siman_tests.proofs.uses.archive.need_one_byte_more.Goals as goal

pub returns : goal.returns
returns c = λ limit first is room. (
  omega (arith, room, c.conversions_are_read.ensures.longer c.args.recording.now first),
  c.conversions_are_read.ensures.read limit c.args.recording.now first is (omega (arith, room)),
)
