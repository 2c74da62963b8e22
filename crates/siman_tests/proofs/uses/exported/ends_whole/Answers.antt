use Rattle.std.proofs.Common.{ap}
use Rattle.packet_captures.specs.Capture.{PlainCapture}
use Rattle.siman_tests.proofs.uses.exported.ends_whole.Goals as goal

pub returns : goal.returns
returns c = λ name r limits. ap (λ (capture : PlainCapture). capture.fault) (c.exports_are_read_back.ensures.packets name r limits)
