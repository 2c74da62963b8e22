use Rattle.std.proofs.Common.{◌∙◌, sym, arith}
use Rattle.packet_captures.proofs.Headers.{behind_passed}
use Rattle.packet_captures.proofs.internet_6.behind_header.Goals as goal

pub headers-preserved : goal.headers-preserved
headers-preserved c = record {
  room = omega arith;
  same = behind_passed _ _ _ _ _ _ _ _ _ (omega arith) c.if-next-eq-USER_DATAGRAM.false c.if-next-eq-FRAGMENT.false
      (sym c.is_no_extension.ensures ∙ c.if-is_no_extension.false)
      c.if-rest-lt2.false c.if-room-own.false c.u8_at-next.ensures (c.from.ensures ∙ c.u8_at.ensures) c.behind-rest.ensures ∙ c.headers.invariant.same;
}
