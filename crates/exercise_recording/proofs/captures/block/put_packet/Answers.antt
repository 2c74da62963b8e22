-- The front of a packet with the headers of its datagram, and then the datagram, padded, and the end.
use Rattle.std.proofs.Common.{◌+◌, ℕ, List, ◌++◌, length, ap, sym, subst, length-append}
use Rattle.byte_files.specs.Writing.{Writes}
use Rattle.byte_files.proofs.Offered.{at_error, writes_part, writes_then}
use Rattle.exercise_recording.specs.Captures.Datagram.{datagram_headers}
use Rattle.exercise_recording.specs.Captures.Blocks.{padding_text, packet_front, packet_end}
use Rattle.exercise_recording.proofs.Captured.Blocks.{packet-parts}
use Rattle.exercise_recording.proofs.captures.block.put_packet.Goals as goal

pub returns-in_err-put_both : goal.returns-in_err-put_both
returns-in_err-put_both g c =
    let b : List ℕ = c.args.bytes.now in
    let size : ℕ = 28 + length b in
    let total : ℕ = 44 + c.padded.result in
    let headers : List ℕ = datagram_headers (length b) c.args.way.source c.args.way.target in
    let parts = packet-parts c.args.seen.interface c.args.seen.stamp c.args.seen.direction headers b size total (length-append headers b) (ap (λ (n : ℕ). 44 + n) (sym c.padded.ensures)) in
    subst (Writes c.from_residual.result _ _) parts
    (at_error c.from_residual.result _ _ _ c.from_residual.ensures.0
    (writes_part _ _ (packet_front total c.args.seen.interface c.args.seen.stamp size ++ headers) (b ++ (padding_text size ++ packet_end c.args.seen.direction total))
    (rw (c.packet_front-front.ensures, c.headers-headers.ensures) at c.in_err-put_both.ensures)))

pub returns : goal.returns
returns g c =
    let b : List ℕ = c.args.bytes.now in
    let size : ℕ = 28 + length b in
    let total : ℕ = 44 + c.padded.result in
    let headers : List ℕ = datagram_headers (length b) c.args.way.source c.args.way.target in
    let parts = packet-parts c.args.seen.interface c.args.seen.stamp c.args.seen.direction headers b size total (length-append headers b) (ap (λ (n : ℕ). 44 + n) (sym c.padded.ensures)) in
    subst (Writes c.put_padded.result _ _) parts
    (writes_then c.put_padded.result _ _ _ (packet_front total c.args.seen.interface c.args.seen.stamp size ++ headers) (b ++ (padding_text size ++ packet_end c.args.seen.direction total))
    (rw (c.packet_front-front.ensures, c.headers-headers.ensures) at c.in_ok-put_both.ensures)
    (rw c.packet_end.ensures at c.put_padded.ensures))
