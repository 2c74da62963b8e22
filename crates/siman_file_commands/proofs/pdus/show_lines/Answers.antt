-- One line after the other is read and told.
use Rattle.std.proofs.Common.{◌≡◌, ◌+◌, length, take, arith, Err}
use Rattle.siman_file_commands.specs.declared.pdus.PdusFault.TheVariants as stops
use Rattle.siman_file_commands.specs.declared.hex_text.TheConstants.{LONGEST_HEX}
use Rattle.siman_file_commands.proofs.Tellings.{stream, at_number, passed_on, told-none, told-more, told-short, told-all, told-unread}
use Rattle.siman_file_commands.proofs.pdus.show_lines.Goals as goal

pub loop-number-init : goal.loop-number-init
loop-number-init g c = (c.requires, rw c.new-count.ensures (told-none _ _ _))

pub loop-number-preserved : goal.loop-number-preserved
loop-number-preserved g c =
    let size : length c.read_line.new.buffer ≡ LONGEST_HEX + 1 = omega (arith, c.loop-number.invariant.0, c.read_line.auto.buffer) in
    let holds = rw c.in-Some.is at c.in_ok-held.ensures in
    let told = rw c.in_ok-number.ensures.counted at c.in_ok-status.ensures in
    (size, rw (c.in_ok-number.ensures.kept, c.in_ok-number.ensures.counted) (told-more c.loop-number.invariant.1 size holds c.max-worst.ensures told))

pub returns-in_err-number : goal.returns-in_err-number
returns-in_err-number g c =
    let failed = c.in_err-number.field-0.0 in
    passed_on _ (stops.Unread failed) c.from_residual.result _ _ c.from_residual.ensures.1 (told-unread failed c.loop-number.invariant.1)

pub returns-in_err-held : goal.returns-in_err-held
returns-in_err-held g c =
    let failed = c.in_err-held.field-0.0 in
    passed_on _ (stops.Unread failed) c.from_residual-in_err-held.result _ _ c.from_residual-in_err-held.ensures.1 (told-unread failed c.loop-number.invariant.1)

pub returns-in_err-status : goal.returns-in_err-status
returns-in_err-status g c =
    let size : length c.read_line.new.buffer ≡ LONGEST_HEX + 1 = omega (arith, c.loop-number.invariant.0, c.read_line.auto.buffer) in
    let holds = rw c.in-Some.is at c.in_ok-held.ensures in
    let stop = c.in_err-status.field-0.0 in
    let told = at_number c.in_ok-number.number (c.loop-number.count.so_far + 1) (take c.in-Some.held c.read_line.new.buffer) (Err stop)
    (stream (g.W.Write.contents c.loop-number.out) (g.W.Write.contents c.show_line.new.out))
    (stream (g.E.Write.contents c.loop-number.errors) (g.E.Write.contents c.show_line.new.errors)) c.in_ok-number.ensures.counted c.in_err-status.ensures in
    passed_on _ stop c.from_residual-in_err-status.result _ _ c.from_residual-in_err-status.ensures.1 (told-short (g.W.Write.contents c.show_line.new.out)
    (g.E.Write.contents c.show_line.new.errors) stop c.loop-number.invariant.1 size holds told)

pub returns-in_default : goal.returns-in_default
returns-in_default g c = told-all c.loop-number.invariant.1 (rw c.in_default.is at c.in_ok-held.ensures)
