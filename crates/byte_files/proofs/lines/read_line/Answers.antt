-- A byte is read, or there is none.
use Rattle.std.proofs.Common.{◌≡◌, ◌≢◌, length, get_or, set, rules, arith}
use Rattle.std.proofs.Math.ListN.{length-set}
use Rattle.byte_files.proofs.LineReadings.{so_far-same, one_byte, so_far-held, so_far-past, line-ended, line-last, no-line}
use Rattle.byte_files.proofs.lines.read_line.Goals as goal
use Rattle.byte_files.proofs.lines.read_line.Goals.{then-held-buffer, else-held-buffer}

pub returns-then-held-eq0 : goal.returns-then-held-eq0
returns-then-held-eq0 g c =
    let before = so_far-same _ c.fill.new.buf c.in_ok-fill.field-0 (omega arith) c.loop.invariant.1 c.in_ok-fill.ensures.bytes in
    no-line (omega arith) c.loop.invariant.0 before (c.in_ok-fill.ensures.end (omega arith))

pub returns-else-held-eq0 : goal.returns-else-held-eq0
returns-else-held-eq0 g c =
    let before = so_far-same _ c.fill.new.buf c.in_ok-fill.field-0 (omega arith) c.loop.invariant.1 c.in_ok-fill.ensures.bytes in
    line-last before (c.in_ok-fill.ensures.end (omega arith)) (omega arith)

pub returns-then-byte-eq10 : goal.returns-then-byte-eq10
returns-then-byte-eq10 g c =
    let at : get_or c.fill.new.buf 0 0 ≡ 10 = search rules in
    line-ended c.loop.invariant.1 (rw at at (one_byte _ _ c.fill.new.buf c.in_ok-fill.field-0 c.fill.auto.buf c.in_ok-fill.ensures.within (omega arith) c.in_ok-fill.ensures.bytes))

pub loop-preserved : goal.loop-preserved
loop-preserved g c =
    let other : get_or c.fill.new.buf 0 0 ≢ 10 = search rules in
    let taken = one_byte _ _ c.fill.new.buf c.in_ok-fill.field-0 c.fill.auto.buf c.in_ok-fill.ensures.within (omega arith) c.in_ok-fill.ensures.bytes in
    let same : length (set c.loop.buffer c.loop.held (get_or c.fill.new.buf 0 0)) ≡ length c.loop.buffer = length-set c.loop.buffer _ _ in
    elim c.if-held-buffer.branch [
      | then-held-buffer w ↦ rw (w.buffer-is, w.held-is) (omega arith, so_far-held c.loop.invariant.1 taken other w.if-held-buffer.true)
      | else-held-buffer w ↦ rw (w.buffer-is, w.held-is) (c.loop.invariant.0, so_far-past c.loop.invariant.1 taken other w.if-held-buffer.false)
    ]
