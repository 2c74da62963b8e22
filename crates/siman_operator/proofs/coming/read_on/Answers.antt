-- A byte is read, or there is none.
use Rattle.std.proofs.Common.{◌≡◌, ◌≢◌, get_or, rules, refl, arith}
use Rattle.byte_files.proofs.LineReadings.{so_far-same, one_byte, so_far-held, so_far-past, line-ended, line-last, no-line}
use Rattle.siman_operator.proofs.Begun.{as_so_far, of_so_far}
use Rattle.siman_operator.proofs.coming.read_on.Goals as goal

pub returns-then-size-eq0-clause-goes : goal.returns-then-size-eq0-clause-goes
returns-then-size-eq0-clause-goes g c =
    λ rest begun.
    let before = so_far-same _ c.fill.new.buf c.in_ok-fill.field-0 (omega arith) (as_so_far begun) c.in_ok-fill.ensures.bytes in
    no-line (omega arith) c.requires before (c.in_ok-fill.ensures.end (omega arith))

pub returns-else-size-eq0-clause-goes : goal.returns-else-size-eq0-clause-goes
returns-else-size-eq0-clause-goes g c =
    λ rest begun.
    let before = so_far-same _ c.fill.new.buf c.in_ok-fill.field-0 (omega arith) (as_so_far begun) c.in_ok-fill.ensures.bytes in
    (line-last before (c.in_ok-fill.ensures.end (omega arith)) (omega arith), refl)

pub returns-then-byte-eq10-clause-goes : goal.returns-then-byte-eq10-clause-goes
returns-then-byte-eq10-clause-goes g c =
    λ rest begun.
    let at : get_or c.fill.new.buf 0 0 ≡ 10 = search rules in (
      line-ended (as_so_far begun)
          (rw at at (one_byte _ _ c.fill.new.buf c.in_ok-fill.field-0 c.fill.auto.buf c.in_ok-fill.ensures.within (omega arith) c.in_ok-fill.ensures.bytes)),
      refl,
    )

pub returns-then-size-buffer-clause-goes : goal.returns-then-size-buffer-clause-goes
returns-then-size-buffer-clause-goes g c =
    λ rest begun.
    let other : get_or c.fill.new.buf 0 0 ≢ 10 = search rules in
    let taken = one_byte _ _ c.fill.new.buf c.in_ok-fill.field-0 c.fill.auto.buf c.in_ok-fill.ensures.within (omega arith) c.in_ok-fill.ensures.bytes in
    of_so_far (so_far-held (as_so_far begun) taken other c.if-size-buffer.true)

pub returns-else-size-buffer-clause-goes : goal.returns-else-size-buffer-clause-goes
returns-else-size-buffer-clause-goes g c =
    λ rest begun.
    let other : get_or c.fill.new.buf 0 0 ≢ 10 = search rules in
    let taken = one_byte _ _ c.fill.new.buf c.in_ok-fill.field-0 c.fill.auto.buf c.in_ok-fill.ensures.within (omega arith) c.in_ok-fill.ensures.bytes in
    of_so_far (so_far-past (as_so_far begun) taken other c.if-size-buffer.false)
