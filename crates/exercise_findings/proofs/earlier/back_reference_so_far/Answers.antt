use Rattle.std.proofs.Common.{sym, ◌∙◌, subst, arith}
use Rattle.std.specs.Prelude.{◌≢◌}
use Rattle.exercise_findings.specs.Earlier.{IsBackReferenceSoFar}
use Rattle.exercise_findings.proofs.EarlierEntries.{found_below, received_so_far, numbered_apart, found_so_far}
use Rattle.exercise_findings.proofs.earlier.back_reference_so_far.Goals as goal

pub source_number-requires : goal.source_number-requires
source_number-requires g c =
    let r = g.L.ExerciseLog.recording c.args.log.now in
    let n = c.args.entry in
    found_below r c.args.datagram.now n c.in_ok-source.source (omega (arith, c.requires.within, c.requires.limits.count)) c.in_ok-source.ensures.source

pub returns-clause-so_far : goal.returns-clause-so_far
returns-clause-so_far g c =
    let r = g.L.ExerciseLog.recording c.args.log.now in
    let n = c.args.entry in
    let here = c.requires.receives in
    subst (IsBackReferenceSoFar r n) (sym c.source_number.ensures)
    (received_so_far r n here.0 here.1.0 n c.args.datagram.now c.in_ok-source.source here.1.1
    (omega (arith, c.requires.within)) c.requires.limits.count c.in_ok-source.ensures.source)

pub returns-clause-later : goal.returns-clause-later
returns-clause-later g c none =
    let r = g.L.ExerciseLog.recording c.args.log.now in
    let n = c.args.entry in
    let here = c.requires.receives in
    let o = c.in_ok-source.source in
    let source = c.in_ok-source.ensures.source in
    let looked = c.in_ok-source.ensures.later none in
    let few = found_below r c.args.datagram.now n o (omega (arith, c.requires.within, c.requires.limits.count)) source in
    let apart : c.source_number.result ≢ 4294967294 = λ same. numbered_apart o looked.1 few (sym c.source_number.ensures ∙ same) in
    let kept : IsBackReferenceSoFar r n c.source_number.result = subst (IsBackReferenceSoFar r n) (sym c.source_number.ensures)
    (received_so_far r n here.0 here.1.0 n c.args.datagram.now o here.1.1 (omega (arith, c.requires.within)) c.requires.limits.count source) in
    (looked.0, found_so_far r n c.source_number.result apart kept)
