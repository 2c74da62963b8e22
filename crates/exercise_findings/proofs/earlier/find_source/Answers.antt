use Rattle.std.proofs.Common.{◌≡◌, ◌<◌, sym, ap, ◌∙◌, length, subst, arith}
use Rattle.std.specs.Prelude.{◌≢◌, IfSome, slice_index_or}
use Rattle.exercise_findings.specs.Earlier.{request_in, IsBackReference, IsBackReferenceSoFar}
use Rattle.exercise_findings.proofs.Columns.{short_written, short_within, written_here, written_apart}
use Rattle.exercise_findings.proofs.EarlierEntries.{source_of_few, known_so_far, looked_up, found_so_far}
use Rattle.exercise_findings.proofs.earlier.find_source.Goals as goal

pub source_number-source-requires : goal.source_number-source-requires
source_number-source-requires g c =
    let r = g.L.ExerciseLog.recording c.args.log.now in
    subst (λ o. IfSome o (λ s. s < 1048576)) (sym c.source_by_hint.ensures) (source_of_few r c.args.entry c.requires.limits.count)

pub returns-then-number_at-clause-so_far : goal.returns-then-number_at-clause-so_far
returns-then-number_at-clause-so_far g c =
    let r = g.L.ExerciseLog.recording c.args.log.now in
    let n = c.args.entry in
    let xs = c.args.column.now.items in
    let x = c.source_number-source.result in
    let at : slice_index_or xs n 4294967295 ≡ 4294967294 =
    (sym (ap (λ ys. slice_index_or ys n 4294967295) c.deref.ensures.value) ∙ sym c.number_at.ensures) ∙ c.if-number_at.true in
    let kept = c.requires.so_far.each n c.requires.within in
    short_written 4294967295 (IsBackReferenceSoFar r) n (length r.entries) x xs c.replace.new.column.items c.requires.within (c.replace.ensures.each 4294967295)
    (known_so_far r n x (subst (IsBackReference r n) (sym c.source_number-source.ensures)
    (looked_up r n c.source_by_hint.result c.source_by_hint.ensures (subst (λ o. IfSome o (λ s. s < 1048576)) (sym c.source_by_hint.ensures) (source_of_few r n c.requires.limits.count)) (ap request_in (sym at) ∙ kept.pair))))
    c.requires.so_far

pub returns-then-number_at-clause-here : goal.returns-then-number_at-clause-here
returns-then-number_at-clause-here g c =
    let r = g.L.ExerciseLog.recording c.args.log.now in
    let n = c.args.entry in
    let xs = c.args.column.now.items in
    let at : slice_index_or xs n 4294967295 ≡ 4294967294 =
    (sym (ap (λ ys. slice_index_or ys n 4294967295) c.deref.ensures.value) ∙ sym c.number_at.ensures) ∙ c.if-number_at.true in
    let kept = c.requires.so_far.each n c.requires.within in
    subst (IsBackReference r n) (sym (written_here 4294967295 n c.source_number-source.result xs c.replace.new.column.items (c.replace.ensures.each 4294967295) ∙ c.source_number-source.ensures))
    (looked_up r n c.source_by_hint.result c.source_by_hint.ensures (subst (λ o. IfSome o (λ s. s < 1048576)) (sym c.source_by_hint.ensures) (source_of_few r n c.requires.limits.count)) (ap request_in (sym at) ∙ kept.pair))

pub returns-then-number_at-clause-others : goal.returns-then-number_at-clause-others
returns-then-number_at-clause-others g c =
    written_apart 4294967295 c.args.entry c.source_number-source.result c.args.column.now.items c.replace.new.column.items (c.replace.ensures.each 4294967295)

pub returns-else-number_at-clause-here : goal.returns-else-number_at-clause-here
returns-else-number_at-clause-here g c =
    let r = g.L.ExerciseLog.recording c.args.log.now in
    let n = c.args.entry in
    let xs = c.args.column.now.items in
    let apart : slice_index_or xs n 4294967295 ≢ 4294967294 =
    λ same. c.if-number_at.false (sym ((sym (ap (λ ys. slice_index_or ys n 4294967295) c.deref.ensures.value) ∙ sym c.number_at.ensures)) ∙ same) in
    found_so_far r n (slice_index_or xs n 4294967295) apart (c.requires.so_far.each n c.requires.within)

pub replace-requires : goal.replace-requires
replace-requires g c =
    let n = c.args.entry in
    let xs = c.args.column.now.items in
    let at : slice_index_or xs n 4294967295 ≡ 4294967294 =
    (sym (ap (λ ys. slice_index_or ys n 4294967295) c.deref.ensures.value) ∙ sym c.number_at.ensures) ∙ c.if-number_at.true in
    short_within 4294967295 n xs (λ same. absurd (omega (arith, at, same)))
