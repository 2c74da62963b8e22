use Rattle.std.proofs.Common.{ℕ, sym, subst, arith}
use Rattle.std.specs.Prelude.{slice_index_or}
use borrow.Author.Count.{below_more}
use Rattle.exercise_findings.specs.Earlier.{IsBackReference}
use Rattle.exercise_findings.proofs.earlier.back_references.Goals as goal

pub loop-entry-init : goal.loop-entry-init
loop-entry-init g c = record { so_far = c.requires.so_far; found = λ j l. absurd (omega (arith, l)) }

pub loop-entry-preserved : goal.loop-entry-preserved
loop-entry-preserved g c =
    let r = g.L.ExerciseLog.recording c.args.log.now in
    let n = c.loop-entry.entry in
    let xs = c.find_source.new.column.items in
    record {
      so_far = c.find_source.ensures.so_far;
      found = below_more (λ (j : ℕ). IsBackReference r j (slice_index_or xs j 4294967295)) n
          (λ j l. subst (IsBackReference r j) (sym (c.find_source.ensures.others j (λ same. absurd (omega (arith, l, same)))))
          (c.loop-entry.invariant.found j l))
          c.find_source.ensures.here;
    }

pub returns : goal.returns
returns g c = record {
  rest = c.loop-entry.invariant.so_far.rest;
  each = λ j l. c.loop-entry.invariant.found j
      (omega (arith, l, c.loop-entry-test.false, c.loop-entry.auto.entry-end, c.entry_count-entry-end.ensures.count));
}
