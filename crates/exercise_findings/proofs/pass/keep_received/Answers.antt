use Rattle.std.proofs.Common.{◌≡◌, ◌+◌, ℕ, List, Option, Some, None, cond, refl, sym, ap, ◌∙◌, subst, arith}
use Rattle.std.specs.Prelude.{slice_get}
use Rattle.exercise_model.specs.declared.cause.Cause.{Cause}
use Rattle.exercise_model.specs.Entry.{Entry, Received}
use Rattle.exercise_findings.specs.Column.{IsColumn}
use Rattle.exercise_findings.specs.Earlier.{IsBackReference, IsBackReferenceSoFar}
use Rattle.exercise_findings.specs.Tables.{IsOwnCause, IsChangeAt, other_at}
use Rattle.exercise_findings.proofs.FirstAnswers.{answered_still}
use Rattle.exercise_findings.proofs.Columns.{column_more, short_more, short_still, on_ok}
use Rattle.exercise_findings.proofs.Looks.{pair_here, unasked_here, change_here, at_most_one, others_next}
use Rattle.exercise_findings.proofs.FirstSends.{sends_still}
use Rattle.exercise_findings.proofs.Sources.{not_sent}
use Rattle.exercise_findings.proofs.pass.keep_received.Goals as goal

pub back_reference_so_far-requires-clause-receives : goal.back_reference_so_far-requires-clause-receives
back_reference_so_far-requires-clause-receives g c = (c.args.station, c.requires.receives)

pub note_entry_key-requires-clause-change : goal.note_entry_key-requires-clause-change
note_entry_key-requires-clause-change g c =
    change_here (g.L.ExerciseLog.recording c.args.log.now) c.args.entry (Received c.args.station c.requires.receives.0 c.args.bytes.now) c.requires.receives.1

pub returns : goal.returns
returns g c =
    let r = g.L.ExerciseLog.recording c.args.log.now in
    let n = c.args.entry in
    let was = c.requires.found in
    let got : Entry = Received c.args.station c.requires.receives.0 c.args.bytes.now in
    let at : slice_get r.entries n ≡ Some got = c.requires.receives.1 in
    let here = c.receipt_findings-here.ensures in
    let earlier = c.in_ok-earlier.ensures in
    let one : c.one_if.result ≡ cond {A = ℕ} (other_at r n) 1 0 = c.one_if.ensures ∙ ap (λ b. cond {A = ℕ} b 1 0) here.other in
    on_ok c.note_entry_key.result (λ tied. record {
      tied = tied;
      causes = subst (λ (xs : List (Option Cause)). IsColumn None (IsOwnCause r) (n + 1) xs) (sym c.in_ok-push.ensures.items)
          (column_more None (IsOwnCause r) n _ c.receipt_findings-here.result.cause was.causes here.cause);
      changes = short_still 0 (IsChangeAt r) n _ was.changes (sym (change_here r n got at));
      earlier = short_more 4294967295 (IsBackReferenceSoFar r) n _ _ _ c.in_ok-put_number.ensures earlier.so_far was.earlier;
      later = λ none. short_more 4294967295 (IsBackReference r) n _ _ _ c.in_ok-put_number.ensures (earlier.later none).1 (was.later (earlier.later none).0);
      ables = c.in_ok-note_change_key.ensures;
      answered = answered_still r n c.args.found.now.answered (pair_here r n got at) (unasked_here r n got at) was.answered;
      sends = sends_still r n c.back_reference_so_far.new.sends (not_sent r n got at (λ b. refl)) earlier.tied;
      others = omega (arith, one, others_next r n c.requires.within, was.others);
      few = omega (arith, one, at_most_one (other_at r n), was.few);
    }) c.note_entry_key.ensures
