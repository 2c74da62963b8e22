use Rattle.std.proofs.Common.{◌≡◌, ◌+◌, ℕ, List, Option, Some, None, cond, sym, ap, ◌∙◌, subst, arith}
use Rattle.std.specs.Prelude.{slice_get}
use Rattle.exercise_model.specs.declared.cause.Cause.{Cause}
use Rattle.exercise_model.specs.Entry.{Entry, Sent}
use Rattle.exercise_findings.specs.Column.{IsColumn}
use Rattle.exercise_findings.specs.Number.{entry_number}
use Rattle.exercise_findings.specs.Earlier.{IsBackReference, IsBackReferenceSoFar}
use Rattle.exercise_findings.specs.FirstSends.{IsNewSend}
use Rattle.exercise_findings.specs.Tables.{IsOwnCause, IsChangeAt, other_at}
use Rattle.exercise_findings.proofs.Ables.{behind_still}
use Rattle.exercise_findings.proofs.Columns.{column_more, short_more, on_ok}
use Rattle.exercise_findings.proofs.FirstAnswers.{one_of}
use Rattle.exercise_findings.proofs.EarlierEntries.{sent_earlier, known_so_far}
use Rattle.exercise_findings.proofs.Looks.{behind_here, at_most_one, others_next}
use Rattle.exercise_findings.proofs.Sources.{source_is}
use Rattle.exercise_findings.proofs.pass.keep_sent.Goals as goal

pub note_send-requires-clause-sends : goal.note_send-requires-clause-sends
note_send-requires-clause-sends g c = (c.args.station, c.requires.sends)

pub note_send-requires-clause-new : goal.note_send-requires-clause-new
note_send-requires-clause-new g c new source =
    let r = g.L.ExerciseLog.recording c.args.log.now in
    let n = c.args.entry in
    let fresh : IsNewSend r n =
    one_of c.in_ok-here.here.is_new c.in_ok-first.first c.in_ok-fresh.fresh (IsNewSend r n) (sym c.is_new_send-is_new.ensures ∙ new)
    c.in_ok-here.ensures.found.fresh c.in_ok-first.ensures.new c.in_ok-fresh.ensures.new in
    fresh c.args.bytes.now (source_is r n c.args.station c.requires.sends.0 c.args.bytes.now c.requires.sends.1 source)

pub returns-clause-found : goal.returns-clause-found
returns-clause-found g c =
    let r = g.L.ExerciseLog.recording c.args.log.now in
    let n = c.args.entry in
    let was = c.requires.found in
    let sent : Entry = Sent c.args.station c.requires.sends.0 c.args.bytes.now in
    let at : slice_get r.entries n ≡ Some sent = c.requires.sends.1 in
    let here = c.in_ok-here.ensures.found in
    let earlier : IsBackReference r n c.entry_number-pair.result =
    subst (IsBackReference r n) (sym (c.entry_number-pair.ensures ∙ ap entry_number here.pair))
    (sent_earlier r n c.args.station c.requires.sends.0 c.args.bytes.now at (omega (arith, c.requires.within, c.requires.limits.count))) in
    let one : c.one_if.result ≡ cond {A = ℕ} (other_at r n) 1 0 = c.one_if.ensures ∙ ap (λ b. cond {A = ℕ} b 1 0) here.other in
    on_ok c.note_send.result (λ sends. record {
      tied = c.in_ok-first.ensures.tied;
      causes = subst (λ (xs : List (Option Cause)). IsColumn None (IsOwnCause r) (n + 1) xs) (sym c.in_ok-push.ensures.items)
          (column_more None (IsOwnCause r) n _ c.in_ok-here.here.cause was.causes here.cause);
      changes = short_more 0 (IsChangeAt r) n _ _ _ c.in_ok-put_number.ensures (c.change_number-change.ensures ∙ here.change) was.changes;
      earlier = short_more 4294967295 (IsBackReferenceSoFar r) n _ _ _ c.in_ok-put_number-2.ensures (known_so_far r n c.entry_number-pair.result earlier) was.earlier;
      later = λ none. short_more 4294967295 (IsBackReference r) n _ _ _ c.in_ok-put_number-2.ensures earlier (was.later none);
      ables = behind_still r n c.args.found.now.ables.items (sym (behind_here r n sent at)) was.ables;
      answered = c.in_ok-fresh.ensures.tied;
      sends = sends;
      others = omega (arith, one, others_next r n c.requires.within, was.others);
      few = omega (arith, one, at_most_one (other_at r n), was.few);
    }) c.note_send.ensures

pub returns-clause-requests : goal.returns-clause-requests
returns-clause-requests g c = on_ok c.note_send.result (λ _. c.in_ok-here.ensures.requests) c.note_send.ensures
