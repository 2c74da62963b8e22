use Rattle.std.proofs.Common.{◌+◌, ℕ, List, Option, None, cond, refl, sym, ap, subst, arith}
use Rattle.exercise_model.specs.declared.cause.Cause.{Cause}
use Rattle.exercise_model.specs.Entry.{Told}
use Rattle.exercise_findings.specs.Column.{IsColumn}
use Rattle.exercise_findings.specs.Earlier.{IsBackReference, IsBackReferenceSoFar}
use Rattle.exercise_findings.specs.Tables.{IsFound, IsOwnCause, IsChangeAt}
use Rattle.exercise_findings.proofs.Ables.{behind_still}
use Rattle.exercise_findings.proofs.FirstAnswers.{answered_still}
use Rattle.exercise_findings.proofs.Columns.{column_more, short_still}
use Rattle.exercise_findings.proofs.EarlierEntries.{told_earlier, known_so_far}
use Rattle.exercise_findings.proofs.FirstEntries.{firsts_still}
use Rattle.exercise_findings.proofs.Looks.{plain, told_found, others_next}
use Rattle.exercise_findings.proofs.FirstSends.{sends_still}
use Rattle.exercise_findings.proofs.Sources.{not_sent}
use Rattle.exercise_findings.proofs.Tied.{no_change}
use Rattle.exercise_findings.proofs.pass.keep_told.Goals as goal

pub returns : goal.returns
returns g c =
    let r = g.L.ExerciseLog.recording c.args.log.now in
    let n = c.args.entry in
    let old = c.args.found.now in
    let was = c.requires.found in
    let here : IsFound r n (plain c.judge_told-cause.result) =
    told_found r n c.args.station c.args.entity c.args.state c.judge_told-cause.result c.requires.told c.judge_told-cause.ensures in
    let earlier : IsBackReference r n 4294967295 = told_earlier r n c.args.station c.args.entity c.args.state c.requires.told in
    record {
      tied = record {
        firsts = firsts_still r n old.tables.firsts here.key was.tied.firsts;
        states = no_change r n old.tables.states.items (sym here.change) was.tied.states;
      };
      causes = subst (λ (xs : List (Option Cause)). IsColumn None (IsOwnCause r) (n + 1) xs) (sym c.in_ok-push.ensures.items)
          (column_more None (IsOwnCause r) n _ c.judge_told-cause.result was.causes here.cause);
      changes = short_still 0 (IsChangeAt r) n _ was.changes here.change;
      earlier = short_still 4294967295 (IsBackReferenceSoFar r) n _ was.earlier (known_so_far r n 4294967295 earlier);
      later = λ none. short_still 4294967295 (IsBackReference r) n _ (was.later none) earlier;
      ables = behind_still r n old.ables.items here.behind was.ables;
      answered = answered_still r n old.answered (sym here.pair) (sym here.unasked) was.answered;
      sends = sends_still r n old.sends (not_sent r n (Told c.args.station c.args.entity c.args.state) c.requires.told (λ b. refl)) was.sends;
      others = omega (arith, others_next r n c.requires.within, ap (λ b. cond {A = ℕ} b 1 0) here.other, was.others);
      few = omega (arith, was.few);
    }
