use Rattle.std.proofs.Common.{◌≡◌, length, sym, ◌∙◌, subst}
use Rattle.exercise_model.specs.History.{event_of}
use Rattle.exercise_model.specs.Cause.{cause_of}
use Rattle.exercise_model.specs.Account.{pair_of, pair_of_entry}
use Rattle.exercise_findings.specs.Tables.{event_own_cause, own_cause}
use Rattle.exercise_findings.proofs.Offered.{entry_within}
use Rattle.exercise_check.specs.declared.judgement.Judgement.{Judgement}
use Rattle.exercise_check.specs.Sequence.{sequence_of, link_of}
use Rattle.exercise_check.specs.Goodness.{IsReady}
use Rattle.exercise_check.specs.Course.{Judges}
use Rattle.exercise_check.specs.Judging.{judged}
use Rattle.exercise_check.proofs.Courses.{at_entry, from_entry}
use Rattle.exercise_check.proofs.Judged.{own_judged, judged_alone, judged_by_source}
use Rattle.exercise_check.proofs.judgement.judge.Goals as goal

pub returns-then-is_unsent : goal.returns-then-is_unsent
returns-then-is_unsent g c steps course tied ready =
    let r = c.args.found.now in
    let n = c.args.place in
    let x : Judgement = c.judged-alone.result in
    let e = entry_within r.entries n c.requires.within in
    let alone : x ≡ judged (own_cause r n) (pair_of r n) = rw (← c.cause.ensures, ← c.pair.ensures) c.judged-alone.ensures in
    let own : Judges (event_own_cause r n (event_of e.0)) (pair_of_entry r n e.0) (length r.entries) x =
    subst (λ x. Judges (event_own_cause r n (event_of e.0)) (pair_of_entry r n e.0) (length r.entries) x) (sym alone)
    (own_judged r n e.0 c.requires.within e.1) in
    at_entry _ e.0 (λ e. Judges (cause_of r.setting (sequence_of r steps) (event_of e)) (link_of r steps n (event_of e)) (length r.entries)
    c.judge_received.result) e.1
    (judged_by_source r steps n e.0 x c.judge_received.result course e.1 (sym c.is_unsent.ensures ∙ c.if-is_unsent.true) own
    (c.judge_received.ensures steps tied))

pub returns-else-is_unsent : goal.returns-else-is_unsent
returns-else-is_unsent g c steps course tied ready =
    let r = c.args.found.now in
    let n = c.args.place in
    let x : Judgement = c.judged-alone.result in
    let e = entry_within r.entries n c.requires.within in
    let alone : x ≡ judged (own_cause r n) (pair_of r n) = rw (← c.cause.ensures, ← c.pair.ensures) c.judged-alone.ensures in
    let own : Judges (event_own_cause r n (event_of e.0)) (pair_of_entry r n e.0) (length r.entries) x =
    subst (λ x. Judges (event_own_cause r n (event_of e.0)) (pair_of_entry r n e.0) (length r.entries) x) (sym alone)
    (own_judged r n e.0 c.requires.within e.1) in
    at_entry _ e.0 (λ e. Judges (cause_of r.setting (sequence_of r steps) (event_of e)) (link_of r steps n (event_of e)) (length r.entries) x) e.1
    (judged_alone r steps n e.0 x (sym c.is_unsent.ensures ∙ c.if-is_unsent.false)
    (from_entry _ e.0 (λ e. IsReady r steps n (event_of e)) e.1 ready) own)
