use Rattle.std.proofs.Common.{rules, arith, [], sym, subst}
use Rattle.std.proofs.lemmas.Grind.{common_steps}
use Rattle.exercise_model.specs.Recording.{PlainRecording}
use Rattle.exercise_model.proofs.Offered.{always_as_said, explained_holds}
use Rattle.exercise_check.specs.Sequence.{sequence_of}
use Rattle.exercise_check.specs.Goodness.{IsGood}
use Rattle.exercise_check.specs.Judging.{Keeps}
use Rattle.exercise_findings.specs.Account.{IsAccount}
use Rattle.exercise_check.proofs.Explained.{good_explains}
use Rattle.exercise_check.proofs.Known.{account_known, account_paired}
use Rattle.exercise_check.proofs.checker.check.Goals as goal

pub take_steps-bad-requires-clause-begun : goal.take_steps-bad-requires-clause-begun
take_steps-bad-requires-clause-begun g c =
    subst (λ (r : PlainRecording). Keeps r [] c.in_ok-cursors.cursors) (sym c.in_ok-found.ensures.findings) (record {
      course = record { limits = c.entry_count-entries.ensures.limits; good = λ k l. absurd (omega arith) };
      next = c.in_ok-cursors.ensures;
    })

pub returns-in_ok-into_account-in-None-clause-explains : goal.returns-in_ok-into_account-in-None-clause-explains
returns-in_ok-into_account-in-None-clause-explains g c =
    let r = g.L.ExerciseLog.recording c.args.log.now in
    let good : IsGood r c.args.certificate.now.steps.items = first_of (search rules, grind (arith, common_steps)) in
    good_explains r c.entry_count-entries.ensures.limits c.args.certificate.now.steps.items good

pub returns-in_ok-into_account-in-None-clause-holds : goal.returns-in_ok-into_account-in-None-clause-holds
returns-in_ok-into_account-in-None-clause-holds g c =
    let r = g.L.ExerciseLog.recording c.args.log.now in
    let steps = c.args.certificate.now.steps.items in
    let good : IsGood r steps = first_of (search rules, grind (arith, common_steps)) in
    explained_holds r (sequence_of r steps) c.entry_count-entries.ensures.limits (good_explains r c.entry_count-entries.ensures.limits steps good)

pub returns-in_ok-into_account-in-None-clause-knowledge : goal.returns-in_ok-into_account-in-None-clause-knowledge
returns-in_ok-into_account-in-None-clause-knowledge g c =
    let r = g.L.ExerciseLog.recording c.args.log.now in
    let steps = c.args.certificate.now.steps.items in
    let good : IsGood r steps = first_of (search rules, grind (arith, common_steps)) in
    let account : IsAccount r c.in_ok-into_account-in-None.field-0 = first_of (search rules, grind (arith, common_steps)) in
    let limits = c.entry_count-entries.ensures.limits in
    account_known r (sequence_of r steps) _ limits (good_explains r limits steps good) account

pub returns-in_ok-into_account-in-None-clause-answers : goal.returns-in_ok-into_account-in-None-clause-answers
returns-in_ok-into_account-in-None-clause-answers g c =
    let r = g.L.ExerciseLog.recording c.args.log.now in
    let steps = c.args.certificate.now.steps.items in
    let good : IsGood r steps = first_of (search rules, grind (arith, common_steps)) in
    let account : IsAccount r c.in_ok-into_account-in-None.field-0 = first_of (search rules, grind (arith, common_steps)) in
    account_paired r (sequence_of r steps) _ (good_explains r c.entry_count-entries.ensures.limits steps good) account

pub returns-in_ok-into_account-in-None-clause-said : goal.returns-in_ok-into_account-in-None-clause-said
returns-in_ok-into_account-in-None-clause-said g c = λ h explains. always_as_said (g.L.ExerciseLog.recording c.args.log.now) h explains
