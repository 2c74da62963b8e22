-- What a yes tells of the pairs of answers, and of the changes behind Ables.
use Rattle.std.proofs.Common.{sym, ◌∙◌}
use Rattle.exercise_model.specs.Recording.{PlainRecording, IsRecording}
use Rattle.exercise_model.specs.History.{History}
use Rattle.exercise_model.specs.Run.{Explains}
use Rattle.exercise_model.proofs.Offered.{always_as_said, entries_known}
use Rattle.exercise_findings.specs.Account.{AccountData, IsAccount}
use Rattle.exercise_check.specs.Checked.{HasKnowledge, HasPairs}

-- the changes that a recording says are known in each run that explains it
pub account_known : (r : PlainRecording) (h : History) (c : AccountData) → IsRecording r → Explains r h → IsAccount r c → HasKnowledge r h c
account_known r h c limits explains account =
    let knows = entries_known r h limits explains in
    record {
      each = λ i received. let found = knows.each i received in (found.0, account.causes i ∙ found.1, found.2);
      told = λ i j told. knows.no_others i j (sym (account.causes i) ∙ told);
    }

-- the pairs that a recording says are those in each run that explains it
pub account_paired : (r : PlainRecording) (h : History) (c : AccountData) → Explains r h → IsAccount r c → HasPairs r h c
account_paired r h c explains account =
    let said = always_as_said r h explains in
    record {
      each = λ i answer. let found = said.pairs i answer in (found.0, account.pairs i ∙ found.1, found.2);
      told = λ i j told. said.no_others i j (sym (account.pairs i) ∙ told);
    }
