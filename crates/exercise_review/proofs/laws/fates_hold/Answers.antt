use Rattle.exercise_review.specs.declared.fate.Fate.TheVariants as fates
use Rattle.exercise_review.proofs.Runs.{reply_copied}
use Rattle.exercise_review.proofs.Fates.{told, none_received, some_received, none_replied, some_replied, none_settled, some_settled, none_heard, word_was_heard}
use Rattle.exercise_review.proofs.TakenBy.{answers_reply, settling_settles, settling_heard}
use Rattle.exercise_review.proofs.laws.fates_hold.Goals as goal

pub returns-clause-lost : goal.returns-clause-lost
returns-clause-lost c = λ r h o s t explains maker fate. none_received r h o t explains (told r o s t fates.Lost maker fate)

pub returns-clause-unanswered : goal.returns-clause-unanswered
returns-clause-unanswered c = λ r h o s t explains maker fate.
    let says = told r o s t fates.Unanswered maker fate in (some_received r h o t explains says.copies, none_replied r h o t explains says.silent)

pub returns-clause-pending : goal.returns-clause-pending
returns-clause-pending c = λ r h o s t explains maker fate.
    let says = told r o s t fates.Pending maker fate in (some_replied r h o t explains says.replies, none_settled r h o t explains says.unsettled)

pub returns-clause-unheard : goal.returns-clause-unheard
returns-clause-unheard c = λ r h o s t explains maker fate.
    let says = told r o s t fates.Unheard maker fate in (some_settled r h o t explains says.settles, none_heard r h o s t explains maker says.none)

pub returns-clause-done : goal.returns-clause-done
returns-clause-done c = λ r h o s t limits explains within maker fate.
    let says = told r o s t fates.Done maker fate in (says.word, word_was_heard r h o s t says.word limits explains within maker says.there, says.gives)

pub returns-clause-refused : goal.returns-clause-refused
returns-clause-refused c = λ r h o s t limits explains within maker fate.
    let says = told r o s t fates.Refused maker fate in (says.word, word_was_heard r h o s t says.word limits explains within maker says.there, says.gives)

pub returns-clause-answered : goal.returns-clause-answered
returns-clause-answered c = λ r h o s t limits explains within maker fate.
    let says = told r o s t fates.Answered maker fate in (says.word, word_was_heard r h o s t says.word limits explains within maker says.there, says.gives)

pub returns-clause-known : goal.returns-clause-known
returns-clause-known c = λ r o s t maker fate. told r o s t fates.Unknown maker fate

pub returns-clause-copied : goal.returns-clause-copied
returns-clause-copied c = λ r h o t explains it. reply_copied r h it.place o t it.bytes explains it.reply

pub returns-clause-replies : goal.returns-clause-replies
returns-clause-replies c = answers_reply

pub returns-clause-settles : goal.returns-clause-settles
returns-clause-settles c = settling_settles

pub returns-clause-hears : goal.returns-clause-hears
returns-clause-hears c = settling_heard

pub returns-clause-lost_silent : goal.returns-clause-lost_silent
returns-clause-lost_silent c = λ r h o i s t limits explains order maker fate it.
    let replied = answers_reply r h o i s t limits explains order maker it in
    none_received r h o t explains (told r o s t fates.Lost maker fate) (reply_copied r h replied.place o t replied.bytes explains replied.reply)

pub returns-clause-unanswered_silent : goal.returns-clause-unanswered_silent
returns-clause-unanswered_silent c = λ r h o i s t limits explains order maker fate it.
    none_replied r h o t explains (told r o s t fates.Unanswered maker fate).silent (answers_reply r h o i s t limits explains order maker it)

pub returns-clause-pending_unsettled : goal.returns-clause-pending_unsettled
returns-clause-pending_unsettled c = λ r h o i s t limits explains order maker fate it.
    none_settled r h o t explains (told r o s t fates.Pending maker fate).unsettled (settling_settles r h o i s t limits explains order maker it)

pub returns-clause-unheard_unreceived : goal.returns-clause-unheard_unreceived
returns-clause-unheard_unreceived c = λ r h o i s t limits explains within order maker fate it.
    none_heard r h o s t explains maker (told r o s t fates.Unheard maker fate).none (settling_heard r h o i s t limits explains within order maker it)
