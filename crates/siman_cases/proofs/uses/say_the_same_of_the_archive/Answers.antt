use Rattle.siman_cases.proofs.uses.say_the_same_of_the_archive.Goals as goal

pub returns-clause-checked : goal.returns-clause-checked
returns-clause-checked c = λ first steps text. (c.conversion_keeps_answers.ensures.checked c.args.recording.now steps text first).0

pub returns-clause-report : goal.returns-clause-report
returns-clause-report c = c.conversion_keeps_answers.ensures.report c.args.recording.now
