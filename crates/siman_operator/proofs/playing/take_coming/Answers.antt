-- The line or the tick was taken, what it asks was answered, and what is new at the link noted.
use Rattle.std.proofs.Common.{◌∙◌}
use Rattle.siman_operator.proofs.Going.{goes_then}
use Rattle.siman_operator.proofs.TakenOn.{taken_on}
use Rattle.siman_operator.proofs.playing.take_coming.Goals as goal

pub returns-clause-takes : goal.returns-clause-takes
returns-clause-takes g c =
    let answered = c.answer.ensures in
    let noted = c.note_link.ensures in
    taken_on _ _ _ _ _ _ c.take_come-line.ensures.ends (noted.station ∙ answered.station) (noted.recorder ∙ answered.recorder)
    (noted.time.0 ∙ answered.time.0) (noted.time.1 ∙ answered.time.1) (noted.time.2 ∙ answered.time.2)

pub returns-clause-goes : goal.returns-clause-goes
returns-clause-goes g c = goes_then _ _ _ c.take_come-line.ensures.goes (goes_then _ _ _ c.answer.ensures.goes c.note_link.ensures.goes)
