use Rattle.std.proofs.Common.{ap, ◌∙◌}
use Rattle.std.specs.Prelude.{nat_lt, slice_index_or, set, if◌then◌else◌}
use Rattle.siman_pdus.specs.Reading.{pdu_of}
use Rattle.exercise_findings.proofs.HigherMarks.{rising_more, new_higher}
use Rattle.exercise_findings.proofs.rising.raise_mark.Goals as goal

pub returns-clause-tied : goal.returns-clause-tied
returns-clause-tied g c =
    let r = g.L.ExerciseLog.recording c.args.log.now in
    let tops = c.args.rising.now.tops.items in
    rising_more r c.args.entry c.args.station (pdu_of c.args.pdu.now) c.args.rising.now (record { tops = c.rise.new.tops }) c.rise.result c.requires.at c.requires.sends
    (c.rise.ensures.higher ∙ ap (λ k. nat_lt (slice_index_or tops k 0) c.mark_of.result) c.from.ensures ∙ ap (nat_lt (slice_index_or tops c.args.station 0)) c.mark_of.ensures)
    (c.rise.ensures.tops ∙ ap (λ k. if c.rise.result then set tops k c.mark_of.result else tops) c.from.ensures
    ∙ ap (λ m. if c.rise.result then set tops c.args.station m else tops) c.mark_of.ensures)
    c.requires.tied

pub returns-clause-new : goal.returns-clause-new
returns-clause-new g c =
    let r = g.L.ExerciseLog.recording c.args.log.now in
    let tops = c.args.rising.now.tops.items in
    new_higher r c.args.entry c.args.station (pdu_of c.args.pdu.now) c.args.rising.now c.rise.result c.requires.at c.requires.sends c.requires.tied
    (c.rise.ensures.higher ∙ ap (λ k. nat_lt (slice_index_or tops k 0) c.mark_of.result) c.from.ensures ∙ ap (nat_lt (slice_index_or tops c.args.station 0)) c.mark_of.ensures)
