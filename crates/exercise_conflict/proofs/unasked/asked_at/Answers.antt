use Rattle.std.proofs.Common.{◌≡◌, None, sym, ap, ◌∙◌, subst}
use Rattle.siman_pdus.specs.declared.pdu.Pdu.{Pdu}
use Rattle.siman_pdus.specs.Reading.{pdu_of}
use Rattle.exercise_model.specs.Recording.{PlainRecording, IsRecording}
use Rattle.exercise_conflict.specs.Clash.{asker_of}
use Rattle.exercise_conflict.proofs.Asked.{nobody_asks}
use Rattle.exercise_conflict.proofs.unasked.asked_at.Goals as goal

pub returns-in-None : goal.returns-in-None
returns-in-None g c =
    let r : PlainRecording = c.args.logs.now in
    let p : Pdu = pdu_of c.args.answer.now in
    let same = c.findings-findings.ensures in
    let limits : IsRecording r = subst IsRecording (c.log.ensures ∙ same) c.entry_count-entries.ensures.limits in
    let none : asker_of r p ≡ None = ap (λ (x : PlainRecording). asker_of x p) (sym same) ∙ sym c.asker_of.ensures ∙ c.in-None.is in
    sym (nobody_asks r p limits none)
