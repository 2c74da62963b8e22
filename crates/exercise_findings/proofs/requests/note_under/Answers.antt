use Rattle.std.proofs.Common.{sym, ◌∙◌, subst}
use Rattle.siman_pdus.specs.Reading.{pdu_of}
use Rattle.exercise_findings.specs.Kept.{IsAppended}
use Rattle.exercise_findings.proofs.Reused.{requests_first, reused_first}
use Rattle.exercise_findings.proofs.NewRequests.{new_request}
use Rattle.exercise_findings.proofs.requests.note_under.Goals as goal

pub returns-in_ok-append_entry-in-None-clause-tied : goal.returns-in_ok-append_entry-in-None-clause-tied
returns-in_ok-append_entry-in-None-clause-tied g c =
    let r = g.L.ExerciseLog.recording c.args.log.now in
    let n = c.args.entry in
    let k = c.args.identifier in
    let old = c.args.requests.now in
    let new = c.append_entry.new.kept in
    requests_first r n k.station (pdu_of c.args.pdu.now) k old new c.requires.sends c.requires.own (sym c.first_request.ensures ∙ c.in-None.is)
    (subst (λ h. IsAppended h n old.firsts new) c.identifier_hash-hash.ensures c.in_ok-append_entry-in-None.ensures) c.requires.tied

pub returns-in_ok-append_entry-in-None-clause-reused : goal.returns-in_ok-append_entry-in-None-clause-reused
returns-in_ok-append_entry-in-None-clause-reused g c =
    let r = g.L.ExerciseLog.recording c.args.log.now in
    let k = c.args.identifier in
    sym (reused_first r c.args.entry k.station (pdu_of c.args.pdu.now) k c.requires.sends c.requires.own (sym c.first_request.ensures ∙ c.in-None.is))

pub returns-in_ok-append_entry-in-None-clause-first : goal.returns-in_ok-append_entry-in-None-clause-first
returns-in_ok-append_entry-in-None-clause-first g c new =
    let r = g.L.ExerciseLog.recording c.args.log.now in
    let k = c.args.identifier in
    new_request r c.args.entry k.station (pdu_of c.args.pdu.now) k c.requires.sends c.requires.own (sym c.first_request.ensures ∙ c.in-None.is)
