-- A PDU that is shown is the reading of the datagram, and so what is to be said of it.
use Rattle.std.proofs.Common.{◌≡◌, ℕ, List, Some, sym, ◌∙◌, ap}
use Rattle.dis_records.specs.Header.{header_at}
use Rattle.siman_pdus.specs.Reading.{pdu_from, pdu_of, refusal_of, reading}
use Rattle.siman_file_commands.specs.Answer.{Said}
use Rattle.siman_file_commands.proofs.Readings.{said_of-read}
use Rattle.siman_file_commands.proofs.answer.Answer.to.Goals as goal

said_with : List ℕ → Said
said_with text = record { status = 0; text = text }

pub returns-in_ok-pdu_lines-in-Ok : goal.returns-in_ok-pdu_lines-in-Ok
unfolding said_with
returns-in_ok-pdu_lines-in-Ok c =
    let b = c.args.datagram.now in
    let read : Some (pdu_of c.in-Ok.pdu) ≡ reading b = c.in-Ok.ensures.reads in
    ap said_with c.in_ok-pdu_lines-in-Ok.ensures ∙ sym (said_of-read (refusal_of b) (pdu_from (header_at b) b) (pdu_of c.in-Ok.pdu) read)
