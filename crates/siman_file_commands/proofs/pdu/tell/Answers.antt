-- What is told of a hex text is the answer for its bytes; the status is 0 or 1.
use Rattle.std.proofs.Common.{◌≡◌, ◌≤◌, ℕ, List, Option, Some, None, sym, ap, subst, ◌∙◌, arith}
use Rattle.std.specs.Io.KnownBytes.{Appends}
use Rattle.siman_pdus.specs.declared.fault.PduFault.{PduFault}
use Rattle.siman_pdus.specs.declared.pdu.Pdu.{Pdu}
use Rattle.siman_pdus.specs.Reading.{pdu_from, refusal_of}
use Rattle.dis_records.specs.Header.{header_at}
use Rattle.siman_file_commands.specs.HexText.{bytes_of}
use Rattle.siman_file_commands.specs.Answer.{Said, said_of_reading, said_of_bytes, said_of_hex, answer_to}
use Rattle.siman_file_commands.proofs.pdu.tell.Goals as goal

said_low : (refusal : Option PduFault) (pdu : Pdu) → (said_of_reading refusal pdu).status ≤ 1
said_low None pdu = omega arith
said_low (Some fault) pdu = omega arith

-- the answer for the bytes of a hex text is what is said of the text
said_is : (text b : List ℕ) (said : Said) → bytes_of text ≡ Some b → said ≡ answer_to b → said ≡ said_of_hex text
said_is text b said read is = is ∙ sym (ap said_of_bytes read)

low_is : (b : List ℕ) (said : Said) → said ≡ answer_to b → said.status ≤ 1
low_is b said is = subst (λ (s : Said). s.status ≤ 1) (sym is) (said_low (refusal_of b) (pdu_from (header_at b) b))

pub returns-in-Ok : goal.returns-in-Ok
returns-in-Ok g c =
    let b = c.in_ok-datagram.datagram.items in
    let answer = c.in_ok-answer.answer in
    let is : answer ≡ answer_to b = c.in_ok-answer.ensures ∙ ap answer_to c.deref.ensures.value in
    let said : answer ≡ said_of_hex c.args.hex.now = said_is c.args.hex.now b answer c.in_ok-datagram.ensures.read is in
    let text : c.as_bytes.result.now ≡ (said_of_hex c.args.hex.now).text = c.as_bytes.ensures.value ∙ c.text.ensures ∙ ap (λ (s : Said). s.text) said in (
      c.status.ensures ∙ ap (λ (s : Said). s.status) said,
      subst (λ (n : ℕ). n ≤ 1) (sym c.status.ensures) (low_is b answer is),
      subst (λ (t : List ℕ). Appends (g.W.Write.contents c.args.out.now) (g.W.Write.contents c.put.new.writer) t) text c.in-Ok.ensures,
    )
