-- What is said of a datagram that was read, of one that was not, and of hex text.
use Rattle.std.proofs.Common.{◌≡◌, Option, Some, None, refl, ap, ℕ, ◌<◌, ◌≤◌, List, [], ◌∷◌, nat_lt, length, if◌then◌else◌, arith, ◌∙◌}
use Rattle.siman_pdus.specs.declared.fault.PduFault.{PduFault}
use Rattle.siman_pdus.specs.declared.pdu.Pdu.{Pdu}
use Rattle.siman_pdus.specs.Reading.{unless_refused}
use Rattle.siman_file_commands.specs.Answer.{said_of_reading, said_of_pdu, answer_to, said_of_bytes, said_of_hex}
use Rattle.std.proofs.lemmas.Bool.Decides.{nat_tests}
use Rattle.std.specs.Result.{result_ok}
use Rattle.siman_file_commands.specs.declared.hex_text.TheConstants.{LONGEST_HEX}
use Rattle.hex.specs.Hex.{IsBytes, encode_lower, lower_digits, decode_of}
use Rattle.hex.proofs.HexLemmas.{decode_of-encode_lower, length-encode_with}
use Rattle.siman_file_commands.specs.HexText.{bytes_of}
use Rattle.siman_file_commands.specs.Pdus.{result_of_said, result_of_line}

-- a datagram that reads as a PDU is shown as that PDU
pub said_of-read : (refusal : Option PduFault) (pdu read : Pdu) → Some read ≡ unless_refused refusal pdu → said_of_reading refusal pdu ≡ said_of_pdu read
said_of-read None pdu read e = let same : pdu ≡ read = cc in ap said_of_pdu same
said_of-read (Some fault) pdu read e = cc

-- a datagram that reads as none is refused
pub said_of-unread : (refusal : Option PduFault) (pdu : Pdu) → ((read : Pdu) → ¬ (unless_refused refusal pdu ≡ Some read))
    → (said_of_reading refusal pdu).status ≡ 1
said_of-unread None pdu none = absurd (none pdu refl)
said_of-unread (Some fault) pdu none = refl

-- a test that fails
within : {X : Type 0} (m n : ℕ) (x y : X) → n ≤ m → (if nat_lt m n then x else y) ≡ y
within m n x y h = grind (arith, nat_tests)

bytes_of-encode_lower : (b : List ℕ) → IsBytes b → length b ≤ 32768 → bytes_of (encode_lower b) ≡ Some b
bytes_of-encode_lower b bytes short =
    let twice = length-encode_with lower_digits b in
    within LONGEST_HEX (length (encode_lower b)) None (result_ok (decode_of (encode_lower b))) (omega arith) ∙ ap result_ok (decode_of-encode_lower b bytes)

-- a datagram's hex text is answered for as the datagram
pub said_of_hex-encode_lower : (b : List ℕ) → IsBytes b → length b ≤ 32768 → said_of_hex (encode_lower b) ≡ answer_to b
said_of_hex-encode_lower b bytes short = ap said_of_bytes (bytes_of-encode_lower b bytes short)

-- a line that is not empty is answered for as the word
pub result_of_line-some : (number : ℕ) (text : List ℕ) → 0 < length text → result_of_line number text ≡ result_of_said number (said_of_hex text)
result_of_line-some number [] some = absurd (omega arith)
result_of_line-some number (b ∷ bs) some = refl

pub result_of_line-encode_lower : (number : ℕ) (b : List ℕ) → IsBytes b → 0 < length b → length b ≤ 32768
    → result_of_line number (encode_lower b) ≡ result_of_said number (answer_to b)
result_of_line-encode_lower number b bytes some short =
    let twice = length-encode_with lower_digits b in
    result_of_line-some number (encode_lower b) (omega arith) ∙ ap (result_of_said number) (said_of_hex-encode_lower b bytes short)
