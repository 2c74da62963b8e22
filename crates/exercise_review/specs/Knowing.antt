-- What the maker of an order can know of its answers, from the datagrams that it received (profile).
use Rattle.std.specs.Prelude.{◌≡◌, ◌<◌, ℕ, zero, suc, List, [], ◌++◌, length, Bool, true, ◌&&◌, nat_lt, Some, None, if◌then◌else◌}
use Rattle.std.specs.Option.{option_to_list}
use Rattle.siman_pdus.specs.declared.pdu.Pdu.{Pdu}
use Rattle.siman_pdus.specs.Answers.{is_answer_to}
use Rattle.exercise_model.specs.Recording.{PlainRecording}
use Rattle.exercise_review.specs.declared.party.Party.{Party}
use Rattle.exercise_review.specs.declared.party.Party.TheVariants as parties
use Rattle.exercise_review.specs.Entries.{pdu_received}
use Rattle.exercise_review.specs.Order.{OrderData}
use Rattle.exercise_review.specs.Party.{is_party, is_heard_from, is_party_outside}
use Rattle.exercise_review.specs.Reply.{is_news}
use Rattle.exercise_review.specs.Word.{settles, settles_at}

-- it is a party of the order
abbrev pub is_party_of : PlainRecording → OrderData → Party → Bool
is_party_of r o (parties.Station t) = is_party r o t
is_party_of r o (parties.Outside a) = is_party_outside r o a

-- the datagram that the maker received at entry i counts as heard from this party
abbrev pub is_heard_of : PlainRecording → OrderData → Party → ℕ → Bool
is_heard_of r o (parties.Station t) i = is_news r o t i
is_heard_of r o (parties.Outside a) i = is_heard_from r o a i

-- AN ANSWER OF SOME PARTY COUNTS AS HEARD at entry i and settles the order
pub record IsHeardSettled (r : PlainRecording) (o : OrderData) (i : ℕ) : Type 0 where
  pub party : Party
  pub takes_part : is_party_of r o party ≡ true
  pub heard : is_heard_of r o party i ≡ true
  pub settles : settles_at r i ≡ true

-- STATION s RECEIVED AN ANSWER at entry i, after the order, that settles it
pub record IsReceivedSettled (r : PlainRecording) (o : OrderData) (s i : ℕ) : Type 0 where
  pub after : o.head < i
  pub pdu : Pdu
  pub got : pdu_received r s i ≡ Some pdu
  pub answers : is_answer_to pdu o.request ≡ true
  pub settles : settles pdu.body ≡ true

-- ---- as a manager takes its input

-- a PDU answers the order and settles it
abbrev pub settles_order : Pdu → Pdu → Bool
settles_order order p = is_answer_to p order && settles p.body

-- the PDUs that station s received after entry i, among the entries below n, the latest first
unfoldable pub came_below : PlainRecording → (s i n : ℕ) → List Pdu
came_below r s i zero = []
came_below r s i (suc n) = option_to_list (if nat_lt i n then pdu_received r s n else None) ++ came_below r s i n

-- THE PDUS THAT STATION s RECEIVED after entry i, the latest first
abbrev pub pdus_after : PlainRecording → (s i : ℕ) → List Pdu
pdus_after r s i = came_below r s i (length r.entries)
