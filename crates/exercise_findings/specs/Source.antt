-- The send of a receipt, read from the logs alone (profile).
use Rattle.std.specs.Prelude.{ℕ, List, length, Bool, false, Option, None, option_and_then, slice_get}
use Rattle.std.specs.Option.{option_map_or}
use Rattle.siman_pdus.specs.declared.pdu.Pdu.{Pdu}
use Rattle.exercise_model.specs.Entry.{Entry, Sent, Received, Told}
use Rattle.exercise_model.specs.Recording.{PlainRecording}
use Rattle.exercise_model.specs.Meaning.{meaning}
use Rattle.exercise_model.specs.Cause.{sends}
use Rattle.exercise_model.specs.Place.{own_event, first_below}
use Rattle.exercise_model.specs.Account.{sender_of}

-- entry j belongs to station t and sends a datagram of these bytes
abbrev pub sends_here : PlainRecording → List ℕ → ℕ → ℕ → Bool
sends_here r b t j = option_map_or (sends b) (own_event r t j) false

-- the first entry of station t that sends a datagram of these bytes
unfoldable pub first_send : PlainRecording → List ℕ → ℕ → Option ℕ
first_send r b t = first_below (sends_here r b t) (length r.entries)

-- the source of a datagram of these bytes, which means p: the first entry of p's recorded sender that sends equal bytes
abbrev pub source_of_pdu : PlainRecording → List ℕ → Pdu → Option ℕ
source_of_pdu r b p = option_and_then (first_send r b) (sender_of r p)

abbrev pub source_of_bytes : PlainRecording → List ℕ → Option ℕ
source_of_bytes r b = option_and_then (source_of_pdu r b) (meaning r.setting.exercise b)

abbrev pub source_of_entry : PlainRecording → Entry → Option ℕ
source_of_entry r (Sent s stamp b) = None
source_of_entry r (Received s stamp b) = source_of_bytes r b
source_of_entry r (Told s e y) = None

-- THE SOURCE OF AN ENTRY: for a receipt from a recorded station, the first entry of that station that sends equal bytes
unfoldable pub source_of : PlainRecording → ℕ → Option ℕ
source_of r i = option_and_then (source_of_entry r) (slice_get r.entries i)

-- ---- look-up

-- entry j sends a datagram of these bytes, and belongs to its originating station
abbrev pub is_source : PlainRecording → List ℕ → ℕ → Bool
is_source r b j = option_map_or (λ p. option_map_or (λ t. sends_here r b t j) (sender_of r p) false) (meaning r.setting.exercise b) false

-- the first such entry below n
unfoldable pub first_source : PlainRecording → List ℕ → ℕ → Option ℕ
first_source r b n = first_below (is_source r b) n

-- an entry sends a datagram that originates from its own station
abbrev pub source_by : PlainRecording → ℕ → Entry → Bool
source_by r j (Sent s stamp b) = is_source r b j
source_by r j (Received s stamp b) = false
source_by r j (Told s e y) = false

unfoldable pub source_at : PlainRecording → ℕ → Bool
source_at r j = option_map_or (source_by r j) (slice_get r.entries j) false
