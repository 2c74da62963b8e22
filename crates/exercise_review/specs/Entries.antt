-- The bytes and PDUs that the entries of a recording send and receive (profile).
use Rattle.std.specs.Prelude.{ℕ, List, ◌==◌, Option, Some, None, option_and_then, slice_get, if◌then◌else◌}
use Rattle.siman_pdus.specs.declared.pdu.Pdu.{Pdu}
use Rattle.exercise_model.specs.Entry.{Entry, Sent, Received, Told}
use Rattle.exercise_model.specs.Recording.{PlainRecording}
use Rattle.exercise_model.specs.Meaning.{meaning}

-- the bytes that an entry sends, if it belongs to station s
abbrev pub bytes_sent_by : ℕ → Entry → Option (List ℕ)
bytes_sent_by s (Sent t stamp b) = if t == s then Some b else None
bytes_sent_by s (Received t stamp b) = None
bytes_sent_by s (Told t e y) = None

-- the bytes that it receives, if it belongs to station s
abbrev pub bytes_received_by : ℕ → Entry → Option (List ℕ)
bytes_received_by s (Sent t stamp b) = None
bytes_received_by s (Received t stamp b) = if t == s then Some b else None
bytes_received_by s (Told t e y) = None

-- the bytes that it sends or receives
abbrev pub bytes_of : Entry → Option (List ℕ)
bytes_of (Sent t stamp b) = Some b
bytes_of (Received t stamp b) = Some b
bytes_of (Told t e y) = None

-- THE BYTES THAT STATION s SENDS at entry i
unfoldable pub bytes_sent : PlainRecording → ℕ → ℕ → Option (List ℕ)
bytes_sent r s i = option_and_then (bytes_sent_by s) (slice_get r.entries i)

-- THE BYTES THAT STATION s RECEIVES at entry i
unfoldable pub bytes_received : PlainRecording → ℕ → ℕ → Option (List ℕ)
bytes_received r s i = option_and_then (bytes_received_by s) (slice_get r.entries i)

-- the PDU that station s sends at entry i, unless the datagram is "other"
unfoldable pub pdu_sent : PlainRecording → ℕ → ℕ → Option Pdu
pdu_sent r s i = option_and_then (meaning r.setting.exercise) (bytes_sent r s i)

-- the PDU that station s receives at entry i, unless the datagram is "other"
unfoldable pub pdu_received : PlainRecording → ℕ → ℕ → Option Pdu
pdu_received r s i = option_and_then (meaning r.setting.exercise) (bytes_received r s i)

-- the PDU that entry i sends or receives, at any station
unfoldable pub pdu_at : PlainRecording → ℕ → Option Pdu
pdu_at r i = option_and_then (meaning r.setting.exercise) (option_and_then bytes_of (slice_get r.entries i))
