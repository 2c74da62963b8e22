-- Received datagrams that are missing in their senders' logs (profile).
use Rattle.std.specs.Prelude.{ℕ, List, length, Bool, false, bytes_eq, Option, None, is_none, option_map, option_and_then, slice_get, if◌then◌else◌}
use Rattle.std.specs.Option.{option_map_or}
use Rattle.siman_pdus.specs.declared.pdu.Pdu.{Pdu}
use Rattle.exercise_model.specs.Entry.{Entry, Sent, Received, Told}
use Rattle.exercise_model.specs.Recording.{PlainRecording}
use Rattle.exercise_model.specs.Meaning.{meaning}
use Rattle.exercise_model.specs.Exchange.{is_answer_body}
use Rattle.exercise_model.specs.Place.{first_below, entry_taken_up}
use Rattle.exercise_model.specs.Account.{sender_of}
use Rattle.exercise_findings.specs.Source.{source_of}
use Rattle.exercise_findings.specs.declared.missing.Missing.{Missing}

-- an entry receives these bytes, at any station
abbrev pub got_bytes : List ℕ → Entry → Bool
got_bytes b (Sent s stamp c) = false
got_bytes b (Received s stamp c) = bytes_eq b c
got_bytes b (Told s e y) = false

unfoldable pub gets_bytes : PlainRecording → List ℕ → ℕ → Bool
gets_bytes r b i = option_map_or (got_bytes b) (slice_get r.entries i) false

-- where the send of p belongs in the log of station t: right after the request that it takes up there, else (none) at the start
abbrev pub place_of : PlainRecording → ℕ → Pdu → Option ℕ
place_of r t p = if is_answer_body p.body then entry_taken_up r t p (length r.entries) else None

-- the send of p that the log of station t lacks
abbrev pub missing_from : PlainRecording → Pdu → ℕ → Missing
missing_from r p t = record { sender = t; after = place_of r t p }

abbrev pub missing_pdu : PlainRecording → Pdu → Option Missing
missing_pdu r p = option_map (missing_from r p) (sender_of r p)

-- no entry before i receives these bytes
abbrev pub is_first_receipt : PlainRecording → ℕ → List ℕ → Bool
is_first_receipt r i b = is_none (first_below (gets_bytes r b) i)

abbrev pub missing_entry : PlainRecording → ℕ → Entry → Option Missing
missing_entry r i (Sent s stamp b) = None
missing_entry r i (Received s stamp b) = if is_first_receipt r i b then option_and_then (missing_pdu r) (meaning r.setting.exercise b) else None
missing_entry r i (Told s e y) = None

-- WHAT IS MISSING BY ENTRY i: i is the first receipt of a datagram from a recorded station, and no entry of that station sends it
unfoldable pub missing_at : PlainRecording → ℕ → Option Missing
missing_at r i = if is_none (source_of r i) then option_and_then (missing_entry r i) (slice_get r.entries i) else None
