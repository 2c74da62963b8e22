-- Sequence of a certificate, and the links of its steps (profile).
use Rattle.std.specs.Prelude.{ℕ, List, [], ◌∷◌, ◌++◌, length, slice_get, Option, Some, None, option_and_then, ◌==◌, Bool, false, if◌then◌else◌}
use Rattle.std.specs.Option.{option_map_or, option_to_list}
use Rattle.siman_pdus.specs.declared.pdu.Pdu.{Pdu}
use Rattle.exercise_model.specs.Entry.{Entry}
use Rattle.exercise_model.specs.Recording.{PlainRecording}
use Rattle.exercise_model.specs.History.{Event, Send, Get, Tell, History, event_of, station_of, past, log_at}
use Rattle.exercise_model.specs.Meaning.{meaning}
use Rattle.exercise_model.specs.Setting.{must_have_sent}
use Rattle.exercise_model.specs.Cause.{sends}
use Rattle.exercise_model.specs.Place.{log_before}
use Rattle.exercise_model.specs.Account.{pair_of_sent}
use Rattle.exercise_check.specs.declared.certificate.Step.{Step}
pub use Rattle.exercise_check.specs.Number.{link_number}

-- the entries of the steps, step by step
unfoldable pub entries_of_steps : List Entry → List Step → List Entry
entries_of_steps entries [] = []
entries_of_steps entries (step ∷ steps) = option_to_list (slice_get entries step.place) ++ entries_of_steps entries steps

-- THE SEQUENCE OF A CERTIFICATE: the events of the entries of its steps, the last first
unfoldable pub sequence_of : PlainRecording → List Step → History
sequence_of r steps = past (entries_of_steps r.entries steps)

-- the event of entry `place` is its station's next one: the sequence has as many events of the station as there are
-- entries of it before this one
unfoldable pub is_next : PlainRecording → List Step → ℕ → Event → Bool
is_next r before place v = length (log_at (station_of v) (sequence_of r before)) == length (log_before r (station_of v) place)

-- the entry of the first step that sends a datagram of these bytes
unfoldable pub first_sender : List Entry → List ℕ → List Step → Option ℕ
first_sender entries b [] = None
first_sender entries b (step ∷ steps) =
    if option_map_or (λ e. sends b (event_of e)) (slice_get entries step.place) false then Some step.place else first_sender entries b steps

-- the entry that sent a received datagram of these bytes, which means p: that of the first earlier step that sends
-- it, if p comes from a station that must have sent it
abbrev pub sender_link : PlainRecording → List ℕ → List Step → Pdu → Option ℕ
sender_link r b before p = if must_have_sent r.setting p then first_sender r.entries b before else None

-- THE LINK OF A STEP: for a sent answer the entry of the request that it takes up; for a datagram that means
-- something and was received from a recorded station, the entry of the first earlier Send of equal bytes; otherwise
-- none
unfoldable pub link_of : PlainRecording → List Step → ℕ → Event → Option ℕ
link_of r before place (Send s b) = option_and_then (pair_of_sent r s place) (meaning r.setting.exercise b)
link_of r before place (Get s b) = option_and_then (sender_link r b before) (meaning r.setting.exercise b)
link_of r before place (Tell s e y) = None
