-- The rows of a recording: its head, its stations with the entities that they begin with, and its
-- entries (profile).
use Rattle.std.specs.Prelude.{ℕ, List, [], ◌∷◌, ◌++◌, map, length, slice_get, codes, Option, Some, None}
use Rattle.std.specs.Option.{option_map_or}
use Rattle.dis_records.specs.declared.entity_state.EntityState.{EntityState}
use Rattle.dis_records.specs.Texts.{state_text}
use Rattle.siman_pdus.specs.declared.pdu.Pdu.{Pdu}
use Rattle.exercise_model.specs.declared.form.Form.{Form}
use Rattle.exercise_model.specs.declared.form.Form.TheVariants.{First, Closed, Open}
use Rattle.exercise_model.specs.Station.{StationData}
use Rattle.exercise_model.specs.Entry.{Entry, Sent, Received, Told}
use Rattle.exercise_model.specs.Recording.{PlainRecording}
use Rattle.exercise_model.specs.History.{station_at}
use Rattle.exercise_model.specs.Meaning.{meaning}
use Rattle.siman_print.specs.declared.spelling.Spelling.TheVariants.{Text}
use Rattle.siman_print.specs.Line.{Number, Clock, Word, Field, Bare, Keyed, Called, Line, named_line, opened_line}
use Rattle.siman_print.specs.Spelled.{address_text, line_spelled, lines_spelled}
use Rattle.siman_print.specs.Head.{number_field, kind_field, head_fields}
use Rattle.siman_print.specs.Below.{texts_below}

-- the form: nothing for the first format, closed or open for the second
abbrev pub form_fields : Form → List Field
form_fields First = []
form_fields Closed = Keyed (codes "form") (Word (codes "closed")) ∷ []
form_fields Open = Keyed (codes "form") (Word (codes "open")) ∷ []

abbrev pub count_fields : PlainRecording → List Field
count_fields r = number_field (codes "stations") (length r.setting.stations) ∷ number_field (codes "records") (length r.entries) ∷ []

-- exercise=X stations=N records=N, and the form
abbrev pub counts_line : PlainRecording → Line
counts_line r = opened_line (codes "recording") (number_field (codes "exercise") r.setting.exercise) (count_fields r ++ form_fields r.setting.form)

-- station INDEX ADDRESS
abbrev pub station_line : ℕ → StationData → Line
station_line s o = named_line (codes "station") (Bare (codes "station") (Number s) ∷ Bare (codes "address") (Word (address_text o.address)) ∷ [])

-- opening INDEX ENTITY STATE
abbrev pub opening_line : ℕ → ℕ × EntityState → Line
opening_line s opened =
    named_line (codes "opening") (Bare (codes "station") (Number s) ∷ Bare (codes "entity") (Number opened.0) ∷ Bare (codes "state") (Word (state_text opened.1)) ∷ [])

-- the row of a station, and one for each entity that it begins with
abbrev pub station_lines : ℕ → StationData → List Line
station_lines s o = station_line s o ∷ map (opening_line s) o.opening

-- the kind and the head of the PDU that a datagram means, or other bytes=N
abbrev pub meant_fields : List ℕ → Option Pdu → List Field
meant_fields b None = Bare (codes "kind") (Word (codes "other")) ∷ number_field (codes "bytes") (length b) ∷ []
meant_fields b (Some pdu) = kind_field pdu ∷ head_fields pdu

abbrev pub datagram_fields : ℕ → List ℕ → List Field
datagram_fields x b = meant_fields b (meaning x b)

-- what happened at a station, and the stamp: sent INDEX stamp=N
abbrev pub done_fields : List ℕ → ℕ → ℕ → List Field
done_fields did s stamp = Bare (codes "did") (Word did) ∷ Bare (codes "station") (Number s) ∷ Called (codes "stamp") (codes "clock") (Clock stamp) ∷ []

-- a state that a station told: told INDEX ENTITY STATE
abbrev pub told_fields : ℕ → ℕ → EntityState → List Field
told_fields s e y =
    Bare (codes "did") (Word (codes "told")) ∷ Bare (codes "station") (Number s) ∷ Bare (codes "entity") (Number e) ∷ Bare (codes "state") (Word (state_text y)) ∷ []

-- sent INDEX stamp=N HEAD, received INDEX stamp=N HEAD or told INDEX ENTITY STATE
abbrev pub entry_fields : ℕ → Entry → List Field
entry_fields x (Sent s stamp b) = done_fields (codes "sent") s stamp ++ datagram_fields x b
entry_fields x (Received s stamp b) = done_fields (codes "received") s stamp ++ datagram_fields x b
entry_fields x (Told s e y) = told_fields s e y

-- the row of an entry; in text it begins with the entry's number
abbrev pub entry_line : ℕ → ℕ → Entry → Line
entry_line x i entry = opened_line (codes "entry") (Bare (codes "entry") (Number i)) (entry_fields x entry)

-- the text of a station, and of an entry, by its number
abbrev pub station_shown : PlainRecording → ℕ → List ℕ
station_shown r s = lines_spelled Text (station_lines s (station_at r s))

abbrev pub entry_shown : PlainRecording → ℕ → List ℕ
entry_shown r i = option_map_or (λ entry. line_spelled Text (entry_line r.setting.exercise i entry)) (slice_get r.entries i) []

-- THE TEXT OF A RECORDING: its head, its stations with the entities that they begin with, and its
-- entries, both in rising order
abbrev pub show_text : PlainRecording → List ℕ
show_text r = line_spelled Text (counts_line r) ++ texts_below (station_shown r) (length r.setting.stations) ++ texts_below (entry_shown r) (length r.entries)
