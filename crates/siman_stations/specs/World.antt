-- Worlds: the entries that moves make, and the first move that cannot be made; as functions of the moves, the
-- replies and the orders alone, without any table or machine (profile).
use Rattle.std.specs.Prelude.{ℕ, ◌+◌, Bool, ◌==◌, ◌&&◌, nat_le, nat_lt, List, [], ◌∷◌, ◌++◌, length, map, reverse, slice_get, slice_index_or, Option, Some, None, option_and_then, if◌then◌else◌}
use Rattle.std.specs.Option.{option_map, option_or}
use Rattle.std.specs.List.{list_all}
use Rattle.exercise_model.specs.declared.recording.TheConstants.{MOST_ENTRIES}
use Rattle.siman_stations.specs.declared.world.TheConstants.{MOST_OPENING}
use Rattle.dis_records.specs.declared.entity_state.EntityState.{EntityState}
use Rattle.siman_pdus.specs.declared.pdu.Pdu.{Pdu}
use Rattle.siman_pdus.specs.Reading.{reading}
use Rattle.siman_pdus.specs.Role.{is_request_body}
use Rattle.exercise_model.specs.Entry.{Entry, Sent, Received, Told}
use Rattle.exercise_model.specs.History.{log_at, past}
use Rattle.exercise_model.specs.Recording.{PlainRecording}
use Rattle.exercise_model.specs.declared.form.Form.TheVariants.{First}
use Rattle.exercise_model.specs.Setting.{SettingData, nowhere}
use Rattle.exercise_model.specs.Station.{is_entity, are_stations}
use Rattle.exercise_model.specs.State.{state_after}
use Rattle.siman_application.specs.AppProfile.{AppProfile}
use Rattle.siman_application.specs.Play.{reply}
use Rattle.siman_manager.specs.declared.order.Order.{Order}
use Rattle.siman_manager.specs.declared.settings.Settings.{Settings}
use Rattle.siman_manager.specs.Book.{order_pdu, next_id, refusal, with_stamp}
use Rattle.siman_manager.specs.Calls.{Call, Requested, Came, Ticked, count_made}
use Rattle.siman_scripts.specs.declared.act.Act.{Act}
use Rattle.siman_scripts.specs.declared.act.Act.TheVariants.{Command, Deliver, Tick, Tell}
use Rattle.siman_scripts.specs.declared.act.Move.{Move}
use Rattle.siman_stations.specs.declared.world_fault.MoveFault.{MoveFault}
use Rattle.siman_stations.specs.declared.world_fault.MoveFault.TheVariants as faults
use Rattle.siman_stations.specs.declared.world_fault.WorldFault.{WorldFault}
use Rattle.siman_stations.specs.declared.world_fault.WorldFault.TheVariants as world_faults
use Rattle.siman_scripts.specs.Stations.{WorldStationData}
use Rattle.siman_stations.specs.Orders.{ready_after}
use Rattle.siman_stations.specs.StationTurn.{stamp_of, sent_as}

-- the exercise of a world and its stations
pub record WorldData : Type 0 where
  pub exercise : ℕ
  pub stations : List WorldStationData

-- its setting, as a recording of the first format has it
abbrev pub setting_of : WorldData → SettingData
setting_of w = record { form = First; exercise = w.exercise; stations = map (λ s. s.station) w.stations }

-- a placeholder for no station
abbrev pub no_station : WorldStationData
no_station = record { station = nowhere; first_id = 0; tries = 0; wait = 0; datums = record { fixed = []; variable = [] }; actions = [] }

-- the station of an index, from 0
abbrev pub station_of : WorldData → ℕ → WorldStationData
station_of w s = slice_index_or w.stations s no_station

-- the configuration of a station's application
abbrev pub outfit_of : WorldData → ℕ → AppProfile
outfit_of w s = record {
  exercise = w.exercise;
  station = (station_of w s).station;
  datums = (station_of w s).datums;
  actions = (station_of w s).actions;
}

-- the configuration of a station's manager
abbrev pub settings_of : WorldData → ℕ → Settings
settings_of w s = record {
  exercise = w.exercise;
  address = (station_of w s).station.address;
  first_id = (station_of w s).first_id;
  tries = (station_of w s).tries;
  wait = (station_of w s).wait;
}

-- What happened.

-- what happened in a world: its entries, in the order of the recording; and for each station the PDUs that its
-- application received, and the calls of its manager, each THE LATEST FIRST
pub record Course : Type 0 where
  pub entries : List Entry
  pub came : ℕ → List Pdu
  pub calls : ℕ → List Call

-- before the first move
abbrev pub nothing : Course
nothing = record { entries = []; came = λ s. []; calls = λ s. [] }

-- the datagrams that entries send, in order
abbrev pub sent_in : List Entry → List (List ℕ)
sent_in [] = []
sent_in (Sent s stamp b ∷ es) = b ∷ sent_in es
sent_in (Received s stamp b ∷ es) = sent_in es
sent_in (Told s e y ∷ es) = sent_in es

-- the k-th datagram that was sent in the whole world, from 0, if there were so many
abbrev pub datagram : Course → ℕ → Option (List ℕ)
datagram c k = slice_get (sent_in c.entries) k

-- the PDU that an act brings: that of the delivered datagram
abbrev pub brought : Course → Act → Option Pdu
brought c (Command order) = None
brought c (Deliver k) = option_and_then reading (datagram c k)
brought c Tick = None
brought c (Tell e) = None

-- the call of the manager that an act is: an order is made, a PDU is received, or a tick
abbrev pub call_of : Course → ℕ → Act → Option Call
call_of c now (Command order) = Some (Requested order now (stamp_of now))
call_of c now (Deliver k) = option_map Came (brought c (Deliver k))
call_of c now Tick = Some (Ticked now (stamp_of now))
call_of c now (Tell e) = None

-- Entries.

-- the order that a station makes next
abbrev pub made_by : WorldData → Course → ℕ → ℕ → Order → Pdu
made_by w c s now order = order_pdu (settings_of w s) (next_id (settings_of w s) (count_made (settings_of w s) (c.calls s))) order (stamp_of now)

-- the reply of a station to a received PDU, if one is due
abbrev pub reply_by : WorldData → Course → ℕ → ℕ → Pdu → Option Pdu
reply_by w c s now q = reply (outfit_of w s) (c.came s) q (stamp_of now)

-- a station receives a datagram, and the reply to its PDU, if it is one and a reply is due, is sent
abbrev pub arrival : WorldData → Course → ℕ → ℕ → Option (List ℕ) → List Entry
arrival w c s now None = []
arrival w c s now (Some b) = Received s now b ∷ sent_as s now (option_and_then (reply_by w c s now) (reading b))

-- the repeat that a tick of a station sends, if one is due
abbrev pub repeated_by : WorldData → Course → ℕ → ℕ → Option Pdu
repeated_by w c s now = option_map (λ l. with_stamp (stamp_of now) l.order) (ready_after (settings_of w s) (c.calls s) now)

-- the state of an entity by the log of its station
abbrev pub state_by : WorldData → Course → ℕ → ℕ → EntityState
state_by w c s e = state_after w.exercise (station_of w s).station (log_at s (past c.entries)) e

-- THE ENTRIES OF AN ACT OF A STATION: the sent order; the received datagram and the sent reply; the sent repeat;
-- the told state
abbrev pub entries_by : WorldData → Course → ℕ → ℕ → Act → List Entry
entries_by w c s now (Command order) = sent_as s now (Some (made_by w c s now order))
entries_by w c s now (Deliver k) = arrival w c s now (datagram c k)
entries_by w c s now Tick = sent_as s now (repeated_by w c s now)
entries_by w c s now (Tell e) = Told s e (state_by w c s e) ∷ []

-- the lists with an item added in front of the list of one station
abbrev pub put_at : {X : Type 0} → ℕ → Option X → (ℕ → List X) → ℕ → List X
put_at s None lists o = lists o
put_at s (Some x) lists o = if s == o then x ∷ lists o else lists o

-- what happened after one more move
abbrev pub after_move : WorldData → Course → Move → Course
after_move w c m = record {
  entries = c.entries ++ entries_by w c m.station m.now m.act;
  came = put_at m.station (brought c m.act) c.came;
  calls = put_at m.station (call_of c m.now m.act) c.calls;
}

-- WHAT HAPPENED in these moves, the latest first
unfoldable pub course_of : WorldData → List Move → Course
course_of w [] = nothing
course_of w (m ∷ earlier) = after_move w (course_of w earlier) m

-- THE ENTRIES OF A WORLD, after moves in their order
abbrev pub entries_of : WorldData → List Move → List Entry
entries_of w moves = (course_of w (reverse moves)).entries

-- Faults.

-- a station that a world can have: its orders are sent at least once, and it opens with at most 4,096 entities
abbrev pub is_world_station : WorldStationData → Bool
is_world_station s = nat_le 1 s.tries && nat_le (length s.station.opening) MOST_OPENING

abbrev pub are_world_stations : List WorldStationData → Bool
are_world_stations ss = are_stations (map (λ s. s.station) ss) && list_all is_world_station ss

-- why a station cannot do an act: an order has the body of no request, or its manager refuses it; the datagram was
-- not sent so far; no entity has the number
abbrev pub act_fault : WorldData → Course → ℕ → ℕ → Act → Option MoveFault
act_fault w c s now (Command order) =
    if is_request_body order.body
    then option_map faults.Order (refusal (settings_of w s) (count_made (settings_of w s) (c.calls s)) order (stamp_of now))
    else Some faults.NotARequest
act_fault w c s now (Deliver k) = if nat_lt k (length (sent_in c.entries)) then None else Some faults.NoSuchSend
act_fault w c s now Tick = None
act_fault w c s now (Tell e) = if is_entity e then None else Some faults.NoSuchEntity

-- WHY A MOVE CANNOT BE MADE: the first of these that holds. Fewer than two of the 1,048,576 entry numbers are left;
-- the world has no such station; the station cannot do the act.
abbrev pub move_fault : WorldData → Course → Move → Option MoveFault
move_fault w c m =
    if nat_le (length c.entries + 2) MOST_ENTRIES
    then (if nat_lt m.station (length w.stations) then act_fault w c m.station m.now m.act else Some faults.NoSuchStation)
    else Some faults.Records

-- THE FIRST FAULT in the order of the moves, which are given the latest first, with the number of its move, from 0
abbrev pub first_fault : WorldData → List Move → Option WorldFault
first_fault w [] = None
first_fault w (m ∷ earlier) =
    option_or (first_fault w earlier) (option_map (world_faults.Move (length earlier)) (move_fault w (course_of w earlier) m))

-- why a world does not run moves in their order, whatever memory there is
abbrev pub world_refusal : WorldData → List Move → Option WorldFault
world_refusal w moves = if are_world_stations w.stations then first_fault w (reverse moves) else Some world_faults.Stations

-- THE RECORDING OF A WORLD after moves in their order
abbrev pub world_recording : WorldData → List Move → PlainRecording
world_recording w moves = record { setting = setting_of w; entries = entries_of w moves }
