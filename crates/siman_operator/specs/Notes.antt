-- The notes of a session: rows that begin with `# `, between the rows of entries (profile).
use Rattle.std.specs.Prelude.{◌≡◌, ℕ, ◌+◌, zero, suc, Bool, true, false, ◌&&◌, not, List, [], ◌∷◌, ◌++◌, codes, length, slice_get, Option, Some, None, unwrap_or, if◌then◌else◌}
use Rattle.std.specs.Option.{option_map_or}
use Rattle.std.specs.List.{AllByRecursion}
use Rattle.dis_records.specs.declared.address.SiteApplication.{SiteApplication}
use Rattle.dis_records.specs.declared.entity_state.EntityState.{EntityState}
use Rattle.dis_records.specs.declared.entity_state.EntityState.TheVariants as states
use Rattle.dis_records.specs.Entity.{entity_of}
use Rattle.dis_records.specs.Texts.{kind_text, entity_text, state_text}
use Rattle.exercise_model.specs.Place.{first_below}
use Rattle.siman_pdus.specs.declared.pdu.Pdu.{Pdu}
use Rattle.siman_pdus.specs.Role.{request_id_of}
use Rattle.siman_pdus.specs.Spelling.{body_kind}
use Rattle.siman_application.specs.Application.{ApplicationData, came}
use Rattle.siman_application.specs.Play.{state_over}
use Rattle.siman_manager.specs.Book.{Book, is_due, is_ready}
use Rattle.siman_manager.specs.Viewed.{OrderStands, view_of}
use Rattle.siman_manager.specs.declared.kept.MadeOrder.{MadeOrder}
use Rattle.siman_manager.specs.declared.order.OrderStatus.{OrderStatus}
use Rattle.siman_manager.specs.declared.order.OrderStatus.TheVariants as statuses
use Rattle.siman_lines.specs.declared.line.PassedOver.{PassedOver}
use Rattle.siman_stations.specs.declared.turn.Node.{Node}
use Rattle.siman_print.specs.Line.{Value, Number, Clock, Word, Phrase, Missing, Keyed, Bare, Line, named_line}
use Rattle.siman_print.specs.Fields.{option_value}
use Rattle.siman_print.specs.Spelled.{address_text as address_text_of}
use Rattle.siman_lines.specs.Trouble.{address_text}
use Rattle.std.specs.declared.net.socket_addr.SocketAddr.{SocketAddr}
use Rattle.std.specs.declared.net.socket_addr.SocketAddr.TheVariants.{V4, V6}
use Rattle.siman_print.specs.Values.{number_value}

-- A NOTE: a row whose name begins with `# `
abbrev pub IsNote : Line → Type 0
IsNote row = (rest : List ℕ) × (row.name ≡ codes "# " ++ rest)

abbrev pub AreNotes : List Line → Type 0
AreNotes rows = AllByRecursion IsNote rows

-- the rows that a function gives for 0, 1 and so on below n, one after the other
unfoldable pub rows_below : (ℕ → List Line) → ℕ → List Line
rows_below f zero = []
rows_below f (suc n) = rows_below f n ++ f n

-- ---- orders

-- NAME request=N KIND to=ID sends=N tries=N last=N: an order as it stands, sent so often of so many times, last at
abbrev pub order_row : (name : List ℕ) → (tries : ℕ) → Pdu → (sends last : ℕ) → Line
order_row name tries p sends last =
    named_line name (Keyed (codes "request") (number_value (request_id_of p.body)) ∷ Bare (codes "kind") (Word (kind_text (body_kind p.body)))
    ∷ Keyed (codes "to") (Word (entity_text p.target)) ∷ Keyed (codes "sends") (Number sends) ∷ Keyed (codes "tries") (Number tries)
    ∷ Keyed (codes "last") (Clock last) ∷ [])

-- an order as it stands
abbrev pub standing_order : (name : List ℕ) → (tries : ℕ) → OrderStands → Line
standing_order name tries k = order_row name tries k.pdu k.sends k.last

-- the rows of the order at a place, if there is one
abbrev pub at_place : (MadeOrder → List Line) → Book → ℕ → List Line
at_place rows b place = option_map_or rows (slice_get b.orders place) []

-- an order is due at one time, and was not at another
abbrev pub is_due_anew : Book → (before now : ℕ) → MadeOrder → Bool
is_due_anew b before now k = is_due b.settings now k && not (is_due b.settings before k)

abbrev pub due_row : Book → (before now : ℕ) → MadeOrder → List Line
due_row b before now k = if is_due_anew b before now k then standing_order (codes "# due") b.settings.tries (view_of k) ∷ [] else []

-- THE ORDERS THAT A NEW TIME OF THE CLOCK MAKES DUE
abbrev pub due_rows : Book → (before now : ℕ) → List Line
due_rows b before now = rows_below (at_place (due_row b before now) b) (length b.orders)

-- the order at a place is due; a tick that comes to it sends it again
abbrev pub due_at : Book → (now place : ℕ) → Bool
due_at b now place = option_map_or (is_due b.settings now) (slice_get b.orders place) false

abbrev pub ready_at : Book → (now place : ℕ) → Bool
ready_at b now place = option_map_or (is_ready b.settings now) (slice_get b.orders place) false

-- the first order that a tick sends again
unfoldable pub ready_place : Book → (now : ℕ) → Option ℕ
ready_place b now = first_below (ready_at b now) (length b.orders)

-- an order under this name
abbrev pub row_under : (name : List ℕ) → Book → MadeOrder → List Line
row_under name b k = standing_order name b.settings.tries (view_of k) ∷ []

-- an order that a tick gives up: it is due, and is not sent again, since it was sent as often as it may be
abbrev pub spent_at : Book → (now place : ℕ) → List Line
spent_at b now place = if due_at b now place && not (ready_at b now place) then at_place (row_under (codes "# given-up") b) b place else []

-- an order that is sent once more, at this time
abbrev pub again_row : Book → (now : ℕ) → MadeOrder → List Line
again_row b now k = order_row (codes "# again") b.settings.tries (view_of k).pdu ((view_of k).sends + 1) now ∷ []

-- WHAT A TICK DOES to the orders: those that it gives up before the first that it sends again, and that one
abbrev pub tick_rows : Book → (now : ℕ) → List Line
tick_rows b now =
    rows_below (spent_at b now) (unwrap_or (ready_place b now) (length b.orders))
    ++ option_map_or (at_place (again_row b now) b) (ready_place b now) []

-- ---- the state of a station

-- what is said of an order that is not answered
abbrev pub standing_name : (due : Bool) → OrderStatus → Option (List ℕ)
standing_name due (statuses.Waiting sends) = Some (if due then codes "# due" else codes "# waiting")
standing_name due statuses.Answered = None
standing_name due statuses.GivenUp = Some (codes "# given-up")

abbrev pub named_rows : (tries : ℕ) → OrderStands → Option (List ℕ) → List Line
named_rows tries k None = []
named_rows tries k (Some name) = standing_order name tries k ∷ []

abbrev pub standing_row : Book → (now : ℕ) → MadeOrder → List Line
standing_row b now k = named_rows b.settings.tries (view_of k) (standing_name (is_due b.settings now k) (view_of k).status)

-- the orders that are not answered
abbrev pub standing_rows : Book → (now : ℕ) → List Line
standing_rows b now = rows_below (at_place (standing_row b now) b) (length b.orders)

abbrev pub is_there : EntityState → Bool
is_there states.Absent = false
is_there states.Stopped = true
is_there states.Running = true

-- # entity ID STATE
abbrev pub entity_row : SiteApplication → ℕ → EntityState → List Line
entity_row address e y =
    if is_there y
    then named_line (codes "# entity") (Bare (codes "entity") (Word (entity_text (entity_of address e))) ∷ Bare (codes "state") (Word (state_text y)) ∷ []) ∷ []
    else []

-- the entities that are there, by rising numbers
abbrev pub entity_rows : SiteApplication → ApplicationData → List Line
entity_rows address a = rows_below (λ e. entity_row address e (state_over a.outfit (came a) e)) 0xFFFE

-- # status clock=N records=N orders=N dropped=N strangers=N other=N lost=N
abbrev pub status_row : (clock records orders dropped : ℕ) → PassedOver → (lost : Option ℕ) → Line
status_row clock records orders dropped passed lost =
    named_line (codes "# status") (Keyed (codes "clock") (Clock clock) ∷ Keyed (codes "records") (Number records) ∷ Keyed (codes "orders") (Number orders)
    ∷ Keyed (codes "dropped") (Number dropped) ∷ Keyed (codes "strangers") (Number passed.strangers) ∷ Keyed (codes "other") (Number passed.others)
    ∷ Keyed (codes "lost") (option_value Number lost) ∷ [])

-- THE STATE OF A SESSION: its counts, its orders that are not answered, and its entities
abbrev pub status_rows : SiteApplication → Node → (clock records dropped : ℕ) → PassedOver → (lost : Option ℕ) → List Line
status_rows address n clock records dropped passed lost =
    status_row clock records (length n.manager.orders) dropped passed lost ∷ (standing_rows n.manager clock ++ entity_rows address n.application)

-- what sets the clock, a line or the system, and the lines that go by it
abbrev pub clock_row : (by_system : Bool) → Line
clock_row true = named_line (codes "# the system's clock sets the time; tick OWN: sends an order that is due again; tell OWN E: tells the state of its entity E") []
clock_row false = named_line (codes "# at N: the clock shows N; tick OWN: sends an order that is due again; tell OWN E: tells the state of its entity E") []

-- WHICH LINES A STATION TAKES, if its clock is the system's (`by_system`), and if lines set it
abbrev pub help_rows : (by_system : Bool) → List Line
help_rows by_system =
    named_line (codes "# create OWN TO, remove OWN TO, start OWN TO, stop OWN TO: an order; OWN is this station, S:A, and TO an entity, S:A:E") []
    ∷ named_line (codes "# do OWN TO ACTION, query OWN TO ID .., set OWN TO ID VALUE: orders an action, asks for data, sets a datum") []
    ∷ clock_row by_system
    ∷ named_line (codes "# status: the orders that are not answered, the entities and the counts; quit, or Ctrl-D: the end") [] ∷ []

-- ---- strangers

-- the address of a stranger; none of an IPv6 one
abbrev pub stranger_value : SocketAddr → Value
stranger_value (V4 a) = Phrase (address_text a)
stranger_value (V6 a) = Missing

abbrev pub stranger_row : SocketAddr → Line
stranger_row from = named_line (codes "# stranger") (Bare (codes "address") (stranger_value from) ∷ [])

-- ---- the beginning

-- # station ADDRESS buffer=N
abbrev pub station_row : SiteApplication → (buffer : Option ℕ) → Line
station_row address buffer = named_line (codes "# station") (Bare (codes "address") (Word (address_text_of address)) ∷ Keyed (codes "buffer") (option_value Number buffer) ∷ [])

-- THE FIRST NOTES of a session: which station it plays, how many bytes the system keeps for its socket, and how it ends
abbrev pub greeting_rows : SiteApplication → (buffer : Option ℕ) → List Line
greeting_rows address buffer =
    station_row address buffer
    ∷ named_line (codes "# quit, or Ctrl-D, ends the recording whole; after Ctrl-C it has no end, and siman mend keeps its entries; help lists the lines") [] ∷ []
