-- The rows behind those of the moves of a plan: datagrams that are brought to nobody or more than once, warnings, and the
-- counts (profile).
use Rattle.std.specs.Prelude.{ℕ, ◌+◌, Bool, true, false, not, ◌==◌, ◌&&◌, nat_le, List, [], ◌∷◌, ◌++◌, length, codes, slice_get, Option, Some, None, if◌then◌else◌}
use Rattle.std.specs.List.{flat_map, list_any}
use Rattle.dis_records.specs.Entity.{is_addressed}
use Rattle.dis_records.specs.Texts.{entity_text}
use Rattle.dis_records.specs.declared.entity.EntityId.{EntityId}
use Rattle.dis_records.specs.declared.address.SiteApplication.{SiteApplication}
use Rattle.siman_pdus.specs.declared.pdu.Pdu.{Pdu}
use Rattle.siman_print.specs.Line.{Value, Number, Word, Field, Bare, Keyed, Line, named_line}
use Rattle.siman_plans.specs.declared.deed.Deed.{Deed}
use Rattle.siman_plans.specs.declared.deed.Deed.TheVariants as deeds
use Rattle.siman_plans.specs.declared.deed.PlannedLine.{PlannedLine}
use Rattle.siman_plans.specs.declared.deed.Receipt.{Receipt}
use Rattle.siman_plans.specs.MoveLines.{Background, pdu_at, station_value, target_value, pdu_fields, move_rows}
use Rattle.siman_plans.specs.Sent.{SentData}

-- Datagrams.

-- a datagram is brought to nobody
abbrev pub is_unheard : SentData → Bool
is_unheard d = length d.receipts == 0

-- and it is not meant to be lost
abbrev pub is_undelivered : SentData → Bool
is_undelivered d = is_unheard d && not d.is_meant

-- lost K source=LINE kind=NAME from=ID to=ID
abbrev pub lost_row : Background → (number : ℕ) → SentData → Line
lost_row b k d = named_line (codes "lost") (Bare (codes "datagram") (Number k) ∷ Keyed (codes "source") (Number d.line) ∷ pdu_fields (pdu_at b k))

-- the rows of those that are brought to nobody; the first has this number
abbrev pub lost_rows : Background → (number : ℕ) → List SentData → List Line
lost_rows b k [] = []
lost_rows b k (d ∷ ds) = if is_unheard d then lost_row b k d ∷ lost_rows b (k + 1) ds else lost_rows b (k + 1) ds

-- copied K source=LINE at=S:A times=N
abbrev pub copied_row : Background → (number line : ℕ) → Receipt → Line
copied_row b k line r =
    named_line (codes "copied") (Bare (codes "datagram") (Number k) ∷ Keyed (codes "source") (Number line) ∷ Keyed (codes "at") (station_value b r.station) ∷ Keyed (codes "times") (Number r.times) ∷ [])

-- the rows of the stations to which a datagram is brought more than once
abbrev pub copies_of : Background → (number line : ℕ) → List Receipt → List Line
copies_of b k line [] = []
copies_of b k line (r ∷ rs) = if nat_le 2 r.times then copied_row b k line r ∷ copies_of b k line rs else copies_of b k line rs

abbrev pub copied_rows : Background → (number : ℕ) → List SentData → List Line
copied_rows b k [] = []
copied_rows b k (d ∷ ds) = copies_of b k d.line d.receipts ++ copied_rows b (k + 1) ds

-- Warnings.

-- warning LINE NAME, and what it is about
abbrev pub warning_row : (line : ℕ) → (name : List ℕ) → List Field → Line
warning_row line name fields = named_line (codes "warning") (Bare (codes "source") (Number line) ∷ Bare (codes "name") (Word name) ∷ fields)

-- what is sent to this identifier addresses a station of the source
abbrev pub addresses_any : Background → Pdu → Bool
addresses_any b p = list_any (λ a. is_addressed p.target a) b.stations

-- the receiver of an order that addresses no station of the source
abbrev pub nobody_of : Background → Option Pdu → Option EntityId
nobody_of b None = None
nobody_of b (Some p) = if addresses_any b p then None else Some p.target

-- warning LINE nobody to=ID
abbrev pub nobody_rows : (line : ℕ) → Option EntityId → List Line
nobody_rows line None = []
nobody_rows line (Some to) = warning_row line (codes "nobody") (Keyed (codes "to") (Word (entity_text to)) ∷ []) ∷ []

-- there is such a datagram, and it is not delivered
abbrev pub is_missed : Option SentData → Bool
is_missed None = false
is_missed (Some d) = is_undelivered d

-- warning LINE undelivered datagram=K, of an order that is brought to nobody, and is not meant to be lost
abbrev pub undelivered_rows : (line number : ℕ) → (missed : Bool) → List Line
undelivered_rows line k false = []
undelivered_rows line k true = warning_row line (codes "undelivered") (Keyed (codes "datagram") (Number k) ∷ []) ∷ []

-- a PDU is brought to a station that it does not address
abbrev pub is_astray : Option Pdu → Option SiteApplication → Bool
is_astray (Some p) (Some a) = not (is_addressed p.target a)
is_astray pdu station = false

-- warning LINE not-addressed at=S:A to=ID, of a delivery that is astray
abbrev pub astray_rows : (line : ℕ) → (at to : Value) → (astray : Bool) → List Line
astray_rows line at to false = []
astray_rows line at to true = warning_row line (codes "not-addressed") (Keyed (codes "at") at ∷ Keyed (codes "to") to ∷ []) ∷ []

-- the warnings of an order, and of a delivery
abbrev pub order_warnings : Background → List SentData → (line number : ℕ) → List Line
order_warnings b sent line k = nobody_rows line (nobody_of b (pdu_at b k)) ++ undelivered_rows line k (is_missed (slice_get sent k))

abbrev pub delivery_warnings : Background → (line station brings : ℕ) → List Line
delivery_warnings b line station brings =
    astray_rows line (station_value b station) (target_value (pdu_at b brings)) (is_astray (pdu_at b brings) (slice_get b.stations station))

-- THE WARNINGS OF A LINE of a plan, in the order in which they come up
abbrev pub deed_warnings : Background → List SentData → (line : ℕ) → Deed → List Line
deed_warnings b sent line (deeds.Set true) = warning_row line (codes "back") [] ∷ []
deed_warnings b sent line (deeds.Set false) = []
deed_warnings b sent line (deeds.Ordered station sends label) = order_warnings b sent line sends
deed_warnings b sent line (deeds.Ticked station sends label) = []
deed_warnings b sent line (deeds.Told station entity state) = []
deed_warnings b sent line (deeds.Brought station brings answers) = delivery_warnings b line station brings
deed_warnings b sent line (deeds.Lost datagram) = []

abbrev pub warnings_of : Background → List SentData → PlannedLine → List Line
warnings_of b sent p = deed_warnings b sent p.line p.did

-- The whole.

-- a line made a move
abbrev pub is_move : Deed → Bool
is_move (deeds.Set is_back) = false
is_move (deeds.Lost datagram) = false
is_move deed = true

abbrev pub move_count : List PlannedLine → ℕ
move_count [] = 0
move_count (p ∷ ps) = if is_move p.did then move_count ps + 1 else move_count ps

-- plan exercise=X stations=N moves=N datagrams=N
abbrev pub plan_row : (exercise : ℕ) → Background → List PlannedLine → Line
plan_row exercise b planned =
    named_line (codes "plan") (Keyed (codes "exercise") (Number exercise) ∷ Keyed (codes "stations") (Number (length b.stations)) ∷ Keyed (codes "moves") (Number (move_count planned))
    ∷ Keyed (codes "datagrams") (Number (length b.sends)) ∷ [])

-- THE ROWS OF THE MOVES of a plan, in the order of its lines
abbrev pub all_move_rows : Background → List PlannedLine → List Line
all_move_rows b planned = flat_map (move_rows b) planned

-- THE ROWS OF A PLAN: its moves; datagrams that are brought to nobody, and more than once, by their numbers; warnings, by
-- their lines; and the counts
abbrev pub plan_rows : (exercise : ℕ) → Background → List SentData → List PlannedLine → List Line
plan_rows exercise b sent planned =
    all_move_rows b planned ++ (lost_rows b 0 sent ++ (copied_rows b 0 sent ++ (flat_map (warnings_of b sent) planned ++ plan_row exercise b planned ∷ [])))
