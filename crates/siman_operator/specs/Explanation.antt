-- Second line of a report: what a person needs to correct a line of text (profile).
use Rattle.std.specs.Prelude.{ℕ, List, [], ◌++◌, codes, decimal, Option, Some, None}
use Rattle.byte_files.specs.declared.pieces.PlacedText.{PlacedText}
use Rattle.byte_files.specs.Pieces.{behind, five, placed_text}
use Rattle.siman_manager.specs.declared.fault.OrderFault.TheVariants as orders
use Rattle.siman_stations.specs.declared.station_fault.StationFault.{StationFault}
use Rattle.siman_stations.specs.declared.station_fault.StationFault.TheVariants as stations
use Rattle.siman_scripts.specs.ReasonText.{command_text}
use Rattle.siman_lines.specs.declared.trouble.LineTrouble.{LineTrouble}
use Rattle.siman_lines.specs.Trouble.{line_trouble_text}
use Rattle.siman_print.specs.Records.{line_end}
use Rattle.siman_operator.specs.declared.reason.BadReason.{BadReason}
use Rattle.siman_operator.specs.declared.reason.BadReason.TheVariants as reasons

-- A SECOND LINE has two blanks before its text
abbrev pub second : List ℕ → List ℕ
second text = codes "  " ++ (text ++ line_end)

-- why a line is bad, if it is known
abbrev pub bad_text : Option BadReason → List ℕ
bad_text None = []
bad_text (Some reasons.TooLong) = second (codes "the line has more than 65536 bytes")
bad_text (Some (reasons.NoOrder reason)) = second (command_text reason)

-- the only station that the session plays
abbrev pub alone_words : (site application : ℕ) → List ℕ
alone_words site application = five (codes "this session plays station ") (decimal site ++ behind (codes ":") application) (codes " alone") [] []

abbrev pub alone_text : (site application : ℕ) → List ℕ
alone_text site application = second (alone_words site application)

-- no line sets the clock
abbrev pub system_clock_text : List ℕ
system_clock_text = second (codes "the clock is the system's (clock=system), and no line sets it")

-- the remedy for a station fault, in words
abbrev pub station_words : StationFault → List ℕ
station_words stations.NoSuchEntity = codes "the number of an entity is from 1 to 65533"
station_words stations.NotARequest = codes "an order is one of do, query, set, create, remove, start and stop"
station_words (stations.Order orders.IdsSpent) = codes "no request identifier is left after 4294967295: begin a new exercise with a lower first=F"
station_words (stations.Order orders.TooLong) = codes "the order would have more than 8192 bytes: query fewer data in one line"
station_words (stations.Order orders.Memory) = codes "memory ran out and the order was not made: type it again"

abbrev pub station_text : StationFault → List ℕ
station_text fault = second (station_words fault)

-- which call of the station's link failed, if it is known
abbrev pub lost_text : Option LineTrouble → List ℕ
lost_text None = []
lost_text (Some trouble) = second (line_trouble_text trouble)

-- THE SECOND LINE of an explanation; none without one
abbrev pub second_line : Option PlacedText → List ℕ
second_line None = []
second_line (Some explanation) = second (placed_text explanation)
