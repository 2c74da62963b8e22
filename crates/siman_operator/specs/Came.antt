-- Result of a line of text in a session, and its report (profile).
use Rattle.std.specs.Prelude.{ℕ, Bool, true, false, ◌||◌, List, [], ◌++◌, codes, decimal, Option, Some, None, Result, Ok, Err, if◌then◌else◌}
use Rattle.dis_records.specs.declared.address.SiteApplication.{SiteApplication}
use Rattle.siman_manager.specs.declared.fault.OrderFault.TheVariants as orders
use Rattle.siman_stations.specs.declared.station_fault.StationFault.{StationFault}
use Rattle.siman_stations.specs.declared.station_fault.StationFault.TheVariants as stations
use Rattle.siman_lines.specs.declared.trouble.LineTrouble.{LineTrouble}
use Rattle.siman_print.specs.Records.{line_end}
use Rattle.siman_operator.specs.declared.obeying.Rejection.{Rejection}
use Rattle.siman_operator.specs.declared.obeying.Rejection.TheVariants as undone
use Rattle.siman_operator.specs.declared.printing.PrintFault.{PrintFault}
use Rattle.siman_operator.specs.declared.printing.PrintFault.TheVariants as prints
use Rattle.siman_operator.specs.Posts.{is_rejected, is_unremembered, is_over}
use Rattle.siman_operator.specs.declared.came.Came.{Came}
use Rattle.siman_operator.specs.Explanation.{bad_text, alone_text, system_clock_text, station_text, lost_text}
use Rattle.siman_operator.specs.Receiver.{nobody_text}

-- What failed.

abbrev pub is_line : Result (Unit {0}) Rejection → Bool
is_line (Err undone.Line) = true
is_line other = false

abbrev pub is_memory : Option PrintFault → Bool
is_memory (Some prints.Memory) = true
is_memory other = false

abbrev pub is_write : Option PrintFault → Bool
is_write (Some prints.Write) = true
is_write other = false

-- a send or a receive failed
abbrev pub is_lost : Came → Bool
is_lost came = is_line came.line.done || came.line.trouble.line

-- memory ran out
abbrev pub is_out_of_memory : Came → Bool
is_out_of_memory came = (is_unremembered came.line.done || came.line.trouble.memory) || is_memory came.print_stop

-- an entry was not recorded, or not printed since a write failed
abbrev pub is_unwritten : Came → Bool
is_unwritten came = is_over came.line || is_write came.print_stop

-- the exit status of a line
abbrev pub status_of : Came → ℕ
status_of came =
    if is_out_of_memory came then 3
    else if is_rejected came.line.done || (is_lost came || is_unwritten came) then 2
    else 0

-- Reports.

-- the name of a station fault, as printed
abbrev pub station_fault_name : StationFault → List ℕ
station_fault_name stations.NoSuchEntity = codes "no-such-entity"
station_fault_name stations.NotARequest = codes "not-a-request"
station_fault_name (stations.Order orders.IdsSpent) = codes "ids-spent"
station_fault_name (stations.Order orders.TooLong) = codes "too-long"
station_fault_name (stations.Order orders.Memory) = codes "memory"

-- line N: NAME
abbrev pub at_line : (number : ℕ) → List ℕ
at_line number = codes "line " ++ decimal number

abbrev pub named : (name : List ℕ) → List ℕ
named name = (codes ": " ++ name) ++ line_end

abbrev pub result_line : (number : ℕ) → (name : List ℕ) → List ℕ
result_line number name = at_line number ++ named name

-- the report of a line that was not done, with its explanation; empty for failures of the link, the recorder or
-- memory, which have reports of their own
abbrev pub why_text : (number : ℕ) → Came → Rejection → List ℕ
why_text number came undone.BadLine = result_line number (codes "bad-line") ++ bad_text came.reason
why_text number came undone.UnknownStation = result_line number (codes "unknown-station") ++ alone_text came.site came.application
why_text number came undone.SystemClock = result_line number (codes "system-clock") ++ system_clock_text
why_text number came (undone.Station fault) = result_line number (station_fault_name fault) ++ station_text fault
why_text number came undone.Line = []
why_text number came undone.Record = []
why_text number came undone.Memory = []

abbrev pub refused_text : (number : ℕ) → Came → Result (Unit {0}) Rejection → List ℕ
refused_text number came (Ok x) = []
refused_text number came (Err why) = why_text number came why

-- line N: live: line, and which call failed, if it is known
abbrev pub line_text : (number : ℕ) → (lost : Bool) → Option LineTrouble → List ℕ
line_text number lost trouble = if lost then result_line number (codes "live: line") ++ lost_text trouble else []

abbrev pub memory_text : Bool → List ℕ
memory_text memory = if memory then codes "memory" ++ line_end else []

abbrev pub output_text : Bool → List ℕ
output_text failed = if failed then codes "output: write" ++ line_end else []

abbrev pub shortage_text : (memory failed : Bool) → List ℕ
shortage_text memory failed = memory_text memory ++ output_text failed

abbrev pub rejection_text : (number : ℕ) → Came → List ℕ
rejection_text number came = refused_text number came came.line.done ++ line_text number (is_lost came) came.trouble

abbrev pub failed_text : (number : ℕ) → Came → List ℕ
failed_text number came = rejection_text number came ++ shortage_text (is_out_of_memory came) (is_unwritten came)

-- warning: line N: the script has no station S:A: add it there, or see whether the address is right
abbrev pub warned_line : (number site application : ℕ) → List ℕ
warned_line number site application = codes "warning: " ++ (at_line number ++ nobody_text site application)

abbrev pub warning_text : (number : ℕ) → (nobody : Option SiteApplication) → List ℕ
warning_text number None = []
warning_text number (Some nobody) = warned_line number nobody.site nobody.application

-- THE REPORT OF A LINE, given its number: why it was not done, and that a call of the station's link failed, each
-- with a second line that explains it; that memory ran out; that an entry was not recorded or not printed; and a
-- warning of an order for a station that the script lacks
abbrev pub result_of : (number : ℕ) → Came → List ℕ
result_of number came = failed_text number came ++ warning_text number came.nobody
