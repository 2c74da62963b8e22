-- What a plan says of a text: its rows and its plain script, or why there is none (profile).
use Rattle.std.specs.Prelude.{◌≡◌, ℕ, ◌&&◌, nat_lt, List, ◌++◌, length, map, reverse, is_none, Option, Some, None, Result, Ok, Err, if◌then◌else◌}
use Rattle.siman_scripts.specs.declared.script.TheConstants.{LARGEST_SCRIPT}
use Rattle.exercise_model.specs.Entry.{Entry, Sent, Received, Told}
use Rattle.exercise_model.specs.Recording.{PlainRecording}
use Rattle.siman_stations.specs.World.{WorldData, sent_in, are_world_stations, world_recording}
use Rattle.siman_print.specs.declared.spelling.Spelling.{Spelling}
use Rattle.siman_print.specs.Line.{Line}
use Rattle.siman_print.specs.Spelled.{lines_spelled}
use Rattle.siman_plans.specs.declared.deed.PlannedLine.{PlannedLine}
use Rattle.siman_plans.specs.declared.plan_fault.PlanFault.{PlanFault}
use Rattle.siman_plans.specs.declared.plan_fault.PlanFault.TheVariants as plans
use Rattle.siman_plans.specs.declared.plan_fault.Refusal.{Refusal}
use Rattle.siman_plans.specs.declared.plan_fault.Stop.{Stop}
use Rattle.siman_plans.specs.declared.plan_fault.Stop.TheVariants as stops
use Rattle.siman_plans.specs.declared.plan_fault.Unnamed.{Unnamed}
use Rattle.siman_plans.specs.declared.plan_fault.Unnamed.TheVariants as unnamed
use Rattle.siman_plans.specs.declared.plan_text.PlanTextFault.{PlanTextFault}
use Rattle.siman_plans.specs.declared.plan_text.PlanTextFault.TheVariants as faults
use Rattle.siman_plans.specs.declared.source_fault.SourceReason.{SourceReason}
use Rattle.siman_plans.specs.declared.source_fault.SourceWhy.{SourceWhy}
use Rattle.siman_plans.specs.declared.source_fault.SourceWhy.TheVariants as whys
use Rattle.siman_plans.specs.ClosingLines.{all_move_rows, plan_rows}
use Rattle.siman_plans.specs.MoveLines.{Background}
use Rattle.siman_plans.specs.Plan.{PlanData, plan_at}
use Rattle.siman_plans.specs.Sent.{SentData}
use Rattle.siman_plans.specs.Source.{SourceData, read_at}

-- the rows, in a spelling; the plain script; and the move at which the world refuses to go on, if it does, with the
-- number of datagrams that were sent before it
pub record PlanTextData : Type 0 where
  pub rows : List ℕ
  pub script : List ℕ
  pub stop : Option Refusal
  pub sends : ℕ

-- the world of a source
abbrev pub world_of : SourceData → WorldData
world_of s = record { exercise = s.exercise; stations = s.stations }

-- the datagram that an entry sends, if any
abbrev pub sent_by : Entry → Option (List ℕ)
sent_by (Sent s stamp b) = Some b
sent_by (Received s stamp b) = None
sent_by (Told s e y) = None

-- what the rows are made of: the recording of the moves, and the labels
abbrev pub background_of : PlainRecording → (labels : List (List ℕ)) → Background
background_of r labels = record { stations = map (λ s. s.address) r.setting.stations; sends = sent_in r.entries; labels = labels }

-- all rows of a plan; or those of the moves before the one at which the world refuses to go on
abbrev pub rows_of : (exercise : ℕ) → Background → List SentData → List PlannedLine → (stop : Option Refusal) → List Line
rows_of exercise b sent planned None = plan_rows exercise b sent planned
rows_of exercise b sent planned (Some refusal) = all_move_rows b planned

-- what is said of the recording of the moves, of the notes on the lines, and of the move that is refused
abbrev pub text_by : Spelling → SourceData → PlainRecording → List SentData → List PlannedLine → (script : List ℕ) → (stop : Option Refusal) → PlanTextData
text_by spelling s r sent planned script stop = record {
  rows = lines_spelled spelling (rows_of s.exercise (background_of r s.labels) sent planned stop);
  script = s.setup ++ script;
  stop = stop;
  sends = length (sent_in r.entries);
}

-- that of a plan
abbrev pub text_of : Spelling → SourceData → PlanData → (stop : Option Refusal) → PlanTextData
text_of spelling s d stop = text_by spelling s (world_recording (world_of s) (reverse d.moves)) d.notes.sent d.notes.planned d.notes.script stop

-- why a word that names nothing is refused
abbrev pub unnamed_why : Unnamed → SourceWhy
unnamed_why unnamed.LabelSendsNothing = whys.LabelSendsNothing
unnamed_why unnamed.NoAnswer = whys.NoAnswer
unnamed_why unnamed.NeverBrought = whys.NeverBrought
unnamed_why unnamed.NotSent = whys.NotSent

-- why a source has no plan
abbrev pub fault_of : PlanFault → PlanTextFault
fault_of plans.Stations = faults.Stations
fault_of (plans.Unnamed line column why) = faults.Source (record { line = line; column = column; why = unnamed_why why })
fault_of plans.Memory = faults.Memory

-- a whole plain script has at most 1,048,576 bytes
abbrev pub unless_long : PlanTextData → Result PlanTextData PlanTextFault
unless_long t = if is_none t.stop && nat_lt LARGEST_SCRIPT (length t.script) then Err faults.TooLong else Ok t

-- what a plan says that ends here, or why a word of a line names nothing
abbrev pub said_from : Spelling → SourceData → PlanData → Option Stop → Result PlanTextData PlanTextFault
said_from spelling s d None = unless_long (text_of spelling s d None)
said_from spelling s d (Some (stops.Refused refusal)) = unless_long (text_of spelling s d (Some refusal))
said_from spelling s d (Some (stops.Unnamed line column why)) = Err (faults.Source (record { line = line; column = column; why = unnamed_why why }))

abbrev pub said_of : Spelling → SourceData → Result PlanTextData PlanTextFault
said_of spelling s = if are_world_stations s.stations then (let p = plan_at (world_of s) s.lines in said_from spelling s p.0 p.1) else Err faults.Stations

abbrev pub said_by : Spelling → Result SourceData SourceReason → Result PlanTextData PlanTextFault
said_by spelling (Err reason) = Err (faults.Source reason)
said_by spelling (Ok s) = said_of spelling s

-- WHAT A PLAN SAYS OF A TEXT: first all lines are read, and the first that cannot be read is told; then they are done, in
-- their order, as far as the first fault of a word or of the world
abbrev pub said_at : Spelling → List ℕ → Result PlanTextData PlanTextFault
said_at spelling text = said_by spelling (read_at text)

-- the fault of a call is that of the text; lack of memory may happen with any
abbrev pub Tells : PlanTextFault → Result PlanTextData PlanTextFault → Type 0
Tells faults.Memory said = Unit {0}
Tells fault said = said ≡ Err fault

abbrev pub Says : Result PlanTextData PlanTextFault → Result PlanTextData PlanTextFault → Type 0
Says (Ok t) said = said ≡ Ok t
Says (Err fault) said = Tells fault said
