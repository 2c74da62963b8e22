-- Why a text is no script, and a line no order for a station (profile).
use Rattle.std.specs.Prelude.{◌≡◌, ℕ, ◌+◌, Bool, true, false, nat_lt, List, [], ◌∷◌, length, slice_get, Option, Some, None, Result, Ok, Err, is_some, unwrap_or, if◌then◌else◌}
use Rattle.std.specs.Option.{option_map, option_or}
use Rattle.std.specs.Result.{result_err}
use Rattle.dis_records.specs.declared.address.SiteApplication.{SiteApplication}
use Rattle.dis_records.specs.declared.entity_state.EntityState.{EntityState}
use Rattle.exercise_model.specs.Station.{is_below}
use Rattle.siman_scripts.specs.declared.form.LineForm.{LineForm}
use Rattle.siman_scripts.specs.declared.form.LineForm.TheVariants as forms
use Rattle.siman_scripts.specs.declared.line_fault.ScriptLineFault.{ScriptLineFault}
use Rattle.siman_scripts.specs.declared.line_fault.ScriptLineFault.TheVariants.{Bad, Unknown}
use Rattle.siman_scripts.specs.declared.part.ScriptPart.{ScriptPart}
use Rattle.siman_scripts.specs.declared.script.TheConstants.{LARGEST_SCRIPT}
use Rattle.siman_scripts.specs.declared.script_fault.ScriptFault.{ScriptFault}
use Rattle.siman_scripts.specs.declared.statement.Statement.{Statement}
use Rattle.siman_scripts.specs.declared.statement.Statement.TheVariants as says
use Rattle.siman_scripts.specs.declared.act.Act.{Act}
use Rattle.siman_scripts.specs.declared.act.Act.TheVariants as acts
use Rattle.siman_scripts.specs.declared.why.CommandReason.{CommandReason}
use Rattle.siman_scripts.specs.declared.why.CommandWhy.TheVariants as commands
use Rattle.siman_scripts.specs.declared.why.LineReason.{LineReason}
use Rattle.siman_scripts.specs.declared.why.LineWhy.{LineWhy}
use Rattle.siman_scripts.specs.declared.why.Why.{Why}
use Rattle.siman_scripts.specs.declared.why.Why.TheVariants as whys
use Rattle.byte_files.specs.Text.{lines_of, cut_at}
use Rattle.siman_scripts.specs.Stations.{WorldStationData}
use Rattle.siman_scripts.specs.Statement.{statement_of}
use Rattle.siman_scripts.specs.Draft.{DraftData, blank, wants_exercise, takes_stations, takes_outfits, takes_moves, last_address, index_of, last_number, opened_with}
use Rattle.siman_scripts.specs.Script.{fault_at, line_after, script_at}
use Rattle.siman_scripts.specs.Words.{placed_words_of}
use Rattle.siman_scripts.specs.Forms.{form_named}
use Rattle.siman_scripts.specs.LineReason.{line_reason}

-- Refusals after the lines before: a word of the line, counted from 0, and the reason.

abbrev pub Refused : Type 0
Refused = Option (ℕ × Why)

-- the reason of a line that is before the exercise, or late for its part
abbrev pub part_why : ScriptPart → Why → Why
part_why part late = if wants_exercise part then whys.BeforeExercise else late

abbrev pub part_reason : ScriptPart → Bool → Why → Refused → Refused
part_reason part takes late reason = if takes then reason else Some (0, part_why part late)

-- the reason of a station that is not above this one, if there is one
abbrev pub rising_reason : Option SiteApplication → SiteApplication → Refused
rising_reason None a = None
rising_reason (Some before) a = if is_below before a then None else Some (1, whys.StationNotAbove before.site before.application)

abbrev pub station_reason : List WorldStationData → SiteApplication → Refused
station_reason stations a = if nat_lt (length stations) 256 then rising_reason (last_address stations) a else Some (0, whys.TooManyStations)

-- the reason of an entity of a station, if the station is known
abbrev pub opening_reason : ℕ → EntityState → Option WorldStationData → Refused
opening_reason e y None = Some (2, whys.EntityNotAbove 0)
opening_reason e y (Some w) = if is_some (opened_with e y w) then None else Some (2, whys.EntityNotAbove (last_number 0 w.station.opening))

-- the reason of a station in this word that is not known, or that of its index
abbrev pub known_reason : ℕ → SiteApplication → (ℕ → Refused) → Option ℕ → Refused
known_reason place a next None = Some (place, whys.UnknownStation a.site a.application)
known_reason place a next (Some i) = next i

-- the word of a move that names its station
abbrev pub station_place : Act → ℕ
station_place (acts.Deliver place) = 2
station_place (acts.Command order) = 1
station_place acts.Tick = 1
station_place (acts.Tell e) = 1

-- WHY A STATEMENT IS REFUSED AFTER THE LINES BEFORE IT
abbrev pub draft_reason : DraftData → Statement → Refused
draft_reason d says.Nothing = None
draft_reason d (says.Exercise x) = if wants_exercise d.part then None else Some (0, whys.SecondExercise)
draft_reason d (says.Station a rules) = part_reason d.part (takes_stations d.part) whys.LateStation (station_reason d.stations a)
draft_reason d (says.Opening a e y) =
    part_reason d.part (takes_outfits d.part) whys.LateOutfit (known_reason 1 a (λ i. opening_reason e y (slice_get d.stations i)) (index_of a d.stations))
draft_reason d (says.Fixed a datum) = part_reason d.part (takes_outfits d.part) whys.LateOutfit (known_reason 1 a (λ i. None) (index_of a d.stations))
draft_reason d (says.Action a id) = part_reason d.part (takes_outfits d.part) whys.LateOutfit (known_reason 1 a (λ i. None) (index_of a d.stations))
draft_reason d (says.At now) = part_reason d.part (takes_moves d.part) whys.BeforeExercise None
draft_reason d (says.Does a act) = part_reason d.part (takes_moves d.part) whys.BeforeExercise (known_reason (station_place act) a (λ i. None) (index_of a d.stations))

-- The first reason of a text.

-- the column of a word of a line, which is counted from 0
abbrev pub column_of : List ℕ → ℕ → ℕ
column_of line place = unwrap_or (option_map (λ p. p.0) (slice_get (placed_words_of line) place)) 1

-- the reason of line n: a column, and why
abbrev pub at_line : ℕ → ℕ × Why → LineReason
at_line n reason = record { line = n; column = reason.0; why = reason.1 }

-- the reason of a line that is refused by itself
abbrev pub by_itself : Option (ℕ × LineWhy) → Option (ℕ × Why)
by_itself told = option_map (λ r. (r.0, whys.Line r.1)) told

abbrev pub said_reason : DraftData → List ℕ → Option Statement → Option (ℕ × Why)
said_reason d line None = by_itself (line_reason line)
said_reason d line (Some s) = option_map (λ r. (column_of line r.0, r.1)) (draft_reason d s)

-- why a line is refused after the lines before it
abbrev pub refusal_of : DraftData → List ℕ → Option (ℕ × Why)
refusal_of d line = said_reason d line (statement_of line)

-- the reason of a text of n lines that ends too early
abbrev pub end_reason : DraftData → ℕ → Option LineReason
end_reason d n =
    if wants_exercise d.part then Some (record { line = n + 1; column = 0; why = whys.NoExercise })
    else if nat_lt 0 (length d.stations) then None
    else Some (record { line = n + 1; column = 0; why = whys.NoStation })

abbrev pub after_line : Result DraftData ScriptLineFault → (DraftData → Option LineReason) → Option LineReason
after_line (Err fault) next = None
after_line (Ok d) next = next d

-- the first reason of lines that follow n others
abbrev pub lines_reason : DraftData → ℕ → List (List ℕ) → Option LineReason
lines_reason d n [] = end_reason d n
lines_reason d n (l ∷ ls) = option_or (option_map (at_line (n + 1)) (refusal_of d l)) (after_line (line_after d l) (λ e. lines_reason e (n + 1) ls))

-- THE FIRST REASON BY WHICH A TEXT IS NO SCRIPT, by the order of lines; a text that is too long has no other
abbrev pub reason_at : List ℕ → Option LineReason
reason_at text =
    if nat_lt LARGEST_SCRIPT (length text) then Some (record { line = 0; column = 0; why = whys.TooLong }) else lines_reason blank 0 (lines_of text)

-- Typed lines.

-- lines of this form are no orders for a station
abbrev pub is_setup : LineForm → Bool
is_setup forms.Exercise = true
is_setup forms.Station = true
is_setup forms.Opening = true
is_setup forms.Fixed = true
is_setup forms.Action = true
is_setup forms.Deliver = true
is_setup _ = false

-- the first word of a line
abbrev pub first_word : List ℕ → List ℕ
first_word line = unwrap_or (option_map (λ p. p.0) (cut_at 32 line)) line

abbrev pub not_for_station : LineForm → CommandReason
not_for_station form = record { column = 1; why = commands.NotForStation form }

abbrev pub named_setup : Option LineForm → Option CommandReason
named_setup None = None
named_setup (Some form) = if is_setup form then Some (not_for_station form) else None

-- the reason of a line whose first word names a form that is no order
abbrev pub setup_reason : List ℕ → Option CommandReason
setup_reason line = named_setup (form_named (first_word line))

-- the form of an act that is no order for a station
abbrev pub delivery_form : Act → Option LineForm
delivery_form (acts.Deliver place) = Some forms.Deliver
delivery_form (acts.Command order) = None
delivery_form acts.Tick = None
delivery_form (acts.Tell e) = None

abbrev pub setup_form : Statement → Option LineForm
setup_form says.Nothing = None
setup_form (says.Exercise x) = Some forms.Exercise
setup_form (says.Station a rules) = Some forms.Station
setup_form (says.Opening a e y) = Some forms.Opening
setup_form (says.Fixed a datum) = Some forms.Fixed
setup_form (says.Action a id) = Some forms.Action
setup_form (says.At now) = None
setup_form (says.Does a act) = delivery_form act

-- the reason of a line that is refused by itself
abbrev pub by_line : Option (ℕ × LineWhy) → Option CommandReason
by_line told = option_map (λ r. record { column = r.0; why = commands.Line r.1 }) told

abbrev pub unsaid_reason : List ℕ → Option Statement → Option CommandReason
unsaid_reason line None = option_or (setup_reason line) (by_line (line_reason line))
unsaid_reason line (Some s) = option_map not_for_station (setup_form s)

-- WHY A LINE IS NO ORDER FOR A STATION: its form is none of an order, or it is refused by itself
abbrev pub command_reason : List ℕ → Option CommandReason
command_reason line = unsaid_reason line (statement_of line)

-- the fault that a reason explains
abbrev pub why_fault : Why → ScriptLineFault
why_fault (whys.UnknownStation s a) = Unknown
why_fault _ = Bad

abbrev pub fault_of : LineReason → ScriptFault
fault_of reason = fault_at reason.line (why_fault reason.why)

-- A TEXT HAS A FIRST REASON OR IS A SCRIPT, and the reason is of the line and of the kind of its fault
abbrev pub Explains : List ℕ → Type 0
Explains text = result_err (script_at text) ≡ option_map fault_of (reason_at text)
