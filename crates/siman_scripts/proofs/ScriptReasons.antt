-- A text has a first reason or is a script; a line that is typed for a station has one or is an order.
use Rattle.std.proofs.Common.{◌≡◌, ℕ, ◌+◌, Bool, true, false, cond, nat_lt, not, ◌&&◌, List, [], ◌∷◌, length, Option, Some, None, Result, Ok, Err, refl, sym, ◌∙◌, arith, get_or, zero-add}
use Rattle.std.specs.List.{slice_get}
use Rattle.std.specs.Option.{option_map, option_or, option_and_then, is_some, is_none}
use Rattle.std.specs.Result.{result_err}
use Rattle.std.proofs.lemmas.List.Quantifiers.{position-Some}
use Rattle.std.proofs.lemmas.Option.{slice_get-get_or}
use Rattle.dis_records.specs.declared.address.SiteApplication.{SiteApplication}
use Rattle.dis_records.specs.declared.entity_state.EntityState.{EntityState}
use Rattle.exercise_model.specs.Station.{is_above, is_below}
use Rattle.siman_scripts.specs.declared.act.Act.{Act}
use Rattle.siman_scripts.specs.declared.act.Act.TheVariants as acts
use Rattle.siman_scripts.specs.declared.line_fault.ScriptLineFault.{ScriptLineFault}
use Rattle.siman_scripts.specs.declared.line_fault.ScriptLineFault.TheVariants.{Bad}
use Rattle.siman_scripts.specs.declared.part.ScriptPart.TheVariants as parts
use Rattle.siman_scripts.specs.declared.script.TheConstants.{LARGEST_SCRIPT}
use Rattle.siman_scripts.specs.declared.script_fault.ScriptFault.{ScriptFault}
use Rattle.siman_scripts.specs.declared.script_fault.ScriptFault.TheVariants.{BadLine}
use Rattle.siman_scripts.specs.declared.statement.Statement.{Statement}
use Rattle.siman_scripts.specs.declared.statement.Statement.TheVariants as says
use Rattle.siman_scripts.specs.declared.why.LineReason.{LineReason}
use Rattle.siman_scripts.specs.declared.why.CommandReason.{CommandReason}
use Rattle.siman_scripts.specs.declared.why.Why.{Why}
use Rattle.siman_scripts.specs.declared.why.Why.TheVariants as whys
use Rattle.byte_files.specs.Text.{lines_of}
use Rattle.siman_scripts.specs.Stations.{WorldStationData}
use Rattle.siman_scripts.specs.Statement.{statement_of}
use Rattle.siman_scripts.specs.Command.{command_said, command_of}
use Rattle.siman_scripts.specs.Draft.{DraftData, blank, wants_exercise, takes_stations, takes_outfits, takes_moves, is_at, index_of, last_address, last_number, opened_with, holding, knowing, with_station, with_changed, with_outfit, with_move, in_part, after}
use Rattle.siman_scripts.specs.Script.{ScriptData, after_if, line_after, unless_refused, lines_after, script_of, whole_after}
use Rattle.siman_scripts.specs.LineReason.{Told, line_reason}
use Rattle.siman_scripts.specs.Reason.{Refused, rising_reason, station_reason, opening_reason, known_reason, station_place, draft_reason, column_of, at_line, by_itself, said_reason, refusal_of, after_line, lines_reason, why_fault, fault_of, Explains, not_for_station, setup_reason, setup_form, by_line, unsaid_reason, command_reason}
use Rattle.siman_scripts.proofs.LineReasons.{line_has_reason}

-- the fault that the reason of a line explains
abbrev line_fault : {A : Type 0} → Option (A × Why) → Option ScriptLineFault
line_fault reason = option_map (λ r. why_fault r.1) reason

-- what refuses a line after the lines before it

part_late : (wants : Bool) (late : Why) → why_fault late ≡ Bad → why_fault (cond wants whys.BeforeExercise late) ≡ Bad
part_late true late h = refl
part_late false late h = h

in_its_part : (takes wants : Bool) (late : Why) (reason : Refused) (made : Result DraftData ScriptLineFault) → why_fault late ≡ Bad → line_fault reason ≡ result_err made
    → line_fault (cond takes reason (Some (0, cond wants whys.BeforeExercise late))) ≡ result_err (in_part takes made)
in_its_part true wants late reason made l h = h
in_its_part false wants late reason made l h = rw (part_late wants late l)

exercise_fault : (wants : Bool) (made : DraftData) → line_fault {A = ℕ} (cond wants None (Some (0, whys.SecondExercise))) ≡ result_err (in_part wants (Ok made))
exercise_fault true made = refl
exercise_fault false made = refl

below_fault : (below : Bool) (before : SiteApplication) (made : DraftData)
    → line_fault {A = ℕ} (cond below None (Some (1, whys.StationNotAbove before.site before.application))) ≡ result_err (cond below (Ok made) (Err Bad))
below_fault true before made = refl
below_fault false before made = refl

rising_fault : (before : Option SiteApplication) (a : SiteApplication) (made : DraftData) → line_fault (rising_reason before a) ≡ result_err (cond (is_above before a) (Ok made) (Err Bad))
rising_fault None a made = refl
rising_fault (Some before) a made = below_fault (is_below before a) before made

station_fault : (room : Bool) (before : Option SiteApplication) (a : SiteApplication) (made : DraftData)
    → line_fault (cond room (rising_reason before a) (Some (0, whys.TooManyStations))) ≡ result_err (cond (room && is_above before a) (Ok made) (Err Bad))
station_fault true before a made = rising_fault before a made
station_fault false before a made = refl

-- a station that is found is there
station_there : (a : SiteApplication) (ws : List WorldStationData) (i : ℕ) (d : WorldStationData) → index_of a ws ≡ Some i → slice_get ws i ≡ Some (get_or ws i d)
station_there a ws i d e =
    let p = position-Some (is_at a) ws i d e in
    slice_get-get_or ws i d p.0

-- a station is there, as far as one is needed to say so
pub found_station : (a : SiteApplication) (ws : List WorldStationData) (i : ℕ) → index_of a ws ≡ Some i → (w : WorldStationData) × (slice_get ws i ≡ Some w)
found_station a [] i e = cc
found_station a (w ∷ ws) i e = (get_or (w ∷ ws) i w, station_there a (w ∷ ws) i w e)

opened_fault : (d : DraftData) (i : ℕ) (number : ℕ) (opened : Option WorldStationData)
    → line_fault {A = ℕ} (cond (is_some opened) None (Some (2, whys.EntityNotAbove number))) ≡ result_err (with_changed d i opened)
opened_fault d i number None = refl
opened_fault d i number (Some w) = refl

opening_at : (d : DraftData) (i e : ℕ) (y : EntityState) (station : Option WorldStationData) → line_fault (opening_reason e y station) ≡ result_err (with_changed d i (option_and_then (opened_with e y) station))
opening_at d i e y None = refl
opening_at d i e y (Some w) = opened_fault d i (last_number 0 w.station.opening) (opened_with e y w)

opening_fault : (d : DraftData) (a : SiteApplication) (e : ℕ) (y : EntityState) (index : Option ℕ)
    → line_fault (known_reason 1 a (λ i. opening_reason e y (slice_get d.stations i)) index) ≡ result_err (with_outfit d (opened_with e y) index)
opening_fault d a e y None = refl
opening_fault d a e y (Some i) = opening_at d i e y (slice_get d.stations i)

-- a station that is there is changed
changed_fault : (d : DraftData) (a : SiteApplication) (change : WorldStationData → WorldStationData) (index : Option ℕ) → index_of a d.stations ≡ index
    → line_fault (known_reason 1 a (λ i. None) index) ≡ result_err (with_outfit d (λ w. Some (change w)) index)
changed_fault d a change None e = refl
changed_fault d a change (Some i) e =
    let found = found_station a d.stations i e in
    rw found.1

move_fault : (d : DraftData) (a : SiteApplication) (act : Act) (place : ℕ) (index : Option ℕ) → line_fault (known_reason place a (λ i. None) index) ≡ result_err (with_move d act index)
move_fault d a act place None = refl
move_fault d a act place (Some i) = refl

-- a statement is refused for a reason, and it is that of its fault
draft_fault : (d : DraftData) (s : Statement) → line_fault (draft_reason d s) ≡ result_err (after d s)
draft_fault d says.Nothing = refl
draft_fault d (says.Exercise x) = exercise_fault (wants_exercise d.part) (record d { part = parts.Stations; exercise = x })
draft_fault d (says.Station a rules) =
    in_its_part (takes_stations d.part) (wants_exercise d.part) whys.LateStation (station_reason d.stations a)
    (cond (nat_lt (length d.stations) 256 && is_above (last_address d.stations) a) (Ok (with_station d a rules)) (Err Bad)) refl
    (station_fault (nat_lt (length d.stations) 256) (last_address d.stations) a (with_station d a rules))
draft_fault d (says.Opening a e y) =
    in_its_part (takes_outfits d.part) (wants_exercise d.part) whys.LateOutfit _ (with_outfit d (opened_with e y) (index_of a d.stations)) refl
    (opening_fault d a e y (index_of a d.stations))
draft_fault d (says.Fixed a datum) =
    in_its_part (takes_outfits d.part) (wants_exercise d.part) whys.LateOutfit _ (with_outfit d (λ w. Some (holding datum w)) (index_of a d.stations)) refl
    (changed_fault d a (holding datum) (index_of a d.stations) refl)
draft_fault d (says.Action a id) =
    in_its_part (takes_outfits d.part) (wants_exercise d.part) whys.LateOutfit _ (with_outfit d (λ w. Some (knowing id w)) (index_of a d.stations)) refl
    (changed_fault d a (knowing id) (index_of a d.stations) refl)
draft_fault d (says.At now) = in_its_part (takes_moves d.part) (wants_exercise d.part) whys.BeforeExercise None (Ok (record d { part = parts.Moves; clock = now })) refl refl
draft_fault d (says.Does a act) =
    in_its_part (takes_moves d.part) (wants_exercise d.part) whys.BeforeExercise _ (with_move d act (index_of a d.stations)) refl
    (move_fault d a act (station_place act) (index_of a d.stations))

-- one line

itself_fault : (told : Told) → is_none told ≡ false → line_fault (by_itself told) ≡ Some Bad
itself_fault None h = cc
itself_fault (Some r) h = refl

placed_fault : (line : List ℕ) (reason : Refused) → line_fault (option_map (λ r. (column_of line r.0, r.1)) reason) ≡ line_fault reason
placed_fault line None = refl
placed_fault line (Some r) = refl

said_fault : (d : DraftData) (line : List ℕ) (said : Option Statement) → is_none (line_reason line) ≡ is_some said → line_fault (said_reason d line said) ≡ result_err (after_if d said)
said_fault d line None h = itself_fault (line_reason line) h
said_fault d line (Some s) h = placed_fault line (draft_reason d s) ∙ draft_fault d s

refusal_fault : (d : DraftData) (line : List ℕ) → line_fault (refusal_of d line) ≡ result_err (line_after d line)
refusal_fault d line = said_fault d line (statement_of line) (line_has_reason line)

-- all lines

ending : (wants some : Bool) (d : DraftData) (n : ℕ)
    → result_err {T = ScriptData} (cond (not wants && some) (Ok (script_of d)) (Err (BadLine (n + 1))))
    ≡ option_map fault_of (cond wants (Some (record { line = n + 1; column = 0; why = whys.NoExercise })) (cond some None (Some (record { line = n + 1; column = 0; why = whys.NoStation }))))
ending true true d n = refl
ending true false d n = refl
ending false true d n = refl
ending false false d n = refl

going_on : (m n : ℕ) (r : Result DraftData ScriptLineFault) (o : Option (ℕ × Why)) (next : DraftData → Result DraftData ScriptFault) (told : DraftData → Option LineReason)
    → line_fault o ≡ result_err r → ((e : DraftData) → result_err (whole_after m (next e)) ≡ option_map fault_of (told e))
    → result_err (whole_after m (unless_refused n r next)) ≡ option_map fault_of (option_or (option_map (at_line n) o) (after_line r told))
going_on m n (Ok e) None next told h ih = ih e
going_on m n (Ok e) (Some x) next told h ih = cc
going_on m n (Err f) None next told h ih = cc
going_on m n (Err f) (Some x) next told h ih =
    let same : why_fault x.1 ≡ f = cc in
    rw same

lines_explained : (d : DraftData) (n m : ℕ) (ls : List (List ℕ)) → m ≡ n + length ls → result_err (whole_after m (lines_after d n ls)) ≡ option_map fault_of (lines_reason d n ls)
lines_explained d n m [] e =
    let same : m ≡ n = omega arith in
    rw same (ending (wants_exercise d.part) (nat_lt 0 (length d.stations)) d n)
lines_explained d n m (l ∷ ls) e =
    going_on m (n + 1) (line_after d l) (refusal_of d l) (λ x. lines_after x (n + 1) ls) (λ x. lines_reason x (n + 1) ls) (refusal_fault d l)
    (λ x. lines_explained x (n + 1) m ls (omega arith))

explained_if : (long : Bool) (read : Result ScriptData ScriptFault) (told : Option LineReason) → result_err read ≡ option_map fault_of told
    → result_err (cond long (Err (BadLine 0)) read) ≡ option_map fault_of (cond long (Some (record { line = 0; column = 0; why = whys.TooLong })) told)
explained_if true read told h = refl
explained_if false read told h = h

-- A TEXT HAS A FIRST REASON OR IS A SCRIPT
pub explained : (text : List ℕ) → Explains text
explained text =
    explained_if (nat_lt LARGEST_SCRIPT (length text)) (whole_after (length (lines_of text)) (lines_after blank 0 (lines_of text))) (lines_reason blank 0 (lines_of text))
    (lines_explained blank 0 (length (lines_of text)) (lines_of text) (sym (zero-add (length (lines_of text)))))

-- Lines that are typed for a station.

said_or_not : (s : Statement) → is_none (option_map not_for_station (setup_form s)) ≡ is_some (command_said s)
said_or_not says.Nothing = refl
said_or_not (says.Exercise x) = refl
said_or_not (says.Station a rules) = refl
said_or_not (says.Opening a e y) = refl
said_or_not (says.Fixed a datum) = refl
said_or_not (says.Action a id) = refl
said_or_not (says.At now) = refl
said_or_not (says.Does a (acts.Command order)) = refl
said_or_not (says.Does a (acts.Deliver place)) = refl
said_or_not (says.Does a acts.Tick) = refl
said_or_not (says.Does a (acts.Tell e)) = refl

by_line_told : (o : Option CommandReason) (told : Told) → is_none told ≡ false → is_none (option_or o (by_line told)) ≡ false
by_line_told None None h = cc
by_line_told None (Some r) h = refl
by_line_told (Some x) told h = refl

ordered_or_not : (line : List ℕ) (said : Option Statement) → is_none (line_reason line) ≡ is_some said → is_none (unsaid_reason line said) ≡ is_some (option_and_then command_said said)
ordered_or_not line None h = by_line_told (setup_reason line) (line_reason line) h
ordered_or_not line (Some s) h = said_or_not s

-- A LINE HAS A REASON OR IS AN ORDER
pub order_explained : (line : List ℕ) → is_none (command_reason line) ≡ is_some (command_of line)
order_explained line = ordered_or_not line (statement_of line) (line_has_reason line)
