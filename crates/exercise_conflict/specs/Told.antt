-- All rows of a recording that no run explains, and of a refused certificate, and the entries that they name.
use Rattle.std.specs.Prelude.{◌<◌, ℕ, List, [], ◌∷◌, ◌++◌, map, length, slice_get, All, Option}
use Rattle.std.specs.List.{flat_map}
use Rattle.std.specs.Option.{option_map_or, option_to_list}
use Rattle.exercise_model.specs.Recording.{PlainRecording}
use Rattle.exercise_model.specs.History.{event_of, station_of}
use Rattle.exercise_audit.specs.declared.blocks.Block.{Block}
use Rattle.exercise_conflict.specs.declared.way.Also.{Also}
use Rattle.exercise_conflict.specs.declared.clash.Clash.{Clash}
use Rattle.exercise_conflict.specs.declared.clash.Clash.TheVariants as clashes
use Rattle.exercise_conflict.specs.declared.conflict.Conflict.{Conflict}
use Rattle.exercise_conflict.specs.declared.lacks.MissingSend.{MissingSend}
use Rattle.exercise_conflict.specs.declared.step_clash.StepClash.{StepClash}
use Rattle.exercise_conflict.specs.declared.step_clash.StepClash.TheVariants as steps
use Rattle.exercise_conflict.specs.declared.verdict.Refusal.{Refusal}
use Rattle.exercise_conflict.specs.declared.way.Way.{Way}
use Rattle.exercise_conflict.specs.declared.way.Way.TheVariants as ways
use Rattle.siman_print.specs.declared.spelling.Spelling.{Spelling}
use Rattle.siman_print.specs.Line.{Line}
use Rattle.siman_print.specs.Spelled.{lines_spelled}
use Rattle.exercise_check.specs.Report.{no_line}
use Rattle.exercise_conflict.specs.declared.blocked.TheConstants.{CAUSES}
use Rattle.exercise_conflict.specs.Blocked.{blocked_lines, rule_lines}
use Rattle.exercise_conflict.specs.Lines.{rule_line, way_lines, cycle_line, also_line, missing_line, repair_line, fault_line, step_clash_line, IsOfWayStations}

-- the index of the station of entry i
abbrev pub station_at_entry : PlainRecording → ℕ → ℕ
station_at_entry r i = option_map_or (λ e. station_of (event_of e)) (slice_get r.entries i) 0

-- the row of a further cause against an entry
abbrev pub further_line : PlainRecording → Also → Line
further_line r a = also_line r a.entry (station_at_entry r a.entry) a.cause

-- THE ROWS OF A CONFLICT: the blocked list; the rules that it breaks; by station the wait or contradiction; the cycles; the further causes; the missing sends, and whether adding these is enough
unfoldable pub conflict_lines : PlainRecording → Conflict → List Line
conflict_lines r c =
    blocked_lines r c.blocks.items ++ rule_lines c.blocks.items CAUSES ++ flat_map (way_lines r) c.ways.items
    ++ map (λ v. cycle_line r v.items) c.cycles.items ++ map (further_line r) c.also.items ++ map (missing_line r) c.lacks.items
    ++ repair_line c.repair ∷ []

-- THE ROWS OF A REFUSED CERTIFICATE: its first bad step, the rule that this breaks, its contradiction, and what is at fault
unfoldable pub refusal_lines : PlainRecording → Refusal → List Line
refusal_lines r f =
    no_line f.step f.cause ∷ rule_line f.cause ∷ (map (step_clash_line r) (option_to_list f.clash) ++ fault_line f.fault ∷ [])

-- ---- the entries that these rows name

abbrev pub clash_entries : Clash → List ℕ
clash_entries (clashes.WrongSender from s) = []
clash_entries (clashes.ReusedIdentifier earlier differs) = earlier ∷ []
clash_entries (clashes.NoRequest later overheard sent) = option_to_list later ++ option_to_list overheard ++ option_to_list sent
clash_entries (clashes.WrongAnswer earlier differs) = earlier ∷ []
clash_entries (clashes.ChangedAnswer earlier) = earlier ∷ []
clash_entries (clashes.Impossible earlier s n state change) = earlier ∷ option_to_list change
clash_entries (clashes.Stranger from) = []
clash_entries (clashes.NeverSent from sent near differs) = option_to_list sent ++ option_to_list near
clash_entries (clashes.WrongState s n state change) = option_to_list change

-- all but those given as a link, and numbers that are no entry of the recording
abbrev pub step_clash_entries : StepClash → List ℕ
step_clash_entries (steps.CountDiffers count records missing twice) = option_to_list missing ++ option_to_list twice
step_clash_entries (steps.NoSuchRecord place records) = []
step_clash_entries (steps.OutOfOrder place taken next) = place ∷ option_to_list next
step_clash_entries (steps.BadLink place link right) = place ∷ option_to_list right
step_clash_entries (steps.Event entry clash step) = entry ∷ clash_entries clash

abbrev pub way_entries : Way → List ℕ
way_entries (ways.Waits w) = w.entry ∷ w.sent ∷ w.next ∷ []
way_entries (ways.Clash entry clash final) = entry ∷ clash_entries clash

abbrev pub missing_send_entries : MissingSend → List ℕ
missing_send_entries l = l.entry ∷ option_to_list l.missing.after

-- THE ENTRIES THAT ARE NAMED by the rows of a conflict, and by those of a refused certificate
unfoldable pub conflict_entries : Conflict → List ℕ
conflict_entries c =
    map (λ (b : Block). b.entry) c.blocks.items ++ flat_map way_entries c.ways.items ++ map (λ (a : Also). a.entry) c.also.items
    ++ flat_map missing_send_entries c.lacks.items

unfoldable pub refusal_entries : Refusal → List ℕ
refusal_entries f = flat_map step_clash_entries (option_to_list f.clash)

-- ---- their stations

-- THE STATIONS AND ENTRIES that the rows name are those of the recording
pub record AreOfStations (r : PlainRecording) (c : Conflict) : Type 0 where
  pub blocks : All (λ (b : Block). b.station < length r.setting.stations) c.blocks.items
  pub ways : All (IsOfWayStations r) c.ways.items
  pub cycles : All (λ v. All (λ s. s < length r.setting.stations) v.items) c.cycles.items
  pub also : All (λ (a : Also). a.entry < length r.entries) c.also.items
  pub lacks : All (λ (l : MissingSend). l.missing.sender < length r.setting.stations) c.lacks.items
