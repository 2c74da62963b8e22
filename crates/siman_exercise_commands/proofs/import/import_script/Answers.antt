use Rattle.std.proofs.Common.{ap, sym, subst, ◌∙◌}
use Rattle.siman_scripts.specs.Script.{ScriptData}
use Rattle.siman_operator.specs.Scripted.{station_at}
use Rattle.siman_exercise_commands.specs.Explained.{text_read}
use Rattle.siman_exercise_commands.specs.Import.{importing_of, rule_of, opened_as, GivesFile}
use Rattle.siman_exercise_commands.proofs.Imported.{imports_by}
use Rattle.siman_exercise_commands.proofs.import.import_script.Goals as goal

pub returns-in-Some : goal.returns-in-Some
returns-in-Some g c =
    let i = importing_of c.args.importing.now in
    let w = c.in-Some.found in
    let capture = g.C.Read.remaining c.args.capture in
    imports_by i (text_read c.args.text.now) c.args.script w capture c.import_station.result c.requires
    (ap (λ (s : ScriptData). station_at i.address s.stations) (sym c.script.view_is) ∙ sym c.station_at.ensures ∙ c.in-Some.is)
    (subst (λ (s : ScriptData). GivesFile i.choices.opening (rule_of s.exercise i) (opened_as i.choices.opening w.station) i.choices.interface capture c.import_station.result) c.script.view_is c.import_station.ensures)
