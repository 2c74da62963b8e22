-- What the words choose was drawn, or not.
use Rattle.std.proofs.Common.{ℕ, List, Ok, Option, map, option_map, subst}
use Rattle.dis_records.specs.declared.address.SiteApplication.{SiteApplication}
use Rattle.dis_records.specs.declared.entity.EntityId.{EntityId}
use Rattle.exercise_chart.specs.declared.selection.BlockedEntry.{BlockedEntry}
use Rattle.siman_analysis_commands.specs.ChartWords.{entities_of, stations_of}
use Rattle.siman_analysis_commands.specs.Picture.{HasTexts}
use Rattle.siman_analysis_commands.proofs.Pictured.{not_drawn}
use Rattle.siman_analysis_commands.proofs.picture.selected.Goals as goal

pub returns-in-Ok-clause-picture : goal.returns-in-Ok-clause-picture
returns-in-Ok-clause-picture g c =
    let r = g.L.ExerciseLog.recording c.args.log.now in
    let words : List (List ℕ) = map (λ word. word.now) c.args.command.now.words.now in
    let steps = c.args.drawn.now.steps.now in
    let rows = c.rows_in-rows.result in
    let clock = c.args.command.now.window.clock in
    let before : Option (List ℕ) = option_map (λ text. text.now) c.args.drawn.now.before in
    let texts = c.in-Ok.texts in
    let entities = subst (λ (xs : List EntityId). HasTexts r steps rows xs c.args.stations.now clock c.blocked_shown.result.now before (Ok texts)) c.requires.entities
    c.in-Ok.ensures.texts in
    let stations = subst (λ (xs : List SiteApplication). HasTexts r steps rows (entities_of words) xs clock c.blocked_shown.result.now before (Ok texts)) c.requires.stations
    entities in
    let has = subst (λ (xs : List BlockedEntry). HasTexts r steps rows (entities_of words) (stations_of words) clock xs before (Ok texts)) c.blocked_shown.ensures stations in (
      record {
        within = c.requires.within;
        recorded = c.requires.recorded;
        rows = rows;
        shown = c.rows_in-rows.ensures.shown;
        few = c.in-Ok.ensures.few;
        texts = has.0;
      },
      has.1,
    )

pub returns-in-Err-clause-picture : goal.returns-in-Err-clause-picture
returns-in-Err-clause-picture g c =
    not_drawn (map (λ word. word.now) c.args.command.now.words.now) c.args.command.now.window (g.L.ExerciseLog.recording c.args.log.now) c.args.drawn.now.steps.now
    c.rows_in-rows.result c.args.entities.now c.args.stations.now c.args.command.now.window.clock c.blocked_shown.result.now
    (option_map (λ text. text.now) c.args.drawn.now.before) c.in-Err.fault c.of_chart.result c.requires.within c.requires.recorded c.rows_in-rows.ensures.shown
    c.in-Err.ensures.texts c.of_chart.ensures
