use Rattle.std.proofs.Common.{ap, sym, drop, ◌++◌, ◌∙◌}
use Rattle.exercise_recording.specs.Captures.Import.{MadeData}
use Rattle.exercise_recording.specs.Reading.{recording_at}
use Rattle.siman_outside.specs.declared.limits.TheConstants.{LARGEST_RECORDING}
use Rattle.siman_exercise_commands.specs.Import.{assumed_as_read, assuming_head, counted_line, assumed_lines}
use Rattle.siman_exercise_commands.proofs.Imported.{as_assumed}
use Rattle.siman_exercise_commands.proofs.imported_file.file_if_short.Goals as goal

pub returns : goal.returns
returns c =
    let entities = c.in_ok-entities.entities.items in
    let o = c.args.station.now in
    as_assumed c.args.rule.now o c.args.made c.in_ok-file.file entities
    (c.in_ok-entities.ensures ∙ ap (λ bytes. assumed_as_read (recording_at LARGEST_RECORDING bytes)) (c.deref.ensures.value ∙ ap (λ (m : MadeData). m.text) c.made.view_is))
    c.in_ok-file.ensures.made
    (c.in_ok-file.ensures.text ∙ ap (λ es. assuming_head c.args.rule.now.exercise o es ++ drop c.args.made.start c.args.made.text) c.deref-2.ensures.value)
    (c.in_ok-file.ensures.line ∙ ap (λ es. counted_line c.args.made ++ assumed_lines o.address es) c.deref-2.ensures.value)
    (sym c.is_too_long.ensures ∙ c.if-is_too_long.false)
