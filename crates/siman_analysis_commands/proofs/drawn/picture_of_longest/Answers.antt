-- The rows before the answer are the blocked list, and the entries are those of the blocks.
use Rattle.std.proofs.Common.{ℕ, List, Some, map, ◌∙◌, subst, ◌≡◌, ap, ◌++◌}
use Rattle.exercise_chart.specs.declared.selection.BlockedEntry.{BlockedEntry}
use Rattle.exercise_conflict.specs.Blocked.{blocked_lines}
use Rattle.siman_print.specs.Spelled.{lines_text}
use Rattle.siman_analysis_commands.specs.Chart.{entry_of}
use Rattle.siman_analysis_commands.specs.Picture.{Pictures}
use Rattle.siman_analysis_commands.proofs.Pictured.{longest_drawn}
use Rattle.siman_analysis_commands.proofs.drawn.picture_of_longest.Goals as goal

pub returns : goal.returns
returns g c =
    let r = g.L.ExerciseLog.recording c.args.log.now in
    let words : List (List ℕ) = map (λ word. word.now) c.args.command.now.words.now in
    let window = c.args.command.now.window in
    let steps = c.args.steps.now in
    let blocks = c.args.blocks.now in
    let said : c.as_str.result.now ≡ lines_text (blocked_lines r blocks) =
    c.as_str.ensures.value ∙ c.in_ok-put_blocked.ensures ∙ ap (λ (xs : List ℕ). xs ++ lines_text (blocked_lines r blocks)) c.new-rows.ensures.bytes in
    let listed : c.deref.result.now ≡ map entry_of blocks = c.deref.ensures.value ∙ c.in_ok-blocked.ensures in
    longest_drawn words window r steps blocks c.requires.longest c.requires.some c.picture_of.result
    (subst (λ (xs : List BlockedEntry). Pictures words window r steps xs (Some (lines_text (blocked_lines r blocks))) c.picture_of.result) listed
    (subst (λ (text : List ℕ). Pictures words window r steps c.deref.result.now (Some text) c.picture_of.result) said c.picture_of.ensures.picture))
