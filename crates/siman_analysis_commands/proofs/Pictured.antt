-- The picture of a good certificate, and why one of some steps was not drawn.
use Rattle.std.proofs.Common.{◌≡◌, ◌≢◌, ◌≤◌, ℕ, ◌+◌, List, [], Option, Some, None, Result, Ok, Err, inl, inr, length, map, arith}
use Rattle.std.specs.Prelude.{◌⊎◌, min, OnOk}
use Rattle.std.specs.Option.{option_map_or}
use Rattle.std.proofs.Math.Nat.{min-le_left}
use Rattle.exercise_model.specs.Recording.{PlainRecording, IsRecording}
use Rattle.exercise_check.specs.declared.certificate.Step.{Step}
use Rattle.exercise_audit.specs.declared.blocks.Block.{Block}
use Rattle.exercise_audit.specs.Longest.{IsLongest}
use Rattle.exercise_conflict.specs.Blocked.{blocked_lines}
use Rattle.siman_print.specs.Spelled.{lines_text}
use Rattle.dis_records.specs.declared.address.SiteApplication.{SiteApplication}
use Rattle.dis_records.specs.declared.entity.EntityId.{EntityId}
use Rattle.exercise_chart.specs.declared.clock.ClockUnit.{ClockUnit}
use Rattle.exercise_chart.specs.declared.fault.ChartFault.{ChartFault}
use Rattle.exercise_chart.specs.declared.fault.ChartFault.TheVariants as charts
use Rattle.exercise_chart.specs.declared.point.Rows.{Rows}
use Rattle.exercise_chart.specs.declared.selection.BlockedEntry.{BlockedEntry}
use Rattle.exercise_chart.specs.Marks.{marks_of}
use Rattle.siman_outside.specs.declared.fault.Fault.{Fault}
use Rattle.siman_outside.specs.declared.fault.Fault.TheVariants.{Memory}
use Rattle.siman_analysis_commands.specs.declared.chart_words.Window.{Window}
use Rattle.siman_analysis_commands.specs.declared.picture.PictureTexts.{PictureTexts}
use Rattle.siman_analysis_commands.specs.ChartWords.{entities_of, past_of, unknown_of, end_in, AreShown}
use Rattle.siman_analysis_commands.specs.Picture.{HasTexts, IsUndrawn, Pictures, of_chart}
use Rattle.siman_analysis_commands.specs.Chart.{IsCertified, ShowsRun, ChartsRun, entry_of, ChartsAlone}

-- the limit that it passes, or want of memory
pub not_drawn : (words : List (List ℕ)) (window : Window) (r : PlainRecording) (steps : List Step) (rows : Rows) (entities : List EntityId)
    (stations : List SiteApplication) (clock : Option ClockUnit) (blocked : List BlockedEntry) (before : Option (List ℕ)) (fault : ChartFault) (told : Fault)
    → past_of (length steps) words ≡ None → unknown_of r words ≡ None → AreShown window (length steps) rows
    → HasTexts r steps rows entities stations clock blocked before (Err fault) → told ≡ of_chart fault
    → IsUndrawn words window r steps told ⊎ (told ≡ Memory)
not_drawn words window r steps rows entities stations clock blocked before charts.OverLimit told within recorded shown over is =
    inl (inr (inr (rows, within, recorded, shown, over, is)))
not_drawn words window r steps rows entities stations clock blocked before charts.Memory told within recorded shown over is = inr is

-- the last step that is shown is one of them
end_within : (w : Window) (steps : ℕ) → end_in w steps ≤ steps
end_within w steps = by w.to
  where
    by : (o : Option ℕ) → option_map_or (λ to. min steps (to + 1)) o steps ≤ steps
    by None = omega arith
    by (Some to) = min-le_left steps (to + 1)

-- THE PICTURE OF A GOOD CERTIFICATE, whose marks show a run
pub run_drawn : (words : List (List ℕ)) (window : Window) (r : PlainRecording) (steps : List Step) → IsCertified r steps
    → (IsRecording r → (rows : Rows) → rows.end ≤ length steps → ShowsRun r steps rows (marks_of r steps rows (entities_of words) []))
    → (result : Result PictureTexts Fault) → Pictures words window r steps [] None result → OnOk result (IsRecording r)
    → ChartsRun words window r steps result
run_drawn words window r steps certified shows (Ok texts) pictured limits =
    let shown = pictured.0.shown in
    let last = end_within window (length steps) in
    record {
      certified = certified;
      drawn = pictured.0;
      run = shows limits pictured.0.rows (omega (arith, shown.end, last));
      status_is = pictured.1;
    }
run_drawn words window r steps certified shows (Err fault) (inl undrawn) limits = inl (certified, undrawn)
run_drawn words window r steps certified shows (Err fault) (inr memory) limits = inr memory

-- THE PICTURE OF THE LONGEST RUN, which some stations cannot go on after
pub longest_drawn : (words : List (List ℕ)) (window : Window) (r : PlainRecording) (steps : List Step) (blocks : List Block) → IsLongest r steps blocks
    → blocks ≢ [] → (result : Result PictureTexts Fault)
    → Pictures words window r steps (map entry_of blocks) (Some (lines_text (blocked_lines r blocks))) result → ChartsAlone words window r result
longest_drawn words window r steps blocks longest some (Ok texts) pictured =
    inr (record { steps = steps; blocks = blocks; longest = longest; some = some; drawn = pictured.0; status_is = pictured.1 })
longest_drawn words window r steps blocks longest some (Err fault) (inl undrawn) = inl (steps, blocks, longest, undrawn)
longest_drawn words window r steps blocks longest some (Err fault) (inr memory) = inr memory
