-- The recording was started, and what the stations did is written; or it was not.
use Rattle.std.proofs.Common.{◌≡◌, ap, subst, sym, ◌∙◌, inl, inr}
use Rattle.std.specs.Prelude.{Option, List, ℕ}
use Rattle.byte_files.specs.Writing.{WritesPart}
use Rattle.exercise_model.specs.Setting.{SettingData}
use Rattle.exercise_recording.specs.declared.fault.WriterFault.TheVariants.{Write}
use Rattle.exercise_recording.specs.Text.{head_text}
use Rattle.exercise_recording.specs.Writer.{Starts, start_refusal, unless_write}
use Rattle.siman_trials.specs.Recorded.{Leaves}
use Rattle.siman_trials.proofs.Ends.{as_setting, not_started}
use Rattle.siman_trials.proofs.recorded.record_at_lines.Goals as goal

pub returns-clause-records : goal.returns-clause-records
returns-clause-records g c =
    let same = c.setting-setting.ensures.setting in
    inr (record {
      first = c.in-Ok.recorder;
      last = record { stations = c.end_moves-ended.new.stations.items; recorder = c.end_moves-ended.new.recorder };
      starts = as_setting (λ v. Starts (g.W.Write.contents c.args.file) v c.in-Ok.recorder) c.args.head.now.setting
          (record { form = c.form.result; exercise = c.exercise.result; stations = c.stations.result.now })
          (c.form.ensures ∙ ap (λ (v : SettingData). v.form) same) (c.exercise.ensures ∙ ap (λ (v : SettingData). v.exercise) same)
          (c.stations.ensures.items ∙ ap (λ (v : SettingData). v.stations) same) c.in-Ok.ensures.head;
      performs = c.end_moves-ended.ensures.performs;
      file = c.into_inner-file.ensures;
    })

pub returns-clause-leaves : goal.returns-clause-leaves
returns-clause-leaves g c = λ fresh.
    let same = c.setting-setting.ensures.setting in
    let w = c.args.head.now.setting in
    subst (λ (o : Option (List ℕ)). Leaves w (g.W.Write.contents c.args.file) o c.end_moves-ended.result) (sym c.into_inner-file.ensures)
    (c.end_moves-ended.ensures.leaves (g.W.Write.contents c.args.file) w (fresh c.setting-setting.ensures.limits)
    (as_setting (λ v. Starts (g.W.Write.contents c.args.file) v c.in-Ok.recorder) w
    (record { form = c.form.result; exercise = c.exercise.result; stations = c.stations.result.now })
    (c.form.ensures ∙ ap (λ (v : SettingData). v.form) same) (c.exercise.ensures ∙ ap (λ (v : SettingData). v.exercise) same)
    (c.stations.ensures.items ∙ ap (λ (v : SettingData). v.stations) same) c.in-Ok.ensures.head))

pub returns-in-Err-clause-records : goal.returns-in-Err-clause-records
returns-in-Err-clause-records g c =
    let same = c.setting-setting.ensures.setting in
    let started : SettingData = record { form = c.form.result; exercise = c.exercise.result; stations = c.stations.result.now } in
    let form = c.form.ensures ∙ ap (λ (v : SettingData). v.form) same in
    let exercise = c.exercise.ensures ∙ ap (λ (v : SettingData). v.exercise) same in
    let stations = c.stations.ensures.items ∙ ap (λ (v : SettingData). v.stations) same in
    inl (
      as_setting (λ v. start_refusal v ≡ unless_write c.in-Err.unstarted.fault) c.args.head.now.setting started form exercise stations c.in-Err.ensures.refused,
      c.in-Err.ensures.unchanged,
      as_setting (λ v. c.in-Err.unstarted.fault ≡ Write → WritesPart (g.W.Write.contents c.args.file) (g.W.Write.contents c.in-Err.unstarted.writer) (head_text v))
          c.args.head.now.setting started form exercise stations c.in-Err.ensures.torn,
    )

pub returns-in-Err-clause-leaves : goal.returns-in-Err-clause-leaves
returns-in-Err-clause-leaves g c = λ fresh.
    let same = c.setting-setting.ensures.setting in
    let w = c.args.head.now.setting in
    not_started w (g.W.Write.contents c.args.file) (g.W.Write.contents c.in-Err.unstarted.writer) c.in-Err.unstarted.fault c.setting-setting.ensures.limits
    c.in-Err.ensures.unchanged
    (as_setting (λ v. c.in-Err.unstarted.fault ≡ Write → WritesPart (g.W.Write.contents c.args.file) (g.W.Write.contents c.in-Err.unstarted.writer) (head_text v)) w
    (record { form = c.form.result; exercise = c.exercise.result; stations = c.stations.result.now })
    (c.form.ensures ∙ ap (λ (v : SettingData). v.form) same) (c.exercise.ensures ∙ ap (λ (v : SettingData). v.exercise) same)
    (c.stations.ensures.items ∙ ap (λ (v : SettingData). v.stations) same) c.in-Err.ensures.torn)
