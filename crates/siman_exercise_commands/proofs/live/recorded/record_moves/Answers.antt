-- The recording was started, and the moves were made; or it was not.
use Rattle.std.proofs.Common.{◌≡◌, refl, ap, inl, inr, ◌∙◌}
use Rattle.byte_files.specs.Writing.{WritesPart}
use Rattle.exercise_model.specs.Setting.{SettingData}
use Rattle.exercise_recording.specs.declared.fault.WriterFault.TheVariants.{Write}
use Rattle.exercise_recording.specs.Text.{head_text}
use Rattle.exercise_recording.specs.Writer.{Starts, start_refusal, unless_write}
use Rattle.siman_outside.specs.declared.fault.Fault.TheVariants.{Output}
use Rattle.siman_exercise_commands.proofs.Lived.{as_setting, part_of_head, unstarted, performed_is_recorded}
use Rattle.siman_exercise_commands.proofs.live.recorded.record_moves.Goals as goal

pub returns-clause-records : goal.returns-clause-records
returns-clause-records g c =
    let same = c.setting-setting.ensures.setting in
    inr (
      c.in-Ok.recorder,
      c.end_moves-entries.new.recorder,
      as_setting (λ w. Starts (g.F.Write.contents c.args.file) w c.in-Ok.recorder) c.args.head.now.setting c.form.result c.exercise.result c.stations.result.now
          (c.form.ensures ∙ ap (λ (w : SettingData). w.form) same) (c.exercise.ensures ∙ ap (λ (w : SettingData). w.exercise) same)
          (c.stations.ensures.items ∙ ap (λ (w : SettingData). w.stations) same) c.in-Ok.ensures.head,
      c.into_inner-file.ensures,
      c.end_moves-entries.ensures,
    )

pub returns-clause-recorded : goal.returns-clause-recorded
returns-clause-recorded g c =
    let same = c.setting-setting.ensures.setting in
    performed_is_recorded _ (g.F.Write.contents c.args.file) (g.F.Write.contents c.into_inner-file.result) c.args.head.now.setting c.in-Ok.recorder
    c.end_moves-entries.new.recorder c.args.stations.now.items c.end_moves-entries.new.stations.items c.args.moves.items c.end_moves-entries.result
    (c.requires c.setting-setting.ensures.limits)
    (as_setting (λ w. Starts (g.F.Write.contents c.args.file) w c.in-Ok.recorder) c.args.head.now.setting c.form.result c.exercise.result c.stations.result.now
    (c.form.ensures ∙ ap (λ (w : SettingData). w.form) same) (c.exercise.ensures ∙ ap (λ (w : SettingData). w.exercise) same)
    (c.stations.ensures.items ∙ ap (λ (w : SettingData). w.stations) same) c.in-Ok.ensures.head)
    c.into_inner-file.ensures c.end_moves-entries.ensures

pub returns-in-Err-clause-records : goal.returns-in-Err-clause-records
returns-in-Err-clause-records g c =
    let same = c.setting-setting.ensures.setting in
    let form = c.form.ensures ∙ ap (λ (w : SettingData). w.form) same in
    let exercise = c.exercise.ensures ∙ ap (λ (w : SettingData). w.exercise) same in
    let stations = c.stations.ensures.items ∙ ap (λ (w : SettingData). w.stations) same in
    inl (
      refl,
      refl,
      unstarted c.args.head.now.setting (g.F.Write.contents c.args.file) (g.F.Write.contents c.in-Err.unstarted.writer) c.in-Err.unstarted.fault
          c.setting-setting.ensures.limits
          (as_setting (λ w. start_refusal w ≡ unless_write c.in-Err.unstarted.fault) c.args.head.now.setting c.form.result c.exercise.result c.stations.result.now form
          exercise stations c.in-Err.ensures.refused)
          (as_setting (λ w. c.in-Err.unstarted.fault ≡ Write → WritesPart (g.F.Write.contents c.args.file) (g.F.Write.contents c.in-Err.unstarted.writer) (head_text w))
          c.args.head.now.setting c.form.result c.exercise.result c.stations.result.now form exercise stations c.in-Err.ensures.torn),
    )

pub returns-in-Err-clause-recorded : goal.returns-in-Err-clause-recorded
returns-in-Err-clause-recorded g c =
    let same = c.setting-setting.ensures.setting in
    let form = c.form.ensures ∙ ap (λ (w : SettingData). w.form) same in
    let exercise = c.exercise.ensures ∙ ap (λ (w : SettingData). w.exercise) same in
    let stations = c.stations.ensures.items ∙ ap (λ (w : SettingData). w.stations) same in
    part_of_head c.args.head.now.setting (g.F.Write.contents c.args.file) (g.F.Write.contents c.in-Err.unstarted.writer) Output c.setting-setting.ensures.limits
    (unstarted c.args.head.now.setting (g.F.Write.contents c.args.file) (g.F.Write.contents c.in-Err.unstarted.writer) c.in-Err.unstarted.fault
    c.setting-setting.ensures.limits
    (as_setting (λ w. start_refusal w ≡ unless_write c.in-Err.unstarted.fault) c.args.head.now.setting c.form.result c.exercise.result c.stations.result.now form
    exercise stations c.in-Err.ensures.refused)
    (as_setting (λ w. c.in-Err.unstarted.fault ≡ Write → WritesPart (g.F.Write.contents c.args.file) (g.F.Write.contents c.in-Err.unstarted.writer) (head_text w))
    c.args.head.now.setting c.form.result c.exercise.result c.stations.result.now form exercise stations c.in-Err.ensures.torn))
