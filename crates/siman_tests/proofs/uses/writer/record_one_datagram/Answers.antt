-- Three calls: the head, the entry, the end.
use Rattle.std.proofs.Common.{Option, List, ℕ, [], ◌∷◌, refl, subst, sym}
use Rattle.std.specs.Io.KnownBytes.{Appends}
use Rattle.exercise_model.specs.declared.form.Form.TheVariants.{First}
use Rattle.exercise_model.specs.Entry.{Sent}
use Rattle.exercise_model.specs.Setting.{SettingData}
use Rattle.exercise_recording.specs.Text.{recording_text}
use Rattle.siman_tests.proofs.uses.writer.record_one_datagram.Goals as goal

pub returns : goal.returns
returns g c =
    let w : SettingData = record { form = First; exercise = c.args.exercise; stations = c.args.stations.now } in
    let entries = Sent 0 c.args.stamp c.args.datagram.now ∷ [] in
    let held = g.W.Write.contents c.args.file in
    subst (λ (o : Option (List ℕ)). Appends held o (recording_text (record { setting = w; entries = entries }))) (sym c.into_inner.ensures)
    (c.calls_write_the_text.ensures w entries held c.in_ok-recorder.recorder c.sent.new.self c.finish.new.self c.in_ok-recorder.ensures.head
    (c.sent.new.self, c.in_ok-sent.ensures.entry, refl) c.in_ok-finish.ensures.end)
