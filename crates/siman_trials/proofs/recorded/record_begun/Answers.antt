-- The stations stand at their lines as they are begun.
use Rattle.std.proofs.Common.{◌≡◌, ℕ, ap, subst, sym, refl, inl, inr, ◌⊎◌}
use Rattle.std.specs.Prelude.{List, Option, Err}
use Rattle.std.proofs.KnownBytes.{Keeps-refl}
use Rattle.exercise_model.specs.Recording.{PlainRecording}
use Rattle.exercise_model.specs.Setting.{SettingData, IsSetting}
use Rattle.siman_lines.specs.declared.fault.AtLineFault.{AtLineFault}
use Rattle.siman_lines.specs.declared.fault.AtLineFault.TheVariants.{Line, Memory}
use Rattle.siman_lines.specs.declared.station_at_line.StationAtLine.{StationAtLine}
use Rattle.siman_lines.specs.AtLines.{Telling, AreFresh, Misfits}
use Rattle.siman_scripts.specs.declared.act.Move.{Move}
use Rattle.siman_stations.specs.declared.turn.Node.{Node}
use Rattle.siman_trials.specs.declared.recorded.ExerciseFault.TheVariants.{Lines}
use Rattle.siman_trials.specs.Ended.{Records, AttachesAndRecords}
use Rattle.siman_stations.specs.World.{setting_of}
use Rattle.siman_trials.specs.Recorded.{Leaves}
use Rattle.siman_trials.proofs.Posts.{begun_at_lines}
use Rattle.siman_trials.proofs.recorded.record_begun.Goals as goal

pub returns-in-Ok-clause-comes : goal.returns-in-Ok-clause-comes
returns-in-Ok-clause-comes g c =
    let told : Telling g.row.L.Denot = record { received = g.L.Line.received; sent = g.L.Line.sent; failures = g.L.Line.failures; passed = g.L.Line.passed } in
    let w = c.args.begun.recording.setting in
    inr (inr (
      c.in-Ok.ensures.lines,
      subst (λ (ps : List (StationAtLine g.row.L.Denot)). Records told w c.args.moves.items ps (g.W.Write.contents c.args.file)
          (g.W.Write.contents c.record_at_lines.result.file) c.record_at_lines.result.ended) c.in-Ok.ensures.posts c.record_at_lines.ensures.records,
    ))

pub returns-in-Ok-clause-leaves : goal.returns-in-Ok-clause-leaves
returns-in-Ok-clause-leaves g c = λ w is new unused.
    let told : Telling g.row.L.Denot = record { received = g.L.Line.received; sent = g.L.Line.sent; failures = g.L.Line.failures; passed = g.L.Line.passed } in
    let same = ap (λ (r : PlainRecording). r.setting) is in
    subst (λ (v : SettingData). Leaves v (g.W.Write.contents c.args.file) (g.W.Write.contents c.record_at_lines.result.file) c.record_at_lines.result.ended) same
    (c.record_at_lines.ensures.leaves
    (subst (λ (v : SettingData). IsSetting v → AreFresh told v c.in-Ok.stations.items) (sym same)
    (λ good. subst (AreFresh told (setting_of w)) (sym c.in-Ok.ensures.posts)
    (begun_at_lines told w c.args.begun.nodes.items c.args.lines.items good new unused c.in-Ok.ensures.lines))))

-- which fault came of the lines
not_stood : {L : Type 0} (told : Telling L) (w : SettingData) (nodes : List Node) (ls : List L) (moves : List Move) (old : Option (List ℕ)) (fault : AtLineFault)
    → ((fault ≡ Line) × Misfits nodes ls) ⊎ (fault ≡ Memory) → AttachesAndRecords told w nodes ls moves old old (Err (Lines fault))
not_stood told w nodes ls moves old fault (inl line) = inl (ap (λ (f : AtLineFault). Err (Lines f)) line.0, line.1, refl)
not_stood told w nodes ls moves old fault (inr memory) = inr (inl (ap (λ (f : AtLineFault). Err (Lines f)) memory, refl))

pub returns-in-Err-clause-comes : goal.returns-in-Err-clause-comes
returns-in-Err-clause-comes g c = not_stood _ _ _ _ _ _ c.in-Err.fault c.in-Err.ensures.fault

pub returns-in-Err-clause-leaves : goal.returns-in-Err-clause-leaves
returns-in-Err-clause-leaves g c = λ w is new unused. inl (Keeps-refl (g.W.Write.contents c.args.file))
