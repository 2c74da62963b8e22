-- The stations of a world were begun, or not.
use Rattle.std.proofs.Common.{◌≡◌, ℕ, ap, subst, refl, inl, inr, ◌⊎◌}
use Rattle.std.specs.Prelude.{false, List, Option, Err}
use Rattle.std.proofs.KnownBytes.{Keeps-refl}
use Rattle.exercise_model.specs.Recording.{PlainRecording}
use Rattle.exercise_model.specs.Setting.{SettingData}
use Rattle.siman_lines.specs.AtLines.{Telling}
use Rattle.siman_scripts.specs.declared.act.Move.{Move}
use Rattle.siman_stations.specs.declared.world_fault.WorldFault.{WorldFault}
use Rattle.siman_stations.specs.declared.world_fault.WorldFault.TheVariants.{Stations, Memory}
use Rattle.siman_stations.specs.World.{WorldData, are_world_stations}
use Rattle.siman_trials.specs.declared.recorded.ExerciseFault.TheVariants.{World}
use Rattle.siman_trials.specs.Ended.{AttachesAndRecords, ComesToEnd}
use Rattle.siman_trials.proofs.recorded.record_exercise.Goals as goal

pub returns-in-Ok-clause-comes : goal.returns-in-Ok-clause-comes
returns-in-Ok-clause-comes g c =
    let told : Telling g.row.L.Denot = record { received = g.L.Line.received; sent = g.L.Line.sent; failures = g.L.Line.failures; passed = g.L.Line.passed } in
    inr (inr (
      c.in-Ok.ensures.stations,
      (
        c.in-Ok.begun.nodes.items,
        c.in-Ok.ensures.nodes,
        subst (λ (v : SettingData). AttachesAndRecords told v c.in-Ok.begun.nodes.items c.args.lines.items c.args.moves.items (g.W.Write.contents c.args.file)
            (g.W.Write.contents c.record_begun.result.file) c.record_begun.result.ended) (ap (λ (r : PlainRecording). r.setting) c.in-Ok.ensures.recording)
            c.record_begun.ensures.comes,
      ),
    ))

pub returns-in-Ok-clause-leaves : goal.returns-in-Ok-clause-leaves
returns-in-Ok-clause-leaves g c =
    c.record_begun.ensures.leaves (record { exercise = c.args.exercise; stations = c.args.stations.items }) c.in-Ok.ensures.recording c.in-Ok.ensures.nodes c.requires.unused

-- which fault came of the stations
not_begun : {L : Type 0} (told : Telling L) (w : WorldData) (ls : List L) (moves : List Move) (old : Option (List ℕ)) (fault : WorldFault)
    → (fault ≡ Memory) ⊎ ((fault ≡ Stations) × (are_world_stations w.stations ≡ false)) → ComesToEnd told w ls moves old old (Err (World fault))
not_begun told w ls moves old fault (inl memory) = inr (inl (ap (λ (f : WorldFault). Err (World f)) memory, refl))
not_begun told w ls moves old fault (inr none) = inl (ap (λ (f : WorldFault). Err (World f)) none.0, none.1, refl)

pub returns-in-Err-clause-comes : goal.returns-in-Err-clause-comes
returns-in-Err-clause-comes g c =
    not_begun _ (record { exercise = c.args.exercise; stations = c.args.stations.items }) _ _ _ c.in-Err.fault c.in-Err.ensures.fault

pub returns-in-Err-clause-leaves : goal.returns-in-Err-clause-leaves
returns-in-Err-clause-leaves g c = inl (Keeps-refl (g.W.Write.contents c.args.file))
