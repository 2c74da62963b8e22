-- The recording is in its file, which was settled; then its line was written or not.
use Rattle.std.proofs.Common.{◌∙◌, subst}
use Rattle.exercise_model.specs.Recording.{PlainRecording}
use Rattle.siman_outside.specs.Outside.{stream}
use Rattle.siman_outside.proofs.Offered.{settles_behind}
use Rattle.siman_exercise_commands.specs.World.{PutsWorld}
use Rattle.siman_exercise_commands.proofs.Files.{world_settled}
use Rattle.siman_exercise_commands.proofs.world.WorldFileMaking.put.Goals as goal

pub returns : goal.returns
returns g c = record {
  puts =
      let file = stream (g.F.Write.contents c.args.file.now) (g.F.Write.contents c.put_settled.new.file) in
      let out = stream (g.W.Write.contents c.args.out.now) (g.W.Write.contents c.put_settled.new.out) in
      subst (λ (r : PlainRecording). PutsWorld r c.put_settled.result file out) c.self.view_is
      (world_settled c.self.inside.recording c.deref.result.now c.put_settled.result file out (g.F.Write.contents c.put_recording.new.file)
      (c.deref.ensures ∙ c.in_ok-line.ensures) c.in_ok-put_recording.ensures c.put_settled.ensures.puts);
  settled = settles_behind c.put_settled.result _ (g.F.Write.contents c.args.file.now) _ _ c.put_settled.ensures.settled;
}
