-- The capture of the recording that was read again is written, and then the line; or a write failed.
use Rattle.std.proofs.Common.{◌≡◌, ℕ, List, Ok, inl, inr, subst, refl, string_bytes}
use Rattle.std.proofs.KnownBytes.{Keeps-refl}
use Rattle.std.specs.Io.KnownBytes.{Appends}
use Rattle.exercise_model.specs.Recording.{PlainRecording}
use Rattle.exercise_recording.specs.Reading.{recording_at}
use Rattle.exercise_recording.specs.Captures.Export.{exported_text}
use Rattle.byte_files.specs.Writing.{WritesPart}
use Rattle.siman_outside.specs.declared.fault.Fault.TheVariants.{Output}
use Rattle.siman_outside.specs.declared.limits.TheConstants.{LARGEST_RECORDING}
use Rattle.siman_outside.specs.Making.{PutsSettled}
use Rattle.siman_outside.specs.Outside.{stream}
use Rattle.siman_outside.proofs.Offered.{settles_behind, settles_unanswered}
use Rattle.siman_file_commands.proofs.Exports.{one_recording, settled}
use Rattle.siman_file_commands.proofs.export.ExportedFileMaking.put.Goals as goal

pub returns-in-Ok : goal.returns-in-Ok
returns-in-Ok g c = record {
  puts = λ r is.
      let fresh = g.F.Write.contents c.args.file.now in
      let mid = g.F.Write.contents c.export.new.writer in
      let file = stream fresh (g.F.Write.contents c.put_settled.new.file) in
      let out = stream (g.W.Write.contents c.args.out.now) (g.W.Write.contents c.put_settled.new.out) in
      let log = c.in_ok-log.log in
      let read = subst (λ (text : List ℕ). recording_at LARGEST_RECORDING text ≡ Ok log) c.deref.ensures.value c.in_ok-log.ensures.read in
      let whole = subst (λ (p : PlainRecording). Appends fresh mid (exported_text p)) (one_recording log r _ read is) c.in-Ok.ensures in
      let said = subst (λ (line : List ℕ). PutsSettled line c.put_settled.result (stream mid file.new) out) c.deref-in-Ok.ensures c.put_settled.ensures.puts in
      inr (settled (exported_text r) (string_bytes c.args.self.now.line) c.put_settled.result file out mid whole said);
  settled = settles_behind c.put_settled.result _ (g.F.Write.contents c.args.file.now) _ _ c.put_settled.ensures.settled;
}

pub returns : goal.returns
returns g c = record {
  puts = λ r is.
      let log = c.in_ok-log.log in
      let read = subst (λ (text : List ℕ). recording_at LARGEST_RECORDING text ≡ Ok log) c.deref.ensures.value c.in_ok-log.ensures.read in
      let part = subst (λ (p : PlainRecording). WritesPart (g.F.Write.contents c.args.file.now) (g.F.Write.contents c.export.new.writer) (exported_text p)) (one_recording log r _ read is) c.in-Err.ensures in
      inr (refl, inl (part, Keeps-refl _));
  settled = settles_unanswered Output _ _ _;
}
