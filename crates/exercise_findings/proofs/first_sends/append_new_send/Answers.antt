use Rattle.std.proofs.Common.{refl}
use Rattle.exercise_findings.specs.declared.first_sends.FirstSends.{FirstSends}
use Rattle.exercise_findings.proofs.FirstSends.{sends_more}
use Rattle.exercise_findings.proofs.first_sends.append_new_send.Goals as goal

pub returns : goal.returns
returns g c =
    let r = g.L.ExerciseLog.recording c.args.log.now in
    let sends = c.requires.sends in
    let old = c.args.sends.now in
    let new : FirstSends = record { kept = record { slots = old.kept.slots; order = c.push.new.self }; hashed = old.hashed } in
    sends_more r c.args.entry sends.0 sends.1.0 c.args.datagram.now old new sends.1.1 c.requires.source c.requires.new refl refl
    c.in_ok-push.ensures.items c.requires.tied
