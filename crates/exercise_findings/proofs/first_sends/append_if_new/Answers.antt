use Rattle.std.proofs.Common.{◌+◌, refl, sym, ◌∙◌, subst}
use Rattle.exercise_findings.specs.declared.first_sends.FirstSends.{FirstSends}
use Rattle.exercise_findings.specs.Kept.{IsAppended}
use Rattle.exercise_findings.proofs.FirstSends.{sends_later, sends_hashed}
use Rattle.exercise_findings.proofs.first_sends.append_if_new.Goals as goal

pub returns-in-Some : goal.returns-in-Some
returns-in-Some g c =
    let r = g.L.ExerciseLog.recording c.args.log.now in
    let sends = c.requires.sends in
    sends_later r c.args.entry sends.0 sends.1.0 c.in-Some.field-0 c.args.datagram.now c.hash_all.new.sends sends.1.1
    (sym (c.first_hashed.ensures c.args.entry c.in_ok-hash_all.ensures.senders) ∙ c.in-Some.is) c.in_ok-hash_all.ensures.tied

pub returns-in_ok-append_entry-in-None : goal.returns-in_ok-append_entry-in-None
returns-in_ok-append_entry-in-None g c =
    let r = g.L.ExerciseLog.recording c.args.log.now in
    let n = c.args.entry in
    let sends = c.requires.sends in
    let old = c.hash_all.new.sends in
    let new : FirstSends = record { kept = c.append_entry.new.kept; hashed = old.hashed + 1 } in
    sends_hashed r n sends.0 sends.1.0 c.args.datagram.now old new sends.1.1 c.requires.source
    (sym (c.first_hashed.ensures n c.in_ok-hash_all.ensures.senders) ∙ c.in-None.is) c.in_ok-hash_all.ensures.all refl
    (subst (λ h. IsAppended h n old.kept new.kept) c.datagram_hash-hash.ensures c.in_ok-append_entry-in-None.ensures) c.in_ok-hash_all.ensures.tied
