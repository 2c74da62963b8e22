use Rattle.std.proofs.Common.{◌+◌, refl, arith}
use Rattle.std.proofs.lemmas.Option.{slice_get_read}
use Rattle.exercise_findings.specs.declared.first_sends.FirstSends.{FirstSends}
use Rattle.exercise_findings.proofs.FirstSends.{hashed_more, order_before}
use Rattle.exercise_findings.proofs.first_sends.hash_next.Goals as goal

pub hash_source-requires-clause-few : goal.hash_source-requires-clause-few
hash_source-requires-clause-few g c =
    let r = g.L.ExerciseLog.recording c.args.log.now in
    let s = c.args.sends.now in
    let at = slice_get_read s.kept.order.items _ s.hashed c.index-entry.result.now refl c.requires.next c.index-entry.ensures in
    omega (arith, order_before r c.args.before s s.hashed c.index-entry.result.now c.requires.tied at, c.requires.few)

pub hash_source-requires-clause-source : goal.hash_source-requires-clause-source
hash_source-requires-clause-source g c =
    let s = c.args.sends.now in
    let at = slice_get_read s.kept.order.items _ s.hashed c.index-entry.result.now refl c.requires.next c.index-entry.ensures in
    (c.requires.tied.each s.hashed c.index-entry.result.now at).source

pub returns-clause-tied : goal.returns-clause-tied
returns-clause-tied g c =
    let r = g.L.ExerciseLog.recording c.args.log.now in
    let s = c.args.sends.now in
    let at = slice_get_read s.kept.order.items _ s.hashed c.index-entry.result.now refl c.requires.next c.index-entry.ensures in
    let new : FirstSends = record { kept = record { slots = c.hash_source.new.slots; order = s.kept.order }; hashed = s.hashed + 1 } in
    hashed_more r c.args.before c.index-entry.result.now s new at c.in_ok-hash_source.ensures refl refl c.requires.tied
