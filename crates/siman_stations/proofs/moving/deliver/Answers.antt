use Rattle.std.proofs.Common.{◌≡◌, true, false, is_some, refl, sym, ◌∙◌, arith}
use Rattle.siman_pdus.specs.Reading.{reading}
use Rattle.siman_stations.specs.StationTurn.{reply_due}
use Rattle.siman_stations.proofs.Writings.{writes_reply, writes_none, datagram_at, writes_at, takes_at, turn_lacks}
use Rattle.siman_stations.proofs.moving.deliver.Goals as goal
use Rattle.std.proofs.lemmas.Grind.{common_steps}

pub of_turn-requires : goal.of_turn-requires
of_turn-requires c =
    let b = c.deref.result.now in
    let at = datagram_at c.args.journal.now.sends.items c.args.number c.index.result.now b (omega arith) c.index.ensures c.deref.ensures.value in
    turn_lacks c.in-Err.fault c.args.station c.relative.result b c.args.journal.now.recording c.take_turn-turn.new.recorder c.args.node.now
    c.take_turn-turn.new.node c.requires.room (c.requires.short c.args.number b at) c.in-Err.ensures.err

pub returns-in_ok-number-in-Ok-true-clause-entries : goal.returns-in_ok-number-in-Ok-true-clause-entries
returns-in_ok-number-in-Ok-true-clause-entries c =
    let b = c.deref.result.now in
    let s = c.args.station in
    let old = c.args.journal.now in
    let at = datagram_at old.sends.items c.args.number c.index.result.now b (omega arith) c.index.ensures c.deref.ensures.value in
    let due = reply_due c.args.node.now.application (reading b) c.relative.result.stamp in
    let some : is_some due ≡ true = sym c.in-Ok-true.ensures.due ∙ c.in-Ok-true.field-0-test in
    writes_at c.args.node.now.application s c.args.now c.relative.result b _ old c.number.new.self c.relative.ensures at
    (writes_reply s c.relative.result.now b due c.take_turn-turn.new.text.items c.take_turn-turn.new.recorder old c.number.new.self c.in-Ok-true.ensures.entries
    some c.in-Ok-true.ensures.text c.number.ensures.recording c.in_ok-number-in-Ok-true.ensures.sends)

pub returns-in_ok-number-in-Ok-true-clause-halves : goal.returns-in_ok-number-in-Ok-true-clause-halves
returns-in_ok-number-in-Ok-true-clause-halves c =
    let b = c.deref.result.now in
    let at = datagram_at c.args.journal.now.sends.items c.args.number c.index.result.now b (omega arith) c.index.ensures c.deref.ensures.value in
    takes_at b _ c.args.node.now c.take_turn-turn.new.node at c.in-Ok-true.ensures.halves

pub returns-in-Ok-false-clause-entries : goal.returns-in-Ok-false-clause-entries
returns-in-Ok-false-clause-entries c =
    let b = c.deref.result.now in
    let s = c.args.station in
    let old = c.args.journal.now in
    let at = datagram_at old.sends.items c.args.number c.index.result.now b (omega arith) c.index.ensures c.deref.ensures.value in
    let due = reply_due c.args.node.now.application (reading b) c.relative.result.stamp in
    let none : is_some due ≡ false = sym c.in-Ok-false.ensures.due ∙ c.in-Ok-false.field-0-test in
    writes_at c.args.node.now.application s c.args.now c.relative.result b _ old _ c.relative.ensures at
    (writes_none s c.relative.result.now b due old (record { recording = c.take_turn-turn.new.recorder; sends = old.sends; text = c.take_turn-turn.new.text })
    c.in-Ok-false.ensures.entries none refl)

pub returns-in-Ok-false-clause-halves : goal.returns-in-Ok-false-clause-halves
returns-in-Ok-false-clause-halves c =
    let b = c.deref.result.now in
    let at = datagram_at c.args.journal.now.sends.items c.args.number c.index.result.now b (omega arith) c.index.ensures c.deref.ensures.value in
    takes_at b _ c.args.node.now c.take_turn-turn.new.node at c.in-Ok-false.ensures.halves

pub returns-then-number-len-clause-fault : goal.returns-then-number-len-clause-fault
returns-then-number-len-clause-fault c = grind (arith, common_steps)

pub returns-in_ok-number-in-Ok-true-clause-sent : goal.returns-in_ok-number-in-Ok-true-clause-sent
returns-in_ok-number-in-Ok-true-clause-sent c = grind (arith, common_steps)

pub returns-in-Ok-false-clause-sent : goal.returns-in-Ok-false-clause-sent
returns-in-Ok-false-clause-sent c = grind (arith, common_steps)
