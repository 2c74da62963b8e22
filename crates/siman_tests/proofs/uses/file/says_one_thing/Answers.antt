use Rattle.std.proofs.Common.{List, Ok, length, subst, sym, ℕ, ◌≡◌, ◌≤◌}
use Rattle.exercise_recording.specs.Reading.{recording_at}
use Rattle.siman_tests.proofs.uses.file.says_one_thing.Goals as goal

pub returns-clause-same : goal.returns-clause-same
returns-clause-same c = λ limit other r read room.
    let text = c.text_and_reading_agree.ensures.text limit c.args.bytes.now r c.are_bytes.ensures read in
    let limits = c.text_and_reading_agree.ensures.limits limit c.args.bytes.now r c.are_bytes.ensures read in
    subst (λ (b : List ℕ). length b ≤ other → recording_at other b ≡ Ok r) (sym text) (c.text_and_reading_agree.ensures.read other r limits) room

pub returns-clause-never : goal.returns-clause-never
returns-clause-never c = λ limit other fault r refused room read.
    c.refusals_hold.ensures.none limit c.args.bytes.now fault r refused
    (c.text_and_reading_agree.ensures.limits other c.args.bytes.now r c.are_bytes.ensures read) room
    (c.text_and_reading_agree.ensures.text other c.args.bytes.now r c.are_bytes.ensures read)
