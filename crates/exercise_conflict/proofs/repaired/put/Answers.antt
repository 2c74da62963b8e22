use Rattle.std.proofs.Common.{rules}
use Rattle.exercise_conflict.proofs.Repairs.{put_behind}
use Rattle.exercise_conflict.proofs.repaired.put.Goals as goal

pub returns : goal.returns
returns c =
    put_behind c.args.places.now _ c.args.entry _ c.new.result c.or_insert.result.now c.push.new.self c.args.slot
    (search (c.in_ok-places.ensures.update.0, rules)) c.new.ensures.items c.in_ok-places.ensures.value c.or_insert.ensures.value c.in_ok-push.ensures.items
