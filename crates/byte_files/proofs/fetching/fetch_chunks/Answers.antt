use Rattle.std.proofs.Common.{◌≡◌, ◌+◌, arith, length, take, length-take-le}
use Rattle.byte_files.proofs.Lost.{lost_behind}
use Rattle.byte_files.proofs.fetching.fetch_chunks.Goals as goal
use Rattle.std.proofs.lemmas.Grind.{common_steps}

pub returns-in_err-filled-clause-failed : goal.returns-in_err-filled-clause-failed
returns-in_err-filled-clause-failed g c =
    let asked : length c.fetch_more.new.chunk ≡ length (take c.room-room.result c.loop.chunk) = c.fetch_more.auto.chunk in
    let whole : length (take c.room-room.result c.loop.chunk) ≡ c.room-room.result = length-take-le c.room-room.result c.loop.chunk (omega arith) in
    lost_behind c.from_residual.result _ _ _ c.loop.bytes.items (length c.fetch_more.new.chunk) (c.args.most + 1) c.loop.invariant.taken (omega arith)
    c.in_err-filled.ensures.failed

pub returns-then-len-most-clause-text : goal.returns-then-len-most-clause-text
returns-then-len-most-clause-text g c = grind (arith, common_steps)

pub returns-then-filled-room-clause-text : goal.returns-then-filled-room-clause-text
returns-then-filled-room-clause-text g c = grind (arith, common_steps)

pub loop-preserved : goal.loop-preserved
loop-preserved g c = grind (arith, common_steps)
