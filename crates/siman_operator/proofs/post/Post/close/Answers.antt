-- the end was written, or not
use Rattle.std.proofs.Common.{refl, inl, inr}
use Rattle.siman_operator.proofs.Ended.{unended}
use Rattle.siman_operator.proofs.post.Post.close.Goals as goal

pub returns-in-Ok : goal.returns-in-Ok
returns-in-Ok g c = inr (c.in-Ok.ensures.taken, c.in-Ok.ensures.end, (c.socket_counts-counts.result, c.print_end.ensures))

pub returns-in-Err : goal.returns-in-Err
returns-in-Err g c = inl (
  unended c.args.self.now.recorder c.finish.new.self c.finish.result c.in-Err.field-0 c.in-Err.is c.in-Err.ensures.refused c.in-Err.ensures.unchanged c.finish.ensures.torn,
  refl,
  refl,
)
