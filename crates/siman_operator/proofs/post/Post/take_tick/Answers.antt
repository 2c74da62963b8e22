-- The repeat was sent, if one was due, and then the station served.
use Rattle.std.proofs.Common.{inl}
use Rattle.siman_operator.specs.Deeds.{data_of}
use Rattle.siman_operator.specs.Noting.{telling}
use Rattle.siman_operator.proofs.Going.{goes_then}
use Rattle.siman_operator.proofs.TakenOn.{behind_it}
use Rattle.siman_operator.proofs.post.Post.take_tick.Goals as goal

pub returns-clause-ends : goal.returns-clause-ends
returns-clause-ends g c =
    let asked = c.do_asked-done.ensures in
    let served = c.serve_behind.ensures in
    behind_it (telling g.L.Line.passed) _ (data_of c.args.self.now) (data_of c.do_asked-done.new.self) (data_of c.serve_behind.new.self) _ c.serve_behind.result served.done (inl (asked.time.1, rw c.address-own.ensures at asked.ends)) asked.time.0 asked.time.2 served.time
    served.serves

pub returns-clause-goes : goal.returns-clause-goes
returns-clause-goes g c = goes_then _ _ _ c.do_asked-done.ensures.goes c.serve_behind.ensures.goes
