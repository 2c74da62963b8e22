-- What is settled before the answer goes out.
use Rattle.std.proofs.Common.{ℕ, List, Option, Ok, Err, inl, inr}
use Rattle.std.proofs.KnownBytes.{Keeps-refl}
use Rattle.siman_outside.specs.declared.fault.Fault.{Fault}
use Rattle.siman_outside.specs.Making.{Answered, IsSettledFirst, SettlesFirst}
use Rattle.siman_outside.specs.Outside.{Stream, stream}

-- a file that was written before it was settled
pub settles_behind : (answered : Answered) (settled old new : Option (List ℕ)) (out : Stream) → IsSettledFirst answered settled new out → SettlesFirst answered settled (stream old new) out
settles_behind (Ok status) settled old new out h = h
settles_behind (Err fault) settled old new out h = inl h

-- a fault before the answer
pub settles_unanswered : (fault : Fault) (settled : Option (List ℕ)) (file : Stream) (out : Option (List ℕ)) → SettlesFirst (Err fault) settled file (stream out out)
settles_unanswered fault settled file out = inl (inr (Keeps-refl out))
