-- A line that has begun.
use Rattle.std.proofs.Common.{ℕ, List, [], length, Option, Some, None, refl, sym, arith}
use Rattle.std.proofs.Math.Seq.{take-nil}
use Rattle.std.specs.Io.KnownBytes.{Consumes}
use Rattle.byte_files.proofs.LineReadings.{SoFar}
use Rattle.siman_operator.specs.Coming.{HasBegun}

-- as byte_files reads lines
pub as_so_far : {a b : Option (List ℕ)} {buffer : List ℕ} {held : ℕ} → HasBegun a b buffer held → SoFar a b buffer held
as_so_far begun = record { line = begun.line; none = begun.one; taken = begun.read; within = begun.within; front = begun.front }

pub of_so_far : {a b : Option (List ℕ)} {buffer : List ℕ} {held : ℕ} → SoFar a b buffer held → HasBegun a b buffer held
of_so_far before = record { line = before.line; one = before.none; read = before.taken; within = before.within; front = before.front }

consumes_none : (a : Option (List ℕ)) → Consumes a a []
consumes_none None = tt
consumes_none (Some bytes) = refl

-- nothing of it was read
pub nothing_begun : (a : Option (List ℕ)) (buffer : List ℕ) → HasBegun a a buffer 0
nothing_begun a buffer = record { line = []; one = tt; read = consumes_none a; within = omega arith; front = sym (take-nil (length buffer)) }
