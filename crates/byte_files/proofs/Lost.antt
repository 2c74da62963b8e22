-- What is gone from a reader after a fault.
use Rattle.std.proofs.Common.{◌≡◌, ℕ, ◌+◌, ◌≤◌, List, ◌++◌, length, arith, Option, Result, Ok, Err, OnErr}
use Rattle.std.proofs.lemmas.List.{length-append}
use Rattle.std.specs.Io.KnownBytes.{Consumes}
use Rattle.std.proofs.KnownBytes.{Consumes-trans}
use Rattle.byte_files.specs.Fetching.{LosesAtMost}

-- what was taken before a call that fails is gone, and what that call took
pub lost_behind : {A E : Type 0} (result : Result A E) (old mid new : Option (List ℕ)) (kept : List ℕ) (room most : ℕ)
    → Consumes old mid kept → length kept + room ≤ most → LosesAtMost room mid new → OnErr result (LosesAtMost most old new)
lost_behind (Ok x) old mid new kept room most taken fits failed = tt
lost_behind (Err e) old mid new kept room most taken fits failed =
    let same : length (kept ++ failed.0) ≡ length kept + length failed.0 = length-append kept failed.0 in
    let within : length failed.0 ≤ room = failed.1 in
    (kept ++ failed.0, (omega arith), Consumes-trans _ _ _ _ _ taken failed.2)
