-- What a line hands out that tells nothing of its datagrams.
use Rattle.std.proofs.Common.{◌≡◌, ℕ, ◌≤◌, List, length, take, min, sym, arith}
use Rattle.std.specs.Prelude.{Option, Some, None, IfSome, MatchOption}
use Rattle.std.proofs.lemmas.Grind.{common_steps}
use Rattle.std.proofs.lemmas.List.{length-take-le, take-take}
use Rattle.siman_lines.specs.LineDatagrams.{Same, Hands}

min_same : (n m k : ℕ) → k ≡ n → n ≤ m → n ≡ min k m
min_same n m k e h = grind (arith, common_steps)

-- as many bytes as are in the buffer: the datagram may have been these
pub hands : (r : Option ℕ) (buffer : List ℕ) → IfSome r (λ n. n ≤ length buffer) → MatchOption r (Same None None) (λ n. Hands None None n buffer)
hands None buffer h = tt
hands (Some n) buffer h = (
  take n buffer,
  h,
  min_same n (length buffer) (length (take n buffer)) (length-take-le n buffer h) h,
  sym (take-take n n buffer (omega arith)),
  tt,
)
