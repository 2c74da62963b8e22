-- What a link in memory specifies, and the effect of each of its calls.
use Rattle.std.specs.Prelude.{◌≡◌, ◌≤◌, ◌<◌, ◌+◌, ◌^◌, ℕ, Bool, true, false, ◌==◌, nat_lt, List, [], ◌∷◌, ◌++◌, length, map, take, Option, Some, None, Result, Ok, Err, Vec, if◌then◌else◌}
use Rattle.std.specs.declared.alloc.Global.{Global}
use Rattle.siman_lines.specs.declared.line.LineFault.{LineFault}
use Rattle.siman_lines.specs.declared.memory.MemoryLine.{MemoryLine}

-- the bytes of each datagram
abbrev pub bytes_of : List (Vec ℕ Global) → List (List ℕ)
bytes_of ds = map (λ d. d.items) ds

abbrev pub sent_of : MemoryLine → List (List ℕ)
sent_of l = bytes_of l.sent.items

abbrev pub received_of : MemoryLine → List (List ℕ)
received_of l = bytes_of (take l.given l.coming.items)

-- A NEW LINK: it is to return these datagrams, and has returned none of them; it has sent nothing, and no call was
-- made or failed; the call of this number is the one that fails
pub record IsMade (datagrams : List (List ℕ)) (number : Option ℕ) (l : MemoryLine) : Type 0 where
  pub coming : bytes_of l.coming.items ≡ datagrams
  pub given : l.given ≡ 0
  pub sent : sent_of l ≡ []
  pub calls : l.calls ≡ 0
  pub fails_at : l.fails_at ≡ number
  pub failures : length l.failures.items ≡ 0

-- Calls, counted from 1.

-- the number of the next call; past the last number of 64 bits a call has none
abbrev pub next_number : MemoryLine → Option ℕ
next_number l = if nat_lt (l.calls + 1) (2 ^ 64) then Some (l.calls + 1) else None

abbrev pub is_number : Option ℕ → Option ℕ → Bool
is_number None number = false
is_number (Some wanted) None = false
is_number (Some wanted) (Some number) = wanted == number

-- THE NEXT CALL IS THE ONE THAT FAILS
abbrev pub is_chosen : MemoryLine → Bool
is_chosen l = is_number l.fails_at (next_number l)

abbrev pub counted : ℕ → Option ℕ → ℕ
counted calls None = calls
counted calls (Some number) = number

-- the call is counted; the datagrams to return, and which call fails, are unchanged
pub record Counts (old new : MemoryLine) : Type 0 where
  pub calls : new.calls ≡ counted old.calls (next_number old)
  pub fails_at : new.fails_at ≡ old.fails_at
  pub coming : new.coming ≡ old.coming

-- the datagrams to return and those that were sent are unchanged
abbrev pub SameDatagrams : MemoryLine → MemoryLine → Type 0
SameDatagrams old new = (new.coming ≡ old.coming) × (new.given ≡ old.given) × (new.sent ≡ old.sent)

-- all datagrams were returned before
pub record FoundNothing (old new : MemoryLine) : Type 0 where
  pub same : SameDatagrams old new
  pub all : length new.coming.items ≤ new.given

-- A SEND that works is not the call that fails
pub record SendsOne (d : List ℕ) (old new : MemoryLine) : Type 0 where
  pub counts : Counts old new
  pub not_chosen : is_chosen old ≡ false
  pub given : new.given ≡ old.given
  pub sent : sent_of new ≡ sent_of old ++ d ∷ []

-- A SEND that fails is the call that fails, or memory was refused; it moves no datagram, and counts as one failure
pub record SendsNone (old new : MemoryLine) : Type 0 where
  pub counts : Counts old new
  pub given : new.given ≡ old.given
  pub sent : sent_of new ≡ sent_of old
  pub failed : length new.failures.items ≡ length old.failures.items + 1

-- THE EFFECT OF A SEND
abbrev pub SendEnds : List ℕ → MemoryLine → MemoryLine → Result (Unit {0}) LineFault → Type 0
SendEnds d old new (Ok done) = SendsOne d old new
SendEnds d old new (Err fault) = SendsNone old new

-- A RECEIVE that works is not the call that fails: it returns the next datagram
pub record ReceivesOne (old new : MemoryLine) : Type 0 where
  pub counts : Counts old new
  pub not_chosen : is_chosen old ≡ false
  pub left : old.given < length old.coming.items
  pub given : new.given ≡ old.given + 1
  pub sent : new.sent ≡ old.sent

-- A RECEIVE finds nothing if no datagram is left
pub record ReceivesNone (old new : MemoryLine) : Type 0 where
  pub counts : Counts old new
  pub not_chosen : is_chosen old ≡ false
  pub nothing : FoundNothing old new

-- A RECEIVE that fails is the call that fails; it moves no datagram, and counts as one failure
pub record LosesCall (old new : MemoryLine) : Type 0 where
  pub counts : Counts old new
  pub chosen : is_chosen old ≡ true
  pub same : SameDatagrams old new
  pub failed : length new.failures.items ≡ length old.failures.items + 1

-- THE EFFECT OF A RECEIVE
abbrev pub ReceiveEnds : MemoryLine → MemoryLine → Result (Option ℕ) LineFault → Type 0
ReceiveEnds old new (Ok (Some size)) = ReceivesOne old new
ReceiveEnds old new (Ok None) = ReceivesNone old new
ReceiveEnds old new (Err fault) = LosesCall old new
