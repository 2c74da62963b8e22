-- What becomes of sent datagrams in a plan (profile).
use Rattle.std.specs.Prelude.{ℕ, ◌+◌, Bool, true, false, ◌==◌, nat_lt, List, [], ◌∷◌, ◌++◌, slice_get, slice_set, Option, Some, None, if◌then◌else◌}
use Rattle.siman_plans.specs.declared.deed.Deed.{Deed}
use Rattle.siman_plans.specs.declared.deed.Deed.TheVariants.{Set, Ordered, Ticked, Told, Brought, Lost}
use Rattle.siman_plans.specs.declared.deed.Receipt.{Receipt}

-- a sent datagram: the line whose move sent it; it is an order as its manager sent it first; it is meant to be lost;
-- the answer to its last delivery that was answered; the station to which it was brought last; the stations to which
-- it was brought, in rising order, and how often
pub record SentData : Type 0 where
  pub line : ℕ
  pub is_order : Bool
  pub is_meant : Bool
  pub answer : Option ℕ
  pub last : Option ℕ
  pub receipts : List Receipt

-- a datagram that was just sent by the move of a line
abbrev pub new_sent : (line : ℕ) → (is_order : Bool) → SentData
new_sent line is_order = record { line = line; is_order = is_order; is_meant = false; answer = None; last = None; receipts = [] }

-- one more, up to the largest number of 32 bits
abbrev pub one_more : ℕ → ℕ
one_more n = if nat_lt n 4294967295 then n + 1 else n

-- a station to which a datagram was brought once
abbrev pub first_receipt : ℕ → Receipt
first_receipt s = record { station = s; times = 1 }

-- the receipts after one more at this station
abbrev pub received_at : ℕ → List Receipt → List Receipt
received_at s [] = first_receipt s ∷ []
received_at s (r ∷ rs) =
    if nat_lt r.station s then r ∷ received_at s rs
    else if r.station == s then record r { times = one_more r.times } ∷ rs
    else first_receipt s ∷ r ∷ rs

-- the last answer, after one more delivery with this answer or none
abbrev pub answer_after : Option ℕ → Option ℕ → Option ℕ
answer_after before None = before
answer_after before (Some k) = Some k

-- a datagram after one more delivery to this station, which sent this answer or none
abbrev pub brought_to : ℕ → Option ℕ → SentData → SentData
brought_to s answer d = record d { answer = answer_after d.answer answer; last = Some s; receipts = received_at s d.receipts }

-- a datagram of which it is meant that it reaches nobody
abbrev pub meant : SentData → SentData
meant d = record d { is_meant = true }

-- the datagrams, that of a number changed, if there is one
abbrev pub changed_to : List SentData → ℕ → (SentData → SentData) → Option SentData → List SentData
changed_to ds k change None = ds
changed_to ds k change (Some d) = slice_set ds k (change d)

abbrev pub changed : (SentData → SentData) → ℕ → List SentData → List SentData
changed change k ds = changed_to ds k change (slice_get ds k)

-- the datagrams after a delivery, if this is one
abbrev pub delivered : Deed → List SentData → List SentData
delivered (Brought s k answers) ds = changed (brought_to s answers) k ds
delivered (Set is_back) ds = ds
delivered (Ordered s k label) ds = ds
delivered (Ticked s sends label) ds = ds
delivered (Told s e y) ds = ds
delivered (Lost k) ds = ds

abbrev pub is_order : Deed → Bool
is_order (Ordered s k label) = true
is_order (Brought s k answers) = false
is_order (Set is_back) = false
is_order (Ticked s sends label) = false
is_order (Told s e y) = false
is_order (Lost k) = false

-- the datagrams after a line sent one more or none
abbrev pub with_sent : (line : ℕ) → (is_order : Bool) → (sends : Option ℕ) → List SentData → List SentData
with_sent line is_order None ds = ds
with_sent line is_order (Some k) ds = ds ++ new_sent line is_order ∷ []
