-- How what fewer bytes say agrees with what more of them say, step by step.
use Rattle.std.proofs.Common.{◌≡◌, ℕ, ◌-◌, Bool, true, false, ◌||◌, List, [], length, take, drop, refl}
use Rattle.std.proofs.lemmas.Bool.{leb-true}
use Rattle.std.specs.Prelude.{nat_le, nat_lt, Option, Some, None, if◌then◌else◌}
use Rattle.std.specs.Int.{w16}
use Rattle.packet_captures.specs.declared.carried.Addresses.{Addresses}
use Rattle.packet_captures.specs.NetworkOrder.{number_at, number_if}
use Rattle.packet_captures.specs.Carried.{Contents, Other, Unsettled, User, Part, PlainDatagram}
use Rattle.packet_captures.specs.UserDatagram.{datagram_of, measured}
use Rattle.packet_captures.specs.Cutting.{Agrees, IsBetween, IsDatagramOf, IsFront, IsIfKnown}
use Rattle.packet_captures.proofs.Fronts.{take_front, drop_front, front_length, number_front, known_front}
use Rattle.std.proofs.lemmas.Bool.{le-leb}

-- what is malformed agrees with whatever fewer bytes say
pub other_agrees : (x : Contents) → Agrees x Other
other_agrees Other = refl
other_agrees (Unsettled None) = tt
other_agrees (Unsettled (Some addresses)) = tt
other_agrees (User d) = tt
other_agrees (Part f) = tt

-- a test that more bytes may meet
pub or_other : (q : Bool) (x y : Contents) → Agrees x y → Agrees x (if q then Other else y)
or_other true x y agree = other_agrees x
or_other false x y agree = agree

-- a test that holds of more bytes if it holds of fewer
pub other_first : (p q : Bool) (x y : Contents) → (p ≡ true → q ≡ true) → (p ≡ false → Agrees x (if q then Other else y))
    → Agrees (if p then Other else x) (if q then Other else y)
other_first true q x y holds agree = rw (holds refl) refl
other_first false q x y holds agree = agree refl

-- a header that ends too early leaves it open
pub open_first : (p : Bool) (x y : Contents) → (p ≡ false → Agrees x y) → Agrees (if p then Unsettled None else x) y
open_first true x y agree = tt
open_first false x y agree = agree refl

pub between_first : (p : Bool) (addresses : Addresses) (x y : Contents) → IsBetween addresses y → (p ≡ false → Agrees x y)
    → Agrees (if p then Unsettled (Some addresses) else x) y
between_first true addresses x y between agree = between
between_first false addresses x y between agree = agree refl

-- one test of both
pub both : (p : Bool) (x x' y y' : Contents) → Agrees x y → Agrees x' y' → Agrees (if p then x else x') (if p then y else y')
both true x x' y y' agree agree' = agree
both false x x' y y' agree agree' = agree'

-- a datagram with the ports that b has
abbrev with_ports : Addresses → List ℕ → Option ℕ → List ℕ → PlainDatagram
with_ports addresses b size bytes = record { addresses = addresses; source_port = number_if w16 0 b; target_port = number_if w16 2 b; size = size; bytes = bytes }

ports_agree : (addresses : Addresses) (k : ℕ) (b : List ℕ) (size more : Option ℕ) (front bytes : List ℕ) → IsIfKnown size more → IsFront front bytes
    → IsDatagramOf (with_ports addresses (take k b) size front) (with_ports addresses b more bytes)
ports_agree addresses k b size more front bytes known is_front = record {
  addresses = refl;
  source_port = known_front w16 0 k b;
  target_port = known_front w16 2 k b;
  size = known;
  bytes = is_front;
}

-- the datagram with a length field that is known
known_length : (addresses : Addresses) (size k : ℕ) (b : List ℕ) (len : ℕ)
    → Agrees (measured addresses size (take k b) (Some len)) (measured addresses size b (Some len))
known_length addresses size k b len =
    both (nat_lt len 8 || nat_lt size len) _ _ _ _ refl
    (ports_agree addresses k b (Some (len - 8)) (Some (len - 8)) (take (len - 8) (drop 8 (take k b))) (take (len - 8) (drop 8 b))
    refl (k - 8, rw (drop_front 8 k b) (take_front (len - 8) (k - 8) (drop 8 b))))

-- the same if it is not known
unknown_length : (addresses : Addresses) (size k : ℕ) (b : List ℕ) (len : Option ℕ)
    → Agrees (measured addresses size (take k b) None) (measured addresses size b len)
unknown_length addresses size k b None = ports_agree addresses k b None None [] [] tt (0, refl)
unknown_length addresses size k b (Some len) =
    or_other (nat_lt len 8 || nat_lt size len) (User (with_ports addresses (take k b) None [])) (User (with_ports addresses b (Some (len - 8)) (take (len - 8) (drop 8 b))))
    (ports_agree addresses k b None (Some (len - 8)) [] (take (len - 8) (drop 8 b)) tt (0, refl))

measured_agrees : (addresses : Addresses) (size k : ℕ) (b : List ℕ)
    → Agrees (measured addresses size (take k b) (number_if w16 4 (take k b))) (measured addresses size b (number_if w16 4 b))
measured_agrees addresses size k b = by_test (nat_le 6 (length (take k b))) refl
  where
    by_test : (t : Bool) → nat_le 6 (length (take k b)) ≡ t
        → Agrees (measured addresses size (take k b) (if t then Some (number_at w16 4 (take k b)) else None)) (measured addresses size b (number_if w16 4 b))
    by_test false e = unknown_length addresses size k b (number_if w16 4 b)
    by_test true e =
        let there = front_length 6 k b (leb-true 6 (length (take k b)) e) in
        rw (le-leb 6 (length b) there.1, number_front w16 4 k b there.0) (known_length addresses size k b (number_at w16 4 b))

-- a datagram of which fewer bytes are there
pub datagram_agrees : (addresses : Addresses) (size k : ℕ) (b : List ℕ) → Agrees (datagram_of addresses size (take k b)) (datagram_of addresses size b)
unfolding datagram_of
datagram_agrees addresses size k b = both (nat_lt size 8) _ _ _ _ refl (measured_agrees addresses size k b)

pub between_if : (p : Bool) (addresses : Addresses) (x y : Contents) → IsBetween addresses x → IsBetween addresses y → IsBetween addresses (if p then x else y)
between_if true addresses x y left right = left
between_if false addresses x y left right = right

between_measured : (addresses : Addresses) (size : ℕ) (b : List ℕ) (len : Option ℕ) → IsBetween addresses (measured addresses size b len)
between_measured addresses size b None = refl
between_measured addresses size b (Some len) =
    between_if (nat_lt len 8 || nat_lt size len) addresses Other (User (with_ports addresses b (Some (len - 8)) (take (len - 8) (drop 8 b)))) tt refl

pub datagram_between : (addresses : Addresses) (size : ℕ) (b : List ℕ) → IsBetween addresses (datagram_of addresses size b)
unfolding datagram_of
datagram_between addresses size b = between_if (nat_lt size 8) addresses _ _ tt (between_measured addresses size b (number_if w16 4 b))
