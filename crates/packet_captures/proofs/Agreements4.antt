-- How what fewer bytes of an IPv4 packet say agrees with what more of them say.
use Rattle.std.proofs.Common.{◌≡◌, ℕ, ◌+◌, ◌-◌, ◌*◌, ◌/◌, ◌%◌, ◌≤◌, Bool, true, false, not, ◌&&◌, ◌||◌, List, length, take, drop, refl, arith}
use Rattle.std.proofs.lemmas.Bool.{ltb-false, le-ltb}
use Rattle.std.specs.Prelude.{◌==◌, nat_lt}
use Rattle.std.specs.Int.{w8, w16, w32}
use Rattle.packet_captures.specs.declared.carried.Addresses.{Addresses}
use Rattle.packet_captures.specs.declared.host.Host.TheVariants.{V4}
use Rattle.packet_captures.specs.NetworkOrder.{number_at}
use Rattle.packet_captures.specs.Internet4.{internet_4, carried_4, contradicts_4, header_size_4}
use Rattle.packet_captures.specs.Cutting.{Agrees}
use Rattle.packet_captures.proofs.Fronts.{take_front, drop_front, front_length, number_front, or_front, and_front}
use Rattle.packet_captures.proofs.Agreements.{or_other, other_first, open_first, both, datagram_agrees}

version_front : (k : ℕ) (b : List ℕ) → 1 ≤ k
    → (not (number_at w8 0 (take k b) / 16 == 4) || nat_lt (header_size_4 (take k b)) 20) ≡ true
    → (not (number_at w8 0 b / 16 == 4) || nat_lt (header_size_4 b) 20) ≡ true
version_front k b within h = rw (number_front w8 0 k b within) at h

length_front : (c : Bool) (k : ℕ) (b : List ℕ) → 4 ≤ k
    → (nat_lt (number_at w16 2 (take k b)) (header_size_4 (take k b)) || (not true && nat_lt (length (take k b)) (number_at w16 2 (take k b)))) ≡ true
    → (nat_lt (number_at w16 2 b) (header_size_4 b) || (not c && nat_lt (length b) (number_at w16 2 b))) ≡ true
length_front c k b within h =
    let first : 1 ≤ k = omega arith in
    or_front _ _ _ _ (λ short. short) (λ (never : false ≡ true). absurd (cc)) (rw (number_front w16 2 k b within, number_front w8 0 k b first) at h)

protocol_front : (k : ℕ) (b : List ℕ) → 10 ≤ k → not (number_at w8 9 (take k b) == 17) ≡ true → not (number_at w8 9 b == 17) ≡ true
protocol_front k b within h = rw (number_front w8 9 k b within) at h

-- what contradicts in fewer bytes does so in more
contradicts_front : (c : Bool) (k : ℕ) (b : List ℕ) → contradicts_4 true (take k b) ≡ true → contradicts_4 c b ≡ true
unfolding contradicts_4
contradicts_front c k b h =
    or_front _ _ _ _
    (or_front _ _ _ _ (and_front 1 k b _ _ (version_front k b)) (and_front 4 k b _ _ (length_front c k b)))
    (and_front 10 k b _ _ (protocol_front k b)) h

carried_agrees : (addresses : Addresses) (identification place size k : ℕ) (b : List ℕ)
    → Agrees (carried_4 addresses identification place size (take k b)) (carried_4 addresses identification place size b)
unfolding carried_4
carried_agrees addresses identification place size k b =
    both ((place % 0x2000 * 8 == 0) && not (place / 0x2000 % 2 == 1)) _ _ _ _ (datagram_agrees addresses size k b)
    record { addresses = refl; identification = refl; offset = refl; more = refl; size = refl; bytes = (k, refl) }

-- the whole header is there
header_agrees : (to_group : Bool) (k : ℕ) (b : List ℕ) → 20 ≤ k
    → Agrees
    (carried_4 (record { source = V4 (number_at w32 12 (take k b)); target = V4 (number_at w32 16 (take k b)); to_group = to_group })
    (number_at w16 4 (take k b)) (number_at w16 6 (take k b))
    (number_at w16 2 (take k b) - header_size_4 (take k b))
    (take (number_at w16 2 (take k b) - header_size_4 (take k b)) (drop (header_size_4 (take k b)) (take k b))))
    (carried_4 (record { source = V4 (number_at w32 12 b); target = V4 (number_at w32 16 b); to_group = to_group })
    (number_at w16 4 b) (number_at w16 6 b)
    (number_at w16 2 b - header_size_4 b)
    (take (number_at w16 2 b - header_size_4 b) (drop (header_size_4 b) b)))
header_agrees to_group k b within =
    let h12 : 12 + 4 ≤ k = omega arith in
    let h16 : 16 + 4 ≤ k = omega arith in
    let h4 : 4 + 2 ≤ k = omega arith in
    let h6 : 6 + 2 ≤ k = omega arith in
    let h2 : 2 + 2 ≤ k = omega arith in
    let h0 : 0 + 1 ≤ k = omega arith in
    rw (
      number_front w32 12 k b h12,
      number_front w32 16 k b h16,
      number_front w16 4 k b h4,
      number_front w16 6 k b h6,
      number_front w16 2 k b h2,
      number_front w8 0 k b h0,
      drop_front (header_size_4 b) k b,
      take_front (number_at w16 2 b - header_size_4 b) (k - header_size_4 b) (drop (header_size_4 b) b),
    )
    (carried_agrees _ (number_at w16 4 b) (number_at w16 6 b) (number_at w16 2 b - header_size_4 b) (k - header_size_4 b) (take (number_at w16 2 b - header_size_4 b) (drop (header_size_4 b) b)))

pub internet_4_agrees : (to_group c : Bool) (k : ℕ) (b : List ℕ) → Agrees (internet_4 to_group true (take k b)) (internet_4 to_group c b)
unfolding internet_4
internet_4_agrees to_group c k b =
    other_first (contradicts_4 true (take k b)) (contradicts_4 c b) _ _ (contradicts_front c k b) (λ no.
    open_first (nat_lt (length (take k b)) 20) _ _ (λ there.
    let kept = front_length 20 k b (ltb-false (length (take k b)) 20 there) in
    or_other (contradicts_4 c b) _ _ (rw (le-ltb (length b) 20 kept.1) (header_agrees to_group k b kept.0))))
