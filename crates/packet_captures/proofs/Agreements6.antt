-- How what fewer bytes of an IPv6 packet say agrees with what more of them say.
use Rattle.std.proofs.Common.{◌≡◌, ℕ, zero, suc, ◌+◌, ◌-◌, ◌*◌, ◌/◌, ◌%◌, ◌≤◌, Bool, true, false, not, ◌&&◌, ◌||◌, List, length, take, drop, refl, arith}
use Rattle.std.proofs.lemmas.Bool.{ltb-false, le-ltb}
use Rattle.std.specs.Prelude.{◌==◌, nat_le, nat_lt, Some, if◌then◌else◌}
use Rattle.std.specs.Int.{w8, w16, w32, w64}
use Rattle.packet_captures.specs.declared.carried.Addresses.{Addresses}
use Rattle.packet_captures.specs.NetworkOrder.{number_at}
use Rattle.packet_captures.specs.Carried.{Contents, Other, Unsettled, Part, PlainFragment}
use Rattle.packet_captures.specs.Internet6.{internet_6, behind_6, fragment_6, contradicts_6, is_no_extension, is_read_6, extension_size, host_at}
use Rattle.packet_captures.specs.Cutting.{Agrees, IsBetween, IsFragmentOf}
use Rattle.packet_captures.proofs.Fronts.{take_front, drop_front, front_length, number_front, or_front, and_front}
use Rattle.packet_captures.proofs.Agreements.{or_other, other_first, open_first, between_first, between_if, both, datagram_agrees, datagram_between}

version_front : (k : ℕ) (b : List ℕ) → 1 ≤ k → not (number_at w8 0 (take k b) / 16 == 6) ≡ true → not (number_at w8 0 b / 16 == 6) ≡ true
version_front k b within h = rw (number_front w8 0 k b within) at h

next_front : (k : ℕ) (b : List ℕ) → 7 ≤ k → not (is_read_6 (number_at w8 6 (take k b))) ≡ true → not (is_read_6 (number_at w8 6 b)) ≡ true
next_front k b within h = rw (number_front w8 6 k b within) at h

-- what contradicts in fewer bytes does so in more
contradicts_front : (c : Bool) (k : ℕ) (b : List ℕ) → contradicts_6 true (take k b) ≡ true → contradicts_6 c b ≡ true
unfolding contradicts_6
contradicts_front c k b h =
    or_front _ _ _ _
    (or_front _ _ _ _ (and_front 1 k b _ _ (version_front k b)) (and_front 6 k b _ _ (λ within (never : false ≡ true). absurd (cc))))
    (and_front 7 k b _ _ (next_front k b)) h

behind_front : (k : ℕ) (b : List ℕ) → 1 ≤ k → not (is_read_6 (number_at w8 0 (take k b))) ≡ true → not (is_read_6 (number_at w8 0 b)) ≡ true
behind_front k b within h = rw (number_front w8 0 k b within) at h

no_extension_front : (next size k : ℕ) (b : List ℕ) → is_no_extension next size (take k b) ≡ true → is_no_extension next size b ≡ true
unfolding is_no_extension
no_extension_front next size k b h =
    or_front _ _ _ _ (λ e. e) (or_front _ _ _ _ (λ e. e) (and_front 1 k b _ _ (behind_front k b))) h

-- fragments

user_front : (k : ℕ) (b : List ℕ) → 1 ≤ k → not (number_at w8 0 (take k b) == 17) ≡ true → not (number_at w8 0 b == 17) ≡ true
user_front k b within h = rw (number_front w8 0 k b within) at h

-- the fragment with these bytes behind its header
abbrev fragment_in : Addresses → ℕ → List ℕ → PlainFragment
fragment_in addresses size b = record {
  addresses = addresses;
  identification = number_at w32 4 b;
  offset = number_at w16 2 b / 8 * 8;
  more = number_at w16 2 b % 2 == 1;
  size = size - 8;
  bytes = drop 8 b;
}

whole_header : (addresses : Addresses) (size k : ℕ) (b : List ℕ) → 8 ≤ k → IsFragmentOf (fragment_in addresses size (take k b)) (fragment_in addresses size b)
whole_header addresses size k b within =
    let h2 : 2 + 2 ≤ k = omega arith in
    record {
      addresses = refl;
      identification = rw (number_front w32 4 k b within) refl;
      offset = rw (number_front w16 2 k b h2) refl;
      more = rw (number_front w16 2 k b h2) refl;
      size = refl;
      bytes = (k - 8, drop_front 8 k b);
    }

fragment_between : (addresses : Addresses) (size : ℕ) (b : List ℕ) → IsBetween addresses (fragment_6 addresses size b)
unfolding fragment_6
fragment_between addresses size b =
    between_if _ addresses Other _ tt (between_if (nat_lt (length b) 8) addresses (Unsettled (Some addresses)) (Part (fragment_in addresses size b)) refl refl)

-- what more bytes say of a fragment, if it is not malformed
abbrev read_fragment : Addresses → ℕ → List ℕ → Contents
read_fragment addresses size b = if nat_lt (length b) 8 then Unsettled (Some addresses) else Part (fragment_in addresses size b)

fragment_agrees : (addresses : Addresses) (size k : ℕ) (b : List ℕ) → Agrees (fragment_6 addresses size (take k b)) (fragment_6 addresses size b)
unfolding fragment_6
fragment_agrees addresses size k b =
    other_first _ _ _ _ (or_front (nat_lt size 8) _ (nat_lt size 8) _ (λ e. e) (and_front 1 k b _ _ (user_front k b))) (λ no.
    between_first (nat_lt (length (take k b)) 8) addresses (Part (fragment_in addresses size (take k b))) _ (fragment_between addresses size b) (λ there.
    let kept = front_length 8 k b (ltb-false (length (take k b)) 8 there) in
    let whole : Agrees (Part (fragment_in addresses size (take k b))) (read_fragment addresses size b) = rw (le-ltb (length b) 8 kept.1) (whole_header addresses size k b kept.0) in
    or_other (nat_lt size 8 || (nat_le 1 (length b) && not (number_at w8 0 b == 17))) (Part (fragment_in addresses size (take k b))) (read_fragment addresses size b) whole))

-- extension headers

behind_between : (most : ℕ) (addresses : Addresses) (next size : ℕ) (b : List ℕ) → IsBetween addresses (behind_6 most addresses next size b)
unfolding behind_6
behind_between zero addresses next size b = tt
behind_between (suc most) addresses next size b =
    between_if (next == 17) addresses _ _ (datagram_between addresses size b)
    (between_if (next == 44) addresses _ _ (fragment_between addresses size b)
    (between_if (is_no_extension next size b) addresses Other _ tt
    (between_if (nat_lt (length b) 2) addresses (Unsettled (Some addresses)) _ refl
    (between_if (nat_lt size (extension_size b)) addresses Other _ tt
    (behind_between most addresses (number_at w8 0 b) (size - extension_size b) (drop (extension_size b) b))))))

-- what stands behind an extension header, if it has room
abbrev passed : ℕ → Addresses → ℕ → List ℕ → Contents
passed most addresses size b =
    if nat_lt size (extension_size b) then Other
    else behind_6 most addresses (number_at w8 0 b) (size - extension_size b) (drop (extension_size b) b)

-- the same, if its two bytes are there
abbrev opened : ℕ → Addresses → ℕ → List ℕ → Contents
opened most addresses size b = if nat_lt (length b) 2 then Unsettled (Some addresses) else passed most addresses size b

opened_between : (most : ℕ) (addresses : Addresses) (size : ℕ) (b : List ℕ) → IsBetween addresses (opened most addresses size b)
opened_between most addresses size b =
    between_if (nat_lt (length b) 2) addresses (Unsettled (Some addresses)) (passed most addresses size b) refl
    (between_if (nat_lt size (extension_size b)) addresses Other _ tt
    (behind_between most addresses (number_at w8 0 b) (size - extension_size b) (drop (extension_size b) b)))

-- what fewer bytes say agrees, whatever stands behind at most so many headers
abbrev AllAgree : ℕ → Addresses → Type 0
AllAgree most addresses = (next size k : ℕ) (b : List ℕ) → Agrees (behind_6 most addresses next size (take k b)) (behind_6 most addresses next size b)

passed_agrees : (most : ℕ) (addresses : Addresses) (size k : ℕ) (b : List ℕ) → AllAgree most addresses → 2 ≤ k
    → Agrees (passed most addresses size (take k b)) (passed most addresses size b)
passed_agrees most addresses size k b agree within =
    let h0 : 0 + 1 ≤ k = omega arith in
    rw (number_front w8 0 k b h0, number_front w8 1 k b within, drop_front (extension_size b) k b)
    (both (nat_lt size (extension_size b)) Other (behind_6 most addresses (number_at w8 0 b) (size - extension_size b) (take (k - extension_size b) (drop (extension_size b) b)))
    Other (behind_6 most addresses (number_at w8 0 b) (size - extension_size b) (drop (extension_size b) b)) refl
    (agree (number_at w8 0 b) (size - extension_size b) (k - extension_size b) (drop (extension_size b) b)))

opened_agrees : (most : ℕ) (addresses : Addresses) (size k : ℕ) (b : List ℕ) → AllAgree most addresses → 2 ≤ k → 2 ≤ length b
    → Agrees (passed most addresses size (take k b)) (opened most addresses size b)
opened_agrees most addresses size k b agree within there = rw (le-ltb (length b) 2 there) (passed_agrees most addresses size k b agree within)

behind_agrees : (most : ℕ) (addresses : Addresses) (next size k : ℕ) (b : List ℕ) → Agrees (behind_6 most addresses next size (take k b)) (behind_6 most addresses next size b)
unfolding behind_6
behind_agrees zero addresses next size k b = refl
behind_agrees (suc most) addresses next size k b =
    both (next == 17) _ _ _ _ (datagram_agrees addresses size k b)
    (both (next == 44) _ _ _ _ (fragment_agrees addresses size k b)
    (other_first (is_no_extension next size (take k b)) (is_no_extension next size b) (opened most addresses size (take k b)) (opened most addresses size b) (no_extension_front next size k b) (λ no.
    between_first (nat_lt (length (take k b)) 2) addresses (passed most addresses size (take k b)) (if is_no_extension next size b then Other else opened most addresses size b)
    (between_if (is_no_extension next size b) addresses Other (opened most addresses size b) tt (opened_between most addresses size b)) (λ there.
    let kept = front_length 2 k b (ltb-false (length (take k b)) 2 there) in
    or_other (is_no_extension next size b) (passed most addresses size (take k b)) (opened most addresses size b)
    (opened_agrees most addresses size k b (behind_agrees most addresses) kept.0 kept.1)))))

-- what stands behind the header
abbrev behind_header : Bool → List ℕ → Contents
behind_header to_group b =
    behind_6 (number_at w16 4 b) (record { source = host_at 8 b; target = host_at 24 b; to_group = to_group })
    (number_at w8 6 b) (number_at w16 4 b) (take (number_at w16 4 b) (drop 40 b))

-- the whole header is there
header_agrees : (to_group : Bool) (k : ℕ) (b : List ℕ) → 40 ≤ k → Agrees (behind_header to_group (take k b)) (behind_header to_group b)
header_agrees to_group k b within =
    let h8 : 8 + 8 ≤ k = omega arith in
    let h16 : (8 + 8) + 8 ≤ k = omega arith in
    let h24 : 24 + 8 ≤ k = omega arith in
    let h32 : (24 + 8) + 8 ≤ k = omega arith in
    let h4 : 4 + 2 ≤ k = omega arith in
    let h6 : 6 + 1 ≤ k = omega arith in
    rw (
      number_front w64 8 k b h8,
      number_front w64 (8 + 8) k b h16,
      number_front w64 24 k b h24,
      number_front w64 (24 + 8) k b h32,
      number_front w8 6 k b h6,
      number_front w16 4 k b h4,
      drop_front 40 k b,
      take_front (number_at w16 4 b) (k - 40) (drop 40 b),
    )
    (behind_agrees (number_at w16 4 b) _ (number_at w8 6 b) (number_at w16 4 b) (k - 40) (take (number_at w16 4 b) (drop 40 b)))

pub internet_6_agrees : (to_group c : Bool) (k : ℕ) (b : List ℕ) → Agrees (internet_6 to_group true (take k b)) (internet_6 to_group c b)
unfolding internet_6
internet_6_agrees to_group c k b =
    other_first (contradicts_6 true (take k b)) (contradicts_6 c b) _ _ (contradicts_front c k b) (λ no.
    open_first (nat_lt (length (take k b)) 40) _ _ (λ there.
    let kept = front_length 40 k b (ltb-false (length (take k b)) 40 there) in
    or_other (contradicts_6 c b) _ _ (rw (le-ltb (length b) 40 kept.1) (header_agrees to_group k b kept.0))))
