-- Nothing of what a frame carries that was not cut is missing.
use Rattle.std.proofs.Common.{◌≡◌, ℕ, zero, suc, ◌+◌, ◌-◌, ◌*◌, ◌/◌, ◌%◌, ◌≤◌, Bool, true, false, not, ◌&&◌, ◌||◌, List, [], length, take, drop, refl, eq-eqb, arith}
use Rattle.std.proofs.lemmas.Bool.{ltb-true, ltb-false, le-ltb, le-leb}
use Rattle.std.proofs.lemmas.List.{length-take, length-drop}
use Rattle.std.specs.Prelude.{◌==◌, nat_le, nat_lt, Option, Some, None, if◌then◌else◌}
use Rattle.std.specs.Int.{w8, w16}
use Rattle.packet_captures.specs.declared.carried.Addresses.{Addresses}
use Rattle.packet_captures.specs.declared.link.Link.{Link}
use Rattle.packet_captures.specs.declared.link.Link.TheVariants as links
use Rattle.packet_captures.specs.NetworkOrder.{number_at}
use Rattle.packet_captures.specs.Carried.{Contents, Other, Unsettled}
use Rattle.packet_captures.specs.UserDatagram.{datagram_of, measured}
use Rattle.packet_captures.specs.Internet4.{internet_4, carried_4, contradicts_4, header_size_4}
use Rattle.packet_captures.specs.Internet6.{internet_6, behind_6, fragment_6, contradicts_6, is_no_extension, extension_size}
use Rattle.packet_captures.specs.Ethernet.{untagged, behind_type}
use Rattle.packet_captures.specs.Cooked.{is_group}
use Rattle.packet_captures.specs.Loopback.{loopback_family, of_family}
use Rattle.packet_captures.specs.Frame.{behind_link, contents}
use Rattle.packet_captures.specs.Cutting.{IsWhole}

whole_if : (p : Bool) (x y : Contents) → (p ≡ true → IsWhole x) → (p ≡ false → IsWhole y) → IsWhole (if p then x else y)
whole_if true x y holds fails = holds refl
whole_if false x y holds fails = fails refl

or_false : (p q : Bool) → (p || q) ≡ false → (p ≡ false) × (q ≡ false)
or_false true q h = absurd (cc)
or_false false q h = (refl, h)

-- a test of what is there does not hold
and_false : (p q : Bool) → p ≡ true → (p && q) ≡ false → q ≡ false
and_false true q there h = h
and_false false q there h = absurd (cc)

measured_whole : (addresses : Addresses) (size : ℕ) (b : List ℕ) (len : ℕ) → length b ≡ size → IsWhole (measured addresses size b (Some len))
measured_whole addresses size b len all =
    whole_if (nat_lt len 8 || nat_lt size len) Other _ (λ holds. tt) (λ fails.
    let tests = or_false (nat_lt len 8) (nat_lt size len) fails in
    let least = ltb-false len 8 tests.0 in
    let most = ltb-false size len tests.1 in
    let behind = length-drop 8 b in
    let taken = length-take (len - 8) (drop 8 b) in
    eq-eqb (len - 8) (length (take (len - 8) (drop 8 b))) (omega arith))

pub datagram_whole : (addresses : Addresses) (size : ℕ) (b : List ℕ) → length b ≡ size → IsWhole (datagram_of addresses size b)
unfolding datagram_of
datagram_whole addresses size b all =
    whole_if (nat_lt size 8) Other _ (λ holds. tt) (λ fails.
    let least = ltb-false size 8 fails in
    let there : 6 ≤ length b = omega arith in
    rw (le-leb 6 (length b) there) (measured_whole addresses size b (number_at w16 4 b) all))

carried_whole : (addresses : Addresses) (identification place size : ℕ) (b : List ℕ) → length b ≡ size → IsWhole (carried_4 addresses identification place size b)
unfolding carried_4
carried_whole addresses identification place size b all =
    whole_if ((place % 0x2000 * 8 == 0) && not (place / 0x2000 % 2 == 1)) _ _ (λ holds. datagram_whole addresses size b all) (λ fails. all)

-- the bytes between the header and the packet's end
part_length : (total header : ℕ) (b : List ℕ) → header ≤ total → total ≤ length b → length (take (total - header) (drop header b)) ≡ total - header
part_length total header b least most =
    let behind = length-drop header b in
    let taken = length-take (total - header) (drop header b) in
    omega arith

-- the packet is there if nothing contradicts
packet_4 : (b : List ℕ) → contradicts_4 false b ≡ false → 20 ≤ length b → (header_size_4 b ≤ number_at w16 2 b) × (number_at w16 2 b ≤ length b)
unfolding contradicts_4
packet_4 b fails there =
    let four : 4 ≤ length b = omega arith in
    let tests = or_false _ _ (or_false _ _ fails).0 in
    let lengths = or_false _ _ (and_false (nat_le 4 (length b)) _ (le-leb 4 (length b) four) tests.1) in
    (ltb-false (number_at w16 2 b) (header_size_4 b) lengths.0, ltb-false (length b) (number_at w16 2 b) lengths.1)

internet_4_whole : (to_group : Bool) (b : List ℕ) → IsWhole (internet_4 to_group false b)
unfolding internet_4
internet_4_whole to_group b =
    whole_if (contradicts_4 false b) Other _ (λ holds. tt) (λ fails.
    whole_if (nat_lt (length b) 20) Other _ (λ short. tt) (λ there.
    let sizes = packet_4 b fails (ltb-false (length b) 20 there) in
    carried_whole _ (number_at w16 4 b) (number_at w16 6 b) _ _ (part_length (number_at w16 2 b) (header_size_4 b) b sizes.0 sizes.1)))

fragment_whole : (addresses : Addresses) (size : ℕ) (b : List ℕ) → length b ≡ size → IsWhole (fragment_6 addresses size b)
unfolding fragment_6
fragment_whole addresses size b all =
    whole_if (nat_lt size 8 || (nat_le 1 (length b) && not (number_at w8 0 b == 17))) Other _ (λ holds. tt) (λ fails.
    let least = ltb-false size 8 (or_false (nat_lt size 8) _ fails).0 in
    whole_if (nat_lt (length b) 8) (Unsettled (Some addresses)) _ (λ short.
    let few = ltb-true (length b) 8 short in
    absurd (omega arith)) (λ there.
    let behind = length-drop 8 b in
    omega arith))

extension_room : (next size : ℕ) (b : List ℕ) → is_no_extension next size b ≡ false → 8 ≤ size
unfolding is_no_extension
extension_room next size b fails = ltb-false size 8 (or_false (nat_lt size 8) _ (or_false _ _ fails).1).0

behind_whole : (most : ℕ) (addresses : Addresses) (next size : ℕ) (b : List ℕ) → length b ≡ size → IsWhole (behind_6 most addresses next size b)
unfolding behind_6
behind_whole zero addresses next size b all = tt
behind_whole (suc most) addresses next size b all =
    whole_if (next == 17) _ _ (λ holds. datagram_whole addresses size b all) (λ fails.
    whole_if (next == 44) _ _ (λ holds. fragment_whole addresses size b all) (λ fails.
    whole_if (is_no_extension next size b) Other _ (λ holds. tt) (λ extension.
    let room = extension_room next size b extension in
    whole_if (nat_lt (length b) 2) (Unsettled (Some addresses)) _ (λ short.
    let few = ltb-true (length b) 2 short in
    absurd (omega arith)) (λ there.
    whole_if (nat_lt size (extension_size b)) Other _ (λ holds. tt) (λ fits.
    let behind = length-drop (extension_size b) b in
    behind_whole most addresses (number_at w8 0 b) (size - extension_size b) (drop (extension_size b) b) (omega arith))))))

packet_6 : (b : List ℕ) → contradicts_6 false b ≡ false → 40 ≤ length b → 40 + number_at w16 4 b ≤ length b
unfolding contradicts_6
packet_6 b fails there =
    let six : 6 ≤ length b = omega arith in
    let tests = or_false _ _ (or_false _ _ fails).0 in
    ltb-false (length b) (40 + number_at w16 4 b) (and_false (nat_le 6 (length b)) _ (le-leb 6 (length b) six) tests.1)

payload_length : (size : ℕ) (b : List ℕ) → 40 + size ≤ length b → length (take size (drop 40 b)) ≡ size
payload_length size b room =
    let behind = length-drop 40 b in
    let taken = length-take size (drop 40 b) in
    omega arith

internet_6_whole : (to_group : Bool) (b : List ℕ) → IsWhole (internet_6 to_group false b)
unfolding internet_6
internet_6_whole to_group b =
    whole_if (contradicts_6 false b) Other _ (λ holds. tt) (λ fails.
    whole_if (nat_lt (length b) 40) Other _ (λ short. tt) (λ there.
    behind_whole (number_at w16 4 b) _ (number_at w8 6 b) (number_at w16 4 b) _
    (payload_length (number_at w16 4 b) b (packet_6 b fails (ltb-false (length b) 40 there)))))

type_whole : (to_group : Bool) (found : Option (ℕ × List ℕ)) → IsWhole (behind_type to_group false found)
type_whole to_group None = tt
type_whole to_group (Some p) =
    whole_if (p.0 == 0x0800) _ _ (λ holds. internet_4_whole to_group p.1) (λ fails.
    whole_if (p.0 == 0x86DD) _ Other (λ holds. internet_6_whole to_group p.1) (λ fails. tt))

family_whole : (family : ℕ) (b : List ℕ) → IsWhole (of_family false family b)
family_whole family b =
    whole_if (family == 2) _ _ (λ holds. internet_4_whole false b) (λ fails.
    whole_if ((family == 10) || ((family == 24) || ((family == 28) || (family == 30)))) _ Other (λ holds. internet_6_whole false b) (λ fails. tt))

link_whole : (link : Link) (b : List ℕ) → IsWhole (behind_link false link b)
link_whole links.Ethernet b = whole_if (nat_lt (length b) 14) Other _ (λ short. tt) (λ there. type_whole (number_at w8 0 b % 2 == 1) (untagged (number_at w16 12 b) (drop 14 b)))
link_whole links.LoopbackLittle b = whole_if (nat_lt (length b) 4) Other _ (λ short. tt) (λ there. family_whole (loopback_family true b) (drop 4 b))
link_whole links.LoopbackBig b = whole_if (nat_lt (length b) 4) Other _ (λ short. tt) (λ there. family_whole (loopback_family false b) (drop 4 b))
link_whole links.Raw b =
    whole_if (nat_lt (length b) 1) Other _ (λ short. tt) (λ there.
    whole_if (number_at w8 0 b / 16 == 6) _ _ (λ holds. internet_6_whole false b) (λ fails. internet_4_whole false b))
link_whole links.Raw4 b = internet_4_whole false b
link_whole links.Raw6 b = internet_6_whole false b
link_whole links.Cooked b = whole_if (nat_lt (length b) 16) Other _ (λ short. tt) (λ there. type_whole (is_group (number_at w16 0 b)) (untagged (number_at w16 14 b) (drop 16 b)))
link_whole links.Cooked2 b =
    whole_if (nat_lt (length b) 2) Other _ (λ short. tt) (λ there.
    whole_if (nat_lt (length b) 20) _ _ (λ ended. type_whole false (untagged (number_at w16 0 b) [])) (λ whole. type_whole (is_group (number_at w8 10 b)) (untagged (number_at w16 0 b) (drop 20 b))))

pub contents_whole : (link : Link) (original : ℕ) (b : List ℕ) → original ≤ length b → IsWhole (contents link original b)
unfolding contents
contents_whole link original b all = rw (le-ltb (length b) original all) (link_whole link b)
