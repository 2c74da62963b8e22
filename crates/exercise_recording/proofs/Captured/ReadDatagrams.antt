-- A packet is read as the datagram that it carries.
use Rattle.std.proofs.Common.{◌≡◌, ℕ, ◌+◌, ◌-◌, ◌*◌, ◌<◌, ◌≤◌, List, ◌++◌, length, take, Some, true, false, refl, ap, ◌∙◌, length-append, arith}
use Rattle.std.specs.Prelude.{nat_lt, nat_le}
use Rattle.std.specs.Int.{w8, w16, w32}
use Rattle.std.proofs.lemmas.Bool.{le-leb, le-ltb}
use Rattle.std.proofs.lemmas.List.{take_all}
use Rattle.std.proofs.lemmas.Nat.{from_be_bytes-to_be_bytes_2}
use Rattle.dis_records.specs.declared.address.SiteApplication.{SiteApplication}
use Rattle.dis_records.specs.declared.header.TheConstants.{LARGEST_DATAGRAM}
use Rattle.packet_captures.specs.declared.carried.Addresses.{Addresses}
use Rattle.packet_captures.specs.declared.link.Link.TheVariants.{Raw4}
use Rattle.packet_captures.specs.Carried.{User}
use Rattle.packet_captures.specs.Frame.{contents, behind_link}
use Rattle.packet_captures.specs.Internet4.{contradicts_4, carried_4, internet_4}
use Rattle.packet_captures.specs.NetworkOrder.{number_at}
use Rattle.packet_captures.specs.UserDatagram.{datagram_of}
use Rattle.exercise_recording.specs.Captures.Datagram.{user_header, datagram_headers, internet_text}
use Rattle.exercise_recording.specs.Captures.ReadBack.{FitsAddress, host_of, carried_datagram}

-- ---- UDP

user-length : (b : List ℕ) → length b < 60000 → number_at w16 4 (user_header (length b) ++ b) ≡ 8 + length b
unfolding number_at
user-length b short = from_be_bytes-to_be_bytes_2 (8 + length b) (omega arith)

user-source : (b : List ℕ) → number_at w16 0 (user_header (length b) ++ b) ≡ 3000
unfolding number_at
user-source b = refl

user-target : (b : List ℕ) → number_at w16 2 (user_header (length b) ++ b) ≡ 3000
unfolding number_at
user-target b = refl

user-read : (addresses : Addresses) (b : List ℕ) → length b < 60000
    → datagram_of addresses (8 + length b) (user_header (length b) ++ b)
    ≡ User (record { addresses = addresses; source_port = Some 3000; target_port = Some 3000; size = Some (length b); bytes = b })
unfolding datagram_of
user-read addresses b short =
    let u : List ℕ = user_header (length b) ++ b in
    let size : length u ≡ 8 + length b = length-append (user_header (length b)) b in
    let eight : nat_lt (8 + length b) 8 ≡ false = le-ltb (8 + length b) 8 (omega arith) in
    let within : nat_lt (8 + length b) (8 + length b) ≡ false = le-ltb (8 + length b) (8 + length b) (omega arith) in
    let six : nat_le 6 (length u) ≡ true = le-leb 6 (length u) (omega (arith, size)) in
    let four : nat_le 4 (length u) ≡ true = le-leb 4 (length u) (omega (arith, size)) in
    let two : nat_le 2 (length u) ≡ true = le-leb 2 (length u) (omega (arith, size)) in
    let rest : 8 + length b - 8 ≡ length b = omega arith in
    let taken : take (length b) b ≡ b = take_all (length b) b (omega arith) in
    rw (eight, six, user-length b short, eight, within, two, four, user-source b, user-target b, rest, taken) refl

-- ---- IPv4

total-read : (source target : SiteApplication) (b : List ℕ) → length b < 60000 → number_at w16 2 (internet_text source target b) ≡ 28 + length b
unfolding number_at
total-read source target b short = from_be_bytes-to_be_bytes_2 (28 + length b) (omega arith)

version-read : (source target : SiteApplication) (b : List ℕ) → number_at w8 0 (internet_text source target b) ≡ 69
unfolding number_at
version-read source target b = refl

protocol-read : (source target : SiteApplication) (b : List ℕ) → number_at w8 9 (internet_text source target b) ≡ 17
unfolding number_at
protocol-read source target b = refl

place-read : (source target : SiteApplication) (b : List ℕ) → number_at w16 6 (internet_text source target b) ≡ 0
unfolding number_at
place-read source target b = refl

source-read : (source target : SiteApplication) (b : List ℕ) → FitsAddress source
    → number_at w32 12 (internet_text source target b) ≡ source.site * 65536 + source.application
unfolding number_at
source-read source target b fits = omega (arith, fits.site, fits.application)

target-read : (source target : SiteApplication) (b : List ℕ) → FitsAddress target
    → number_at w32 16 (internet_text source target b) ≡ target.site * 65536 + target.application
unfolding number_at
target-read source target b fits = omega (arith, fits.site, fits.application)

text-size : (source target : SiteApplication) (b : List ℕ) → length (internet_text source target b) ≡ 28 + length b
text-size source target b = length-append (datagram_headers (length b) source target) b

-- nothing says that it is no IPv4 packet with UDP
no-contradiction : (source target : SiteApplication) (b : List ℕ) → length b < 60000 → contradicts_4 false (internet_text source target b) ≡ false
unfolding contradicts_4
no-contradiction source target b short =
    let f : List ℕ = internet_text source target b in
    let size = text-size source target b in
    let one : nat_le 1 (length f) ≡ true = le-leb 1 (length f) (omega (arith, size)) in
    let four : nat_le 4 (length f) ≡ true = le-leb 4 (length f) (omega (arith, size)) in
    let ten : nat_le 10 (length f) ≡ true = le-leb 10 (length f) (omega (arith, size)) in
    let least : nat_lt (28 + length b) 20 ≡ false = le-ltb (28 + length b) 20 (omega arith) in
    let within : nat_lt (length f) (28 + length b) ≡ false = le-ltb (length f) (28 + length b) (omega (arith, size)) in
    rw (one, four, ten, version-read source target b, protocol-read source target b, total-read source target b short, least, within) refl

internet-read : (source target : SiteApplication) (b : List ℕ) → FitsAddress source → FitsAddress target → length b < 60000
    → internet_4 false false (internet_text source target b) ≡ carried_datagram source target b
unfolding internet_4 carried_4
internet-read source target b from to short =
    let f : List ℕ = internet_text source target b in
    let u : List ℕ = user_header (length b) ++ b in
    let size = text-size source target b in
    let long : nat_lt (length f) 20 ≡ false = le-ltb (length f) 20 (omega (arith, size)) in
    let rest : 28 + length b - 20 ≡ 8 + length b = omega arith in
    let user : length u ≡ 8 + length b = length-append (user_header (length b)) b in
    let taken : take (8 + length b) u ≡ u = take_all (8 + length b) u (omega (arith, user)) in
    let addresses : Addresses = record { source = host_of source; target = host_of target; to_group = false } in
    rw (
      no-contradiction source target b short,
      long,
      source-read source target b from,
      target-read source target b to,
      place-read source target b,
      version-read source target b,
      total-read source target b short,
      rest,
      taken,
    ) (user-read addresses b short)

-- A PACKET CARRIES ITS DATAGRAM
pub datagram-read : (source target : SiteApplication) (b : List ℕ) → FitsAddress source → FitsAddress target → length b ≤ LARGEST_DATAGRAM
    → contents Raw4 (length (internet_text source target b)) (internet_text source target b) ≡ carried_datagram source target b
unfolding contents
datagram-read source target b from to short =
    let f : List ℕ = internet_text source target b in
    ap (λ t. behind_link t Raw4 f) (le-ltb (length f) (length f) (omega arith)) ∙ internet-read source target b from to (omega (arith, short))
