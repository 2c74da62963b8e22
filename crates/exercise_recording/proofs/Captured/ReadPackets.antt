-- The packet of a datagram is read as it is spelled.
use Rattle.std.proofs.Common.{◌≡◌, ℕ, ◌+◌, ◌*◌, ◌/◌, ◌%◌, ◌^◌, ◌<◌, ◌≤◌, List, ◌++◌, length, take, drop, Some, None, true, false, refl, sym, ap, ◌∙◌, rules, tests, append_assoc, length-append, arith}
use Rattle.std.specs.Prelude.{Result, Ok, nat_lt, slice_get, if◌then◌else◌}
use Rattle.std.specs.Int.{w32}
use Rattle.std.specs.Option.{option_map_or}
use Rattle.std.proofs.lemmas.List.{take_at}
use Rattle.std.proofs.lemmas.Nat.{from_le_bytes-to_le_bytes_4}
use Rattle.packet_captures.specs.declared.byte_order.ByteOrder.TheVariants.{Little}
use Rattle.packet_captures.specs.declared.capture_fault.FormatFault.{FormatFault}
use Rattle.packet_captures.specs.declared.interface.Interface.{Interface}
use Rattle.packet_captures.specs.declared.packet.Direction.{Direction}
use Rattle.packet_captures.specs.declared.packet.Direction.TheVariants.{Unknown, Inbound, Outbound}
use Rattle.packet_captures.specs.Block.{direction_of, ticks_of, timed_packet, enhanced_packet}
use Rattle.packet_captures.specs.Interface.{options_from}
use Rattle.packet_captures.specs.Numbers.{number_at}
use Rattle.packet_captures.specs.Options.{padded, option_value}
use Rattle.packet_captures.specs.Packet.{Packet, direction_from}
use Rattle.packet_captures.specs.Spelling.{number_text, block_text}
use Rattle.packet_captures.specs.Stamp.{in_64_bits, stamp_of}
use Rattle.exercise_recording.specs.Captures.Blocks.{padding_text, options_end, packet_options, packet_body, packet_text}
use Rattle.exercise_recording.proofs.Captured.Blocks.{padding-length}
use Rattle.exercise_recording.proofs.Captured.BlockOptions.{options-of, option-passed, options-ended}

-- a packet within the limits: its numbers have 32 bits, its stamp 64
pub record FitsPacket (s n : ℕ) (bytes : List ℕ) : Type 0 where
  pub interface : s < 2 ^ 32
  pub stamp : n < 2 ^ 64
  pub size : length bytes < 2 ^ 16

-- its fields
interface-read : (s stamp direction : ℕ) (bytes : List ℕ) → FitsPacket s stamp bytes → number_at Little w32 8 (packet_text s stamp direction bytes) ≡ s
unfolding number_at packet_text
interface-read s stamp direction bytes fits = from_le_bytes-to_le_bytes_4 s fits.interface

upper-read : (s stamp direction : ℕ) (bytes : List ℕ) → FitsPacket s stamp bytes
    → number_at Little w32 12 (packet_text s stamp direction bytes) ≡ stamp / 2 ^ 32
unfolding number_at packet_text
upper-read s stamp direction bytes fits = from_le_bytes-to_le_bytes_4 (stamp / 2 ^ 32) (omega (arith, fits.stamp))

lower-read : (s stamp direction : ℕ) (bytes : List ℕ) → FitsPacket s stamp bytes
    → number_at Little w32 16 (packet_text s stamp direction bytes) ≡ stamp % 2 ^ 32
unfolding number_at packet_text
lower-read s stamp direction bytes fits = from_le_bytes-to_le_bytes_4 (stamp % 2 ^ 32) (omega arith)

kept-read : (s stamp direction : ℕ) (bytes : List ℕ) → FitsPacket s stamp bytes
    → number_at Little w32 20 (packet_text s stamp direction bytes) ≡ length bytes
unfolding number_at packet_text
kept-read s stamp direction bytes fits = from_le_bytes-to_le_bytes_4 (length bytes) (omega (arith, fits.size))

original-read : (s stamp direction : ℕ) (bytes : List ℕ) → FitsPacket s stamp bytes
    → number_at Little w32 24 (packet_text s stamp direction bytes) ≡ length bytes
unfolding number_at packet_text
original-read s stamp direction bytes fits = from_le_bytes-to_le_bytes_4 (length bytes) (omega (arith, fits.size))

ticks-read : (s stamp direction : ℕ) (bytes : List ℕ) → FitsPacket s stamp bytes → ticks_of Little (packet_text s stamp direction bytes) ≡ stamp
ticks-read s stamp direction bytes fits =
    let two : stamp / 2 ^ 32 * 2 ^ 32 + stamp % 2 ^ 32 ≡ stamp = omega arith in
    ap (λ n. n * 2 ^ 32 + number_at Little w32 16 (packet_text s stamp direction bytes)) (upper-read s stamp direction bytes fits)
    ∙ ap (λ n. stamp / 2 ^ 32 * 2 ^ 32 + n) (lower-read s stamp direction bytes fits) ∙ two

-- a stamp in microseconds is read as it is
stamp-read : (stamp : ℕ) → stamp < 2 ^ 64 → stamp_of 6 0 stamp ≡ Some stamp
unfolding stamp_of
stamp-read stamp fits =
    let whole : stamp * 1000000 / 1000000 + 0 * 1000000 ≡ stamp = omega arith in
    let below : nat_lt stamp (2 ^ 64) ≡ true = search (rules, tests) in
    ap in_64_bits whole ∙ ap (λ b. if b then Some stamp else None) below

-- the bytes stand behind the fields
bytes-read : (s stamp direction : ℕ) (bytes : List ℕ) → take (length bytes) (drop 28 (packet_text s stamp direction bytes)) ≡ bytes
unfolding packet_text
bytes-read s stamp direction bytes =
    let behind : List ℕ = padding_text (length bytes) ++ packet_options direction in
    let last : List ℕ = number_text Little w32 (12 + length (packet_body s stamp direction bytes)) in
    ap (take (length bytes)) (append_assoc bytes behind last) ∙ take_at bytes (behind ++ last) (length bytes) refl

-- the size of its body
pub packet-length : (s stamp direction : ℕ) (bytes : List ℕ) → length (packet_body s stamp direction bytes) ≡ 32 + padded (length bytes)
packet-length s stamp direction bytes =
    let n : ℕ = length bytes in
    let front : List ℕ = number_text Little w32 s ++ (number_text Little w32 (stamp / 2 ^ 32) ++ (number_text Little w32 (stamp % 2 ^ 32)
    ++ (number_text Little w32 n ++ number_text Little w32 n))) in
    let rest : List ℕ = bytes ++ (padding_text n ++ packet_options direction) in
    let all : length (packet_body s stamp direction bytes) ≡ 20 + length rest = length-append front rest in
    let options : length (packet_options direction) ≡ 12 = refl in
    omega (arith, all, length-append bytes (padding_text n ++ packet_options direction), length-append (padding_text n) (packet_options direction), padding-length n, options)

block-length : (s stamp direction : ℕ) (bytes : List ℕ) → length (packet_text s stamp direction bytes) ≡ 44 + padded (length bytes)
unfolding packet_text
block-length s stamp direction bytes =
    let body : List ℕ = packet_body s stamp direction bytes in
    let last : List ℕ = number_text Little w32 (12 + length body) in
    let all : length (packet_text s stamp direction bytes) ≡ 8 + length (body ++ last) = length-append (number_text Little w32 6 ++ last) (body ++ last) in
    omega (arith, all, length-append body last, packet-length s stamp direction bytes)

-- ---- its options

-- the number of a direction
abbrev pub direction_number : Direction → ℕ
direction_number Unknown = 0
direction_number Inbound = 1
direction_number Outbound = 2

options-read : (direction : ℕ) → option_value Little 2 (Some 4) (packet_options direction) ≡ Some (number_text Little w32 direction)
options-read direction =
    option-passed 12 11 2 2 (Some 4) None (number_text Little w32 direction) options_end refl (omega arith) (omega arith) (omega arith)
    ∙ options-ended 11 2 (Some 4) (Some (number_text Little w32 direction))

flags-read : (d : Direction) → direction_from (number_at Little w32 0 (number_text Little w32 (direction_number d)) % 4) ≡ d
unfolding number_at
flags-read Unknown = refl
flags-read Inbound = refl
flags-read Outbound = refl

block-options : (s stamp direction : ℕ) (bytes : List ℕ)
    → options_from (28 + padded (length bytes)) (packet_text s stamp direction bytes) ≡ packet_options direction
unfolding packet_text
block-options s stamp direction bytes =
    let n : ℕ = length bytes in
    let fields : List ℕ = number_text Little w32 s ++ (number_text Little w32 (stamp / 2 ^ 32) ++ (number_text Little w32 (stamp % 2 ^ 32)
    ++ (number_text Little w32 n ++ number_text Little w32 n))) in
    let front : List ℕ = fields ++ (bytes ++ padding_text n) in
    let size : length front ≡ 20 + padded n =
    omega (arith, length-append fields (bytes ++ padding_text n), length-append bytes (padding_text n), padding-length n) in
    let same : front ++ packet_options direction ≡ packet_body s stamp direction bytes =
    ap (λ (t : List ℕ). fields ++ t) (append_assoc bytes (padding_text n) (packet_options direction)) in
    let place : 8 + (20 + padded n) ≡ 28 + padded n = omega arith in
    ap (λ k. options_from k (block_text Little 6 (packet_body s stamp direction bytes))) (sym place)
    ∙ ap (λ (t : List ℕ). options_from (8 + (20 + padded n)) (block_text Little 6 t)) (sym same)
    ∙ options-of 6 (20 + padded n) front (packet_options direction) size

direction-read : (s stamp : ℕ) (d : Direction) (bytes : List ℕ)
    → direction_of Little (options_from (28 + padded (length bytes)) (packet_text s stamp (direction_number d) bytes)) ≡ d
direction-read s stamp d bytes =
    ap (direction_of Little) (block-options s stamp (direction_number d) bytes)
    ∙ ap (λ v. option_map_or (λ x. direction_from (number_at Little w32 0 x % 4)) v Unknown) (options-read (direction_number d))
    ∙ flags-read d

-- ---- the packet

-- the packet that is read
abbrev pub read_packet : (i : Interface) → (at stamp : ℕ) → Direction → (bytes : List ℕ) → Packet
read_packet i at stamp direction bytes = record {
  head = record { at = at; order = Little; link = i.link; wanted = i.wanted; stamp = stamp; direction = direction; original = length bytes };
  bytes = bytes;
}

-- A PACKET IS READ, of an interface in microseconds
pub packet-read : (interfaces : List Interface) (i : Interface) (at s stamp : ℕ) (d : Direction) (bytes : List ℕ) → FitsPacket s stamp bytes
    → slice_get interfaces s ≡ Some i → i.resolution ≡ 6 → i.offset ≡ 0
    → enhanced_packet Little interfaces at (packet_text s stamp (direction_number d) bytes) ≡ Ok (read_packet i at stamp d bytes)
unfolding enhanced_packet timed_packet
packet-read interfaces i at s stamp d bytes fits here resolution offset =
    let block : List ℕ = packet_text s stamp (direction_number d) bytes in
    let size : length block ≡ 44 + padded (length bytes) = block-length s stamp (direction_number d) bytes in
    let long : nat_lt (length block) 32 ≡ false = search (rules, tests) in
    let least : length bytes + 32 ≤ length block = omega (arith, size) in
    let room : nat_lt (length block) (length bytes + 32) ≡ false = search (rules, tests) in
    let place : number_at Little w32 8 block ≡ s = interface-read s stamp (direction_number d) bytes fits in
    let kept : number_at Little w32 20 block ≡ length bytes = kept-read s stamp (direction_number d) bytes fits in
    let stamped : stamp_of i.resolution i.offset (ticks_of Little block) ≡ Some stamp =
    ap (λ r. stamp_of r i.offset (ticks_of Little block)) resolution ∙ ap (λ o. stamp_of 6 o (ticks_of Little block)) offset
    ∙ ap (stamp_of 6 0) (ticks-read s stamp (direction_number d) bytes fits) ∙ stamp-read stamp fits.stamp in
    let Given : Direction → ℕ → List ℕ → Result Packet FormatFault = λ w o xs. Ok (record {
      head = record { at = at; order = Little; link = i.link; wanted = i.wanted; stamp = stamp; direction = w; original = o };
      bytes = xs;
    }) in
    let rest : Given (direction_of Little (options_from (28 + padded (length bytes)) block)) (number_at Little w32 24 block) (take (length bytes) (drop 28 block))
    ≡ Ok (read_packet i at stamp d bytes) =
    ap (λ w. Given w (number_at Little w32 24 block) (take (length bytes) (drop 28 block))) (direction-read s stamp d bytes)
    ∙ ap (λ o. Given d o (take (length bytes) (drop 28 block))) (original-read s stamp (direction_number d) bytes fits)
    ∙ ap (Given d (length bytes)) (bytes-read s stamp (direction_number d) bytes) in
    rw (long, place, here, kept, room, stamped) rest
