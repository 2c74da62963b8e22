-- The log of a station comes back from the capture that is written of it.
use Rattle.std.proofs.Common.{◌≡◌, refl, ℕ, ◌≤◌, ◌<◌, Bool, true, false, not, nat_lt, List, [], ◌∷◌, length, Option, Some, None, arith, le-ltb, lt-ltb}
use Rattle.std.proofs.lemmas.Option.{slice_get_within}
use Rattle.std.specs.Prelude.{zero, suc, ◌==◌, ◌&&◌, ◌||◌, slice_get, if◌then◌else◌}
use Rattle.dis_records.specs.declared.address.SiteApplication.{SiteApplication}
use Rattle.dis_records.specs.declared.header.TheConstants.{LARGEST_DATAGRAM}
use Rattle.packet_captures.specs.Carried.{PlainDatagram}
use Rattle.exercise_recording.specs.declared.captures.packet_kind.PacketKind.{PacketKind}
use Rattle.exercise_recording.specs.declared.captures.packet_kind.PacketKind.TheVariants as kinds
use Rattle.exercise_recording.specs.declared.captures.packet_rule.PacketRule.{PacketRule}
use Rattle.exercise_recording.specs.Captures.Kind.{is_foreign, is_elsewhere, is_misfit, differs, is_number}
use Rattle.exercise_recording.specs.Captures.LogBack.{is_managing}
use Rattle.exercise_recording.specs.Captures.ReadBack.{host_of}

-- ---- what a datagram is

slice_get_none : (b : List ℕ) (i : ℕ) → slice_get b i ≡ None → length b ≤ i
slice_get_none [] i none = omega arith
slice_get_none (x ∷ xs) zero none = absurd (cc)
slice_get_none (x ∷ xs) (suc i) none = let more = slice_get_none xs i none in omega (arith, more)

-- the datagram of bytes in UDP between two addresses
abbrev pub user : (source target : SiteApplication) → (b : List ℕ) → PlainDatagram
user source target b = record {
  addresses = record { source = host_of source; target = host_of target; to_group = false };
  source_port = Some 3000;
  target_port = Some 3000;
  size = Some (length b);
  bytes = b;
}

-- which kind is found where the first questions have these answers
abbrev pub first_kind : (foreign elsewhere : Bool) → PacketKind → PacketKind
first_kind foreign elsewhere kind = if foreign then kinds.Other else (if elsewhere then kinds.Elsewhere else kind)

-- a byte that stands behind others: they are there, too
second-there : (b : List ℕ) (x : ℕ) → slice_get b 3 ≡ Some x → (y : ℕ) × (slice_get b 1 ≡ Some y)
second-there [] x there = absurd (cc)
second-there (u ∷ []) x there = absurd (cc)
second-there (u ∷ v ∷ b) x there = (v, refl)

doubled : (p q : Bool) → (p && q) ≡ (not (not p) && not (not q))
doubled true true = refl
doubled true false = refl
doubled false q = refl

-- a datagram of so many bytes is of the exercise if neither its family nor its exercise is another one
told : (exercise size : ℕ) (family second : Option ℕ) → (family ≡ None → size ≤ 3) → ((x : ℕ) → family ≡ Some x → (3 < size) × ((y : ℕ) × (second ≡ Some y))) → size ≤ LARGEST_DATAGRAM
    → (is_number 5 family && is_number exercise second) ≡ (not (is_misfit (Some size) || differs 5 family) && not (differs exercise second))
told exercise size None second none some short =
    let few : nat_lt size 4 ≡ true = lt-ltb size 4 (omega (arith, none refl)) in
    rw few refl
told exercise size (Some x) None none some short = absurd (cc (some x refl).1.1)
told exercise size (Some x) (Some y) none some short =
    let several : nat_lt size 4 ≡ false = le-ltb size 4 (omega (arith, (some x refl).0)) in
    let within : nat_lt LARGEST_DATAGRAM size ≡ false = le-ltb LARGEST_DATAGRAM size short in
    rw (several, within) (doubled (x == 5) (y == exercise))

pub kept-is : (rule : PacketRule) (source target : SiteApplication) (b : List ℕ) → rule.port ≡ 3000 → length b ≤ LARGEST_DATAGRAM
    → is_managing rule.exercise b ≡ (not (is_foreign rule (user source target b)) && not (is_elsewhere rule (user source target b)))
unfolding is_foreign
kept-is rule source target b port short =
    let past : slice_get b 3 ≡ None → length b ≤ 3 = λ none. slice_get_none b 3 none in
    let there : (x : ℕ) → slice_get b 3 ≡ Some x → (3 < length b) × ((y : ℕ) × (slice_get b 1 ≡ Some y)) = λ x some. (slice_get_within b 3 x some, second-there b x some) in
    rw port (told rule.exercise (length b) (slice_get b 3) (slice_get b 1) past there short)
