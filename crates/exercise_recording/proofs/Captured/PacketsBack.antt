-- The packets of an exported capture give the entries of one station again.
use Rattle.std.proofs.Common.{◌≡◌, ◌∙◌, sym, ap, refl, ℕ, ◌+◌, ◌*◌, ◌≤◌, ◌<◌, ◌^◌, Bool, true, false, not, nat_lt, List, [], ◌∷◌, length, take, drop, Option, Some, arith}
use Rattle.std.proofs.lemmas.Bool.{eq-eqb}
use Rattle.std.proofs.lemmas.List.{get_or-drop, get_or-take}
use Rattle.std.specs.Prelude.{Result, Ok, ◌==◌, ◌&&◌, if◌then◌else◌, slice_index}
use Rattle.std.specs.Int.{w16}
use Rattle.byte_files.specs.Fields.{IsBytes}
use Rattle.dis_records.specs.declared.address.SiteApplication.{SiteApplication}
use Rattle.dis_records.specs.declared.header.TheConstants.{LARGEST_DATAGRAM}
use Rattle.exercise_model.specs.Entry.{Entry}
use Rattle.exercise_model.specs.Setting.{SettingData, station_in}
use Rattle.packet_captures.specs.declared.packet.Direction.{Direction}
use Rattle.packet_captures.specs.declared.packet.Direction.TheVariants.{Inbound, Outbound}
use Rattle.packet_captures.specs.Carried.{Contents, User}
use Rattle.packet_captures.specs.Interface.{is_wanted}
use Rattle.packet_captures.specs.NetworkOrder.{number_at}
use Rattle.packet_captures.specs.Packet.{Packet}
use Rattle.packet_captures.specs.Pending.{same_host}
use Rattle.packet_captures.specs.Host.{is_for_all}
use Rattle.exercise_recording.specs.declared.captures.import_fault.ImportFault.{ImportFault}
use Rattle.exercise_recording.specs.declared.captures.packet_kind.PacketKind.{PacketKind}
use Rattle.exercise_recording.specs.declared.captures.packet_kind.PacketKind.TheVariants as kinds
use Rattle.exercise_recording.specs.declared.captures.packet_rule.PacketRule.{PacketRule}
use Rattle.exercise_recording.specs.Captures.Blocks.{name_text}
use Rattle.exercise_recording.specs.Captures.Datagram.{address_in, everybody, internet_text, nobody, source_of, target_of}
use Rattle.exercise_recording.specs.Captures.Kind.{datagram_kind, is_elsewhere, is_foreign, is_passing, sent_kind}
use Rattle.exercise_recording.specs.Captures.Log.{Settled, datagram_judged, entries_of, is_cut_fault, judged, packet_settled, settled, settled_as, without_datagram}
use Rattle.exercise_recording.specs.Captures.LogBack.{IsRuleFor, is_managing}
use Rattle.exercise_recording.specs.Captures.ReadBack.{FitsAddress, host_of, packet_of}
use Rattle.exercise_recording.proofs.Captured.LogBack.{first_kind, kept-is, user}
use Rattle.exercise_recording.proofs.Captured.ReadDatagrams.{datagram-read}

-- ---- addresses in a datagram

-- two bytes are a number of 16 bits
number-fits : (at : ℕ) (b : List ℕ) → IsBytes b → number_at w16 at b < 2 ^ 16
unfolding number_at
number-fits at b bytes =
    let first : slice_index (take 2 (drop at b)) 0 < 256 = rw (get_or-take 2 (drop at b) 0 0 (omega arith), get_or-drop) (bytes (at + 0)) in
    let second : slice_index (take 2 (drop at b)) 1 < 256 = rw (get_or-take 2 (drop at b) 1 0 (omega arith), get_or-drop) (bytes (at + 1)) in
    omega (arith, first, second)

either-fits : (short : Bool) (a c : SiteApplication) → FitsAddress a → FitsAddress c → FitsAddress (if short then a else c)
either-fits true a c one other = one
either-fits false a c one other = other

address-fits : (at : ℕ) (otherwise : SiteApplication) (b : List ℕ) → FitsAddress otherwise → IsBytes b → FitsAddress (address_in at otherwise b)
address-fits at otherwise b fits bytes =
    either-fits (nat_lt (length b) 24) otherwise (record { site = number_at w16 at b; application = number_at w16 (at + 2) b }) fits
    (record { site = number-fits at b bytes; application = number-fits (at + 2) b bytes })

pub source-fits : (b : List ℕ) → IsBytes b → FitsAddress (source_of b)
source-fits b bytes = address-fits 12 nobody b (record { site = omega arith; application = omega arith }) bytes

pub target-fits : (b : List ℕ) → IsBytes b → FitsAddress (target_of b)
target-fits b bytes = address-fits 18 everybody b (record { site = omega arith; application = omega arith }) bytes

-- ---- which kind it is

same-host : (a : SiteApplication) (rule : PacketRule) → IsRuleFor a rule → same_host (host_of a) rule.host ≡ true
same-host a rule for = ap (same_host (host_of a)) for.host ∙ eq-eqb (a.site * 65536 + a.application) (a.site * 65536 + a.application) refl

and-false : (p : Bool) → (p && false) ≡ false
and-false true = refl
and-false false = refl

-- what goes out from the host of the station is sent, if it is of the exercise
pub sent-is : (rule : PacketRule) (a target : SiteApplication) (b : List ℕ) → IsRuleFor a rule
    → datagram_kind rule Outbound (user a target b) ≡ first_kind (is_foreign rule (user a target b)) (is_elsewhere rule (user a target b)) kinds.Sent
unfolding datagram_kind is_passing sent_kind
sent-is rule a target b for =
    let self = same-host a rule for in
    let whole : (length b == length b) ≡ true = eq-eqb (length b) (length b) refl in
    let deaf : (is_for_all (host_of target) && rule.hears_itself) ≡ false =
    ap (λ h. is_for_all (host_of target) && h) for.deaf ∙ and-false (is_for_all (host_of target)) in
    rw (self, whole, for.alone, deaf) refl

-- and what comes in to it is received
pub received-is : (rule : PacketRule) (source a : SiteApplication) (b : List ℕ) → IsRuleFor a rule
    → datagram_kind rule Inbound (user source a b) ≡ first_kind (is_foreign rule (user source a b)) (is_elsewhere rule (user source a b)) kinds.Received
unfolding datagram_kind is_passing
received-is rule source a b for =
    let self = same-host a rule for in
    let whole : (length b == length b) ≡ true = eq-eqb (length b) (length b) refl in
    rw (self, whole, and-false (same_host (host_of source) rule.host)) refl

-- ---- what a packet gives

-- a packet is read, and gives these entries; then no fragment is held
pub record Gives (rule : PacketRule) (p : Packet) (es : List Entry) : Type 0 where
  pub settled : Settled
  pub read : judged rule [] p ≡ Ok settled
  pub held : settled.held ≡ []
  pub kept : is_cut_fault rule settled.judged.kind ≡ false
  pub entries : entries_of settled.judged.kind p.head.stamp settled.judged.bytes ≡ es

-- the entries of the first kind that is found
kind-gives : (rule : PacketRule) (foreign elsewhere : Bool) (kind : PacketKind) (stamp : ℕ) (b : List ℕ) (e : Entry)
    → entries_of kind stamp b ≡ e ∷ [] → is_cut_fault rule kind ≡ false
    → (is_cut_fault rule (first_kind foreign elsewhere kind) ≡ false)
    × (entries_of (first_kind foreign elsewhere kind) stamp b ≡ (if not foreign && not elsewhere then e ∷ [] else []))
kind-gives rule true elsewhere kind stamp b e here kept = (refl, refl)
kind-gives rule false true kind stamp b e here kept = (refl, refl)
kind-gives rule false false kind stamp b e here kept = (kept, here)

-- a packet of an interface that is wanted, from one address to another, of which the kind is this one, if it is of the exercise
pub wanted-gives : (name : Option (List ℕ)) (rule : PacketRule) (w : SettingData) (at s stamp : ℕ) (direction : Direction) (source target : SiteApplication) (b : List ℕ)
    (kind : PacketKind) (e : Entry) → is_wanted name (Some (name_text (station_in w s).address)) ≡ true → FitsAddress source → FitsAddress target
    → length b ≤ LARGEST_DATAGRAM → rule.port ≡ 3000
    → datagram_kind rule direction (user source target b) ≡ first_kind (is_foreign rule (user source target b)) (is_elsewhere rule (user source target b)) kind
    → entries_of kind stamp b ≡ e ∷ [] → is_cut_fault rule kind ≡ false
    → Gives rule (packet_of name w at s stamp direction (internet_text source target b)) (if is_managing rule.exercise b then e ∷ [] else [])
unfolding packet_settled
wanted-gives name rule w at s stamp direction source target b kind e wanted from to short port kind_is here kept =
    let p : Packet = packet_of name w at s stamp direction (internet_text source target b) in
    let foreign : Bool = is_foreign rule (user source target b) in
    let elsewhere : Bool = is_elsewhere rule (user source target b) in
    let none : Result Settled ImportFault = Ok (settled_as [] (without_datagram kinds.Other)) in
    let Read : Contents → Result Settled ImportFault = λ c. Ok (settled rule direction stamp [] c) in
    let both = kind-gives rule foreign elsewhere kind stamp b e here kept in
    record {
      settled = settled_as [] (datagram_judged rule direction (User (user source target b)));
      read = ap (λ v. if v then packet_settled rule [] p else none) wanted ∙ ap Read (datagram-read source target b from to short);
      held = refl;
      kept = ap (is_cut_fault rule) kind_is ∙ both.0;
      entries = ap (λ k. entries_of k stamp b) kind_is ∙ (both.1 ∙ ap (λ v. if v then e ∷ [] else []) (sym (kept-is rule source target b port short)));
    }

-- a packet of another interface
pub unwanted-gives : (name : Option (List ℕ)) (rule : PacketRule) (w : SettingData) (at s stamp : ℕ) (direction : Direction) (bytes : List ℕ)
    → is_wanted name (Some (name_text (station_in w s).address)) ≡ false → Gives rule (packet_of name w at s stamp direction bytes) []
unwanted-gives name rule w at s stamp direction bytes unwanted =
    let p : Packet = packet_of name w at s stamp direction bytes in
    let none : Result Settled ImportFault = Ok (settled_as [] (without_datagram kinds.Other)) in
    record {
      settled = settled_as [] (without_datagram kinds.Other);
      read = ap (λ v. if v then packet_settled rule [] p else none) unwanted;
      held = refl;
      kept = refl;
      entries = refl;
    }
