-- Each record and block has at least a byte.
use Rattle.std.proofs.Common.{◌≡◌, ℕ, ◌+◌, ◌<◌, ◌≤◌, List, length, take, Option, Some, None, Bool, true, false, refl, ap, subst, cond, arith, length-drop}
use Rattle.std.specs.Prelude.{Result, Ok, Err, nat_lt, is_none, ◌||◌, not, ◌==◌, ◌%◌, ◌-◌, if◌then◌else◌}
use Rattle.std.specs.Int.{w32}
use Rattle.std.specs.Option.{option_map_or}
use Rattle.std.proofs.lemmas.Bool.{ltb-false}
use Rattle.byte_files.specs.Fields.{◌>>=◌}
use Rattle.packet_captures.specs.declared.byte_order.ByteOrder.{ByteOrder}
use Rattle.packet_captures.specs.declared.byte_order.ByteOrder.TheVariants.{Little}
use Rattle.packet_captures.specs.declared.capture_fault.FormatFault.{FormatFault}
use Rattle.packet_captures.specs.declared.capture_fault.FormatFault.TheVariants as faults
use Rattle.packet_captures.specs.declared.form.Form.{Form}
use Rattle.packet_captures.specs.declared.form.Form.TheVariants.{Start, Pcap, Section}
use Rattle.packet_captures.specs.declared.pcap.PcapHead.{PcapHead}
use Rattle.packet_captures.specs.Numbers.{number_at}
use Rattle.packet_captures.specs.Packet.{Packet}
use Rattle.packet_captures.specs.Pcap.{pcap_at, pcap_head, pcap_kind, record_at, record_size, record_packet}
use Rattle.packet_captures.specs.Pcapng.{held_in, known_in, same_at_end, section_at, section_kind, size_in, sized_at, version_in, order_in, block_content}
use Rattle.packet_captures.specs.Capture.{Found, block_found, found_in, front_found, head_found, other_found, pcap_found, record_found, section_found, start_found}
use Rattle.packet_captures.specs.State.{State, pcap_state, section_state}
use Rattle.packet_captures.specs.Whole.{held_at, whole_at}

abbrev ok : {A : Type 0} → A → Result A FormatFault
ok x = Ok x

bind_ok : {A B F : Type 0} (r : Result A F) (f : A → Result B F) (y : B) → (r >>= f) ≡ Ok y → (x : A) × (r ≡ Ok x) × (f x ≡ Ok y)
bind_ok (Ok x) f y e = (x, refl, e)
bind_ok (Err d) f y e = absurd (cc)

guard_ok : {A F : Type 0} (t : Bool) (d : F) (x y : A) → cond t (Err d) (Ok x) ≡ Ok y → (t ≡ false) × (x ≡ y)
guard_ok true d x y e = absurd (cc)
guard_ok false d x y e = (refl, cc)

tested_ok : {A F : Type 0} (t : Bool) (d : F) (x y : A) → cond t (Ok x) (Err d) ≡ Ok y → x ≡ y
tested_ok true d x y e = cc
tested_ok false d x y e = absurd (cc)

or_false : (a t : Bool) → a || t ≡ false → a ≡ false
or_false true t e = absurd (cc)
or_false false t e = refl

either : {X : Type 0} (t : Bool) (x y z : X) (G : Type 0) → cond t x y ≡ z → (x ≡ z → G) → (y ≡ z → G) → G
either true x y z G e f g = f e
either false x y z G e f g = g e

whole-ok : (n : ℕ) (head : Bool) (at : ℕ) (b : List ℕ) (u : Unit {0}) → whole_at n head at b ≡ Ok u → n ≤ length b
whole-ok n head at b u e = ltb-false (length b) n (guard_ok (nat_lt (length b) n) (faults.Truncated (at + length b) head) tt u e).0

size-ok : (order : ByteOrder) (at : ℕ) (h : List ℕ) (n : ℕ) → size_in order at h ≡ Ok n → 12 ≤ n
unfolding size_in
size-ok order at h n e =
    let p = guard_ok (nat_lt (number_at order w32 4 h) 12 || not (number_at order w32 4 h % 4 == 0)) (faults.Block (at + 4)) (number_at order w32 4 h) n e in
    subst (λ (m : ℕ). 12 ≤ m) p.1 (ltb-false (number_at order w32 4 h) 12 (or_false (nat_lt (number_at order w32 4 h) 12) (not (number_at order w32 4 h % 4 == 0)) p.0))

same-ok : (order : ByteOrder) (size at : ℕ) (block : List ℕ) (n : ℕ) → same_at_end order size at block ≡ Ok n → size ≡ n
unfolding same_at_end
same-ok order size at block n e = tested_ok (number_at order w32 (size - 4) block == size) (faults.Block (at + (size - 4))) size n e

pub sized-ok : (order : ByteOrder) (head : Bool) (at : ℕ) (b : List ℕ) (n : ℕ) → sized_at order head at b ≡ Ok n → (12 ≤ n) × (n ≤ length b)
unfolding sized_at
sized-ok order head at b n e =
    let p = bind_ok (size_in order at (take 8 b)) (λ (m : ℕ). whole_at m head at b >>= λ w. same_at_end order m at (take m b)) n e in
    let q = bind_ok (whole_at p.0 head at b) (λ (w : Unit {0}). same_at_end order p.0 at (take p.0 b)) n p.2 in
    let same : p.0 ≡ n = same-ok order p.0 at (take p.0 b) n q.2 in
    let least : 12 ≤ p.0 = size-ok order at (take 8 b) p.0 p.1 in
    let there : p.0 ≤ length b = whole-ok p.0 head at b q.0 q.1 in
    (omega arith, omega arith)

-- what is behind at least one byte is shorter
behind-shorter : (n at : ℕ) (b : List ℕ) (p : Option Packet) (s : State) (f : Found) → ok (found_in n at b p s) ≡ Ok f → 0 < n → n ≤ length b
    → length f.rest < length b
behind-shorter n at b p s f e h g =
    let k : found_in n at b p s ≡ f = cc in
    subst (λ (x : Found). length x.rest < length b) k (omega (arith, length-drop n b))

pcap-shorter : (kind : ByteOrder × Bool) (s : State) (at : ℕ) (b : List ℕ) (f : Found) → pcap_found kind s at b ≡ Ok f → length f.rest < length b
unfolding pcap_found pcap_at
pcap-shorter kind s at b f e =
    let p = bind_ok (pcap_at kind at b) (λ (h : PcapHead). Ok (found_in 24 at b None (pcap_state h s))) f e in
    let q = bind_ok (whole_at 24 true at b) (λ (w : Unit {0}). pcap_head kind at (take 24 b)) p.0 p.1 in
    behind-shorter 24 at b None (pcap_state p.0 s) f p.2 (omega arith) (whole-ok 24 true at b q.0 q.1)

record-shorter : (h : PcapHead) (name : Option (List ℕ)) (s : State) (at : ℕ) (b : List ℕ) (f : Found) → record_found h name s at b ≡ Ok f → length f.rest < length b
unfolding record_found record_at
record-shorter h name s at b f e =
    let p = bind_ok (record_at h (is_none name) at b) (λ (r : ℕ × Packet). Ok (found_in r.0 at b (Some r.1) s)) f e in
    let n : ℕ = record_size h (take 16 b) in
    let q = bind_ok (whole_at 16 false at b) (λ (w : Unit {0}). held_at n 8 at >>= λ held. whole_at n false at b >>= λ v. Ok (n, record_packet h (is_none name) at (take n b))) p.0 p.1 in
    let k = bind_ok (held_at n 8 at) (λ (held : Unit {0}). whole_at n false at b >>= λ v. Ok (n, record_packet h (is_none name) at (take n b))) p.0 q.2 in
    let r = bind_ok (whole_at n false at b) (λ (w : Unit {0}). ok (n, record_packet h (is_none name) at (take n b))) p.0 k.2 in
    let there : n ≤ length b = whole-ok n false at b r.0 r.1 in
    let pair : (n, record_packet h (is_none name) at (take n b)) ≡ p.0 = cc in
    let size : n ≡ p.0.0 = ap (λ (x : ℕ × Packet). x.0) pair in
    let least : 16 ≤ n = omega arith in
    behind-shorter p.0.0 at b (Some p.0.1) s f p.2 (omega arith) (omega arith)

section-shorter : (head : Bool) (s : State) (at : ℕ) (b : List ℕ) (f : Found) → section_found head s at b ≡ Ok f → length f.rest < length b
unfolding section_found section_at
section-shorter head s at b f e =
    let p = bind_ok (section_at head at b) (λ (r : ℕ × ByteOrder). Ok (found_in r.0 at b None (section_state r.1 s))) f e in
    let q = bind_ok (whole_at 12 head at b) (λ (w : Unit {0}). order_in at (take 12 b) >>= λ order. held_in order at (take 8 b) >>= λ held. sized_at order head at b >>= λ n. version_in order at (take n b) >>= λ v. Ok (n, order)) p.0 p.1 in
    let r = bind_ok (order_in at (take 12 b)) (λ (order : ByteOrder). held_in order at (take 8 b) >>= λ held. sized_at order head at b >>= λ n. version_in order at (take n b) >>= λ v. Ok (n, order)) p.0 q.2 in
    let k = bind_ok (held_in r.0 at (take 8 b)) (λ (held : Unit {0}). sized_at r.0 head at b >>= λ n. version_in r.0 at (take n b) >>= λ v. Ok (n, r.0)) p.0 r.2 in
    let t = bind_ok (sized_at r.0 head at b) (λ (n : ℕ). version_in r.0 at (take n b) >>= λ v. Ok (n, r.0)) p.0 k.2 in
    let v = bind_ok (version_in r.0 at (take t.0 b)) (λ (u : Unit {0}). ok (t.0, r.0)) p.0 t.2 in
    let sizes = sized-ok r.0 head at b t.0 t.1 in
    let pair : (t.0, r.0) ≡ p.0 = cc in
    let size : t.0 ≡ p.0.0 = ap (λ (x : ℕ × ByteOrder). x.0) pair in
    behind-shorter p.0.0 at b None (section_state p.0.1 s) f p.2 (omega arith) (omega arith)

other-shorter : (order : ByteOrder) (name : Option (List ℕ)) (s : State) (at : ℕ) (b : List ℕ) (f : Found) → other_found order name s at b ≡ Ok f → length f.rest < length b
unfolding other_found
other-shorter order name s at b f e =
    let kind : ℕ = number_at order w32 0 (take 8 b) in
    let k = bind_ok (known_in order at (take 8 b)) (λ (known : Unit {0}). sized_at order false at b >>= λ n. block_content order name s kind at (take n b) >>= λ content. Ok (found_in n at b content.0 content.1)) f e in
    let p = bind_ok (sized_at order false at b) (λ (n : ℕ). block_content order name s kind at (take n b) >>= λ content. Ok (found_in n at b content.0 content.1)) f k.2 in
    let q = bind_ok (block_content order name s kind at (take p.0 b)) (λ (content : Option Packet × State). Ok (found_in p.0 at b content.0 content.1)) f p.2 in
    let sizes = sized-ok order false at b p.0 p.1 in
    behind-shorter p.0 at b q.0.0 q.0.1 f q.2 (omega arith) (omega arith)

block-shorter : (order : ByteOrder) (name : Option (List ℕ)) (s : State) (at : ℕ) (b : List ℕ) (f : Found) → block_found order name s at b ≡ Ok f → length f.rest < length b
unfolding block_found
block-shorter order name s at b f e =
    let kind : ℕ = number_at order w32 0 (take 8 b) in
    let p = bind_ok (whole_at 8 false at b) (λ (w : Unit {0}). if kind == section_kind then section_found false s at b else other_found order name s at b) f e in
    either (kind == section_kind) (section_found false s at b) (other_found order name s at b) (Ok f) (length f.rest < length b) p.2
    (section-shorter false s at b f) (other-shorter order name s at b f)

kind-shorter : (o : Option (ByteOrder × Bool)) (s : State) (at : ℕ) (b : List ℕ) (f : Found)
    → option_map_or (λ kind. pcap_found kind s at b) o (Err (faults.Magic at)) ≡ Ok f → length f.rest < length b
kind-shorter None s at b f e = absurd (cc)
kind-shorter (Some kind) s at b f e = pcap-shorter kind s at b f e

start-shorter : (s : State) (at : ℕ) (b : List ℕ) (f : Found) → start_found s at b ≡ Ok f → length f.rest < length b
unfolding start_found
start-shorter s at b f e =
    let magic : ℕ = number_at Little w32 0 (take 4 b) in
    either (nat_lt (length b) 4) (Err (faults.Magic at)) (head_found magic s at b) (Ok f) (length f.rest < length b) e
    (λ (k : Err (faults.Magic at) ≡ Ok f). absurd (cc))
    (λ (k : head_found magic s at b ≡ Ok f).
    either (magic == section_kind) (section_found true s at b) (option_map_or (λ kind. pcap_found kind s at b) (pcap_kind magic) (Err (faults.Magic at))) (Ok f) (length f.rest < length b) k
    (section-shorter true s at b f) (kind-shorter (pcap_kind magic) s at b f))

pub front-shorter : (form : Form) (name : Option (List ℕ)) (s : State) (at : ℕ) (b : List ℕ) (f : Found) → front_found form name s at b ≡ Ok f → length f.rest < length b
unfolding front_found
front-shorter Start name s at b f e = start-shorter s at b f e
front-shorter (Pcap h) name s at b f e = record-shorter h name s at b f e
front-shorter (Section order) name s at b f e = block-shorter order name s at b f e
