-- What is at the front of the bytes that are held is at the front of all bytes ahead.
use Rattle.std.proofs.Common.{◌≡◌, ℕ, ◌+◌, ◌-◌, ◌≤◌, List, ◌++◌, length, take, drop, Option, Some, None, Bool, refl, sym, ◌∙◌, ap, subst, arith, length-append}
use Rattle.std.specs.Prelude.{IfSome, Result, Ok}
use Rattle.std.specs.Io.KnownBytes.{prepend_known}
use Rattle.std.proofs.lemmas.List.{take-append-le, take-take, drop-take}
use Rattle.packet_captures.specs.declared.pcap.PcapHead.{PcapHead}
use Rattle.packet_captures.specs.declared.packet.PacketHead.{PacketHead}
use Rattle.packet_captures.specs.declared.block.PacketPart.{PacketPart}
use Rattle.packet_captures.specs.declared.capture_fault.FormatFault.{FormatFault}
use Rattle.packet_captures.specs.Block.{packet_in}
use Rattle.packet_captures.specs.State.{State}
use Rattle.packet_captures.specs.Packet.{Packet}
use Rattle.packet_captures.specs.Pcap.{record_head, record_packet}

-- a part of a front
pub part-front : (from count size : ℕ) (xs : List ℕ) → from + count ≤ size → take count (drop from (take size xs)) ≡ take count (drop from xs)
part-front from count size xs h =
    let k : size ≡ from + (size - from) = omega arith in
    ap (λ (n : ℕ). take count (drop from (take n xs))) k
    ∙ (ap (λ (ys : List ℕ). take count ys) (drop-take from (size - from) xs)
    ∙ take-take count (size - from) (drop from xs) (omega arith))

-- what is behind the first bytes of a front
pub rest-front : (from size : ℕ) (xs : List ℕ) → from ≤ size → drop from (take size xs) ≡ take (size - from) (drop from xs)
rest-front from size xs h =
    let k : size ≡ from + (size - from) = omega arith in
    ap (λ (n : ℕ). drop from (take n xs)) k ∙ drop-take from (size - from) xs

pub record-held : (p : PcapHead) (wanted : Bool) (at size : ℕ) (held : List ℕ) (rest : Option (List ℕ)) (head : PacketHead) (kept : List ℕ)
    → 16 ≤ size → size ≤ length held → head ≡ record_head p wanted at (take 16 held) → kept ≡ take (size - 16) (drop 16 held)
    → IfSome (prepend_known held rest) (λ b. record { head = head; bytes = kept } ≡ record_packet p wanted at (take size b))
record-held p wanted at size held None head kept h g e k = tt
record-held p wanted at size held (Some xs) head kept h g e k =
    let f : PacketHead → List ℕ → Packet = λ (a : PacketHead) (c : List ℕ). record { head = a; bytes = c } in
    ap (λ (a : PacketHead). f a kept) (e ∙ ap (λ (ys : List ℕ). record_head p wanted at ys) (sym (take-take 16 size held h)))
    ∙ (ap (λ (c : List ℕ). f (record_head p wanted at (take 16 (take size held))) c) (k ∙ sym (rest-front 16 size held h))
    ∙ ap (λ (ys : List ℕ). record_packet p wanted at ys) (sym (take-append-le size held xs g)))

-- what is known of the bytes ahead, where they are known
pub if-known : (x : Option (List ℕ)) (P : List ℕ → Type 0) → ((b : List ℕ) → x ≡ Some b → P b) → IfSome x P
if-known None P f = tt
if-known (Some b) P f = f b refl

pub at-known : (x : Option (List ℕ)) (P : List ℕ → Type 0) (b : List ℕ) → x ≡ Some b → IfSome x P → P b
at-known x P b e p = subst (λ (y : Option (List ℕ)). IfSome y P) e p

pub held-within : (held : List ℕ) (rest : Option (List ℕ)) (b : List ℕ) → prepend_known held rest ≡ Some b → length held ≤ length b
held-within held None b e = absurd (cc)
held-within held (Some xs) b e =
    let k : held ++ xs ≡ b = cc in
    subst (λ (ys : List ℕ). length held ≤ length ys) k (omega (arith, length-append held xs))

-- what a function gives at the front of what is held, it gives at the front of all
pub front-known : {X : Type 0} (f : List ℕ → X) (x : X) (n : ℕ) (held : List ℕ) (rest : Option (List ℕ)) → n ≤ length held → x ≡ f (take n held)
    → IfSome (prepend_known held rest) (λ b. x ≡ f (take n b))
front-known f x n held None h e = tt
front-known f x n held (Some xs) h e = e ∙ ap f (sym (take-append-le n held xs h))

-- what a block tells that is held, all bytes ahead tell
pub content-held : (f : List ℕ → Result (Option Packet × State) FormatFault) (part : PacketPart) (new : State) (size : ℕ) (held : List ℕ) (rest : Option (List ℕ)) (kept : List ℕ)
    → size ≤ length held → part.from + part.count ≤ size
    → f (take size held) ≡ Ok (Some (packet_in (take size held) part), new) → kept ≡ take part.count (drop part.from held)
    → IfSome (prepend_known held rest) (λ b. f (take size b) ≡ Ok (Some (record { head = part.head; bytes = kept }), new))
content-held f part new size held None kept h g e k = tt
content-held f part new size held (Some xs) kept h g e k =
    let given : List ℕ → Result (Option Packet × State) FormatFault = λ (ys : List ℕ). Ok (Some (record { head = part.head; bytes = ys }), new) in
    ap f (take-append-le size held xs h) ∙ (e ∙ ap given (part-front part.from part.count size held g ∙ sym k))
