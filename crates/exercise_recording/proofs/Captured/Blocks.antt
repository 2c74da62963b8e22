-- Blocks as they are written, part by part.
use Rattle.std.proofs.Common.{◌≡◌, ℕ, ◌+◌, ◌-◌, ◌/◌, ◌%◌, ◌^◌, ◌≤◌, List, [], ◌∷◌, ◌++◌, length, sym, ap, ◌∙◌, append_assoc, length-append, arith}
use Rattle.std.specs.Prelude.{codes, decimal}
use Rattle.std.specs.Int.{w16, w32}
use Rattle.std.proofs.lemmas.List.{length-take-le}
use Rattle.dis_records.specs.declared.address.SiteApplication.{SiteApplication}
use Rattle.packet_captures.specs.declared.byte_order.ByteOrder.TheVariants.{Little}
use Rattle.packet_captures.specs.Options.{padded}
use Rattle.packet_captures.specs.Spelling.{number_text, block_text}
use Rattle.exercise_recording.specs.Captures.Blocks.{padding_text, option_text, options_end, name_text, interface_front, interface_end, interface_text, packet_front, packet_end, packet_options, packet_text}

-- so many bytes pad
pub padding-length : (n : ℕ) → length (padding_text n) ≡ padded n - n
padding-length n = let few : padded n - n ≤ 3 = omega arith in length-take-le (padded n - n) (0 ∷ 0 ∷ 0 ∷ []) few

-- a block of which a part varies
block-split : (kind : ℕ) (front middle behind : List ℕ) (total : ℕ) → total ≡ 12 + length (front ++ (middle ++ behind))
    → (number_text Little w32 kind ++ (number_text Little w32 total ++ front)) ++ (middle ++ (behind ++ number_text Little w32 total))
    ≡ block_text Little kind (front ++ (middle ++ behind))
block-split kind front middle behind total is =
    let Text : ℕ → List ℕ = λ t. number_text Little w32 kind ++ (number_text Little w32 t ++ ((front ++ (middle ++ behind)) ++ number_text Little w32 t)) in
    let last : List ℕ = number_text Little w32 total in
    append_assoc (number_text Little w32 kind) (last ++ front) (middle ++ (behind ++ last))
    ∙ ap (λ (t : List ℕ). number_text Little w32 kind ++ t) (append_assoc last front (middle ++ (behind ++ last)))
    ∙ ap (λ (t : List ℕ). number_text Little w32 kind ++ (last ++ t))
    (ap (λ (t : List ℕ). front ++ t) (sym (append_assoc middle behind last)) ∙ sym (append_assoc front (middle ++ behind) last))
    ∙ ap Text is

-- what stands in a packet before its bytes, behind its kind and total length
packet_fields : (interface stamp size : ℕ) → List ℕ
packet_fields interface stamp size =
    number_text Little w32 interface ++ (number_text Little w32 (stamp / 2 ^ 32) ++ (number_text Little w32 (stamp % 2 ^ 32)
    ++ (number_text Little w32 size ++ number_text Little w32 size)))

-- THE PARTS OF A PACKET
pub packet-parts : (interface stamp direction : ℕ) (headers bytes : List ℕ) (size total : ℕ) → length (headers ++ bytes) ≡ size → 44 + padded size ≡ total
    → (packet_front total interface stamp size ++ headers) ++ (bytes ++ (padding_text size ++ packet_end direction total))
    ≡ packet_text interface stamp direction (headers ++ bytes)
unfolding packet_text packet_fields
packet-parts interface stamp direction headers bytes size total size_is total_is =
    let all : List ℕ = headers ++ bytes in
    let n : ℕ = length all in
    let fields : List ℕ = packet_fields interface stamp n in
    let behind : List ℕ = padding_text n ++ packet_options direction in
    let last : List ℕ = number_text Little w32 total in
    let whole : total ≡ 12 + length (fields ++ (all ++ behind)) =
    omega (
      arith,
      sym total_is,
      ap padded size_is,
      size_is,
      length-append fields (all ++ behind),
      length-append all behind,
      length-append (padding_text n) (packet_options direction),
      padding-length n,
    ) in
    let Text : ℕ → List ℕ = λ s. (packet_front total interface stamp s ++ headers) ++ (bytes ++ (padding_text s ++ packet_end direction total)) in
    ap Text (sym size_is)
    ∙ append_assoc (packet_front total interface stamp n) headers (bytes ++ (padding_text n ++ packet_end direction total))
    ∙ ap (λ (t : List ℕ). packet_front total interface stamp n ++ t)
    (sym (append_assoc headers bytes (padding_text n ++ packet_end direction total))
    ∙ ap (λ (t : List ℕ). all ++ t) (sym (append_assoc (padding_text n) (packet_options direction) last)))
    ∙ block-split 6 fields all behind total whole

-- what stands in an interface before its name, behind its kind and total length
interface_fields : (name : ℕ) → List ℕ
interface_fields name =
    number_text Little w16 228 ++ (number_text Little w16 0 ++ (number_text Little w32 0 ++ (number_text Little w16 2 ++ number_text Little w16 name)))

-- THE PARTS OF AN INTERFACE
pub interface-parts : (a : SiteApplication) (size total : ℕ) → length (name_text a) ≡ size → 36 + padded size ≡ total
    → (interface_front total size ++ decimal a.site) ++ ((codes ":" ++ decimal a.application) ++ (padding_text size ++ interface_end total)) ≡ interface_text a
unfolding interface_text interface_fields
interface-parts a size total size_is total_is =
    let name : List ℕ = name_text a in
    let rest : List ℕ = codes ":" ++ decimal a.application in
    let n : ℕ = length name in
    let fields : List ℕ = interface_fields n in
    let padding : List ℕ = padding_text n in
    let behind : List ℕ = option_text 9 (6 ∷ []) ++ options_end in
    let last : List ℕ = number_text Little w32 total in
    let whole : total ≡ 12 + length (fields ++ ((name ++ padding) ++ behind)) =
    omega (
      arith,
      sym total_is,
      ap padded size_is,
      size_is,
      length-append fields ((name ++ padding) ++ behind),
      length-append (name ++ padding) behind,
      length-append name padding,
      padding-length n,
    ) in
    let Text : ℕ → List ℕ = λ s. (interface_front total s ++ decimal a.site) ++ (rest ++ (padding_text s ++ interface_end total)) in
    ap Text (sym size_is)
    ∙ append_assoc (interface_front total n) (decimal a.site) (rest ++ (padding ++ interface_end total))
    ∙ ap (λ (t : List ℕ). interface_front total n ++ t)
    (sym (append_assoc (decimal a.site) rest (padding ++ interface_end total)) ∙ sym (append_assoc name padding (interface_end total)))
    ∙ block-split 1 fields (name ++ padding) behind total whole
