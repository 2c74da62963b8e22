-- The blocks of an exported capture (draft-ietf-opsawg-pcapng, 3.5 options, 4.1 section header, 4.2 interface
-- description, 4.3 enhanced packet): little-endian.
use Rattle.std.specs.Prelude.{ℕ, ◌-◌, ◌/◌, ◌%◌, ◌^◌, List, [], ◌∷◌, ◌++◌, length, take, codes, decimal}
use Rattle.std.specs.Int.{w16, w32, w64}
use Rattle.dis_records.specs.declared.address.SiteApplication.{SiteApplication}
use Rattle.packet_captures.specs.declared.byte_order.ByteOrder.TheVariants.{Little}
use Rattle.packet_captures.specs.Options.{padded}
use Rattle.packet_captures.specs.Pcapng.{section_kind}
use Rattle.packet_captures.specs.Spelling.{number_text, block_text}

-- the bytes that pad so many to a multiple of four
abbrev pub padding_text : ℕ → List ℕ
padding_text n = take (padded n - n) (0 ∷ 0 ∷ 0 ∷ [])

-- an option: its code, the length of its value, the value, padded
abbrev pub option_text : (code : ℕ) → (value : List ℕ) → List ℕ
option_text code value = number_text Little w16 code ++ (number_text Little w16 (length value) ++ (value ++ padding_text (length value)))

-- the end of the options
abbrev pub options_end : List ℕ
options_end = number_text Little w16 0 ++ number_text Little w16 0

-- THE SECTION HEADER: the number that tells the byte order, version 1.0, a length that is not said (-1), no options
abbrev pub section_text : List ℕ
section_text =
    block_text Little section_kind
    (number_text Little w32 0x1A2B3C4D ++ (number_text Little w16 1 ++ (number_text Little w16 0 ++ number_text Little w64 (2 ^ 64 - 1))))

-- the name of an interface: the address of its station, S:A
abbrev pub name_text : SiteApplication → List ℕ
name_text a = decimal a.site ++ (codes ":" ++ decimal a.application)

-- the options of an interface: if_name (2), and if_tsresol (9), microseconds
abbrev pub interface_options : SiteApplication → List ℕ
interface_options a = option_text 2 (name_text a) ++ (option_text 9 (6 ∷ []) ++ options_end)

-- THE INTERFACE of a station: link type IPV4 (228), no snapshot length, options
abbrev pub interface_body : SiteApplication → List ℕ
interface_body a = number_text Little w16 228 ++ (number_text Little w16 0 ++ (number_text Little w32 0 ++ interface_options a))

unfoldable pub interface_text : SiteApplication → List ℕ
interface_text a = block_text Little 1 (interface_body a)

-- the options of a packet: epb_flags (2), of which the lower two bits say its direction, 1 in and 2 out
abbrev pub packet_options : (direction : ℕ) → List ℕ
packet_options direction = option_text 2 (number_text Little w32 direction) ++ options_end

-- AN ENHANCED PACKET, wholly captured: its interface, the upper and the lower half of its stamp, its length, twice, its
-- bytes, padded, options
abbrev pub packet_body : (interface stamp direction : ℕ) → (bytes : List ℕ) → List ℕ
packet_body interface stamp direction bytes =
    number_text Little w32 interface ++ (number_text Little w32 (stamp / 2 ^ 32) ++ (number_text Little w32 (stamp % 2 ^ 32)
    ++ (number_text Little w32 (length bytes) ++ (number_text Little w32 (length bytes)
    ++ (bytes ++ (padding_text (length bytes) ++ packet_options direction))))))

unfoldable pub packet_text : (interface stamp direction : ℕ) → (bytes : List ℕ) → List ℕ
packet_text interface stamp direction bytes = block_text Little 6 (packet_body interface stamp direction bytes)

-- ---- the parts in which they are written, around bytes of a size that varies

-- an interface, given its total length and the length of its name: what stands before the name
abbrev pub interface_front : (total name : ℕ) → List ℕ
interface_front total name =
    number_text Little w32 1 ++ (number_text Little w32 total ++ (number_text Little w16 228 ++ (number_text Little w16 0
    ++ (number_text Little w32 0 ++ (number_text Little w16 2 ++ number_text Little w16 name)))))

-- and behind it and its padding
abbrev pub interface_end : (total : ℕ) → List ℕ
interface_end total = option_text 9 (6 ∷ []) ++ (options_end ++ number_text Little w32 total)

-- a packet, given its total length and the number of its bytes: what stands before its bytes
abbrev pub packet_front : (total interface stamp size : ℕ) → List ℕ
packet_front total interface stamp size =
    number_text Little w32 6 ++ (number_text Little w32 total ++ (number_text Little w32 interface
    ++ (number_text Little w32 (stamp / 2 ^ 32) ++ (number_text Little w32 (stamp % 2 ^ 32)
    ++ (number_text Little w32 size ++ number_text Little w32 size)))))

-- and behind them and their padding
abbrev pub packet_end : (direction total : ℕ) → List ℕ
packet_end direction total = packet_options direction ++ number_text Little w32 total
