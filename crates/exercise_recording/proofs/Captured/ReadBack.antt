-- The capture of a recording is read back, block by block.
use Rattle.std.proofs.Common.{◌≡◌, ℕ, ◌+◌, ◌-◌, ◌%◌, ◌^◌, ◌<◌, ◌≤◌, List, [], ◌∷◌, ◌++◌, length, take, drop, map, Option, Some, None, true, false, refl, sym, ap, ◌∙◌, rules, tests, add-zero, append_assoc, append-nil, length-append, arith}
use Rattle.std.specs.Prelude.{Result, Ok, nat_lt, nat_le, ◌&&◌, ◌==◌, min, slice_get, sum_by}
use Rattle.std.specs.Option.{option_map}
use Rattle.std.proofs.lemmas.Bool.{and_parts, ltb-true, leb-true}
use Rattle.std.proofs.lemmas.Option.{slice_get-map, slice_get-get_or}
use Rattle.dis_records.specs.Address.{is_address_part, is_address}
use Rattle.dis_records.specs.declared.address.TheConstants.{LARGEST_ADDRESS_PART}
use Rattle.dis_records.specs.declared.header.TheConstants.{LARGEST_DATAGRAM}
use Rattle.exercise_model.specs.declared.station.TheConstants.{MOST_STATIONS}
use Rattle.std.specs.Int.{w16, w32, w64}
use Rattle.std.specs.List.{flat_map, list_all}
use Rattle.byte_files.specs.Fields.{◌>>=◌}
use Rattle.dis_records.specs.declared.address.SiteApplication.{SiteApplication}
use Rattle.exercise_model.specs.Station.{StationData, is_station, is_opening, are_rising}
use Rattle.exercise_model.specs.Entry.{Entry, Sent, Received, Told, is_entry, is_stamped}
use Rattle.exercise_model.specs.Setting.{SettingData, nowhere, station_in}
use Rattle.exercise_model.specs.Recording.{PlainRecording, IsRecording}
use Rattle.packet_captures.specs.declared.byte_order.ByteOrder.TheVariants.{Little}
use Rattle.packet_captures.specs.declared.capture_fault.FormatFault.{FormatFault}
use Rattle.packet_captures.specs.declared.form.Form.TheVariants.{Section}
use Rattle.packet_captures.specs.declared.interface.Interface.{Interface}
use Rattle.packet_captures.specs.declared.limits.TheConstants.{LARGEST_BLOCK}
use Rattle.packet_captures.specs.declared.packet.Direction.{Direction}
use Rattle.packet_captures.specs.declared.packet.Direction.TheVariants.{Inbound, Outbound}
use Rattle.packet_captures.specs.Capture.{Found, PlainCapture, capture_from, capture_of, front_found, block_found, other_found, section_found, start_found, is_whole, preceded, stopped}
use Rattle.packet_captures.specs.Numbers.{number_at}
use Rattle.packet_captures.specs.Packet.{Packet}
use Rattle.packet_captures.specs.Pcapng.{section_kind, section_at, held_in, known_in, sized_at, order_in, version_in, block_content, packet_in_block, state_after}
use Rattle.packet_captures.specs.Spelling.{number_text, block_text}
use Rattle.packet_captures.specs.State.{State, start, lost_of}
use Rattle.packet_captures.proofs.Captures.{capture-none, capture-packet, capture-same}
use Rattle.packet_captures.proofs.Nexts.{after, enough, next-on, next-whole}
use Rattle.packet_captures.proofs.Spellings.{block-kind, block-held, block-known, block-sized, block-taken, block-dropped}
use Rattle.exercise_recording.specs.Captures.Blocks.{section_text, interface_body, interface_text, packet_body, packet_text}
use Rattle.exercise_recording.specs.Captures.Datagram.{datagram_headers, internet_text, source_of, target_of}
use Rattle.exercise_recording.specs.Captures.Export.{station_interface, entry_packet, capture_head, exported_text}
use Rattle.exercise_recording.specs.Captures.ReadBack.{FitsAddress, packet_of, packets_of, exported_capture}
use Rattle.exercise_recording.proofs.Captured.ReadInterfaces.{exported_interface, name-short, interface-read, interface-length}
use Rattle.exercise_recording.proofs.Captured.ReadPackets.{FitsPacket, direction_number, packet-length, packet-read, read_packet}

-- what is found: n bytes are passed, and perhaps a packet is there
pub found : (packet : Option Packet) → State → (at : ℕ) → List ℕ → Found
found packet s at rest = record { packet = packet; state = s; at = at; rest = rest }

-- ---- blocks in turn

-- a block without a packet is passed
pub passed : (name : Option (List ℕ)) (s new : State) (at place : ℕ) (b rest : List ℕ) → is_whole s.form b ≡ false
    → front_found s.form name s at b ≡ Ok (found None new place rest) → length rest < length b
    → capture_from name s at b ≡ capture_from name new place rest
unfolding found
passed name s new at place b rest more front less =
    capture-same name s new at place b rest (omega (arith, less))
    (next-on name s at b more
    ∙ (ap (λ (r : Result Found FormatFault). stopped s r >>= λ z. after (length b) name z) front
    ∙ enough (length b) (length rest + 1) name new place rest less (omega arith)))

-- a block with a packet is one packet more
pub kept : (name : Option (List ℕ)) (s new : State) (at place : ℕ) (b rest : List ℕ) (p : Packet) → is_whole s.form b ≡ false
    → front_found s.form name s at b ≡ Ok (found (Some p) new place rest)
    → capture_from name s at b ≡ preceded p (capture_from name new place rest)
unfolding found
kept name s new at place b rest p more front =
    capture-packet name s at b p new place rest
    (next-on name s at b more ∙ ap (λ (r : Result Found FormatFault). stopped s r >>= λ z. after (length b) name z) front)

-- some bytes are not none
pub not-empty : (b : List ℕ) → 0 < length b → is_whole (Section Little) b ≡ false
not-empty [] h = absurd (omega arith)
not-empty (x ∷ xs) h = search (rules, tests)

block-size : (kind : ℕ) (body rest : List ℕ) → length (block_text Little kind body ++ rest) ≡ 12 + length body + length rest
block-size kind body rest =
    let last : List ℕ = number_text Little w32 (12 + length body) in
    let block : List ℕ = block_text Little kind body in
    let a : length block ≡ 8 + length (body ++ last) = length-append (number_text Little w32 kind ++ last) (body ++ last) in
    omega (arith, a, length-append body last, length-append block rest)

-- a block of a section that is no section header
pub block-found : (name : Option (List ℕ)) (s : State) (at kind : ℕ) (body rest : List ℕ) (packet : Option Packet) (new : State)
    → kind < 2 ^ 32 → (kind == section_kind) ≡ false → 12 + length body ≤ LARGEST_BLOCK → length body % 4 ≡ 0
    → block_content Little name s kind at (block_text Little kind body) ≡ Ok (packet, new)
    → front_found (Section Little) name s at (block_text Little kind body ++ rest) ≡ Ok (found packet new (at + (12 + length body)) rest)
unfolding front_found block_found other_found found
block-found name s at kind body rest packet new fits other few whole content =
    let b : List ℕ = block_text Little kind body ++ rest in
    let n : ℕ = 12 + length body in
    let eight : nat_lt (length b) 8 ≡ false = let size = block-size kind body rest in search (rules, tests) in
    let sized : sized_at Little false at b ≡ Ok n = block-sized Little false at kind body rest (omega (arith, few)) whole in
    let known : known_in Little at (take 8 b) ≡ Ok tt = block-known Little at kind body rest few in
    let kind_is : number_at Little w32 0 (take 8 b) ≡ kind = block-kind Little kind body rest fits in
    let taken : take n b ≡ block_text Little kind body = block-taken Little kind body rest in
    let dropped : drop n b ≡ rest = block-dropped Little kind body rest in
    rw (eight, known, kind_is, other, sized, taken, content, dropped) refl

-- ---- the section header

-- a section with these interfaces, of which the last packet has this stamp
abbrev pub begun : List Interface → (stamp : ℕ) → State
begun interfaces stamp = record { form = Section Little; interfaces = interfaces; stamp = stamp; lost = 0 }

section-read : (name : Option (List ℕ)) (rest : List ℕ) → front_found start.form name start 0 (section_text ++ rest) ≡ Ok (found None (begun [] 0) 28 rest)
unfolding front_found start_found section_found section_at order_in version_in number_at found
section-read name rest =
    let b : List ℕ = section_text ++ rest in
    let body : List ℕ = number_text Little w32 0x1A2B3C4D ++ (number_text Little w16 1 ++ (number_text Little w16 0 ++ number_text Little w64 (2 ^ 64 - 1))) in
    let size : length b ≡ 28 + length rest = length-append section_text rest in
    let four : nat_lt (length b) 4 ≡ false = search (rules, tests) in
    let twelve : nat_lt (length b) 12 ≡ false = search (rules, tests) in
    let sized : sized_at Little true 0 b ≡ Ok 28 = block-sized Little true 0 section_kind body rest (omega arith) refl in
    let held : held_in Little 0 (take 8 b) ≡ Ok tt = block-held Little 0 section_kind body rest (omega arith) in
    rw (four, twelve, held, sized) refl

-- ---- interfaces

text-size : (kind : ℕ) (body : List ℕ) → length (block_text Little kind body) ≡ 12 + length body
text-size kind body =
    let last : List ℕ = number_text Little w32 (12 + length body) in
    let a : length (block_text Little kind body) ≡ 8 + length (body ++ last) = length-append (number_text Little w32 kind ++ last) (body ++ last) in
    omega (arith, a, length-append body last)

interface-size : (a : SiteApplication) → length (interface_text a) ≡ 12 + length (interface_body a)
unfolding interface_text
interface-size a = text-size 1 (interface_body a)

interface-content : (name : Option (List ℕ)) (xs : List Interface) (n at : ℕ) (a : SiteApplication) → FitsAddress a
    → block_content Little name (begun xs n) 1 at (interface_text a) ≡ Ok (None, begun (xs ++ exported_interface name a ∷ []) n)
unfolding block_content packet_in_block state_after
interface-content name xs n at a fits =
    let size = interface-size a in
    let more = interface-length a in
    let long : nat_lt (length (interface_text a)) 20 ≡ false = search (rules, tests) in
    rw (long, interface-read name a fits) refl

interface-found : (name : Option (List ℕ)) (xs : List Interface) (n at : ℕ) (a : SiteApplication) (rest : List ℕ) → FitsAddress a
    → front_found (Section Little) name (begun xs n) at (interface_text a ++ rest)
    ≡ Ok (found None (begun (xs ++ exported_interface name a ∷ []) n) (at + (12 + length (interface_body a))) rest)
unfolding interface_text
interface-found name xs n at a rest fits =
    let size = interface-length a in
    let short = name-short a fits in
    block-found name (begun xs n) at 1 (interface_body a) rest None (begun (xs ++ exported_interface name a ∷ []) n) (omega arith) refl
    (omega (arith, size, short)) (omega (arith, size)) (interface-content name xs n at a fits)

-- the address of a station within the limits
pub station-fits : (o : StationData) → is_station o ≡ true → FitsAddress o.address
station-fits o limits =
    let address = (and_parts (is_address o.address) (is_opening o.opening) limits).0 in
    let parts = and_parts (is_address_part o.address.site) (is_address_part o.address.application) address in
    let site = leb-true o.address.site LARGEST_ADDRESS_PART (and_parts (nat_le 1 o.address.site) (nat_le o.address.site LARGEST_ADDRESS_PART) parts.0).1 in
    let application = leb-true o.address.application LARGEST_ADDRESS_PART
    (and_parts (nat_le 1 o.address.application) (nat_le o.address.application LARGEST_ADDRESS_PART) parts.1).1 in
    record { site = omega (arith, site); application = omega (arith, application) }

-- the interfaces of stations
abbrev pub interfaces_of : (name : Option (List ℕ)) → List StationData → List Interface
interfaces_of name ss = map (λ (o : StationData). exported_interface name o.address) ss

interfaces-read : (name : Option (List ℕ)) (xs : List Interface) (at : ℕ) (ss : List StationData) (rest : List ℕ) → list_all is_station ss ≡ true
    → capture_from name (begun xs 0) at (flat_map station_interface ss ++ rest)
    ≡ capture_from name (begun (xs ++ interfaces_of name ss) 0) (at + length (flat_map station_interface ss)) rest
interfaces-read name xs at [] rest limits =
    ap (λ ys. capture_from name (begun ys 0) at rest) (sym (append-nil xs)) ∙ ap (λ k. capture_from name (begun (xs ++ []) 0) k rest) (sym (add-zero at))
interfaces-read name xs at (o ∷ ss) rest limits =
    let both = and_parts (is_station o) (list_all is_station ss) limits in
    let fits = station-fits o both.0 in
    let text : List ℕ = interface_text o.address in
    let more : List ℕ = flat_map station_interface ss in
    let behind : List ℕ = more ++ rest in
    let one : List Interface = exported_interface name o.address ∷ [] in
    let size = interface-size o.address in
    let whole = length-append text behind in
    let next : ℕ = at + (12 + length (interface_body o.address)) in
    let place : next + length more ≡ at + length (text ++ more) = omega (arith, size, length-append text more) in
    ap (capture_from name (begun xs 0) at) (append_assoc text more rest)
    ∙ passed name (begun xs 0) (begun (xs ++ one) 0) at next (text ++ behind) behind (not-empty (text ++ behind) (omega (arith, size, whole)))
    (interface-found name xs 0 at o.address behind fits) (omega (arith, size, whole))
    ∙ interfaces-read name (xs ++ one) next ss rest both.1
    ∙ ap (λ ys. capture_from name (begun ys 0) (next + length more) rest) (append_assoc xs one (interfaces_of name ss))
    ∙ ap (λ k. capture_from name (begun (xs ++ interfaces_of name (o ∷ ss)) 0) k rest) place

-- no packet was lost
none-lost : (name : Option (List ℕ)) (ss : List StationData) → sum_by (λ (i : Interface). i.lost) (interfaces_of name ss) ≡ 0
none-lost name [] = refl
none-lost name (o ∷ ss) = let rest = none-lost name ss in omega (arith, rest)

-- the interface of a station
interface-at : (name : Option (List ℕ)) (w : SettingData) (s : ℕ) → s < length w.stations
    → slice_get (interfaces_of name w.stations) s ≡ Some (exported_interface name (station_in w s).address)
interface-at name w s below =
    let f : StationData → Interface = λ o. exported_interface name o.address in
    slice_get-map f w.stations s ∙ ap (option_map f) (slice_get-get_or w.stations s nowhere below)

-- ---- packets

packet-size : (s stamp direction : ℕ) (bytes : List ℕ) → length (packet_text s stamp direction bytes) ≡ 12 + length (packet_body s stamp direction bytes)
unfolding packet_text
packet-size s stamp direction bytes = text-size 6 (packet_body s stamp direction bytes)

packet-content : (name : Option (List ℕ)) (xs : List Interface) (i : Interface) (n at s stamp : ℕ) (d : Direction) (bytes : List ℕ)
    → FitsPacket s stamp bytes → slice_get xs s ≡ Some i → i.resolution ≡ 6 → i.offset ≡ 0
    → block_content Little name (begun xs n) 6 at (packet_text s stamp (direction_number d) bytes) ≡ Ok (Some (read_packet i at stamp d bytes), begun xs stamp)
unfolding block_content packet_in_block
packet-content name xs i n at s stamp d bytes fits here resolution offset = rw (packet-read xs i at s stamp d bytes fits here resolution offset) refl

packet-found : (name : Option (List ℕ)) (xs : List Interface) (i : Interface) (n at s stamp : ℕ) (d : Direction) (bytes rest : List ℕ)
    → FitsPacket s stamp bytes → slice_get xs s ≡ Some i → i.resolution ≡ 6 → i.offset ≡ 0
    → front_found (Section Little) name (begun xs n) at (packet_text s stamp (direction_number d) bytes ++ rest)
    ≡ Ok (found (Some (read_packet i at stamp d bytes)) (begun xs stamp) (at + (12 + length (packet_body s stamp (direction_number d) bytes))) rest)
unfolding packet_text
packet-found name xs i n at s stamp d bytes rest fits here resolution offset =
    let size = packet-length s stamp (direction_number d) bytes in
    block-found name (begun xs n) at 6 (packet_body s stamp (direction_number d) bytes) rest (Some (read_packet i at stamp d bytes)) (begun xs stamp)
    (omega arith) refl (omega (arith, size, fits.size)) (omega (arith, size)) (packet-content name xs i n at s stamp d bytes fits here resolution offset)

-- a packet of a station, and what is behind it
packet-first : (name : Option (List ℕ)) (w : SettingData) (n at s stamp : ℕ) (d : Direction) (bytes rest : List ℕ) → FitsPacket s stamp bytes → s < length w.stations
    → (let text = packet_text s stamp (direction_number d) bytes in
    capture_from name (begun (interfaces_of name w.stations) n) at (text ++ rest)
    ≡ preceded (packet_of name w at s stamp d bytes) (capture_from name (begun (interfaces_of name w.stations) stamp) (at + length text) rest))
packet-first name w n at s stamp d bytes rest fits below =
    let xs : List Interface = interfaces_of name w.stations in
    let text : List ℕ = packet_text s stamp (direction_number d) bytes in
    let p : Packet = packet_of name w at s stamp d bytes in
    let size = packet-size s stamp (direction_number d) bytes in
    let whole = length-append text rest in
    kept name (begun xs n) (begun xs stamp) at (at + (12 + length (packet_body s stamp (direction_number d) bytes))) (text ++ rest) rest p
    (not-empty (text ++ rest) (omega (arith, size, whole)))
    (packet-found name xs (exported_interface name (station_in w s).address) n at s stamp d bytes rest fits (interface-at name w s below) refl refl)
    ∙ ap (λ k. preceded p (capture_from name (begun xs stamp) (at + k) rest)) (sym size)

-- a frame within the limits
frame-fits : (s stamp stations : ℕ) (source target : SiteApplication) (b : List ℕ) → stations ≤ 256
    → (nat_lt s stations && nat_le (length b) LARGEST_DATAGRAM) ≡ true → nat_lt stamp 18446744073709551616 ≡ true
    → FitsPacket s stamp (internet_text source target b) × (s < stations)
frame-fits s stamp stations source target b few limits stamped =
    let both = and_parts (nat_lt s stations) (nat_le (length b) LARGEST_DATAGRAM) limits in
    let below = ltb-true s stations both.0 in
    let short = leb-true (length b) LARGEST_DATAGRAM both.1 in
    let wide = ltb-true stamp 18446744073709551616 stamped in
    let size : length (internet_text source target b) ≡ 28 + length b = length-append (datagram_headers (length b) source target) b in
    (record { interface = omega (arith, below, few); stamp = omega (arith, wide); size = omega (arith, size, short) }, below)

packets-read : (name : Option (List ℕ)) (w : SettingData) (n at : ℕ) (es : List Entry) → length w.stations ≤ 256
    → list_all (is_entry (length w.stations)) es ≡ true → list_all is_stamped es ≡ true
    → capture_from name (begun (interfaces_of name w.stations) n) at (flat_map (entry_packet w) es)
    ≡ record { packets = packets_of name w at es; lost = 0; fault = None }
packets-read name w n at [] few limits stamped =
    let s : State = begun (interfaces_of name w.stations) n in
    let End : ℕ → PlainCapture = λ k. record { packets = []; lost = k; fault = None } in
    let lost : lost_of s ≡ 0 = ap (λ k. min (0 + k) (2 ^ 64 - 1)) (none-lost name w.stations) in
    capture-none name s at [] s at [] (next-whole name s at [] refl) ∙ ap End lost
packets-read name w n at (Sent s stamp b ∷ es) few limits stamped =
    let e : Entry = Sent s stamp b in
    let rest : List ℕ = flat_map (entry_packet w) es in
    let frame : List ℕ = internet_text (station_in w s).address (target_of b) b in
    let both = and_parts (is_entry (length w.stations) e) (list_all (is_entry (length w.stations)) es) limits in
    let stamps = and_parts (is_stamped e) (list_all is_stamped es) stamped in
    let fits = frame-fits s stamp (length w.stations) (station_in w s).address (target_of b) b few both.0 stamps.0 in
    packet-first name w n at s stamp Outbound frame rest fits.0 fits.1
    ∙ ap (preceded (packet_of name w at s stamp Outbound frame)) (packets-read name w stamp (at + length (entry_packet w e)) es few both.1 stamps.1)
packets-read name w n at (Received s stamp b ∷ es) few limits stamped =
    let e : Entry = Received s stamp b in
    let rest : List ℕ = flat_map (entry_packet w) es in
    let frame : List ℕ = internet_text (source_of b) (station_in w s).address b in
    let both = and_parts (is_entry (length w.stations) e) (list_all (is_entry (length w.stations)) es) limits in
    let stamps = and_parts (is_stamped e) (list_all is_stamped es) stamped in
    let fits = frame-fits s stamp (length w.stations) (source_of b) (station_in w s).address b few both.0 stamps.0 in
    packet-first name w n at s stamp Inbound frame rest fits.0 fits.1
    ∙ ap (preceded (packet_of name w at s stamp Inbound frame)) (packets-read name w stamp (at + length (entry_packet w e)) es few both.1 stamps.1)
packets-read name w n at (Told s x y ∷ es) few limits stamped =
    let both = and_parts (is_entry (length w.stations) (Told s x y)) (list_all (is_entry (length w.stations)) es) limits in
    packets-read name w n at es few both.1 (and_parts (is_stamped (Told s x y)) (list_all is_stamped es) stamped).1

-- ---- the file

-- WHAT IS EXPORTED IS READ BACK
pub export-read : (name : Option (List ℕ)) (r : PlainRecording) → IsRecording r → capture_of name (exported_text r) ≡ exported_capture name r
export-read name r limits =
    let w : SettingData = r.setting in
    let interfaces : List ℕ = flat_map station_interface w.stations in
    let packets : List ℕ = flat_map (entry_packet w) r.entries in
    let behind : List ℕ = interfaces ++ packets in
    let stations = and_parts (nat_le 1 (length w.stations)) (nat_le (length w.stations) MOST_STATIONS && are_rising None w.stations) limits.setting.stations in
    let few = leb-true (length w.stations) MOST_STATIONS (and_parts (nat_le (length w.stations) MOST_STATIONS) (are_rising None w.stations) stations.1).0 in
    let whole = length-append section_text behind in
    let place : 28 + length interfaces ≡ length (capture_head w) = sym (length-append section_text interfaces) in
    let End : ℕ → PlainCapture = λ k. record { packets = packets_of name w k r.entries; lost = 0; fault = None } in
    ap (capture_from name start 0) (append_assoc section_text interfaces packets)
    ∙ passed name start (begun [] 0) 0 28 (section_text ++ behind) behind refl (section-read name behind) (omega (arith, whole))
    ∙ interfaces-read name [] 28 w.stations packets limits.setting.each_station
    ∙ packets-read name w 0 (28 + length interfaces) r.entries (omega (arith, few)) limits.each_entry limits.each_stamp
    ∙ ap End place
