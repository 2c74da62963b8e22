-- A file of pcap is read as it is spelled.
use Rattle.std.proofs.Common.{◌≡◌, ℕ, ◌+◌, ◌*◌, ◌/◌, ◌%◌, ◌^◌, ◌<◌, ◌≤◌, List, [], ◌∷◌, ◌++◌, length, take, drop, Some, None, Bool, true, false, refl, sym, ◌∙◌, ap, cond, rules, tests, append_assoc, length-append, length-drop, le-ltb, arith}
use Rattle.std.specs.Prelude.{Result, Ok, Err, nat_lt, ◌==◌, if◌then◌else◌}
use Rattle.std.specs.Int.{w32, from_be_bytes, from_le_bytes, to_be_bytes, to_le_bytes}
use Rattle.std.specs.List.{AllByRecursion}
use Rattle.std.proofs.lemmas.List.{take_at, drop_at}
use Rattle.std.proofs.lemmas.Nat.{from_le_bytes-to_le_bytes_4, from_be_bytes-to_be_bytes_4}
use Rattle.byte_files.specs.Fields.{◌>>=◌}
use Rattle.packet_captures.specs.declared.byte_order.ByteOrder.{ByteOrder}
use Rattle.packet_captures.specs.declared.byte_order.ByteOrder.TheVariants.{Little, Big}
use Rattle.packet_captures.specs.declared.capture_fault.FormatFault.{FormatFault}
use Rattle.packet_captures.specs.declared.capture_fault.FormatFault.TheVariants as faults
use Rattle.packet_captures.specs.declared.form.Form.TheVariants.{Pcap}
use Rattle.packet_captures.specs.declared.packet.Direction.TheVariants.{Unknown}
use Rattle.packet_captures.specs.declared.packet.PacketHead.{PacketHead}
use Rattle.packet_captures.specs.declared.pcap.PcapHead.{PcapHead}
use Rattle.packet_captures.specs.Capture.{Found, PlainCapture, capture_from, capture_of, found_in, front_found, is_whole, next_found, pcap_found, preceded, record_found, start_found, stopped}
use Rattle.packet_captures.specs.Numbers.{number_at}
use Rattle.packet_captures.specs.Packet.{Packet}
use Rattle.packet_captures.specs.Pcap.{pcap_at, pcap_head, record_at, record_head, record_packet, record_size}
use Rattle.packet_captures.specs.Spelling.{FitsRecord, PlainRecord, packet_of, pcap_head_text, pcap_text, record_head_text, records_capture, records_text}
use Rattle.packet_captures.specs.State.{State, pcap_state, start}
use Rattle.packet_captures.specs.Whole.{whole_at, held_at}
use Rattle.packet_captures.specs.declared.limits.TheConstants.{LARGEST_BLOCK}
use Rattle.packet_captures.proofs.Captures.{capture-none, capture-packet, capture-same}
use Rattle.packet_captures.proofs.Nexts.{after, enough, next-on, next-whole}

-- some bytes are not none
not-empty : (b : List ℕ) → 0 < length b → length b == 0 ≡ false
not-empty [] h = absurd (omega arith)
not-empty (x ∷ xs) h = search (rules, tests)

-- a record's head is the first sixteen bytes
head-taken : (order : ByteOrder) (r : PlainRecord) (behind : List ℕ) → take 16 (record_head_text order r ++ behind) ≡ record_head_text order r
head-taken Little r behind = refl
head-taken Big r behind = refl

head-dropped : (order : ByteOrder) (r : PlainRecord) (behind : List ℕ) → drop 16 (record_head_text order r ++ behind) ≡ behind
head-dropped Little r behind = refl
head-dropped Big r behind = refl

head-length : (order : ByteOrder) (r : PlainRecord) → length (record_head_text order r) ≡ 16
head-length Little r = refl
head-length Big r = refl

-- its four numbers
seconds-read : (order : ByteOrder) (r : PlainRecord) → FitsRecord r → number_at order w32 0 (record_head_text order r) ≡ r.seconds
unfolding number_at
seconds-read Little r f = from_le_bytes-to_le_bytes_4 r.seconds f.seconds
seconds-read Big r f = from_be_bytes-to_be_bytes_4 r.seconds f.seconds

fraction-read : (order : ByteOrder) (r : PlainRecord) → FitsRecord r → number_at order w32 4 (record_head_text order r) ≡ r.fraction
unfolding number_at
fraction-read Little r f = from_le_bytes-to_le_bytes_4 r.fraction f.fraction
fraction-read Big r f = from_be_bytes-to_be_bytes_4 r.fraction f.fraction

kept-read : (order : ByteOrder) (r : PlainRecord) → FitsRecord r → number_at order w32 8 (record_head_text order r) ≡ length r.bytes
unfolding number_at
kept-read Little r f = from_le_bytes-to_le_bytes_4 (length r.bytes) (omega (arith, f.kept))
kept-read Big r f = from_be_bytes-to_be_bytes_4 (length r.bytes) (omega (arith, f.kept))

original-read : (order : ByteOrder) (r : PlainRecord) → FitsRecord r → number_at order w32 12 (record_head_text order r) ≡ r.original
unfolding number_at
original-read Little r f = from_le_bytes-to_le_bytes_4 r.original f.original
original-read Big r f = from_be_bytes-to_be_bytes_4 r.original f.original

head-read : (p : PcapHead) (at : ℕ) (r : PlainRecord) → FitsRecord r → record_head p true at (record_head_text p.order r) ≡ (packet_of p at r).head
head-read p at r f =
    let head : ℕ → ℕ → ℕ → PacketHead = λ (s fr o : ℕ). record {
      at = at;
      link = p.link;
      order = p.order;
      wanted = true;
      stamp = s * 1000000 + (if p.nanoseconds then fr / 1000 else fr);
      direction = Unknown;
      original = o;
    } in
    let h : List ℕ = record_head_text p.order r in
    ap (λ (s : ℕ). head s (number_at p.order w32 4 h) (number_at p.order w32 12 h)) (seconds-read p.order r f)
    ∙ (ap (λ (fr : ℕ). head r.seconds fr (number_at p.order w32 12 h)) (fraction-read p.order r f)
    ∙ ap (λ (o : ℕ). head r.seconds r.fraction o) (original-read p.order r f))

-- a record of this size that is there
record-known : (p : PcapHead) (at : ℕ) (b : List ℕ) (n : ℕ) → 16 ≤ length b → record_size p (take 16 b) ≡ n → n ≤ LARGEST_BLOCK → n ≤ length b
    → record_at p true at b ≡ Ok (n, record_packet p true at (take n b))
unfolding record_at
record-known p at b n h e few g =
    let first : nat_lt (length b) 16 ≡ false = search (rules, tests) in
    let second : nat_lt (length b) n ≡ false = search (rules, tests) in
    let fault : FormatFault = faults.Truncated (at + length b) false in
    let held : nat_lt LARGEST_BLOCK n ≡ false = le-ltb LARGEST_BLOCK n few in
    let given : ℕ → Result (ℕ × Packet) FormatFault = λ (m : ℕ). held_at m 8 at >>= λ v. whole_at m false at b >>= λ w. Ok (m, record_packet p true at (take m b)) in
    let two : Bool → Result (Unit {0}) FormatFault = λ (t : Bool). cond t (Err fault) (Ok tt) in
    let long : Bool → Result (Unit {0}) FormatFault = λ (t : Bool). cond t (Err (faults.Block (at + 8))) (Ok tt) in
    ap (λ (t : Bool). two t >>= λ w. given (record_size p (take 16 b))) first
    ∙ (ap given e ∙ (ap (λ (t : Bool). long t >>= λ v. whole_at n false at b >>= λ w. Ok (n, record_packet p true at (take n b))) held
    ∙ ap (λ (t : Bool). two t >>= λ w. Ok (n, record_packet p true at (take n b))) second))

record-read : (p : PcapHead) (at : ℕ) (r : PlainRecord) (rest : List ℕ) → FitsRecord r
    → record_at p true at (record_head_text p.order r ++ (r.bytes ++ rest)) ≡ Ok (16 + length r.bytes, packet_of p at r)
record-read p at r rest f =
    let h : List ℕ = record_head_text p.order r in
    let n : ℕ = 16 + length r.bytes in
    let b : List ℕ = h ++ (r.bytes ++ rest) in
    let size : length b ≡ n + length rest = omega (arith, length-append h (r.bytes ++ rest), length-append r.bytes rest, head-length p.order r) in
    let whole : List ℕ = h ++ r.bytes in
    let long : length whole ≡ n = omega (arith, length-append h r.bytes, head-length p.order r) in
    let apart : whole ++ rest ≡ b = append_assoc h r.bytes rest in
    let taken : take n b ≡ whole = ap (λ (xs : List ℕ). take n xs) (sym apart) ∙ take_at whole rest n long in
    let told : record_size p (take 16 b) ≡ n = ap (λ (xs : List ℕ). record_size p xs) (head-taken p.order r (r.bytes ++ rest)) ∙ ap (λ (m : ℕ). 16 + m) (kept-read p.order r f) in
    let given : Packet → Result (ℕ × Packet) FormatFault = λ (x : Packet). Ok (n, x) in
    let packet : PacketHead → List ℕ → Packet = λ (a : PacketHead) (c : List ℕ). record { head = a; bytes = c } in
    record-known p at b n (omega arith) told f.kept (omega arith)
    ∙ ap given (ap (λ (xs : List ℕ). record_packet p true at xs) taken
    ∙ (ap (λ (xs : List ℕ). packet (record_head p true at xs) (drop 16 whole)) (head-taken p.order r r.bytes)
    ∙ (ap (λ (a : PacketHead). packet a (drop 16 whole)) (head-read p at r f)
    ∙ ap (λ (c : List ℕ). packet (packet_of p at r).head c) (head-dropped p.order r r.bytes))))

-- the next packet of records is that of the first
next-read : (p : PcapHead) (at : ℕ) (r : PlainRecord) (rs : List PlainRecord) → FitsRecord r
    → next_found None (pcap_state p start) at (records_text p.order (r ∷ rs))
    ≡ Ok (found_in (16 + length r.bytes) at (records_text p.order (r ∷ rs)) (Some (packet_of p at r)) (pcap_state p start))
unfolding front_found record_found
next-read p at r rs f =
    let s : State = pcap_state p start in
    let b : List ℕ = records_text p.order (r ∷ rs) in
    let size : length b ≡ 16 + length (r.bytes ++ records_text p.order rs) = omega (arith, length-append (record_head_text p.order r) (r.bytes ++ records_text p.order rs), head-length p.order r) in
    let more : is_whole (Pcap p) b ≡ false = not-empty b (omega arith) in
    next-on None s at b more
    ∙ ap (λ (x : Result (ℕ × Packet) FormatFault). stopped s (x >>= λ y. Ok (found_in y.0 at b (Some y.1) s)) >>= λ z. after (length b) None z) (record-read p at r (records_text p.order rs) f)

records-read : (p : PcapHead) (at : ℕ) (rs : List PlainRecord) → AllByRecursion FitsRecord rs
    → capture_from None (pcap_state p start) at (records_text p.order rs) ≡ records_capture p at rs
records-read p at [] f = capture-none None (pcap_state p start) at [] (pcap_state p start) at [] (next-whole None (pcap_state p start) at [] refl)
records-read p at (r ∷ rs) f =
    let s : State = pcap_state p start in
    let n : ℕ = 16 + length r.bytes in
    let b : List ℕ = records_text p.order (r ∷ rs) in
    let whole : List ℕ = record_head_text p.order r ++ r.bytes in
    let long : length whole ≡ n = omega (arith, length-append (record_head_text p.order r) r.bytes, head-length p.order r) in
    let rest : drop n b ≡ records_text p.order rs =
    ap (λ (xs : List ℕ). drop n xs) (sym (append_assoc (record_head_text p.order r) r.bytes (records_text p.order rs))) ∙ drop_at whole (records_text p.order rs) n long in
    capture-packet None s at b (packet_of p at r) s (at + n) (drop n b) (next-read p at r rs f.0)
    ∙ ap (λ (c : PlainCapture). preceded (packet_of p at r) c)
    (ap (λ (xs : List ℕ). capture_from None s (at + n) xs) rest ∙ records-read p (at + n) rs f.1)

-- the head of a file is read
head-size : (order : ByteOrder) (nanoseconds : Bool) (link snapshot : ℕ)
    → length (pcap_head_text (record { order = order; nanoseconds = nanoseconds; link = link }) snapshot) ≡ 24
head-size Little true link snapshot = refl
head-size Little false link snapshot = refl
head-size Big true link snapshot = refl
head-size Big false link snapshot = refl

link-read : (n link : ℕ) → link < 2 ^ 16 → n ≡ link → n % 2 ^ 16 ≡ link
link-read n link h e = omega arith

start-read : (order : ByteOrder) (nanoseconds : Bool) (link snapshot : ℕ) (behind : List ℕ) → link < 2 ^ 16
    → start_found start 0 (pcap_head_text (record { order = order; nanoseconds = nanoseconds; link = link }) snapshot ++ behind)
    ≡ Ok (found_in 24 0 (pcap_head_text (record { order = order; nanoseconds = nanoseconds; link = link }) snapshot ++ behind) None
    (pcap_state (record { order = order; nanoseconds = nanoseconds; link = link }) start))
unfolding start_found pcap_found pcap_at pcap_head number_at
start-read Little true link snapshot behind h =
    let b : List ℕ = pcap_head_text (record { order = Little; nanoseconds = true; link = link }) snapshot ++ behind in
    let size : length b ≡ 24 + length behind = omega (arith, length-append (pcap_head_text (record { order = Little; nanoseconds = true; link = link }) snapshot) behind, head-size Little true link snapshot) in
    let four : nat_lt (length b) 4 ≡ false = search (rules, tests) in
    let all : nat_lt (length b) 24 ≡ false = search (rules, tests) in
    let low : from_le_bytes w32 (to_le_bytes w32 link) % 2 ^ 16 ≡ link = link-read (from_le_bytes w32 (to_le_bytes w32 link)) link h (from_le_bytes-to_le_bytes_4 link (omega arith)) in
    rw (four, all, low) refl
start-read Little false link snapshot behind h =
    let b : List ℕ = pcap_head_text (record { order = Little; nanoseconds = false; link = link }) snapshot ++ behind in
    let size : length b ≡ 24 + length behind = omega (arith, length-append (pcap_head_text (record { order = Little; nanoseconds = false; link = link }) snapshot) behind, head-size Little false link snapshot) in
    let four : nat_lt (length b) 4 ≡ false = search (rules, tests) in
    let all : nat_lt (length b) 24 ≡ false = search (rules, tests) in
    let low : from_le_bytes w32 (to_le_bytes w32 link) % 2 ^ 16 ≡ link = link-read (from_le_bytes w32 (to_le_bytes w32 link)) link h (from_le_bytes-to_le_bytes_4 link (omega arith)) in
    rw (four, all, low) refl
start-read Big true link snapshot behind h =
    let b : List ℕ = pcap_head_text (record { order = Big; nanoseconds = true; link = link }) snapshot ++ behind in
    let size : length b ≡ 24 + length behind = omega (arith, length-append (pcap_head_text (record { order = Big; nanoseconds = true; link = link }) snapshot) behind, head-size Big true link snapshot) in
    let four : nat_lt (length b) 4 ≡ false = search (rules, tests) in
    let all : nat_lt (length b) 24 ≡ false = search (rules, tests) in
    let low : from_be_bytes w32 (to_be_bytes w32 link) % 2 ^ 16 ≡ link = link-read (from_be_bytes w32 (to_be_bytes w32 link)) link h (from_be_bytes-to_be_bytes_4 link (omega arith)) in
    rw (four, all, low) refl
start-read Big false link snapshot behind h =
    let b : List ℕ = pcap_head_text (record { order = Big; nanoseconds = false; link = link }) snapshot ++ behind in
    let size : length b ≡ 24 + length behind = omega (arith, length-append (pcap_head_text (record { order = Big; nanoseconds = false; link = link }) snapshot) behind, head-size Big false link snapshot) in
    let four : nat_lt (length b) 4 ≡ false = search (rules, tests) in
    let all : nat_lt (length b) 24 ≡ false = search (rules, tests) in
    let low : from_be_bytes w32 (to_be_bytes w32 link) % 2 ^ 16 ≡ link = link-read (from_be_bytes w32 (to_be_bytes w32 link)) link h (from_be_bytes-to_be_bytes_4 link (omega arith)) in
    rw (four, all, low) refl

-- a file of pcap is its records behind its head
start-next : (p : PcapHead) (b behind : List ℕ) → start_found start 0 b ≡ Ok (found_in 24 0 b None (pcap_state p start)) → 24 ≤ length b → drop 24 b ≡ behind
    → next_found None start 0 b ≡ next_found None (pcap_state p start) 24 behind
unfolding front_found
start-next p b behind e h k =
    let less : length (drop 24 b) < length b = omega (arith, length-drop 24 b) in
    next-on None start 0 b refl
    ∙ (ap (λ (r : Result Found FormatFault). stopped start r >>= λ z. after (length b) None z) e
    ∙ (enough (length b) (length (drop 24 b) + 1) None (pcap_state p start) 24 (drop 24 b) less (omega arith)
    ∙ ap (λ (xs : List ℕ). next_found None (pcap_state p start) 24 xs) k))

pub pcap-read : (p : PcapHead) (snapshot : ℕ) (rs : List PlainRecord) → p.link < 2 ^ 16 → AllByRecursion FitsRecord rs
    → capture_of None (pcap_text p snapshot rs) ≡ records_capture p 24 rs
pcap-read p snapshot rs h f =
    let head : List ℕ = pcap_head_text p snapshot in
    let behind : List ℕ = records_text p.order rs in
    let b : List ℕ = head ++ behind in
    let size : length head ≡ 24 = head-size p.order p.nanoseconds p.link snapshot in
    let long : length b ≡ 24 + length behind = omega (arith, length-append head behind) in
    capture-same None start (pcap_state p start) 0 24 b behind (omega arith)
    (start-next p b behind (start-read p.order p.nanoseconds p.link snapshot behind h) (omega arith) (drop_at head behind 24 size))
    ∙ records-read p 24 rs f
