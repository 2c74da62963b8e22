-- The log of a station is imported again from the capture of its recording.
use Rattle.std.proofs.Common.{◌≡◌, ◌∙◌, sym, ap, subst, refl, ℕ, ◌+◌, ◌≤◌, ◌<◌, Bool, true, false, nat_lt, nat_le, List, [], ◌∷◌, ◌++◌, length, Option, Some, None, arith, length-append}
use Rattle.std.proofs.lemmas.Bool.{and_parts, eqb-true, ltb-true, leb-true, lt-ltb, le-ltb}
use Rattle.std.proofs.lemmas.Grind.{flat_map-append}
use Rattle.std.specs.Prelude.{Result, Ok, Err, ◌==◌, ◌&&◌, if◌then◌else◌}
use Rattle.std.specs.List.{flat_map, list_all, AllByRecursion}
use Rattle.byte_files.specs.Fields.{◌>>=◌}
use Rattle.dis_records.specs.declared.header.TheConstants.{LARGEST_DATAGRAM}
use Rattle.exercise_model.specs.declared.recording.TheConstants.{MOST_ENTRIES}
use Rattle.exercise_model.specs.Entry.{Entry, Sent, Received, Told, is_entry}
use Rattle.exercise_model.specs.Recording.{PlainRecording, IsRecording}
use Rattle.exercise_model.specs.Setting.{SettingData, station_in}
use Rattle.exercise_model.specs.Station.{StationData}
use Rattle.packet_captures.specs.declared.packet.Direction.TheVariants.{Inbound, Outbound}
use Rattle.packet_captures.specs.Capture.{PlainCapture}
use Rattle.packet_captures.specs.Interface.{is_wanted}
use Rattle.packet_captures.specs.Packet.{Packet}
use Rattle.exercise_recording.specs.declared.captures.import_fault.ImportFault.{ImportFault}
use Rattle.exercise_recording.specs.declared.captures.import_fault.ImportFault.TheVariants as faults
use Rattle.exercise_recording.specs.declared.captures.packet_kind.PacketKind.TheVariants as kinds
use Rattle.exercise_recording.specs.declared.captures.packet_rule.PacketRule.{PacketRule}
use Rattle.exercise_recording.specs.Text.{entry_text}
use Rattle.exercise_recording.specs.Captures.Blocks.{name_text}
use Rattle.exercise_recording.specs.Captures.Counts.{counted}
use Rattle.exercise_recording.specs.Captures.Datagram.{internet_text, source_of, target_of}
use Rattle.exercise_recording.specs.Captures.Entries.{Adds, entries_from, entries_in, held_behind, recording_with}
use Rattle.exercise_recording.specs.Captures.Export.{capture_head, entry_packet}
use Rattle.exercise_recording.specs.Captures.Import.{ImportData, head_of, import_of, imported}
use Rattle.exercise_recording.specs.Captures.Log.{LogState, Settled, Written, begun, ended, entries_of, judged, log_of, with_entries, with_entry, with_packet, with_packets, with_settled}
use Rattle.exercise_recording.specs.Captures.LogBack.{ComesBack, HasBytes, IsRuleFor, entries_back, is_managing}
use Rattle.exercise_recording.specs.Captures.ReadBack.{FitsAddress, exported_capture, packet_of, packets_of}
use Rattle.exercise_recording.proofs.Captured.EntryLaws.{PacketAdds, both-steps, packet-adds, same-value}
use Rattle.exercise_recording.proofs.Captured.PacketsBack.{Gives, received-is, sent-is, source-fits, target-fits, unwanted-gives, wanted-gives}

-- ---- the packets of a station's entries

-- of the interfaces of the stations that of station s is wanted, and none else
abbrev pub Picks : (name : Option (List ℕ)) → SettingData → (s : ℕ) → Type 0
Picks name w s = (t : ℕ) → t < length w.stations → is_wanted name (Some (name_text (station_in w t).address)) ≡ (t == s)

-- the rule is that of station s, of which alone the packets are wanted
pub record IsAsked (name : Option (List ℕ)) (rule : PacketRule) (w : SettingData) (s : ℕ) : Type 0 where
  pub asks : IsRuleFor (station_in w s).address rule
  pub fits : FitsAddress (station_in w s).address
  pub picks : Picks name w s

sent-gives : (name : Option (List ℕ)) (rule : PacketRule) (w : SettingData) (at s t stamp : ℕ) (b : List ℕ) (own : Bool) → IsAsked name rule w s
    → t < length w.stations → HasBytes (Sent t stamp b) → length b ≤ LARGEST_DATAGRAM → (t == s) ≡ own
    → Gives rule (packet_of name w at t stamp Outbound (internet_text (station_in w t).address (target_of b) b))
    (if own && is_managing rule.exercise b then Sent 0 stamp b ∷ [] else [])
sent-gives name rule w at s t stamp b true asked below bytes short own =
    let one : t ≡ s = eqb-true t s own in
    let for : IsRuleFor (station_in w t).address rule = subst (λ k. IsRuleFor (station_in w k).address rule) (sym one) asked.asks in
    let fits : FitsAddress (station_in w t).address = subst (λ k. FitsAddress (station_in w k).address) (sym one) asked.fits in
    wanted-gives name rule w at t stamp Outbound (station_in w t).address (target_of b) b kinds.Sent (Sent 0 stamp b) (asked.picks t below ∙ own) fits
    (target-fits b bytes) short for.port (sent-is rule (station_in w t).address (target_of b) b for) refl refl
sent-gives name rule w at s t stamp b false asked below bytes short own =
    unwanted-gives name rule w at t stamp Outbound (internet_text (station_in w t).address (target_of b) b) (asked.picks t below ∙ own)

received-gives : (name : Option (List ℕ)) (rule : PacketRule) (w : SettingData) (at s t stamp : ℕ) (b : List ℕ) (own : Bool) → IsAsked name rule w s
    → t < length w.stations → HasBytes (Received t stamp b) → length b ≤ LARGEST_DATAGRAM → (t == s) ≡ own
    → Gives rule (packet_of name w at t stamp Inbound (internet_text (source_of b) (station_in w t).address b))
    (if own && is_managing rule.exercise b then Received 0 stamp b ∷ [] else [])
received-gives name rule w at s t stamp b true asked below bytes short own =
    let one : t ≡ s = eqb-true t s own in
    let for : IsRuleFor (station_in w t).address rule = subst (λ k. IsRuleFor (station_in w k).address rule) (sym one) asked.asks in
    let fits : FitsAddress (station_in w t).address = subst (λ k. FitsAddress (station_in w k).address) (sym one) asked.fits in
    wanted-gives name rule w at t stamp Inbound (source_of b) (station_in w t).address b kinds.Received (Received 0 stamp b) (asked.picks t below ∙ own)
    (source-fits b bytes) fits short for.port (received-is rule (source_of b) (station_in w t).address b for) refl refl
received-gives name rule w at s t stamp b false asked below bytes short own =
    unwanted-gives name rule w at t stamp Inbound (internet_text (source_of b) (station_in w t).address b) (asked.picks t below ∙ own)

-- the first packet gives entries, and those behind it the rest
pub record FirstGives (rule : PacketRule) (p : Packet) (es : List Entry) (Rest : List Entry → Type 0) : Type 0 where
  pub own : List Entry
  pub more : List Entry
  pub parts : es ≡ own ++ more
  pub gives : Gives rule p own
  pub rest : Rest more

-- packets give entries, one after the other
abbrev pub AllGive : PacketRule → List Packet → List Entry → Type 0
AllGive rule [] es = es ≡ []
AllGive rule (p ∷ ps) es = FirstGives rule p es (AllGive rule ps)

log-gives : (name : Option (List ℕ)) (rule : PacketRule) (w : SettingData) (at s : ℕ) (es : List Entry) → IsAsked name rule w s
    → list_all (is_entry (length w.stations)) es ≡ true → AllByRecursion HasBytes es → AllGive rule (packets_of name w at es) (entries_back rule.exercise s es)
log-gives name rule w at s [] asked limits bytes = refl
log-gives name rule w at s (Sent t stamp b ∷ es) asked limits bytes =
    let e : Entry = Sent t stamp b in
    let both = and_parts (is_entry (length w.stations) e) (list_all (is_entry (length w.stations)) es) limits in
    let own = and_parts (nat_lt t (length w.stations)) (nat_le (length b) LARGEST_DATAGRAM) both.0 in
    record {
      own = if (t == s) && is_managing rule.exercise b then Sent 0 stamp b ∷ [] else [];
      more = entries_back rule.exercise s es;
      parts = refl;
      gives = sent-gives name rule w at s t stamp b (t == s) asked (ltb-true t (length w.stations) own.0) bytes.0 (leb-true (length b) LARGEST_DATAGRAM own.1) refl;
      rest = log-gives name rule w (at + length (entry_packet w e)) s es asked both.1 bytes.1;
    }
log-gives name rule w at s (Received t stamp b ∷ es) asked limits bytes =
    let e : Entry = Received t stamp b in
    let both = and_parts (is_entry (length w.stations) e) (list_all (is_entry (length w.stations)) es) limits in
    let own = and_parts (nat_lt t (length w.stations)) (nat_le (length b) LARGEST_DATAGRAM) both.0 in
    record {
      own = if (t == s) && is_managing rule.exercise b then Received 0 stamp b ∷ [] else [];
      more = entries_back rule.exercise s es;
      parts = refl;
      gives = received-gives name rule w at s t stamp b (t == s) asked (ltb-true t (length w.stations) own.0) bytes.0 (leb-true (length b) LARGEST_DATAGRAM own.1) refl;
      rest = log-gives name rule w (at + length (entry_packet w e)) s es asked both.1 bytes.1;
    }
log-gives name rule w at s (Told t x y ∷ es) asked limits bytes =
    let both = and_parts (is_entry (length w.stations) (Told t x y)) (list_all (is_entry (length w.stations)) es) limits in
    log-gives name rule w at s es asked both.1 bytes.1

given-entries : (rule : PacketRule) (ps : List Packet) (es : List Entry) → AllGive rule ps es → entries_from rule [] ps ≡ es
given-entries rule [] es given = sym given
given-entries rule (p ∷ ps) es given =
    ap (λ r. entries_in p r ++ entries_from rule (held_behind [] r) ps) given.gives.read
    ∙ ap (λ h. entries_of given.gives.settled.judged.kind p.head.stamp given.gives.settled.judged.bytes ++ entries_from rule h ps) given.gives.held
    ∙ ap (λ xs. xs ++ entries_from rule [] ps) given.gives.entries ∙ ap (λ xs. given.own ++ xs) (given-entries rule ps given.more given.rest)
    ∙ sym given.parts

-- ---- there is room for them

-- entries within the limits of a recording, behind what is written
pub record HasRoomFor (room : ℕ) (es : List Entry) (old : Written) : Type 0 where
  pub few : old.records + length es ≤ MOST_ENTRIES
  pub short : length old.text + length (flat_map entry_text es) ≤ room

one-fits : (room : ℕ) (e : Entry) (old : Written) → old.records < MOST_ENTRIES → length (old.text ++ entry_text e) ≤ room
    → with_entry room e old ≡ Ok (record { text = old.text ++ entry_text e; records = old.records + 1 })
unfolding with_entry
one-fits room e old few short =
    let counted : nat_lt old.records MOST_ENTRIES ≡ true = lt-ltb old.records MOST_ENTRIES few in
    let within : nat_lt room (length (old.text ++ entry_text e)) ≡ false = le-ltb room (length (old.text ++ entry_text e)) short in
    rw (counted, within) refl

entries-fit : (room : ℕ) (es : List Entry) (old : Written) → HasRoomFor room es old → (new : Written) × (with_entries room es old ≡ Ok new)
entries-fit room [] old fits = (old, refl)
entries-fit room (e ∷ es) old fits =
    let next : Written = record { text = old.text ++ entry_text e; records = old.records + 1 } in
    let longer = length-append old.text (entry_text e) in
    let more = length-append (entry_text e) (flat_map entry_text es) in
    let first = one-fits room e old (omega (arith, fits.few)) (omega (arith, fits.short, longer, more)) in
    let rest = entries-fit room es next (record { few = omega (arith, fits.few); short = omega (arith, fits.short, longer, more) }) in
    (rest.0, ap (λ (r : Result Written ImportFault). r >>= λ v. with_entries room es v) first ∙ rest.1)

packet-fits : (rule : PacketRule) (room : ℕ) (p : Packet) (es : List Entry) (s : LogState) → Gives rule p es → s.held ≡ [] → HasRoomFor room es s.written
    → (t : LogState) × (with_packet rule room p s ≡ Ok t)
unfolding with_packet
packet-fits rule room p es s gives none fits =
    let t : Settled = gives.settled in
    let made : Written → LogState = λ w. record { held = t.held; counts = counted t.judged.kind t.judged.bundled s.counts; written = w } in
    let Made : Result Written ImportFault → Result LogState ImportFault = λ r. r >>= λ w. Ok (made w) in
    let Settle : Result Settled ImportFault → Result LogState ImportFault = λ r. r >>= λ u. with_settled rule room p.head s u in
    let fault : Result LogState ImportFault = Err (faults.Cut p.head.at) in
    let written = entries-fit room es s.written fits in (
      made written.0,
      ap (λ h. Settle (judged rule h p)) none ∙ ap Settle gives.read
          ∙ ap (λ c. if c then fault else Made (with_entries room (entries_of t.judged.kind p.head.stamp t.judged.bytes) s.written)) gives.kept
          ∙ ap (λ xs. Made (with_entries room xs s.written)) gives.entries ∙ ap Made written.1,
    )

-- what is written behind a packet that gives these entries
packet-written : (rule : PacketRule) (room : ℕ) (p : Packet) (es : List Entry) (s t : LogState) → Gives rule p es → s.held ≡ [] → with_packet rule room p s ≡ Ok t
    → (t.held ≡ []) × Adds es s.written t.written
packet-written rule room p es s t gives none made =
    let adds : PacketAdds rule p s t = packet-adds rule room p s t made in
    let read : judged rule s.held p ≡ Ok gives.settled = ap (λ h. judged rule h p) none ∙ gives.read in (
      adds.held ∙ ap (held_behind s.held) read ∙ gives.held,
      subst (λ (xs : List Entry). Adds xs s.written t.written) (ap (entries_in p) read ∙ gives.entries) adds.written,
    )

-- a step that gives a state, and what gives one from there
then-on : (given : Result LogState ImportFault) (f : LogState → Result LogState ImportFault) (t u : LogState) → given ≡ Ok t → f t ≡ Ok u → (given >>= f) ≡ Ok u
then-on given f t u first second = ap (λ (r : Result LogState ImportFault). r >>= f) first ∙ second

packets-fit : (rule : PacketRule) (room : ℕ) (ps : List Packet) (es : List Entry) (s : LogState) → AllGive rule ps es → s.held ≡ [] → HasRoomFor room es s.written
    → (t : LogState) × (with_packets rule room ps s ≡ Ok t)
packets-fit rule room [] es s given none fits = (s, refl)
packets-fit rule room (p ∷ ps) es s given none fits =
    let number : length es ≡ length given.own + length given.more = ap (λ (xs : List Entry). length xs) given.parts ∙ length-append given.own given.more in
    let size : length (flat_map entry_text es) ≡ length (flat_map entry_text given.own) + length (flat_map entry_text given.more) =
    ap (λ (xs : List Entry). length (flat_map entry_text xs)) given.parts
    ∙ ap (λ (xs : List ℕ). length xs) (flat_map-append entry_text given.own given.more)
    ∙ length-append (flat_map entry_text given.own) (flat_map entry_text given.more) in
    let first = packet-fits rule room p given.own s given.gives none (record { few = omega (arith, fits.few, number); short = omega (arith, fits.short, size) }) in
    let next : LogState = first.0 in
    let behind = packet-written rule room p given.own s next given.gives none first.1 in
    let longer : length next.written.text ≡ length s.written.text + length (flat_map entry_text given.own) =
    ap (λ (xs : List ℕ). length xs) behind.1.text ∙ length-append s.written.text (flat_map entry_text given.own) in
    let rest = packets-fit rule room ps given.more next given.rest behind.0
    (record { few = omega (arith, fits.few, number, behind.1.records); short = omega (arith, fits.short, size, longer) }) in
    (rest.0, then-on (with_packet rule room p s) (with_packets rule room ps) next rest.0 first.1 rest.1)

-- ---- the log

at-most-one : (own : Bool) (e : Entry) (es : List Entry) → length ((if own then e ∷ [] else []) ++ es) ≤ length es + 1
at-most-one true e es = omega arith
at-most-one false e es = omega arith

-- no entry comes back twice
few-back : (exercise s : ℕ) (es : List Entry) → length (entries_back exercise s es) ≤ length es
few-back exercise s [] = omega arith
few-back exercise s (Sent t stamp b ∷ es) =
    omega (arith, at-most-one ((t == s) && is_managing exercise b) (Sent 0 stamp b) (entries_back exercise s es), few-back exercise s es)
few-back exercise s (Received t stamp b ∷ es) =
    omega (arith, at-most-one ((t == s) && is_managing exercise b) (Received 0 stamp b) (entries_back exercise s es), few-back exercise s es)
few-back exercise s (Told t x y ∷ es) = omega (arith, few-back exercise s es)

-- THE LOG COMES BACK
pub log-back : (name : Option (List ℕ)) (rule : PacketRule) (room : ℕ) (station : StationData) (s : ℕ) (r : PlainRecording) → IsRecording r
    → AllByRecursion HasBytes r.entries → IsAsked name rule r.setting s → ComesBack rule room station s r (exported_capture name r)
unfolding import_of
log-back name rule room station s r limits bytes asked =
    let w : SettingData = r.setting in
    let c : PlainCapture = exported_capture name r in
    let es : List Entry = entries_back rule.exercise s r.entries in
    let given : AllGive rule c.packets es = log-gives name rule w (length (capture_head w)) s r.entries asked limits.each_entry bytes in
    let back : entries_from rule [] c.packets ≡ es = given-entries rule c.packets es given in
    let made : LogState → ImportData = imported rule station c in
    let Made : Result LogState ImportFault → Result ImportData ImportFault = λ l. l >>= λ t. Ok (made t) in
    let read : Result LogState ImportFault = log_of rule room (head_of rule station) c in
    record {
      recording = λ i found.
          let steps = both-steps read (λ t. Ok (made t)) i found in
          let same : made steps.mid ≡ i = same-value (made steps.mid) i steps.second in
          (ap (λ (x : ImportData). x.recording) (sym same) ∙ ap (recording_with rule.exercise station) back, ap (λ (x : ImportData). x.dropped) (sym same));
      whole = λ enough.
          let fits = packets-fit rule room c.packets es (begun (head_of rule station)) given refl
          (record { few = omega (arith, limits.count, few-back rule.exercise s r.entries); short = enough }) in
          (made fits.0, ap (λ (l : Result LogState ImportFault). Made (l >>= λ t. ended rule None t)) fits.1);
    }
