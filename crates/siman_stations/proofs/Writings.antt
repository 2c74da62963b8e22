-- What is written down in a journal.
use Rattle.std.proofs.Common.{◌≡◌, inl, inr, ℕ, ◌<◌, ◌≤◌, nat_le, nat_lt, true, false, List, [], ◌∷◌, ◌++◌, length, map, get_or, Option, Some, None, is_some, refl, sym, ap, subst, ◌∙◌, arith, append_assoc, append-nil, length-append, ◌&&◌}
use Rattle.std.proofs.lemmas.Bool.Decides.{nat_tests}
use Rattle.std.proofs.lemmas.Option.{slice_get-map, slice_get-get_or}
use Rattle.std.specs.Prelude.{Vec, slice_get, option_map, option_and_then}
use Rattle.std.specs.declared.alloc.Global.{Global}
use Rattle.std.specs.Option.{IfSome}
use Rattle.dis_records.specs.declared.header.TheConstants.{LARGEST_DATAGRAM}
use Rattle.siman_pdus.specs.declared.pdu.Pdu.{Pdu}
use Rattle.siman_pdus.specs.Reading.{reading}
use Rattle.siman_pdus.specs.Spelling.{pdu_text}
use Rattle.exercise_model.specs.declared.fault.LogFault.{LogFault}
use Rattle.exercise_model.specs.declared.fault.LogFault.TheVariants as log_faults
use Rattle.exercise_model.specs.declared.recording.TheConstants.{MOST_ENTRIES}
use Rattle.exercise_model.specs.Entry.{Entry, Sent, Received, is_entry}
use Rattle.exercise_model.specs.Recording.{PlainRecording, with_entry, push_refusal, unless_memory}
use Rattle.siman_application.specs.Application.{ApplicationData}
use Rattle.siman_stations.specs.declared.journal.Journal.{Journal}
use Rattle.siman_stations.specs.declared.moment.Moment.{Moment}
use Rattle.siman_stations.specs.declared.turn.Node.{Node}
use Rattle.siman_stations.specs.declared.turn.TurnFault.{TurnFault}
use Rattle.siman_stations.specs.declared.turn.TurnFault.TheVariants as faults
use Rattle.siman_stations.specs.Moments.{moment_of}
use Rattle.siman_stations.specs.Recording.{KeepsOut}
use Rattle.siman_stations.specs.StationTurn.{sent_as, turn_entries, RecordsAll, TakesBoth, FailsTurn}
use Rattle.siman_stations.specs.Acts.{Writes, HasRoom, LacksMemory, sends_of, with_entries, turn_if}

-- what was written is told of the journal as it was before another text stood in it, and of the PDU whose text it is
pub writes_sent : (s now : ℕ) (text b : List ℕ) (old mid new : Journal) → mid.recording ≡ old.recording → sends_of mid ≡ sends_of old → text ≡ b
    → Writes (Sent s now text ∷ []) mid new → Writes (Sent s now b ∷ []) old new
writes_sent s now text b old mid new recording sends same w = record {
  recording = w.recording ∙ (ap (λ (r : PlainRecording). with_entries r (Sent s now text ∷ [])) recording
      ∙ ap (λ (t : List ℕ). with_entries old.recording (Sent s now t ∷ [])) same);
  sends = w.sends ∙ (ap (λ (bs : List (List ℕ)). bs ++ text ∷ []) sends ∙ ap (λ (t : List ℕ). sends_of old ++ t ∷ []) same);
}

-- how a recording in memory takes an entry
abbrev pub takes : PlainRecording → Entry → PlainRecording → Type 0
takes old e new = new ≡ with_entry old e

recorded_on : (es : List Entry) (e : Entry) (old mid new : PlainRecording) → mid ≡ with_entry old e → new ≡ with_entries mid es
    → new ≡ with_entries old (e ∷ es)
recorded_on es e old mid new one more =
    more ∙ (ap (λ (r : PlainRecording). with_entries r es) one ∙ ap (λ (l : List Entry). record old { entries = l }) (append_assoc old.entries (e ∷ []) es))

-- entries that are recorded one after the other stand behind those before
pub recorded_all : (es : List Entry) (old new : PlainRecording) → RecordsAll takes es old new → new ≡ with_entries old es
recorded_all [] old new h = h ∙ ap (λ (l : List Entry). record old { entries = l }) (sym (append-nil old.entries))
recorded_all (e ∷ es) old new h = recorded_on es e old h.0 new h.1 (recorded_all es h.0 new h.2)

-- the turn wrote the reply that was due,
pub writes_reply : (s now : ℕ) (b : List ℕ) (due : Option Pdu) (text : List ℕ) (mid : PlainRecording) (old new : Journal)
    → RecordsAll takes (Received s now b ∷ sent_as s now due) old.recording mid → is_some due ≡ true → IfSome due (λ p. text ≡ pdu_text p)
    → new.recording ≡ mid → sends_of new ≡ sends_of old ++ text ∷ [] → Writes (Received s now b ∷ sent_as s now due) old new
writes_reply s now b None text mid old new h some t r m = cc
writes_reply s now b (Some p) text mid old new h some t r m = record {
  recording = r ∙ recorded_all (Received s now b ∷ Sent s now (pdu_text p) ∷ []) old.recording mid h;
  sends = m ∙ ap (λ (d : List ℕ). sends_of old ++ d ∷ []) t;
}

-- or none was due.
pub writes_none : (s now : ℕ) (b : List ℕ) (due : Option Pdu) (old new : Journal)
    → RecordsAll takes (Received s now b ∷ sent_as s now due) old.recording new.recording → is_some due ≡ false
    → sends_of new ≡ sends_of old → Writes (Received s now b ∷ sent_as s now due) old new
writes_none s now b None old new h none m = record {
  recording = recorded_all (Received s now b ∷ []) old.recording new.recording h;
  sends = m ∙ sym (append-nil (sends_of old));
}
writes_none s now b (Some p) old new h none m = cc

-- the datagram of a number
pub datagram_at : (sends : List (Vec ℕ Global)) (k : ℕ) (v : Vec ℕ Global) (b : List ℕ) → k < length sends → v ≡ get_or sends k v → b ≡ v.items
    → slice_get (map (λ d. d.items) sends) k ≡ Some b
datagram_at sends k v b below is same =
    slice_get-map (λ d. d.items) sends k ∙ (ap (λ (o : Option (Vec ℕ Global)). option_map (λ d. d.items) o)
    (slice_get-get_or sends k v below ∙ ap Some (sym is)) ∙ ap Some (sym same))

-- what is told of a datagram is told of the one of its number
pub writes_at : (a : ApplicationData) (s now : ℕ) (at : Moment) (b : List ℕ) (o : Option (List ℕ)) (old new : Journal) → at ≡ moment_of now → o ≡ Some b
    → Writes (turn_entries a s at b) old new → Writes (turn_if a s now o) old new
writes_at a s now at b o old new moment is w =
    subst (λ (x : Option (List ℕ)). Writes (turn_if a s now x) old new) (sym is)
    (subst (λ (x : Moment). Writes (turn_entries a s x b) old new) moment w)

pub takes_at : (b : List ℕ) (o : Option (List ℕ)) (old new : Node) → o ≡ Some b → TakesBoth (reading b) old new → TakesBoth (option_and_then reading o) old new
takes_at b o old new is t = subst (λ (x : Option (List ℕ)). TakesBoth (option_and_then reading x) old new) (sym is) t

-- An entry of a station is taken where there is room.

room_none : (r : PlainRecording) (e : Entry) → is_entry (length r.setting.stations) e ≡ true → nat_lt (length r.entries) MOST_ENTRIES ≡ true
    → push_refusal r e ≡ None
room_none r e is room = rw is (rw room refl)

taken_when : (fault : LogFault) (r : PlainRecording) (e : Entry) → push_refusal r e ≡ None → (new : PlainRecording) → KeepsOut r e fault new
    → unless_memory fault ≡ None
taken_when log_faults.Argument r e none new k = cc (k.reason)
taken_when log_faults.Count r e none new k = cc (k.reason)
taken_when log_faults.Memory r e none new k = refl

fits_short : (s n : ℕ) (b : List ℕ) → s < n → length b ≤ LARGEST_DATAGRAM → (nat_lt s n && nat_le (length b) LARGEST_DATAGRAM) ≡ true
fits_short s n b below short = grind (arith, nat_tests)

room_below : (n : ℕ) → n < MOST_ENTRIES → nat_lt n MOST_ENTRIES ≡ true
room_below n below = grind (arith, nat_tests)

-- the datagram of a station that has room is taken,
pub received_fits : (s now : ℕ) (b : List ℕ) (r : PlainRecording) → HasRoom s r → length b ≤ LARGEST_DATAGRAM → push_refusal r (Received s now b) ≡ None
received_fits s now b r room short =
    room_none r (Received s now b) (fits_short s (length r.setting.stations) b room.station short)
    (room_below (length r.entries) (let h = room.two in omega arith))

-- and one that it sends after it too.
pub sent_fits : (s now : ℕ) (b : List ℕ) (e : Entry) (r next : PlainRecording) → HasRoom s r → length b ≤ LARGEST_DATAGRAM → next ≡ with_entry r e
    → push_refusal next (Sent s now b) ≡ None
sent_fits s now b e r next room short is =
    let below : length (r.entries ++ e ∷ []) < MOST_ENTRIES = omega (arith, room.two, length-append r.entries (e ∷ [])) in
    subst (λ (x : PlainRecording). push_refusal x (Sent s now b) ≡ None) (sym is)
    (room_none (with_entry r e) (Sent s now b) (fits_short s (length r.setting.stations) b room.station short)
    (room_below (length (r.entries ++ e ∷ [])) below))

fails_turn : (fault : LogFault) (s : ℕ) (at : Moment) (b : List ℕ) (old new : PlainRecording) (before after : Node) → HasRoom s old → length b ≤ LARGEST_DATAGRAM
    → FailsTurn takes KeepsOut s at b (faults.Record fault) old new before after → unless_memory fault ≡ None
fails_turn fault s at b old new before after room short (inl h) = taken_when fault old (Received s at.now b) (received_fits s at.now b old room short) new h.refused
fails_turn fault s at b old new before after room short (inr h) =
    taken_when fault h.next (Sent s at.now (pdu_text h.unsent.answer))
    (sent_fits s at.now (pdu_text h.unsent.answer) (Received s at.now b) old h.next room h.unsent.size h.received) new h.unsent.refused

-- a turn that has room lacks nothing but memory
pub turn_lacks : (fault : TurnFault LogFault) (s : ℕ) (at : Moment) (b : List ℕ) (old new : PlainRecording) (before after : Node) → HasRoom s old
    → length b ≤ LARGEST_DATAGRAM
    → FailsTurn takes KeepsOut s at b fault old new before after → LacksMemory fault
turn_lacks (faults.Record fault) s at b old new before after room short h = fails_turn fault s at b old new before after room short h
turn_lacks faults.Memory s at b old new before after room short h = tt
