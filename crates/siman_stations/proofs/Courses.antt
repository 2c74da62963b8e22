-- What a move makes of a world as it is kept is what is told of the moves.
use Rattle.std.proofs.Common.{◌≡◌, ◌⊎◌, inl, inr, ℕ, zero, suc, ◌+◌, ◌<◌, ◌≤◌, Bool, ◌==◌, nat_le, nat_lt, true, false, List, [], ◌∷◌, ◌++◌, length, set, Option, Some, None, refl, sym, ap, subst, ◌∙◌, arith}
use Rattle.std.specs.Prelude.{slice_get, IfSome, option_and_then, OnOk, Result, Ok, Err, option_map, if◌then◌else◌}
use Rattle.std.specs.Option.{option_or}
use Rattle.std.proofs.lemmas.Bool.Decides.{nat_tests}
use Rattle.std.proofs.lemmas.List.{length-append, length-map, length-set}
use Rattle.std.proofs.lemmas.Option.{slice_get_within}
use Rattle.dis_records.specs.declared.header.TheConstants.{LARGEST_DATAGRAM}
use Rattle.siman_pdus.specs.declared.pdu.Pdu.{Pdu}
use Rattle.siman_pdus.specs.Reading.{reading}
use Rattle.siman_pdus.specs.Spelling.{pdu_size}
use Rattle.exercise_model.specs.declared.recording.TheConstants.{MOST_ENTRIES}
use Rattle.exercise_model.specs.Entry.{Entry, Sent, Received, Told}
use Rattle.exercise_model.specs.Recording.{PlainRecording}
use Rattle.siman_manager.specs.Book.{Book}
use Rattle.siman_manager.specs.Calls.{AreRequests}
use Rattle.siman_scripts.specs.declared.act.Act.{Act}
use Rattle.siman_scripts.specs.declared.act.Act.TheVariants.{Command, Deliver, Tick, Tell}
use Rattle.siman_scripts.specs.declared.act.Move.{Move}
use Rattle.siman_stations.specs.declared.turn.Node.{Node}
use Rattle.siman_stations.specs.declared.world.World.{World}
use Rattle.siman_stations.specs.declared.world_fault.MoveFault.{MoveFault}
use Rattle.siman_stations.specs.declared.world_fault.MoveFault.TheVariants as faults
use Rattle.siman_stations.specs.declared.world_fault.WorldFault.{WorldFault}
use Rattle.siman_stations.specs.declared.world_fault.WorldFault.TheVariants as world_faults
use Rattle.siman_stations.specs.World.{WorldData, Course, setting_of, outfit_of, settings_of, sent_in, brought, call_of, put_at, made_by, reply_by, arrival, datagram, repeated_by, entries_by, act_fault, move_fault, first_fault, after_move, course_of}
use Rattle.siman_stations.specs.WorldLaw.{IsActInRange}
use Rattle.siman_stations.specs.Sending.{next_repeat}
use Rattle.siman_stations.specs.Moments.{moment_of}
use Rattle.siman_stations.specs.StationTurn.{stamp_of, sent_as}
use Rattle.siman_stations.specs.Acts.{sends_of, with_entries, halves_entries}
use Rattle.siman_stations.specs.declared.moving.StepFault.{StepFault}
use Rattle.siman_stations.specs.declared.moving.StepFault.TheVariants as step_faults
use Rattle.siman_stations.specs.Moves.{IsFit, Does, Stays, step_fault, node_fault}
use Rattle.siman_stations.specs.Holds.{IsNode, Holds, IsAfter, IsStillAfter}
use Rattle.siman_stations.proofs.Offered.{stamp_within, fit_requests, repeat_is, repeat_own, repeat_told}
use Rattle.siman_stations.proofs.CoursesActs.{AreTold, entries_same, act_same, node_on}
use Rattle.siman_stations.proofs.Made.{all_made, neither}
use Rattle.siman_stations.proofs.Stations.{put_other, all_sound}
use Rattle.siman_stations.proofs.Closure.{state_is_told}

-- Places.

-- what stands at a place after a write: what was written, or what stood at another
set_cases : {X : Type 0} (xs : List X) (i : ℕ) (y : X) (k : ℕ) (n : X) → slice_get (set xs i y) k ≡ Some n
    → ((i ≡ k) × (n ≡ y)) ⊎ ((i ≡ k → ⊥) × (slice_get xs k ≡ Some n))
set_cases [] i y k n e = absurd cc
set_cases (x ∷ xs) zero y zero n e = inl (refl, cc)
set_cases (x ∷ xs) zero y (suc k) n e = inr (λ h. absurd (omega arith), e)
set_cases (x ∷ xs) (suc i) y zero n e = inr (λ h. absurd (omega arith), e)
set_cases (x ∷ xs) (suc i) y (suc k) n e = by (set_cases xs i y k n e) where
  by : ((i ≡ k) × (n ≡ y)) ⊎ ((i ≡ k → ⊥) × (slice_get xs k ≡ Some n)) → ((suc i ≡ suc k) × (n ≡ y)) ⊎ ((suc i ≡ suc k → ⊥) × (slice_get xs k ≡ Some n))
  by (inl h) = inl (ap suc h.0, h.1)
  by (inr h) = inr (λ p. h.0 (omega arith), h.1)

get_none : {X : Type 0} (xs : List X) (k : ℕ) → slice_get xs k ≡ None → length xs ≤ k
get_none [] k e = omega arith
get_none (x ∷ xs) zero e = absurd cc
get_none (x ∷ xs) (suc k) e = let h : length xs ≤ k = get_none xs k e in omega arith

other_false : (t s : ℕ) → (t ≡ s → ⊥) → (t == s) ≡ false
other_false t s h = grind (arith, nat_tests)

-- what two parts of the entries send
sent_in-append : (es fs : List Entry) → sent_in (es ++ fs) ≡ sent_in es ++ sent_in fs
sent_in-append [] fs = refl
sent_in-append (Sent s stamp b ∷ es) fs = ap (λ (bs : List (List ℕ)). b ∷ bs) (sent_in-append es fs)
sent_in-append (Received s stamp b ∷ es) fs = sent_in-append es fs
sent_in-append (Told s e y ∷ es) fs = sent_in-append es fs

-- A move that is made.

nodes_on : (w : WorldData) (c : Course) (m : Move) (old new : World) → Holds w c old → act_fault w c m.station m.now m.act ≡ None → (d : Does m old new)
    → (s : ℕ) (n : Node) → ((m.station ≡ s) × (n ≡ d.after)) ⊎ ((m.station ≡ s → ⊥) × (slice_get old.nodes.items s ≡ Some n))
    → IsNode w s ((after_move w c m).came s) ((after_move w c m).calls s) n
nodes_on w c m old new h can d s n (inl is) =
    subst (λ (k : ℕ). IsNode w k ((after_move w c m).came k) ((after_move w c m).calls k) n) is.0
    (subst (IsNode w m.station ((after_move w c m).came m.station) ((after_move w c m).calls m.station)) (sym is.1)
    (node_on w c m.station m.now m.act (sends_of old.journal) d.before d.after (h.nodes m.station d.before d.stood) h.sends can d.halves))
nodes_on w c m old new h can d s n (inr is) =
    let e : (m.station == s) ≡ false = other_false m.station s is.0 in
    subst (λ qs. IsNode w s qs (put_at m.station (call_of c m.now m.act) c.calls s) n) (sym (put_other m.station s (brought c m.act) c.came e))
    (subst (λ calls. IsNode w s (c.came s) calls n) (sym (put_other m.station s (call_of c m.now m.act) c.calls e)) (h.nodes s n is.1))

holds_on : (w : WorldData) (c : Course) (m : Move) (old new : World) → Holds w c old → AreRequests (c.calls m.station) → AreTold w c m.station
    → act_fault w c m.station m.now m.act ≡ None → Does m old new → Holds w (after_move w c m) new
holds_on w c m old new h are told can d =
    let same : halves_entries (sends_of old.journal) d.before m.station m.now m.act ≡ entries_by w c m.station m.now m.act =
    entries_same w c m.station m.now m.act (sends_of old.journal) d.before (h.nodes m.station d.before d.stood) are told h.sends in
    record {
      recording = d.entries.recording ∙ (ap (λ (r : PlainRecording). with_entries r
          (halves_entries (sends_of old.journal) d.before m.station m.now m.act)) h.recording
          ∙ ap (λ (es : List Entry). with_entries (record { setting = setting_of w; entries = c.entries }) es) same);
      sends = d.entries.sends ∙ (ap (λ (bs : List (List ℕ)). bs ++ sent_in (halves_entries (sends_of old.journal) d.before m.station m.now m.act)) h.sends
          ∙ (ap (λ (es : List Entry). sent_in c.entries ++ sent_in es) same ∙ sym (sent_in-append c.entries (entries_by w c m.station m.now m.act))));
      count = ap length d.nodes ∙ (length-set old.nodes.items m.station d.after ∙ h.count);
      nodes = λ s n is. nodes_on w c m old new h can d s n
          (set_cases old.nodes.items m.station d.after s n (subst (λ (ns : List Node). slice_get ns s ≡ Some n) d.nodes is));
    }

-- The fault of a move.

lt_true : (a b : ℕ) → a < b → nat_lt a b ≡ true
lt_true a b h = grind (arith, nat_tests)

lt_false : (a b : ℕ) → b ≤ a → nat_lt a b ≡ false
lt_false a b h = grind (arith, nat_tests)

at_place : (w : WorldData) (c : Course) (m : Move) (old : World) → Holds w c old → (o : Option Node) → slice_get old.nodes.items m.station ≡ o
    → node_fault (sends_of old.journal) m.now m.act o ≡
    (if nat_lt m.station (length w.stations) then act_fault w c m.station m.now m.act else Some faults.NoSuchStation)
at_place w c m old h None e =
    let past : length old.nodes.items ≤ m.station = get_none old.nodes.items m.station e in
    ap (λ (b : Bool). if b then act_fault w c m.station m.now m.act else Some faults.NoSuchStation)
    (sym (lt_false m.station (length w.stations) (omega (arith, h.count))))
at_place w c m old h (Some n) e =
    let within : m.station < length old.nodes.items = slice_get_within old.nodes.items m.station n e in
    act_same w c m.station m.now m.act (sends_of old.journal) n (h.nodes m.station n e) h.sends
    ∙ ap (λ (b : Bool). if b then act_fault w c m.station m.now m.act else Some faults.NoSuchStation)
    (sym (lt_true m.station (length w.stations) (omega (arith, h.count))))

-- why a move is not made, of what is kept, is why it cannot be made
pub moves_same : (w : WorldData) (c : Course) (m : Move) (old : World) → Holds w c old → step_fault old m ≡ move_fault w c m
moves_same w c m old h =
    ap (λ (r : PlainRecording). if nat_le (length r.entries + 2) MOST_ENTRIES then node_fault (sends_of old.journal) m.now m.act
    (slice_get old.nodes.items m.station) else Some faults.Records) h.recording
    ∙ ap (λ (o : Option MoveFault). if nat_le (length c.entries + 2) MOST_ENTRIES then o else Some faults.Records)
    (at_place w c m old h (slice_get old.nodes.items m.station) refl)

-- After moves.

made_next : (earlier : Option WorldFault) (number : ℕ) (fault : Option MoveFault) → earlier ≡ None → fault ≡ None
    → option_or earlier (option_map (world_faults.Move number) fault) ≡ None
made_next earlier number fault e f = rw e (rw f refl)

failed_next : (earlier : Option WorldFault) (number : ℕ) (fault : Option MoveFault) (f : MoveFault) → earlier ≡ None → fault ≡ Some f
    → option_or earlier (option_map (world_faults.Move number) fault) ≡ Some (world_faults.Move number f)
failed_next earlier number fault f e g = rw e (rw g refl)

-- a world after moves goes on by one that is made,
pub after_on : (w : WorldData) (moves : List Move) (m : Move) (old new : World) → IsAfter w moves old → Does m old new → step_fault old m ≡ None
    → IsActInRange m.act → IsAfter w (m ∷ moves) new
unfolding course_of
after_on w moves m old new is d can range =
    let none : first_fault w (m ∷ moves) ≡ None =
    made_next (first_fault w moves) (length moves) (move_fault w (course_of w moves) m) is.made
    (sym (moves_same w (course_of w moves) m old is.holds) ∙ can) in
    let made = all_made w (m ∷ moves) (range, is.moves_are) none in
    let stands = all_sound w moves is.world made.1 in
    record {
      world = is.world;
      moves_are = (range, is.moves_are);
      made = none;
      holds = holds_on w (course_of w moves) m old new is.holds (fit_requests ((course_of w moves).calls m.station) (stands.fit m.station))
          (state_is_told w moves is.world is.moves_are is.made m.station made.0.within) made.0.can d;
    }

-- whatever else the call returned,
pub made_after : {T E : Type 0} (w : WorldData) (moves : List Move) (m : Move) (old new : World) (r : Result T E) → IsAfter w moves old
    → OnOk r (Does m old new) → OnOk r (step_fault old m ≡ None) → OnOk r (IsActInRange m.act) → OnOk r (IsAfter w (m ∷ moves) new)
made_after w moves m old new (Ok v) is does can range = after_on w moves m old new is does can range
made_after w moves m old new (Err e) is does can range = tt

-- and its first fault is that of the next that is not.
pub fault_next : (w : WorldData) (moves : List Move) (m : Move) (f : MoveFault) → first_fault w moves ≡ None → move_fault w (course_of w moves) m ≡ Some f
    → first_fault w (m ∷ moves) ≡ Some (world_faults.Move (length moves) f)
fault_next w moves m f made e = failed_next (first_fault w moves) (length moves) (move_fault w (course_of w moves) m) f made e

-- A first fault stays the first.
pub fault_stays : (w : WorldData) (newer older : List Move) (f : WorldFault) → first_fault w older ≡ Some f → first_fault w (newer ++ older) ≡ Some f
fault_stays w [] older f e = e
fault_stays w (m ∷ newer) older f e =
    ap (λ (o : Option WorldFault). option_or o
    (option_map (world_faults.Move (length (newer ++ older))) (move_fault w (course_of w (newer ++ older)) m))) (fault_stays w newer older f e)

-- What a world keeps to.

short_if : (o : Option Pdu) → ((p : Pdu) → o ≡ Some p → pdu_size p ≤ LARGEST_DATAGRAM) → IfSome o (λ p. pdu_size p ≤ LARGEST_DATAGRAM)
short_if None h = tt
short_if (Some p) h = h p refl

repeat_same : (w : WorldData) (c : Course) (s now : ℕ) (n : Node) → IsNode w s (c.came s) (c.calls s) n → AreRequests (c.calls s)
    → next_repeat n.manager (moment_of now) ≡ repeated_by w c s now
repeat_same w c s now n is are =
    ap (λ (b : Book). next_repeat b (moment_of now)) is.manager ∙ repeat_told (settings_of w s) (c.calls s) are now _

pub is_fit : (w : WorldData) (moves : List Move) (kept : World) → IsAfter w moves kept → IsFit kept
is_fit w moves kept is =
    let made = all_made w moves is.moves_are is.made in
    let stands = all_sound w moves is.world made in
    record {
      stations = is.holds.count ∙ (sym (length-map w.stations (λ s. s.station))
          ∙ ap (λ (r : PlainRecording). length r.setting.stations) (sym is.holds.recording));
      sends = is.holds.sends ∙ ap (λ (r : PlainRecording). sent_in r.entries) (sym is.holds.recording);
      repeats = λ s n at now.
          let within : s < length w.stations = (let h : s < length kept.nodes.items = slice_get_within kept.nodes.items s n at in
          omega (arith, is.holds.count)) in
          let fit = stands.fit s in
          short_if (next_repeat n.manager (moment_of now)) (λ p e.
          (repeat_own (outfit_of w s) (settings_of w s) refl refl (is.world s within) ((course_of w moves).calls s) fit (stamp_of now) (stamp_within now) p
          (repeat_is (settings_of w s) ((course_of w moves).calls s) now (stamp_of now) p
          (sym (repeat_same w (course_of w moves) s now n (is.holds.nodes s n at) (fit_requests ((course_of w moves).calls s) fit)) ∙ e))).order.size);
    }

-- and a world that refuses a move is still after those before it.
pub still_after : (w : WorldData) (moves : List Move) (old new : World) → IsAfter w moves old → (fault : StepFault) → Stays old new fault
    → IsStillAfter w moves new fault
still_after w moves old new is (step_faults.Move f) same = record {
  world = is.world;
  moves_are = is.moves_are;
  made = is.made;
  holds = record {
    recording = same.0 ∙ is.holds.recording;
    sends = same.1 ∙ is.holds.sends;
    count = ap length same.2 ∙ is.holds.count;
    nodes = λ s n at. is.holds.nodes s n (subst (λ (ns : List Node). slice_get ns s ≡ Some n) same.2 at);
  };
}
still_after w moves old new is step_faults.Memory same = tt

-- The number of sent datagrams.

count_sent : (es : List Entry) → length (sent_in es) ≤ length es
count_sent [] = omega arith
count_sent (Sent s stamp b ∷ es) = let h = count_sent es in omega (arith, h)
count_sent (Received s stamp b ∷ es) = let h = count_sent es in omega (arith, h)
count_sent (Told s e y ∷ es) = let h = count_sent es in omega (arith, h)

pub count_is : (w : WorldData) (moves : List Move) (kept : World) → IsAfter w moves kept
    → length kept.journal.sends.items ≡ length (sent_in (course_of w moves).entries)
count_is w moves kept is = sym (length-map kept.journal.sends.items (λ b. b.items)) ∙ ap length is.holds.sends

-- A world has no more entries than numbers for them.

sent_few : (s now : ℕ) (o : Option Pdu) → length (sent_as s now o) ≤ 1
sent_few s now None = omega arith
sent_few s now (Some p) = omega arith

arrival_few : (w : WorldData) (c : Course) (s now : ℕ) (o : Option (List ℕ)) → length (arrival w c s now o) ≤ 2
arrival_few w c s now None = omega arith
arrival_few w c s now (Some b) = let h = sent_few s now (option_and_then (reply_by w c s now) (reading b)) in omega (arith, h)

entries_few : (w : WorldData) (c : Course) (s now : ℕ) (act : Act) → length (entries_by w c s now act) ≤ 2
entries_few w c s now (Command order) = let h = sent_few s now (Some (made_by w c s now order)) in omega (arith, h)
entries_few w c s now (Deliver k) = arrival_few w c s now (datagram c k)
entries_few w c s now Tick = let h = sent_few s now (repeated_by w c s now) in omega (arith, h)
entries_few w c s now (Tell e) = omega arith

room_of : (n : ℕ) (act : Option MoveFault) → (if nat_le n MOST_ENTRIES then act else Some faults.Records) ≡ None → n ≤ MOST_ENTRIES
room_of n act e = by (nat_le n MOST_ENTRIES) refl e where
  by : (b : Bool) → nat_le n MOST_ENTRIES ≡ b → (if b then act else Some faults.Records) ≡ None → n ≤ MOST_ENTRIES
  by true h e = grind (arith, nat_tests)
  by false h e = absurd cc

few : (w : WorldData) (moves : List Move) → first_fault w moves ≡ None → length (course_of w moves).entries ≤ MOST_ENTRIES
unfolding course_of
few w [] none = omega arith
few w (m ∷ earlier) none =
    let c = course_of w earlier in
    let fault = (neither (first_fault w earlier) (world_faults.Move (length earlier)) (move_fault w c m) none).1 in
    let room = room_of (length c.entries + 2) (if nat_lt m.station (length w.stations) then act_fault w c m.station m.now m.act else Some faults.NoSuchStation) fault in
    let more = entries_few w c m.station m.now m.act in
    let all = length-append c.entries (entries_by w c m.station m.now m.act) in
    omega (arith, room, more, all)

pub count_within : (w : WorldData) (moves : List Move) (kept : World) → IsAfter w moves kept → length (sent_in (course_of w moves).entries) ≤ MOST_ENTRIES
count_within w moves kept is =
    let all = few w moves is.made in
    let sent = count_sent (course_of w moves).entries in
    omega (arith, all, sent)
