-- Stations that can't go on.
use Rattle.std.proofs.Common.{◌≡◌, ◌≢◌, ⊎_elim, inl, inr, ℕ, zero, suc, ◌+◌, ◌<◌, ◌≤◌, List, [], ◌∷◌, ◌++◌, length, cond, Some, None, refl, sym, ap, ◌∙◌, subst, arith, length-append}
use Rattle.std.specs.Prelude.{slice_get, ◌==◌, if◌then◌else◌, option_and_then, IfSome}
use Rattle.std.proofs.Math.Numerals.{add-one}
use Rattle.std.proofs.lemmas.Bool.{cases_lt, eq-eqb}
use Rattle.exercise_model.specs.declared.cause.Cause.{Cause}
use Rattle.exercise_model.specs.Entry.{Entry}
use Rattle.exercise_model.specs.Recording.{PlainRecording, IsRecording}
use Rattle.exercise_model.specs.History.{Event, History, event_of, station_of, past, log_at, log_of}
use Rattle.exercise_model.specs.Cause.{cause_of}
use Rattle.exercise_model.specs.Place.{log_before, own_event}
use Rattle.exercise_model.specs.Run.{IsBeginning, CoversPrefixes, IsStuck, Explains}
use Rattle.exercise_model.proofs.Offered.{same_beginnings, beginning_length, log_before-next, log_before-beginning, stuck_explains, same_prefixes, same_causes, no_log, past_within, same_count, length-past}
use Rattle.exercise_check.specs.declared.course.Progress.TheVariants.{Taken, Barred}
use Rattle.exercise_check.specs.Course.{CourseData, IsCourse, IsNext, GoesOn, so_far}
use Rattle.exercise_check.proofs.Offered.{good_logs, entry_within, from_entry, next_lengths, good_sound, good_covers, good_explains}
use Rattle.exercise_audit.specs.declared.blocks.Block.{Block}
use Rattle.exercise_audit.specs.Time.{IsTimely}
use Rattle.exercise_audit.specs.Audit.{IsHeld, IsDone, IsBlock, IsBlocked, AreBlocks}
use Rattle.exercise_audit.specs.Longest.{IsLongest}

-- a station whose whole log happened
pub held_done : (r : PlainRecording) (h : History) (s : ℕ) → log_at s h ≡ log_of r s → IsHeld r h s
held_done r h s done v next e = absurd (omega (arith, beginning_length _ _ next, ap length done))

-- a station whose next event has a cause against it
pub held_cause : (r : PlainRecording) (h : History) (s i : ℕ) (w : Event) (cause : Cause) → own_event r s i ≡ Some w
    → length (log_before r s i) ≡ length (log_at s h) → cause_of r.setting h w ≡ Some cause → IsHeld r h s
held_cause r h s i w cause own lengths bad v next e =
    let same : v ∷ log_at s h ≡ w ∷ log_before r s i = same_beginnings _ _ (log_of r s) next (log_before-next r s i w own) (ap suc (sym lengths)) in
    let heads : v ≡ w = cc in
    let none : cause_of r.setting h w ≡ None = subst (λ x. cause_of r.setting h x ≡ None) heads e in
    cc

-- where each station is held, the run is stuck
stuck_from_held : (r : PlainRecording) → IsRecording r → (h : History) → CoversPrefixes r h → ((s : ℕ) → s < length r.setting.stations → IsHeld r h s)
    → IsStuck r h
unfolding log_of
stuck_from_held r limits h covers held = record {
  covers = covers;
  stuck = λ v next. ⊎_elim
      (λ (below : station_of v < length r.setting.stations). held (station_of v) below v next)
      (λ (above : length r.setting.stations ≤ station_of v) (e : cause_of r.setting h v ≡ None).
      absurd (omega (arith, beginning_length _ _ next, no_log (length r.setting.stations) (past r.entries) (station_of v) (past_within r limits) above)))
      (cases_lt (station_of v) (length r.setting.stations));
}

-- the event of an entry of station s, as its own
pub own_from : (r : PlainRecording) (s i : ℕ) (e : Entry) → slice_get r.entries i ≡ Some e → station_of (event_of e) ≡ s
    → own_event r s i ≡ Some (event_of e)
unfolding own_event
own_from r s i e at here =
    ap (option_and_then (λ e. if station_of (event_of e) == s then Some (event_of e) else None)) at ∙ ap (λ b. cond b (Some (event_of e)) None)
    (eq-eqb _ _ here)

-- what is known of the next entry of a station
pub record NextOf (c : CourseData) (s i : ℕ) : Type 0 where
  pub entry : Entry
  pub at : slice_get c.recording.entries i ≡ Some entry
  pub own : own_event c.recording s i ≡ Some (event_of entry)
  pub lengths : length (log_before c.recording s i) ≡ length (log_at s (so_far c))

pub next_of : (c : CourseData) (s i : ℕ) → i < length c.recording.entries
    → IfSome (slice_get c.recording.entries i) (λ e. station_of (event_of e) ≡ s) → IsNext c i → NextOf c s i
next_of c s i within here next =
    let r = c.recording in
    let e = entry_within r.entries i within in
    let at_s = from_entry _ e.0 (λ e. station_of (event_of e) ≡ s) e.1 here in
    let lengths = next_lengths r c.steps i (event_of e.0) (from_entry _ e.0 _ e.1 next) in
    record {
      entry = e.0;
      at = e.1;
      own = own_from r s i e.0 e.1 at_s;
      lengths = subst (λ t. length (log_before r t i) ≡ length (log_at t (so_far c))) at_s (sym lengths);
    }

-- a station that is barred is held
pub barred_held : (old new : CourseData) (s i : ℕ) (cause : Cause) → NextOf old s i
    → IfSome (slice_get old.recording.entries i) (GoesOn old new i (Barred cause)) → IsHeld old.recording (so_far old) s × (new ≡ old)
barred_held old new s i cause n goes =
    let bars = from_entry _ n.entry (GoesOn old new i (Barred cause)) n.at goes in
    (held_cause old.recording (so_far old) s i (event_of n.entry) cause n.own n.lengths bars.cause_is, bars.new_is)

-- and this is its block
pub barred_block : (old new : CourseData) (s i : ℕ) (cause : Cause) → NextOf old s i
    → IfSome (slice_get old.recording.entries i) (GoesOn old new i (Barred cause))
    → IsBlock old.recording (so_far old) s (record { station = s; entry = i; cause = cause })
barred_block old new s i cause n goes = record {
  station = refl;
  event = event_of n.entry;
  next = record { own = n.own; place = n.lengths };
  cause = (from_entry _ n.entry (GoesOn old new i (Barred cause)) n.at goes).cause_is;
}

-- a station that is held takes no entry
pub held_takes_none : (old new : CourseData) (s i link : ℕ) → IsCourse old → IsHeld old.recording (so_far old) s → NextOf old s i
    → IfSome (slice_get old.recording.entries i) (GoesOn old new i (Taken link)) → ⊥
held_takes_none old new s i link course held n goes =
    let r = old.recording in
    let takes = from_entry _ n.entry (GoesOn old new i (Taken link)) n.at goes in
    let covers = good_logs r old.steps course.good s in
    let same : log_before r s i ≡ log_at s (so_far old) = same_beginnings _ _ (log_of r s) (log_before-beginning r s i) covers n.lengths in
    held (event_of n.entry) (subst (λ log. IsBeginning (event_of n.entry ∷ log) (log_of r s)) same
    (log_before-next r s i (event_of n.entry) n.own)) takes.allowed

-- where not all was taken, and nothing can go on, no run explains
unexplained : (c : CourseData) → IsCourse c → IsStuck c.recording (so_far c) → length c.steps ≢ length c.recording.entries → (k : History)
    → Explains c.recording k → ⊥
unfolding log_of
unexplained c course stuck less k explains =
    let r = c.recording in
    let sound = good_sound r course.limits c.steps course.good in
    let all = stuck_explains r (so_far c) k stuck explains in
    less (sym sound.count ∙ same_count (length r.setting.stations) (so_far c) (past r.entries) sound.stations (past_within r course.limits) all.logs
    ∙ length-past r.entries)

pub blocks_done : (r : PlainRecording) (h : History) (s : ℕ) (blocks : List Block) → AreBlocks r h s blocks → IsDone r h s
    → AreBlocks r h (s + 1) blocks
blocks_done r h s blocks before done = rw add-one (inl (done, before))

pub blocks_push : (r : PlainRecording) (h : History) (s : ℕ) (blocks : List Block) (b : Block) → AreBlocks r h s blocks → IsBlock r h s b
    → AreBlocks r h (s + 1) (blocks ++ b ∷ [])
blocks_push r h s blocks b before block = rw add-one (inr (blocks, b, refl, before, block))

-- ---- stations that are done

-- a station that is done has no block
pub done_unblocked : (r : PlainRecording) (h : History) (s : ℕ) (b : Block) → IsDone r h s → IsBlock r h s b → ⊥
done_unblocked r h s b done is =
    omega (arith, beginning_length _ _ (log_before-next r s b.entry is.event is.next.own), is.next.place, ap length done)

-- where there is no block, each station is done
all_done : (r : PlainRecording) (h : History) (n : ℕ) → AreBlocks r h n [] → (s : ℕ) → s < n → IsDone r h s
all_done r h zero are s below = absurd (omega (arith, below))
all_done r h (suc m) are s below =
    ⊎_elim
    (λ (here : IsDone r h m × AreBlocks r h m []).
    ⊎_elim
    (λ (less : s < m). all_done r h m here.1 s less)
    (λ (last : m ≤ s). let same : m ≡ s = omega (arith, last, below) in subst (IsDone r h) same here.0)
    (cases_lt s m))
    (λ (here : (others : List Block) × (b : Block) × ([] ≡ others ++ b ∷ []) × AreBlocks r h m others × IsBlock r h m b).
    absurd (omega (arith, ap length here.2, length-append here.0 (here.1 ∷ []))))
    are

-- and the other way round
none_blocked : (r : PlainRecording) (h : History) → ((s : ℕ) → IsDone r h s) → (n : ℕ) (blocks : List Block) → AreBlocks r h n blocks → blocks ≡ []
none_blocked r h done zero blocks are = are
none_blocked r h done (suc m) blocks are =
    ⊎_elim
    (λ (here : IsDone r h m × AreBlocks r h m blocks). none_blocked r h done m blocks here.1)
    (λ (here : (others : List Block) × (b : Block) × (blocks ≡ others ++ b ∷ []) × AreBlocks r h m others × IsBlock r h m b).
    absurd (done_unblocked r h m here.1 (done m) here.4))
    are

-- where each station is done, every entry was taken
all_taken : (c : CourseData) → IsCourse c → ((s : ℕ) → s < length c.recording.setting.stations → IsDone c.recording (so_far c) s)
    → length c.steps ≡ length c.recording.entries
unfolding log_of
all_taken c course done =
    let r = c.recording in
    let n = length r.setting.stations in
    let sound = good_sound r course.limits c.steps course.good in
    let all : (s : ℕ) → log_at s (so_far c) ≡ log_at s (past r.entries) = λ s. ⊎_elim
    (λ (below : s < n). done s below)
    (λ (above : n ≤ s).
    let none = no_log n (so_far c) s sound.stations above in
    let least = no_log n (past r.entries) s (past_within r course.limits) above in
    same_beginnings _ _ (log_at s (past r.entries)) (good_logs r c.steps course.good s) ([], refl) (none ∙ sym least))
    (cases_lt s n) in
    sym sound.count ∙ same_count n (so_far c) (past r.entries) sound.stations (past_within r course.limits) all ∙ length-past r.entries

-- ---- blocks of runs that can't go on

-- two runs that can't go on have the same blocks
same_block : (r : PlainRecording) (h k : History) → IsStuck r h → IsStuck r k → (s : ℕ) (b : Block) → IsBlock r h s b → IsBlock r k s b
same_block r h k one other s b is = record {
  station = is.station;
  event = is.event;
  next = record { own = is.next.own; place = is.next.place ∙ ap length (same_prefixes r h k one other s) };
  cause = sym (same_causes r.setting h k (same_prefixes r h k one other) is.event) ∙ is.cause;
}

same_blocks : (r : PlainRecording) (h k : History) → IsStuck r h → IsStuck r k → (n : ℕ) (blocks : List Block) → AreBlocks r h n blocks
    → AreBlocks r k n blocks
same_blocks r h k one other zero blocks are = are
same_blocks r h k one other (suc s) blocks are =
    ⊎_elim
    (λ (here : IsDone r h s × AreBlocks r h s blocks). inl (sym (same_prefixes r h k one other s) ∙ here.0, same_blocks r h k one other s blocks here.1))
    (λ (here : (others : List Block) × (b : Block) × (blocks ≡ others ++ b ∷ []) × AreBlocks r h s others × IsBlock r h s b).
    inr (here.0, here.1, here.2, same_blocks r h k one other s here.0 here.3, same_block r h k one other s here.1 here.4))
    are

-- where each station is held, an audit says so
blocked_from_held : (c : CourseData) → IsCourse c → ((s : ℕ) → s < length c.recording.setting.stations → IsHeld c.recording (so_far c) s)
    → length c.steps ≢ length c.recording.entries
    → (blocks : List Block) → AreBlocks c.recording (so_far c) (length c.recording.setting.stations) blocks → IsBlocked c.recording blocks
blocked_from_held c course held less blocks are =
    let r = c.recording in
    let stuck = stuck_from_held r course.limits (so_far c) (good_covers r course.limits c.steps course.good) held in
    record {
      unexplained = unexplained c course stuck less;
      some_end = (so_far c, stuck);
      blocks_are = λ k other. same_blocks r (so_far c) k stuck other (length r.setting.stations) blocks are;
    }

-- THE LONGEST RUN is one after which each station is held
pub longest_from_held : (c : CourseData) → IsCourse c → IsTimely c.recording c.steps
    → ((s : ℕ) → s < length c.recording.setting.stations → IsHeld c.recording (so_far c) s) → (blocks : List Block)
    → AreBlocks c.recording (so_far c) (length c.recording.setting.stations) blocks → IsLongest c.recording c.steps blocks
longest_from_held c course timely held blocks are =
    let r = c.recording in
    let n = length r.setting.stations in
    record {
      good = course.good;
      timely = timely;
      stuck = stuck_from_held r course.limits (so_far c) (good_covers r course.limits c.steps course.good) held;
      blocks_are = are;
      explains = λ none. record {
        count = all_taken c course (all_done r (so_far c) n (subst (AreBlocks r (so_far c) n) none are));
        good = course.good;
      };
      blocked = λ some.
          let less : length c.steps ≢ length r.entries = λ count.
          let explains = good_explains r course.limits c.steps (record { count = count; good = course.good }) in
          some (none_blocked r (so_far c) explains.logs n blocks are) in
          blocked_from_held c course held less blocks are;
    }
