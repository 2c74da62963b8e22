-- THE RECORDING OF A PLAN HAS WHAT ITS LINES DID.
use Rattle.std.proofs.Common.{◌≡◌, ◌⊎◌, inl, inr, ℕ, ◌+◌, ◌<◌, zero, suc, Bool, nat_lt, true, false, List, [], ◌∷◌, ◌++◌, length, Option, Some, None, Result, Ok, Err, refl, sym, ap, subst, ◌∙◌, arith, append_assoc}
use Rattle.std.specs.Prelude.{slice_get, option_and_then, option_to_list, IfSome, IfOk, reverse, if◌then◌else◌}
use Rattle.std.proofs.lemmas.Bool.Decides.{nat_tests}
use Rattle.std.proofs.lemmas.List.{append-nil, length-append, reverse-reverse}
use Rattle.siman_pdus.specs.declared.pdu.Pdu.{Pdu}
use Rattle.siman_pdus.specs.Reading.{reading}
use Rattle.exercise_model.specs.Entry.{Entry, Sent, Received, Told}
use Rattle.siman_scripts.specs.declared.act.Act.{Act}
use Rattle.siman_scripts.specs.declared.act.Act.TheVariants.{Command, Deliver, Tick, Tell}
use Rattle.siman_scripts.specs.declared.act.Move.{Move}
use Rattle.siman_stations.specs.declared.world_fault.MoveFault.{MoveFault}
use Rattle.siman_stations.specs.StationTurn.{sent_as}
use Rattle.siman_stations.specs.World.{WorldData, Course, sent_in, datagram, reply_by, arrival, repeated_by, state_by, entries_by, after_move, course_of, move_fault, world_recording}
use Rattle.siman_plans.specs.declared.deed.Deed.{Deed}
use Rattle.siman_plans.specs.declared.deed.Deed.TheVariants as deeds
use Rattle.siman_plans.specs.declared.deed.PlannedLine.{PlannedLine}
use Rattle.siman_plans.specs.declared.plan_fault.Stop.{Stop}
use Rattle.siman_plans.specs.declared.plan_fault.Unnamed.{Unnamed}
use Rattle.siman_plans.specs.declared.source.SourceLine.{SourceLine}
use Rattle.siman_plans.specs.declared.source.SourceMove.{SourceMove}
use Rattle.siman_plans.specs.declared.source.SourceMove.TheVariants.{At, Acts, Brings, Loses}
use Rattle.siman_plans.specs.Notes.{named_then, named, place_of, sent_before, label_of, with_deed}
use Rattle.siman_plans.specs.Plan.{PlanData, no_plan, sent_count, move_at, sends_by, did_by, unless_refused, made, unless_unnamed, line_after, does_after, unless_stopped, lines_after, plan_at}
use Rattle.siman_plans.specs.PlanText.{world_of}
use Rattle.siman_plans.specs.Source.{SourceData}
use Rattle.siman_plans.specs.declared.source_fault.SourceReason.{SourceReason}
use Rattle.siman_plans.specs.PlanLaw.{senders, IsSentBy, IsSaid, AreSaid, sends_of, sends_in, CountUp, AreRecorded, recording_of}

-- More entries.

get_more : {X : Type 0} (xs ys : List X) (k : ℕ) (x : X) → slice_get xs k ≡ Some x → slice_get (xs ++ ys) k ≡ Some x
get_more [] ys k x e = absurd cc
get_more (y ∷ xs) ys zero x e = e
get_more (y ∷ xs) ys (suc k) x e = get_more xs ys k x e

get_first : {X : Type 0} (xs : List X) (x : X) (ys : List X) → slice_get (xs ++ x ∷ ys) (length xs) ≡ Some x
get_first [] x ys = refl
get_first (y ∷ xs) x ys = get_first xs x ys

senders-append : (es fs : List Entry) → senders (es ++ fs) ≡ senders es ++ senders fs
senders-append [] fs = refl
senders-append (Sent s stamp b ∷ es) fs = ap (λ (ss : List ℕ). s ∷ ss) (senders-append es fs)
senders-append (Received s stamp b ∷ es) fs = senders-append es fs
senders-append (Told s e y ∷ es) fs = senders-append es fs

length-senders : (es : List Entry) → length (senders es) ≡ length (sent_in es)
length-senders [] = refl
length-senders (Sent s stamp b ∷ es) = ap suc (length-senders es)
length-senders (Received s stamp b ∷ es) = length-senders es
length-senders (Told s e y ∷ es) = length-senders es

sent_more : (es fs : List Entry) (s k : ℕ) → IsSentBy es s k → IsSentBy (es ++ fs) s k
sent_more es fs s k is = subst (λ (ss : List ℕ). slice_get ss k ≡ Some s) (sym (senders-append es fs)) (get_more (senders es) (senders fs) k s is)

sends_more : (es fs : List Entry) (s : ℕ) (o : Option ℕ) → IfSome o (IsSentBy es s) → IfSome o (IsSentBy (es ++ fs) s)
sends_more es fs s None is = tt
sends_more es fs s (Some k) is = sent_more es fs s k is

said_more : (es fs : List Entry) (did : Deed) → IsSaid es did → IsSaid (es ++ fs) did
said_more es fs (deeds.Set is_back) is = tt
said_more es fs (deeds.Ordered s k label) is = sent_more es fs s k is
said_more es fs (deeds.Ticked s sends label) is = sends_more es fs s sends is
said_more es fs (deeds.Told s e y) is = (is.0, get_more es fs is.0 (Told s e y) is.1)
said_more es fs (deeds.Brought s k answers) is = sends_more es fs s answers is
said_more es fs (deeds.Lost k) is = tt

all_more : (es fs : List Entry) (planned : List PlannedLine) → AreSaid es planned → AreSaid (es ++ fs) planned
all_more es fs [] are = tt
all_more es fs (l ∷ planned) are = (said_more es fs l.did are.0, all_more es fs planned are.1)

with_line : (es : List Entry) (planned : List PlannedLine) (line : ℕ) (did : Deed) → AreSaid es planned → IsSaid es did → AreSaid es (with_deed line did planned)
with_line es [] line did are is = (is, tt)
with_line es (l ∷ planned) line did are is = (are.0, with_line es planned line did are.1 is)

-- A move.

-- entries send nothing, or one datagram of this station
abbrev AreFrom : ℕ → List Entry → Type 0
AreFrom s es = (senders es ≡ []) ⊎ (senders es ≡ s ∷ [])

from_as : (s now : ℕ) (o : Option Pdu) → AreFrom s (sent_as s now o)
from_as s now None = inl refl
from_as s now (Some p) = inr refl

from_arrival : (w : WorldData) (c : Course) (s now : ℕ) (o : Option (List ℕ)) → AreFrom s (arrival w c s now o)
from_arrival w c s now None = inl refl
from_arrival w c s now (Some b) = from_as s now (option_and_then (reply_by w c s now) (reading b))

first_sent : (es fs : List Entry) (s : ℕ) → senders fs ≡ s ∷ [] → IsSentBy (es ++ fs) s (length (sent_in es))
first_sent es fs s one =
    subst (λ (ss : List ℕ). slice_get ss (length (sent_in es)) ≡ Some s) (sym (senders-append es fs ∙ ap (λ (ss : List ℕ). senders es ++ ss) one))
    (subst (λ (k : ℕ). slice_get (senders es ++ s ∷ []) k ≡ Some s) (length-senders es) (get_first (senders es) s []))

count_more : (es fs : List Entry) → length (sent_in (es ++ fs)) ≡ length (sent_in es) + length (senders fs)
count_more es fs =
    sym (length-senders (es ++ fs)) ∙ (ap length (senders-append es fs)
    ∙ (length-append (senders es) (senders fs) ∙ ap (λ (n : ℕ). n + length (senders fs)) (length-senders es)))

if_sent : (es : List Entry) (s a b : ℕ) → (a < b → IsSentBy es s a) → IfSome (if nat_lt a b then Some a else None) (IsSentBy es s)
if_sent es s a b h = by (nat_lt a b) refl where
  by : (t : Bool) → nat_lt a b ≡ t → IfSome (if t then Some a else None) (IsSentBy es s)
  by true e = h (grind (arith, nat_tests))
  by false e = tt

sends_are : (es fs : List Entry) (s : ℕ) → AreFrom s fs
    → IfSome (if nat_lt (length (sent_in es)) (length (sent_in (es ++ fs))) then Some (length (sent_in es)) else None) (IsSentBy (es ++ fs) s)
sends_are es fs s from = if_sent (es ++ fs) s (length (sent_in es)) (length (sent_in (es ++ fs))) (λ less. by from less) where
  all : length (sent_in (es ++ fs)) ≡ length (sent_in es) + length (senders fs)
  all = count_more es fs

  by : AreFrom s fs → length (sent_in es) < length (sent_in (es ++ fs)) → IsSentBy (es ++ fs) s (length (sent_in es))
  by (inl none) less = let n : length (senders fs) ≡ 0 = ap length none in absurd (omega (arith, all, n, less))
  by (inr one) less = first_sent es fs s one

did_said : (w : WorldData) (c : Course) (m : Move) (label : Option ℕ) → IsSaid (after_move w c m).entries (did_by w c m.station m.act label (sends_by w c m))
did_said w c m label = by m.act refl where
  by : (act : Act) → m.act ≡ act → IsSaid (c.entries ++ entries_by w c m.station m.now act)
      (did_by w c m.station act label (if nat_lt (length (sent_in c.entries)) (length (sent_in (c.entries ++ entries_by w c m.station m.now act))) then Some (length (sent_in c.entries)) else None))
  by (Command order) e = first_sent c.entries (entries_by w c m.station m.now (Command order)) m.station refl
  by (Deliver k) e = sends_are c.entries (arrival w c m.station m.now (datagram c k)) m.station (from_arrival w c m.station m.now (datagram c k))
  by Tick e = sends_are c.entries (sent_as m.station m.now (repeated_by w c m.station m.now)) m.station (from_as m.station m.now (repeated_by w c m.station m.now))
  by (Tell e) q = (length c.entries, get_first c.entries (Told m.station e (state_by w c m.station e)) [])

-- Numbers.

sends_in-append : (planned : List PlannedLine) (line : ℕ) (did : Deed) → sends_in (with_deed line did planned) ≡ sends_in planned ++ sends_of did
sends_in-append [] line did = append-nil (sends_of did)
sends_in-append (l ∷ planned) line did =
    ap (λ (ks : List ℕ). sends_of l.did ++ ks) (sends_in-append planned line did) ∙ sym (append_assoc (sends_of l.did) (sends_in planned) (sends_of did))

count_one : (k : ℕ) (ns : List ℕ) (n : ℕ) → CountUp k ns → n ≡ k + length ns → CountUp k (ns ++ n ∷ [])
count_one k [] n up is = (omega (arith, is), tt)
count_one k (m ∷ ns) n up is = (up.0, count_one (k + 1) ns n up.1 (omega (arith, is)))

-- entries send nothing, or the next datagram
abbrev Next : (before after : ℕ) → List ℕ → Type 0
Next before after ns = ((after ≡ before) × (ns ≡ [])) ⊎ ((after ≡ before + 1) × (ns ≡ before ∷ []))

next_none : (a b : ℕ) → b ≡ a → option_to_list (if nat_lt a b then Some a else None) ≡ []
next_none a b same = grind (arith, nat_tests)

next_one : (a b : ℕ) → b ≡ a + 1 → option_to_list (if nat_lt a b then Some a else None) ≡ a ∷ []
next_one a b more = grind (arith, nat_tests)

next_from : (es fs : List Entry) (s : ℕ) → AreFrom s fs → Next (length (sent_in es)) (length (sent_in (es ++ fs)))
    (option_to_list (if nat_lt (length (sent_in es)) (length (sent_in (es ++ fs))) then Some (length (sent_in es)) else None))
next_from es fs s (inl none) =
    let n : length (senders fs) ≡ 0 = ap length none in
    let same : length (sent_in (es ++ fs)) ≡ length (sent_in es) = (let all = count_more es fs in omega (arith, all, n)) in
    inl (same, next_none (length (sent_in es)) (length (sent_in (es ++ fs))) same)
next_from es fs s (inr one) =
    let n : length (senders fs) ≡ 1 = ap length one in
    let more : length (sent_in (es ++ fs)) ≡ length (sent_in es) + 1 = (let all = count_more es fs in omega (arith, all, n)) in
    inr (more, next_one (length (sent_in es)) (length (sent_in (es ++ fs))) more)

did_next : (w : WorldData) (c : Course) (m : Move) (label : Option ℕ)
    → Next (sent_count c) (sent_count (after_move w c m)) (sends_of (did_by w c m.station m.act label (sends_by w c m)))
did_next w c m label = by m.act where
  by : (act : Act) → Next (sent_count c) (length (sent_in (c.entries ++ entries_by w c m.station m.now act)))
      (sends_of (did_by w c m.station act label (if nat_lt (length (sent_in c.entries)) (length (sent_in (c.entries ++ entries_by w c m.station m.now act))) then Some (length (sent_in c.entries)) else None)))
  by (Command order) = let all = count_more c.entries (entries_by w c m.station m.now (Command order)) in inr (all, refl)
  by (Deliver k) = next_from c.entries (arrival w c m.station m.now (datagram c k)) m.station (from_arrival w c m.station m.now (datagram c k))
  by Tick = next_from c.entries (sent_as m.station m.now (repeated_by w c m.station m.now)) m.station (from_as m.station m.now (repeated_by w c m.station m.now))
  by (Tell e) = let all = count_more c.entries (entries_by w c m.station m.now (Tell e)) in inl (omega (arith, all), refl)

-- the datagrams so far were sent by the lines so far, one each
abbrev Rising : List Entry → List PlannedLine → Type 0
Rising es planned = (length (sends_in planned) ≡ length (sent_in es)) × CountUp 0 (sends_in planned)

rising_on : (before after : ℕ) (ks ns : List ℕ) → (length ks ≡ before) × CountUp 0 ks → Next before after ns → (length (ks ++ ns) ≡ after) × CountUp 0 (ks ++ ns)
rising_on before after ks ns up (inl same) =
    subst (λ (ms : List ℕ). (length (ks ++ ms) ≡ after) × CountUp 0 (ks ++ ms)) (sym same.1)
    (subst (λ (ms : List ℕ). (length ms ≡ after) × CountUp 0 ms) (sym (append-nil ks)) (up.0 ∙ sym same.0, up.1))
rising_on before after ks ns up (inr more) =
    subst (λ (ms : List ℕ). (length (ks ++ ms) ≡ after) × CountUp 0 (ks ++ ms)) (sym more.1)
    (length-append ks (before ∷ []) ∙ (let h = up.0 in let g = more.0 in omega (arith, h, g)), count_one 0 ks before up.1 (let h = up.0 in omega (arith, h)))

with_none : (es : List Entry) (planned : List PlannedLine) (line : ℕ) (did : Deed) → sends_of did ≡ [] → Rising es planned → Rising es (with_deed line did planned)
with_none es planned line did none up =
    subst (λ (ks : List ℕ). (length ks ≡ length (sent_in es)) × CountUp 0 ks)
    (sym (sends_in-append planned line did ∙ (ap (λ (ks : List ℕ). sends_in planned ++ ks) none ∙ append-nil (sends_in planned)))) up

-- Lines.

-- the recording so far has what the lines so far did
abbrev Good : WorldData → PlanData → Type 0
Good w d = AreSaid (course_of w d.moves).entries d.notes.planned × Rising (course_of w d.moves).entries d.notes.planned

good_move : (w : WorldData) (ms : List Move) (m : Move) (planned : List PlannedLine) (line : ℕ) (label : Option ℕ)
    → AreSaid (course_of w ms).entries planned × Rising (course_of w ms).entries planned
    → (let after = with_deed line (did_by w (course_of w ms) m.station m.act label (sends_by w (course_of w ms) m)) planned in
    AreSaid (course_of w (m ∷ ms)).entries after × Rising (course_of w (m ∷ ms)).entries after)
unfolding course_of
good_move w ms m planned line label are =
    let c = course_of w ms in
    let did = did_by w c m.station m.act label (sends_by w c m) in (
      with_line (after_move w c m).entries planned line did (all_more c.entries (entries_by w c m.station m.now m.act) planned are.0) (did_said w c m label),
      subst (λ (ks : List ℕ). (length ks ≡ sent_count (after_move w c m)) × CountUp 0 ks) (sym (sends_in-append planned line did))
          (rising_on (sent_count c) (sent_count (after_move w c m)) (sends_in planned) (sends_of did) are.1 (did_next w c m label)),
    )

good_line : (w : WorldData) (d : PlanData) (line : ℕ) (did : Deed) → sends_of did ≡ [] → IsSaid (course_of w d.moves).entries did → Good w d
    → AreSaid (course_of w d.moves).entries (with_deed line did d.notes.planned) × Rising (course_of w d.moves).entries (with_deed line did d.notes.planned)
good_line w d line did none is good =
    let es = (course_of w d.moves).entries in
    (with_line es d.notes.planned line did good.0 is, with_none es d.notes.planned line did none good.1)

good_begun : (w : WorldData) → Good w no_plan
unfolding course_of
good_begun w = (tt, (refl, tt))

unless_fault : (w : WorldData) (line number : ℕ) (o : Option MoveFault) (e : PlanData) → Good w e → IfOk (unless_refused line number o e) (Good w)
unless_fault w line number None e good = good
unless_fault w line number (Some f) e good = tt

good_made : (w : WorldData) (line : ℕ) (labelled : Bool) (m : Move) (d : PlanData) → Good w d → IfOk (made w line labelled m d) (Good w)
good_made w line labelled m d good =
    unless_fault w line (length d.moves) (move_fault w (course_of w d.moves) m) _ (good_move w d.moves m d.notes.planned line (label_of labelled d.notes) good)

good_named : (w : WorldData) (line column : ℕ) (r : Result ℕ Unnamed) (next : ℕ → Result PlanData Stop) → ((k : ℕ) → IfOk (next k) (Good w))
    → IfOk (unless_unnamed line column r next) (Good w)
good_named w line column (Ok k) next each = each k
good_named w line column (Err why) next each = tt

good_does : (w : WorldData) (line column : ℕ) (does : SourceMove) (d : PlanData) → Good w d → IfOk (does_after w line column does d) (Good w)
good_does w line column (At now) d good = good_line w d line (deeds.Set (nat_lt now d.notes.clock)) refl tt good
good_does w line column (Acts s act labelled) d good = good_made w line labelled (move_at d.notes s act) d good
good_does w line column (Brings which to) d good =
    good_named w line column (named d.notes which) _ (λ k. good_named w line column (place_of d.notes k to) _ (λ s.
    good_made w line false (move_at d.notes s (Deliver k)) d good))
good_does w line column (Loses which) d good =
    good_named w line column (named_then (named d.notes which) (sent_before d.notes)) _ (λ k.
    good_line w d line (deeds.Lost k) refl tt good)

good_rest : (w : WorldData) (d : PlanData) (r : Result PlanData Stop) (next : PlanData → PlanData × Option Stop) → Good w d → IfOk r (Good w)
    → ((e : PlanData) → Good w e → Good w (next e).0) → Good w (unless_stopped d r next).0
good_rest w d (Ok e) next good h each = each e h
good_rest w d (Err stop) next good h each = good

good_lines : (w : WorldData) (d : PlanData) (ls : List SourceLine) → Good w d → Good w (lines_after w d ls).0
good_lines w d [] good = good
good_lines w d (l ∷ ls) good =
    good_rest w d (line_after w l d) (λ e. lines_after w e ls) good (good_does w l.line l.column l.does d good) (λ e h. good_lines w e ls h)

-- THE RECORDING OF THE MOVES OF A SOURCE HAS WHAT THE LINES DID
pub lines_recorded : (w : WorldData) (ls : List SourceLine)
    → AreRecorded (world_recording w (reverse (plan_at w ls).0.moves)) (plan_at w ls).0.notes.planned
lines_recorded w ls =
    let ms = (plan_at w ls).0.moves in
    let planned = (plan_at w ls).0.notes.planned in
    let good = subst (λ (ns : List Move). AreSaid (course_of w ns).entries planned × Rising (course_of w ns).entries planned) (sym (reverse-reverse ms))
    (good_lines w no_plan ls (good_begun w)) in
    record { said = good.0; count = good.1.0; rising = good.1.1 }

pub text_recorded : (r : Result SourceData SourceReason) → IfOk r (λ s. AreRecorded (recording_of s) (plan_at (world_of s) s.lines).0.notes.planned)
text_recorded (Ok s) = lines_recorded (world_of s) s.lines
text_recorded (Err reason) = tt
