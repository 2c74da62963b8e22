-- A move of a plan.
use Rattle.std.proofs.Common.{◌≡◌, ◌⊎◌, inl, inr, ℕ, ◌+◌, ◌-◌, ◌<◌, ◌≤◌, zero, suc, Bool, nat_lt, nat_le, true, false, List, [], ◌∷◌, ◌++◌, length, map, Option, Some, None, Ok, refl, sym, ap, subst, ◌∙◌, arith}
use Rattle.std.specs.Prelude.{slice_get, slice_index_or, option_and_then, if◌then◌else◌}
use Rattle.std.proofs.lemmas.Bool.Decides.{nat_tests}
use Rattle.std.proofs.lemmas.List.{length-map, length-set, length-append}
use Rattle.dis_records.specs.declared.entity_state.EntityState.{EntityState}
use Rattle.siman_pdus.specs.declared.pdu.Pdu.{Pdu}
use Rattle.siman_pdus.specs.Reading.{reading}
use Rattle.exercise_model.specs.declared.recording.TheConstants.{MOST_ENTRIES}
use Rattle.exercise_model.specs.Entry.{Entry, Sent, Received, Told}
use Rattle.exercise_model.specs.Recording.{PlainRecording}
use Rattle.exercise_model.specs.Setting.{nowhere, station_in}
use Rattle.exercise_model.specs.Station.{StationData}
use Rattle.siman_scripts.specs.declared.act.Act.{Act}
use Rattle.siman_scripts.specs.declared.act.Act.TheVariants.{Command, Deliver, Tick, Tell}
use Rattle.siman_scripts.specs.declared.act.Move.{Move}
use Rattle.siman_scripts.specs.Stations.{WorldStationData}
use Rattle.siman_stations.specs.declared.world_fault.MoveFault.{MoveFault}
use Rattle.siman_stations.specs.declared.world_fault.MoveFault.TheVariants as faults
use Rattle.siman_stations.specs.Holds.{IsAfter}
use Rattle.siman_stations.specs.StationTurn.{sent_as}
use Rattle.siman_stations.specs.World.{WorldData, Course, setting_of, no_station, station_of, sent_in, datagram, reply_by, arrival, repeated_by, entries_by, after_move, course_of, act_fault, move_fault}
use Rattle.siman_plans.specs.declared.deed.Deed.{Deed}
use Rattle.siman_plans.specs.declared.deed.Deed.TheVariants as deeds
use Rattle.siman_plans.specs.declared.planner.Planner.{Planner}
use Rattle.siman_plans.specs.Plain.{act_text}
use Rattle.siman_plans.specs.Notes.{NotesData, label_of, after_deed}
use Rattle.siman_plans.specs.Sent.{SentData, new_sent, brought_to, changed_to, changed, delivered, is_order, with_sent}
use Rattle.siman_plans.specs.Plan.{PlanData, sent_count, move_at, sends_by, did_by, plain_by, notes_by, unless_refused, made}
use Rattle.siman_plans.specs.SoFar.{last_told, deed_before, completed, IsSoFar}

-- What it sends.

if_less : (a b : ℕ) → a < b → Some a ≡ (if nat_lt a b then Some a else None)
if_less a b less = grind (arith, nat_tests)

if_not : (a b : ℕ) → b ≤ a → None ≡ (if nat_lt a b then Some a else None)
if_not a b not = grind (arith, nat_tests)

pub sends_some : (w : WorldData) (ms : List Move) (m : Move) (a b : ℕ) → a ≡ sent_count (course_of w ms) → b ≡ length (sent_in (course_of w (m ∷ ms)).entries)
    → a < b → Some a ≡ sends_by w (course_of w ms) m
unfolding course_of
sends_some w ms m a b ea eb less =
    if_less a b less ∙ (ap (λ (i : ℕ). if nat_lt i b then Some i else None) ea
    ∙ ap (λ (j : ℕ). if nat_lt (sent_count (course_of w ms)) j then Some (sent_count (course_of w ms)) else None) eb)

pub sends_none : (w : WorldData) (ms : List Move) (m : Move) (a b : ℕ) → a ≡ sent_count (course_of w ms) → b ≡ length (sent_in (course_of w (m ∷ ms)).entries)
    → b ≤ a → None ≡ sends_by w (course_of w ms) m
unfolding course_of
sends_none w ms m a b ea eb not =
    if_not a b not ∙ (ap (λ (i : ℕ). if nat_lt i b then Some i else None) ea
    ∙ ap (λ (j : ℕ). if nat_lt (sent_count (course_of w ms)) j then Some (sent_count (course_of w ms)) else None) eb)

-- What it did.

get_last : {X : Type 0} (xs : List X) (x : X) → slice_get (xs ++ x ∷ []) (length xs) ≡ Some x
get_last [] x = refl
get_last (y ∷ xs) x = get_last xs x

last_is : (es : List Entry) (s e : ℕ) (y : EntityState) → last_told (es ++ Told s e y ∷ []) ≡ y
last_is es s e y =
    let more = length-append es (Told s e y ∷ []) in
    let place : length (es ++ Told s e y ∷ []) - 1 ≡ length es = omega (arith, more) in
    rw place (rw (get_last es (Told s e y)) refl)

did_at : (w : WorldData) (c : Course) (s now : ℕ) (act : Act) (label : Option ℕ) (k : ℕ) (sends : Option ℕ) (state : EntityState) → k ≡ sent_count c
    → state ≡ last_told (c.entries ++ entries_by w c s now act) → completed sends state (deed_before act s k label) ≡ did_by w c s act label sends
did_at w c s now (Command order) label k sends state ek es = ap (λ (i : ℕ). deeds.Ordered s i label) ek
did_at w c s now (Deliver number) label k sends state ek es = refl
did_at w c s now Tick label k sends state ek es = refl
did_at w c s now (Tell e) label k sends state ek es = ap (λ (y : EntityState). deeds.Told s e y) (es ∙ last_is c.entries s e _)

pub did_after : (w : WorldData) (ms : List Move) (m : Move) (label : Option ℕ) (k : ℕ) (sends : Option ℕ) (state : EntityState) → k ≡ sent_count (course_of w ms)
    → state ≡ last_told (course_of w (m ∷ ms)).entries
    → completed sends state (deed_before m.act m.station k label) ≡ did_by w (course_of w ms) m.station m.act label sends
unfolding course_of
did_after w ms m label k sends state ek es = did_at w (course_of w ms) m.station m.now m.act label k sends state ek es

-- Its plain line.

station_is : (ss : List WorldStationData) (s : ℕ) → slice_index_or (map (λ o. o.station) ss) s nowhere ≡ (slice_index_or ss s no_station).station
station_is [] s = refl
station_is (o ∷ ss) zero = refl
station_is (o ∷ ss) (suc s) = station_is ss s

pub text_at : (w : WorldData) (ms : List Move) (r : PlainRecording) (s : ℕ) (act : Act) (text : List ℕ)
    → r ≡ record { setting = setting_of w; entries = (course_of w ms).entries } → s < length w.stations
    → (s < length r.setting.stations → text ≡ act_text (station_in r.setting s).address act) → text ≡ plain_by w s act
text_at w ms r s act text is within h =
    let count : length r.setting.stations ≡ length w.stations = ap (λ (q : PlainRecording). length q.setting.stations) is ∙ length-map w.stations (λ o. o.station) in
    let at : station_in r.setting s ≡ (station_of w s).station = ap (λ (q : PlainRecording). station_in q.setting s) is ∙ station_is w.stations s in
    h (omega (arith, count, within)) ∙ ap (λ (o : StationData). act_text o.address act) at

within_if : (room there : Bool) (act : Option MoveFault) → (if room then (if there then act else Some faults.NoSuchStation) else Some faults.Records) ≡ None
    → there ≡ true
within_if true true act e = refl
within_if true false act e = absurd cc
within_if false there act e = absurd cc

pub station_within : (w : WorldData) (c : Course) (m : Move) → move_fault w c m ≡ None → m.station < length w.stations
station_within w c m e =
    let there = within_if (nat_le (length c.entries + 2) MOST_ENTRIES) (nat_lt m.station (length w.stations)) (act_fault w c m.station m.now m.act) e in
    grind (arith, nat_tests, there)

-- The number of sent datagrams.

sent_in-append : (es fs : List Entry) → sent_in (es ++ fs) ≡ sent_in es ++ sent_in fs
sent_in-append [] fs = refl
sent_in-append (Sent s stamp b ∷ es) fs = ap (λ (bs : List (List ℕ)). b ∷ bs) (sent_in-append es fs)
sent_in-append (Received s stamp b ∷ es) fs = sent_in-append es fs
sent_in-append (Told s e y ∷ es) fs = sent_in-append es fs

-- none or one
abbrev FewAre : List Entry → Type 0
FewAre es = (length (sent_in es) ≡ 0) ⊎ (length (sent_in es) ≡ 1)

few_sent : (s now : ℕ) (o : Option Pdu) → FewAre (sent_as s now o)
few_sent s now None = inl refl
few_sent s now (Some p) = inr refl

few_arrival : (w : WorldData) (c : Course) (s now : ℕ) (o : Option (List ℕ)) → FewAre (arrival w c s now o)
few_arrival w c s now None = inl refl
few_arrival w c s now (Some b) = few_sent s now (option_and_then (reply_by w c s now) (reading b))

few_by : (w : WorldData) (c : Course) (s now : ℕ) (act : Act) → FewAre (entries_by w c s now act)
few_by w c s now (Command order) = inr refl
few_by w c s now (Deliver k) = few_arrival w c s now (datagram c k)
few_by w c s now Tick = few_sent s now (repeated_by w c s now)
few_by w c s now (Tell e) = inl refl

count_on : (w : WorldData) (c : Course) (m : Move) → (sent_count (after_move w c m) ≡ sent_count c) ⊎ (sent_count (after_move w c m) ≡ sent_count c + 1)
count_on w c m = by (few_by w c m.station m.now m.act) where
  all : sent_count (after_move w c m) ≡ sent_count c + length (sent_in (entries_by w c m.station m.now m.act))
  all = ap length (sent_in-append c.entries (entries_by w c m.station m.now m.act)) ∙ length-append (sent_in c.entries) (sent_in (entries_by w c m.station m.now m.act))

  by : FewAre (entries_by w c m.station m.now m.act) → (sent_count (after_move w c m) ≡ sent_count c) ⊎ (sent_count (after_move w c m) ≡ sent_count c + 1)
  by (inl none) = inl (omega (arith, all, none))
  by (inr one) = inr (omega (arith, all, one))

with_count : (line : ℕ) (order : Bool) (a b : ℕ) (ds : List SentData) → length ds ≡ a → (b ≡ a) ⊎ (b ≡ a + 1)
    → length (with_sent line order (if nat_lt a b then Some a else None) ds) ≡ b
with_count line order a b ds is (inl same) =
    ap (λ (o : Option ℕ). length (with_sent line order o ds)) (sym (if_not a b (omega (arith, same)))) ∙ (is ∙ sym same)
with_count line order a b ds is (inr more) =
    ap (λ (o : Option ℕ). length (with_sent line order o ds)) (sym (if_less a b (omega (arith, more))))
    ∙ (length-append ds (new_sent line order ∷ []) ∙ omega (arith, is, more))

changed_count : (ds : List SentData) (k : ℕ) (change : SentData → SentData) (o : Option SentData) → length (changed_to ds k change o) ≡ length ds
changed_count ds k change None = refl
changed_count ds k change (Some d) = length-set ds k (change d)

pub length-changed : (change : SentData → SentData) (k : ℕ) (ds : List SentData) → length (changed change k ds) ≡ length ds
length-changed change k ds = changed_count ds k change (slice_get ds k)

length-delivered : (did : Deed) (ds : List SentData) → length (delivered did ds) ≡ length ds
length-delivered (deeds.Brought s k answers) ds = length-changed (brought_to s answers) k ds
length-delivered (deeds.Set is_back) ds = refl
length-delivered (deeds.Ordered s k label) ds = refl
length-delivered (deeds.Ticked s sends label) ds = refl
length-delivered (deeds.Told s e y) ds = refl
length-delivered (deeds.Lost k) ds = refl

datagrams_on : (w : WorldData) (ms : List Move) (m : Move) (line : ℕ) (did : Deed) (ds : List SentData) → length ds ≡ sent_count (course_of w ms)
    → length (with_sent line (is_order did) (sends_by w (course_of w ms) m) (delivered did ds)) ≡ sent_count (course_of w (m ∷ ms))
unfolding course_of
datagrams_on w ms m line did ds is =
    with_count line (is_order did) (sent_count (course_of w ms)) (sent_count (after_move w (course_of w ms) m)) (delivered did ds)
    (length-delivered did ds ∙ is) (count_on w (course_of w ms) m)

pub datagrams_begun : (w : WorldData) → 0 ≡ sent_count (course_of w [])
unfolding course_of
datagrams_begun w = refl

-- The plan after it.

-- the plan of moves whose notes are those that are kept
abbrev pub kept_plan : List Move → Planner → PlanData
kept_plan ms kept = record { moves = ms; notes = kept.notes }

pub is_kept : (w : WorldData) (d : PlanData) (kept : Planner) → IsSoFar w d kept → kept_plan d.moves kept ≡ d
is_kept w d kept so = ap (λ (n : NotesData). let e : PlanData = record { moves = d.moves; notes = n } in e) so.notes

not_refused : (line number : ℕ) (o : Option MoveFault) (e : PlanData) → o ≡ None → unless_refused line number o e ≡ Ok e
not_refused line number o e none = rw none refl

pub made_at : (w : WorldData) (ms : List Move) (kept new : Planner) (line : ℕ) (labelled : Bool) (s : ℕ) (act : Act) (sends : Option ℕ) (did : Deed) (text : List ℕ)
    → kept.notes.made ≡ length ms → length kept.notes.sent ≡ sent_count (course_of w ms) → sent_count (course_of w (move_at kept.notes s act ∷ ms)) ≤ MOST_ENTRIES
    → IsAfter w (move_at kept.notes s act ∷ ms) new.world → move_fault w (course_of w ms) (move_at kept.notes s act) ≡ None
    → sends ≡ sends_by w (course_of w ms) (move_at kept.notes s act)
    → did ≡ did_by w (course_of w ms) s act (label_of labelled kept.notes) sends → text ≡ plain_by w s act
    → new.notes ≡ after_deed line labelled sends did text kept.notes
    → (e : PlanData) × (made w line labelled (move_at kept.notes s act) (kept_plan ms kept) ≡ Ok e) × IsSoFar w e new
made_at w ms kept new line labelled s act sends did text count datagrams few after none es ed et en =
    let c = course_of w ms in
    let m = move_at kept.notes s act in
    let all = datagrams_on w ms m line (did_by w c s act (label_of labelled kept.notes) (sends_by w c m)) kept.notes.sent datagrams in
    let e : PlanData = record { moves = m ∷ ms; notes = notes_by w c line labelled m kept.notes } in (
      e,
      not_refused line (length ms) (move_fault w c m) e none,
      record {
        world = after;
        notes = en ∙ (ap (λ (x : Deed). after_deed line labelled sends x text kept.notes) ed
            ∙ (ap (λ (t : List ℕ). after_deed line labelled sends (did_by w c s act (label_of labelled kept.notes) sends) t kept.notes) et
            ∙ ap (λ (o : Option ℕ). after_deed line labelled o (did_by w c s act (label_of labelled kept.notes) o) (plain_by w s act) kept.notes) es));
        count = omega (arith, count);
        datagrams = all;
        few = subst (λ (n : ℕ). n ≤ MOST_ENTRIES) (sym all) few;
      },
    )
