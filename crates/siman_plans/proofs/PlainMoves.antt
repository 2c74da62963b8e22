-- The plain lines of a plan lead to its moves.
use Rattle.std.proofs.Common.{◌≡◌, ◌⊎◌, inl, inr, ℕ, ◌+◌, ◌<◌, ◌≤◌, zero, suc, Bool, true, false, ◌==◌, ◌&&◌, ◌||◌, nat_lt, nat_le, cond, List, [], ◌∷◌, ◌++◌, length, map, reverse, Option, Some, None, Result, Ok, Err, refl, sym, ap, subst, ◌∙◌, arith}
use Rattle.std.proofs.lemmas.Bool.Decides.{nat_tests}
use Rattle.std.proofs.lemmas.Bool.{eq-eqb}
use Rattle.std.proofs.lemmas.List.{reverse-append}
use Rattle.std.specs.Prelude.{slice_index_or}
use Rattle.std.specs.List.{position}
use Rattle.dis_records.specs.declared.address.SiteApplication.{SiteApplication}
use Rattle.exercise_model.specs.declared.recording.TheConstants.{MOST_ENTRIES}
use Rattle.exercise_model.specs.Entry.{Entry, Sent, Received, Told}
use Rattle.exercise_model.specs.Station.{is_below, is_above, are_rising}
use Rattle.siman_scripts.specs.declared.act.Act.{Act}
use Rattle.siman_scripts.specs.declared.act.Act.TheVariants.{Deliver}
use Rattle.siman_scripts.specs.declared.act.Move.{Move}
use Rattle.siman_scripts.specs.declared.part.ScriptPart.{ScriptPart}
use Rattle.siman_scripts.specs.declared.part.ScriptPart.TheVariants as parts
use Rattle.siman_scripts.specs.declared.statement.Statement.TheVariants as says
use Rattle.siman_scripts.specs.Stations.{WorldStationData}
use Rattle.siman_scripts.specs.Draft.{DraftData, is_at, index_of, takes_moves, after}
use Rattle.siman_stations.specs.declared.world_fault.MoveFault.{MoveFault}
use Rattle.siman_stations.specs.declared.world_fault.MoveFault.TheVariants as faults
use Rattle.siman_stations.specs.World.{WorldData, Course, no_station, sent_in, course_of, act_fault, move_fault}
use Rattle.siman_plans.specs.declared.plan_fault.Stop.{Stop}
use Rattle.siman_plans.specs.declared.plan_fault.Unnamed.{Unnamed}
use Rattle.siman_plans.specs.declared.source.SourceLine.{SourceLine}
use Rattle.siman_plans.specs.declared.source.SourceMove.{SourceMove}
use Rattle.siman_plans.specs.declared.source.SourceMove.TheVariants as moves
use Rattle.siman_plans.specs.declared.source.Which.{Which}
use Rattle.siman_plans.specs.Plain.{act_text, at_text}
use Rattle.siman_plans.specs.Notes.{named, named_then, place_of, sent_before, after_at, after_loss}
use Rattle.siman_plans.specs.Plan.{PlanData, move_at, notes_by, unless_refused, made, unless_unnamed, brings, loses, does_after, line_after, unless_stopped, lines_after}
use Rattle.siman_plans.proofs.PlainWords.{both, spelt, GoodAddress}
use Rattle.siman_plans.proofs.PlainForms.{line_of, IsSaid, IsSpelled}
use Rattle.siman_plans.proofs.PlainActs.{deliver_spelt}
use Rattle.siman_plans.proofs.PlainReading.{Goes, goes_then, goes_line, MoveReads, AllRead, AllGood}

-- The index of a station by its address.

here_first : (n : ℕ) → cond {A = Option ℕ} (nat_lt 0 (suc n)) (Some 0) None ≡ Some 0
here_first n = grind (arith, nat_tests)

shifted : (n l i : ℕ) (t : Bool) → nat_lt n l ≡ t → cond t (Some n) None ≡ Some i → cond (nat_lt (1 + n) (suc l)) (Some (1 + n)) None ≡ Some (suc i)
shifted n l i true e h =
    let same : n ≡ i = cc in
    let less : n < l = grind (arith, nat_tests) in
    let more : nat_lt (1 + n) (suc l) ≡ true = grind (arith, nat_tests) in
    rw more (ap (λ (k : ℕ). Some k) (omega (arith, same)))
shifted n l i false e h = absurd cc

position_here : {X : Type 0} (p : X → Bool) (x : X) (xs : List X) → p x ≡ true → position p (x ∷ xs) ≡ Some 0
position_here p x xs h = rw h (here_first (length xs))

position_later : {X : Type 0} (p : X → Bool) (x : X) (xs : List X) (i : ℕ) → p x ≡ false → position p xs ≡ Some i → position p (x ∷ xs) ≡ Some (suc i)
position_later p x xs i h at = rw h (shifted _ (length xs) i _ refl at)

-- one address is before another
abbrev Before : SiteApplication → SiteApplication → Type 0
Before p q = (p.site < q.site) ⊎ ((p.site ≡ q.site) × (p.application < q.application))

before_by : (p q : SiteApplication) (s e a : Bool) → nat_lt p.site q.site ≡ s → (p.site == q.site) ≡ e → nat_lt p.application q.application ≡ a → (s || (e && a)) ≡ true → Before p q
before_by p q true e a hs he ha h = inl (grind (arith, nat_tests))
before_by p q false true true hs he ha h = inr (grind (arith, nat_tests), grind (arith, nat_tests))
before_by p q false true false hs he ha h = absurd cc
before_by p q false false a hs he ha h = absurd cc

before_is : (p q : SiteApplication) → is_below p q ≡ true → Before p q
before_is p q h = before_by p q _ _ _ refl refl refl h

before_then : (p q r : SiteApplication) → Before p q → Before q r → Before p r
before_then p q r (inl a) (inl b) = inl (omega (arith, a, b))
before_then p q r (inl a) (inr b) = inl (omega (arith, a, b))
before_then p q r (inr a) (inl b) = inl (omega (arith, a, b))
before_then p q r (inr a) (inr b) = inr (omega (arith, a, b), omega (arith, a, b))

and_false : (a b : Bool) → b ≡ false → (a && b) ≡ false
and_false true b h = h
and_false false b h = refl

not_at : (w : WorldStationData) (a : SiteApplication) → Before w.station.address a → is_at a w ≡ false
not_at w a (inl less) =
    let other : (w.station.address.site == a.site) ≡ false = grind (arith, nat_tests, less) in
    rw other refl
not_at w a (inr less) =
    and_false (w.station.address.site == a.site) (w.station.address.application == a.application) (grind (arith, nat_tests, less))

at_self : (w : WorldStationData) → is_at w.station.address w ≡ true
at_self w = rw (eq-eqb w.station.address.site w.station.address.site refl) (eq-eqb w.station.address.application w.station.address.application refl)

abbrev address_at : List WorldStationData → ℕ → SiteApplication
address_at ws s = (slice_index_or ws s no_station).station.address

before_all : (b : SiteApplication) (ws : List WorldStationData) (s : ℕ) → are_rising (Some b) (map (λ w. w.station) ws) ≡ true → s < length ws → Before b (address_at ws s)
before_all b [] s rising less = absurd (omega arith)
before_all b (w ∷ ws) zero rising less = before_is b w.station.address (both (is_below b w.station.address) _ rising).0
before_all b (w ∷ ws) (suc s) rising less =
    let on = both (is_below b w.station.address) _ rising in
    before_then b w.station.address (address_at ws s) (before_is b w.station.address on.0) (before_all w.station.address ws s on.1 (omega (arith, less)))

index_is : (before : Option SiteApplication) (ws : List WorldStationData) (s : ℕ) → are_rising before (map (λ w. w.station) ws) ≡ true → s < length ws
    → index_of (address_at ws s) ws ≡ Some s
index_is before [] s rising less = absurd (omega arith)
index_is before (w ∷ ws) zero rising less = position_here (is_at w.station.address) w ws (at_self w)
index_is before (w ∷ ws) (suc s) rising less =
    let on = both (is_above before w.station.address) _ rising in
    position_later (is_at (address_at ws s)) w ws s (not_at w (address_at ws s) (before_all w.station.address ws s on.1 (omega (arith, less))))
    (index_is (Some w.station.address) ws s on.1 (omega (arith, less)))

good_at : (ws : List WorldStationData) (s : ℕ) → AllGood ws → s < length ws → GoodAddress (address_at ws s)
good_at [] s good less = absurd (omega arith)
good_at (w ∷ ws) zero good less = good.0
good_at (w ∷ ws) (suc s) good less = good_at ws s good.1 (omega (arith, less))

-- Moves that the world makes.

sent_few : (es : List Entry) → length (sent_in es) ≤ length es
sent_few [] = omega arith
sent_few (Sent s stamp b ∷ es) = omega (arith, sent_few es)
sent_few (Received s stamp b ∷ es) = omega (arith, sent_few es)
sent_few (Told s e y ∷ es) = omega (arith, sent_few es)

fault_none : (room there : Bool) (act : Option MoveFault) → cond room (cond there act (Some faults.NoSuchStation)) (Some faults.Records) ≡ None
    → (room ≡ true) × (there ≡ true) × (act ≡ None)
fault_none true true act h = (refl, refl, h)
fault_none true false act h = absurd cc
fault_none false there act h = absurd cc

sent_if : (t : Bool) → cond t None (Some faults.NoSuchSend) ≡ None → t ≡ true
sent_if true h = refl
sent_if false h = absurd cc

small_sent : (k sent entries : ℕ) → nat_le (entries + 2) MOST_ENTRIES ≡ true → nat_lt k sent ≡ true → sent ≤ entries → k ≤ 4294967295
small_sent k sent entries room less few =
    let a : entries + 2 ≤ 1048576 = grind (arith, nat_tests) in
    let b : k < sent = grind (arith, nat_tests) in
    omega (arith, a, b, few)

delivered_said : (w : WorldData) (c : Course) (now s k : ℕ) → move_fault w c (record { now = now; station = s; act = Deliver k }) ≡ None → IsSaid (Deliver k)
delivered_said w c now s k h =
    let none = fault_none (nat_le (length c.entries + 2) MOST_ENTRIES) (nat_lt s (length w.stations)) (act_fault w c s now (Deliver k)) h in
    let less = sent_if (nat_lt k (length (sent_in c.entries))) none.2 in
    deliver_spelt k (spelt 4294967295 k (omega arith) (small_sent k (length (sent_in c.entries)) (length c.entries) none.0 less (sent_few c.entries)))

station_less : (w : WorldData) (c : Course) (m : Move) → move_fault w c m ≡ None → m.station < length w.stations
station_less w c m h =
    let none = fault_none (nat_le (length c.entries + 2) MOST_ENTRIES) (nat_lt m.station (length w.stations)) (act_fault w c m.station m.now m.act) h in
    grind (arith, nat_tests, none.1)

-- The plan so far.

-- the draft of a script with the stations of a world, and the moves and the time of a plan
abbrev pub draft_of : WorldData → ScriptPart → PlanData → DraftData
draft_of w part d = record { part = part; exercise = w.exercise; stations = w.stations; moves = reverse d.moves; clock = d.notes.clock }

-- the plain lines of a plan so far lead to its moves
pub record Made (w : WorldData) (base : DraftData) (d : PlanData) : Type 0 where
  pub part : ScriptPart
  pub takes : takes_moves part ≡ true
  pub goes : Goes base d.notes.script (draft_of w part d)

-- the stations of a world, whose addresses rise and read back
pub record Stations (w : WorldData) : Type 0 where
  pub rising : are_rising None (map (λ s. s.station) w.stations) ≡ true
  pub good : AllGood w.stations

after_move_is : (w : WorldData) (part : ScriptPart) (d : PlanData) (e : PlanData) (a : SiteApplication) (s : ℕ) (act : Act) → takes_moves part ≡ true → index_of a w.stations ≡ Some s
    → e.moves ≡ move_at d.notes s act ∷ d.moves → e.notes.clock ≡ d.notes.clock → after (draft_of w part d) (says.Does a act) ≡ Ok (draft_of w parts.Moves e)
after_move_is w part d e a s act takes index more clock =
    let m = move_at d.notes s act in
    let are : reverse d.moves ++ m ∷ [] ≡ reverse e.moves = sym (reverse-append (m ∷ []) d.moves) ∙ ap reverse (sym more) in
    let D : List Move → ℕ → DraftData = λ ms now. record { part = parts.Moves; exercise = w.exercise; stations = w.stations; moves = ms; clock = now } in
    rw takes (rw index (ap (λ (ms : List Move). Ok (D ms d.notes.clock)) are ∙ ap (λ (now : ℕ). Ok (D (reverse e.moves) now)) (sym clock)))

after_at_is : (w : WorldData) (part : ScriptPart) (d : PlanData) (e : PlanData) (now : ℕ) → takes_moves part ≡ true → e.moves ≡ d.moves → e.notes.clock ≡ now
    → after (draft_of w part d) (says.At now) ≡ Ok (draft_of w parts.Moves e)
after_at_is w part d e now takes same clock =
    let D : List Move → ℕ → DraftData = λ ms t. record { part = parts.Moves; exercise = w.exercise; stations = w.stations; moves = reverse ms; clock = t } in
    rw takes (ap (λ (ms : List Move). Ok (D ms now)) (sym same) ∙ ap (λ (t : ℕ). Ok (D e.moves t)) (sym clock))

not_refused : (line number : ℕ) (o : Option MoveFault) (d e : PlanData) → unless_refused line number o d ≡ Ok e → (o ≡ None) × (d ≡ e)
not_refused line number None d e h = (refl, cc)
not_refused line number (Some fault) d e h = absurd cc

was_named : (line column : ℕ) (x : Result ℕ Unnamed) (next : ℕ → Result PlanData Stop) (e : PlanData) → unless_unnamed line column x next ≡ Ok e
    → (k : ℕ) × (x ≡ Ok k) × (next k ≡ Ok e)
was_named line column (Ok k) next e h = (k, refl, h)
was_named line column (Err why) next e h = absurd cc

move_made : (w : WorldData) (base : DraftData) (line : ℕ) (labelled : Bool) (s : ℕ) (act : Act) (d e : PlanData) → Stations w
    → (move_fault w (course_of w d.moves) (move_at d.notes s act) ≡ None → IsSaid act) → Made w base d
    → made w line labelled (move_at d.notes s act) d ≡ Ok e → Made w base e
move_made w base line labelled s act d e fit said so h =
    let c = course_of w d.moves in
    let m = move_at d.notes s act in
    let f : PlanData = record { moves = m ∷ d.moves; notes = notes_by w c line labelled m d.notes } in
    let ok = not_refused line (length d.moves) (move_fault w c m) f e h in
    let less : s < length w.stations = station_less w c m ok.0 in
    let a : SiteApplication = address_at w.stations s in
    let spelt_line = line_of (act_text a act) (says.Does a act) (said ok.0 a (good_at w.stations s fit.good less)) in
    let is : after (draft_of w so.part d) (says.Does a act) ≡ Ok (draft_of w parts.Moves f) =
    after_move_is w so.part d f a s act so.takes (index_is None w.stations s fit.rising less) refl refl in
    let made_so : Made w base f = record {
      part = parts.Moves;
      takes = refl;
      goes = goes_then base (draft_of w so.part d) (draft_of w parts.Moves f) d.notes.script (act_text a act) so.goes
          (goes_line (draft_of w so.part d) (draft_of w parts.Moves f) (act_text a act) (says.Does a act) spelt_line is);
    } in
    subst (Made w base) ok.1 made_so

at_made : (w : WorldData) (base : DraftData) (line now : ℕ) (d : PlanData) → IsSpelled (says.At now) → Made w base d → Made w base (record d { notes = after_at line now d.notes })
at_made w base line now d is so =
    let f : PlanData = record d { notes = after_at line now d.notes } in
    record {
      part = parts.Moves;
      takes = refl;
      goes = goes_then base (draft_of w so.part d) (draft_of w parts.Moves f) d.notes.script (at_text now) so.goes
          (goes_line (draft_of w so.part d) (draft_of w parts.Moves f) (at_text now) (says.At now) (line_of (at_text now) (says.At now) is) (after_at_is w so.part d f now so.takes refl refl));
    }

brings_made : (w : WorldData) (base : DraftData) (line column : ℕ) (which : Which) (to : Option ℕ) (d e : PlanData) → Stations w → Made w base d → brings w line column which to d ≡ Ok e → Made w base e
brings_made w base line column which to d e fit so h =
    let k = was_named line column (named d.notes which) _ e h in
    let s = was_named line column (place_of d.notes k.0 to) _ e k.2 in
    move_made w base line false s.0 (Deliver k.0) d e fit (delivered_said w (course_of w d.moves) d.notes.clock s.0 k.0) so s.2

loses_made : (w : WorldData) (base : DraftData) (line column : ℕ) (which : Which) (d e : PlanData) → Made w base d → loses line column which d ≡ Ok e → Made w base e
loses_made w base line column which d e so h =
    let k = was_named line column (named_then (named d.notes which) (sent_before d.notes)) _ e h in
    let f : PlanData = record d { notes = after_loss line k.0 d.notes } in
    let same : f ≡ e = cc (k.2) in
    let made_so : Made w base f = record { part = so.part; takes = so.takes; goes = so.goes } in
    subst (Made w base) same made_so

does_made : (w : WorldData) (base : DraftData) (line column : ℕ) (does : SourceMove) (d e : PlanData) → Stations w → MoveReads does → Made w base d → does_after w line column does d ≡ Ok e → Made w base e
does_made w base line column (moves.At now) d e fit is so h =
    let f : PlanData = record d { notes = after_at line now d.notes } in
    let same : f ≡ e = cc in
    subst (Made w base) same (at_made w base line now d is so)
does_made w base line column (moves.Acts s act labelled) d e fit is so h = move_made w base line labelled s act d e fit (λ _. is) so h
does_made w base line column (moves.Brings which to) d e fit is so h = brings_made w base line column which to d e fit so h
does_made w base line column (moves.Loses which) d e fit is so h = loses_made w base line column which d e so h

unless_made : (w : WorldData) (base : DraftData) (d : PlanData) (ls : List SourceLine) (x : Result PlanData Stop)
    → ((e : PlanData) → x ≡ Ok e → (lines_after w e ls).1 ≡ None → Made w base (lines_after w e ls).0)
    → (unless_stopped d x (λ e. lines_after w e ls)).1 ≡ None → Made w base (unless_stopped d x (λ e. lines_after w e ls)).0
unless_made w base d ls (Ok e) on ends = on e refl ends
unless_made w base d ls (Err stop) on ends = absurd cc

pub lines_made : (w : WorldData) (base : DraftData) (d : PlanData) (ls : List SourceLine) → Stations w → AllRead ls → Made w base d → (lines_after w d ls).1 ≡ None → Made w base (lines_after w d ls).0
lines_made w base d [] fit all so h = so
lines_made w base d (l ∷ ls) fit all so h =
    unless_made w base d ls (line_after w l d) (λ e is ends. lines_made w base e ls fit all.1 (does_made w base l.line l.column l.does d e fit all.0 so is) ends) h
