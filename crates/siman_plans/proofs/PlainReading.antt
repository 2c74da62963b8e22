-- The plain lines of the exercise and its stations lead to the draft of a source.
use Rattle.std.proofs.Common.{◌≡◌, ℕ, ◌+◌, zero, suc, Bool, true, false, ◌&&◌, nat_lt, cond, List, [], ◌∷◌, ◌++◌, length, Option, Some, None, Result, Ok, Err, refl, sym, ap, subst, ◌∙◌, append_assoc}
use Rattle.std.specs.Prelude.{is_some}
use Rattle.std.specs.List.{slice_get, slice_set}
use Rattle.std.specs.Option.{option_and_then}
use Rattle.dis_records.specs.declared.address.SiteApplication.{SiteApplication}
use Rattle.byte_files.specs.Text.{lines_of}
use Rattle.exercise_model.specs.Station.{is_above, is_opening}
use Rattle.siman_scripts.specs.declared.act.Act.{Act}
use Rattle.siman_scripts.specs.declared.act.Act.TheVariants as acts
use Rattle.siman_scripts.specs.declared.line_fault.ScriptLineFault.{ScriptLineFault}
use Rattle.siman_scripts.specs.declared.line_fault.ScriptLineFault.TheVariants.{Bad, Unknown}
use Rattle.siman_scripts.specs.declared.part.ScriptPart.TheVariants as parts
use Rattle.siman_scripts.specs.declared.statement.Statement.{Statement}
use Rattle.siman_scripts.specs.declared.statement.Statement.TheVariants as says
use Rattle.siman_scripts.specs.Stations.{WorldStationData}
use Rattle.siman_scripts.specs.Statement.{form_of, statement_of}
use Rattle.siman_scripts.specs.Draft.{DraftData, blank, wants_exercise, takes_stations, takes_outfits, takes_moves, last_address, index_of, opened_with, holding, knowing, with_station, with_changed, with_outfit, moving, after}
use Rattle.siman_scripts.specs.Script as scripts
use Rattle.siman_plans.specs.declared.source.SourceLine.{SourceLine}
use Rattle.siman_plans.specs.declared.source.SourceMove.{SourceMove}
use Rattle.siman_plans.specs.declared.source.SourceMove.TheVariants as moves
use Rattle.siman_plans.specs.declared.source.Which.TheVariants.{Number}
use Rattle.siman_plans.specs.declared.source_fault.SourceReason.{SourceReason}
use Rattle.siman_plans.specs.SourceFault.{Refusal, unless}
use Rattle.siman_plans.specs.SourceForms.{Placed, column_at, texts, label_of, with_receiver, with_rules, without_label, end_of, said_or, statement_in, station_in}
use Rattle.siman_plans.specs.SourceWords.{source_words, words_end}
use Rattle.siman_scripts.specs.Words.{placed_words_of}
use Rattle.siman_plans.specs.Plain.{setup_text}
use Rattle.siman_plans.specs.Source.{ReadingData, ◌>>=◌, nothing_read, with_line, labels_with, known_at, may_move, acts_after, delivers_after, at_after, taken_or, setup_after, does_after, statement_after, which_in, place_in, no_more, deliver_after, lose_after, order_after, other_after, words_after, utf8_of, printable_of, said_after, line_after, unless_refused, lines_after}
use Rattle.siman_plans.proofs.PlainWords.{first_line, GoodAddress}
use Rattle.siman_plans.proofs.PlainForms.{Spells, Line, line_of, IsSaid, IsSpelled}
use Rattle.siman_plans.proofs.PlainActs.{form_again, statement_again}

-- Texts that lead from one draft to another.

-- the lines of a text lead from one draft of a script to another, whatever text follows
abbrev pub Goes : DraftData → List ℕ → DraftData → Type 0
Goes d text e = (n : ℕ) (rest : List ℕ) → (m : ℕ) × (scripts.lines_after d n (lines_of (text ++ rest)) ≡ scripts.lines_after e m (lines_of rest))

pub goes_none : (d : DraftData) → Goes d [] d
goes_none d n rest = (n, refl)

pub goes_then : (d e f : DraftData) (t u : List ℕ) → Goes d t e → Goes e u f → Goes d (t ++ u) f
goes_then d e f t u g h n rest =
    let first = g n (u ++ rest) in
    let second = h first.0 rest in
    (second.0, ap (λ (z : List ℕ). scripts.lines_after d n (lines_of z)) (append_assoc t u rest) ∙ (first.1 ∙ second.1))

goes_step : (d e : DraftData) (s : Statement) (n : ℕ) (line : List ℕ) (ls : List (List ℕ)) → statement_of line ≡ Some s → after d s ≡ Ok e
    → scripts.lines_after d n (line ∷ ls) ≡ scripts.lines_after e (n + 1) ls
goes_step d e s n line ls said is =
    ap (λ (o : Option Statement). scripts.unless_refused (n + 1) (scripts.after_if d o) (λ f. scripts.lines_after f (n + 1) ls)) said
    ∙ ap (λ (r : Result DraftData ScriptLineFault). scripts.unless_refused (n + 1) r (λ f. scripts.lines_after f (n + 1) ls)) is

pub goes_line : (d e : DraftData) (text : List ℕ) (s : Statement) → Line text s → after d s ≡ Ok e → Goes d text e
goes_line d e text s l is n rest = (
  n + 1,
  ap (λ (z : List ℕ). scripts.lines_after d n (lines_of (z ++ rest))) l.is
      ∙ (ap (λ (z : List ℕ). scripts.lines_after d n (lines_of z)) (append_assoc l.line (10 ∷ []) rest)
      ∙ (ap (scripts.lines_after d n) (first_line l.line rest l.plain) ∙ goes_step d e s n l.line (lines_of rest) l.said is)),
)

-- What is read.

-- a move whose line reads back, or that has none yet
abbrev pub MoveReads : SourceMove → Type 0
MoveReads (moves.At now) = IsSpelled (says.At now)
MoveReads (moves.Acts s act is_labelled) = IsSaid act
MoveReads (moves.Brings which to) = Unit {0}
MoveReads (moves.Loses which) = Unit {0}

abbrev pub AllRead : List SourceLine → Type 0
AllRead [] = Unit {0}
AllRead (l ∷ ls) = MoveReads l.does × AllRead ls

all_more : (ls : List SourceLine) (l : SourceLine) → AllRead ls → MoveReads l.does → AllRead (ls ++ l ∷ [])
all_more [] l all is = (is, tt)
all_more (k ∷ ls) l all is = (all.0, all_more ls l all.1 is)

-- the addresses of stations read back
abbrev pub AllGood : List WorldStationData → Type 0
AllGood [] = Unit {0}
AllGood (w ∷ ws) = GoodAddress w.station.address × AllGood ws

good_more : (ws : List WorldStationData) (w : WorldStationData) → AllGood ws → GoodAddress w.station.address → AllGood (ws ++ w ∷ [])
good_more [] w all is = (is, tt)
good_more (v ∷ ws) w all is = (all.0, good_more ws w all.1 is)

good_set : (ws : List WorldStationData) (i : ℕ) (v w : WorldStationData) → AllGood ws → slice_get ws i ≡ Some v → w.station.address ≡ v.station.address → AllGood (slice_set ws i w)
good_set [] i v w all is same = absurd cc
good_set (u ∷ ws) zero v w all is same =
    let here : u ≡ v = cc in
    (subst GoodAddress (ap (λ (x : WorldStationData). x.station.address) here ∙ sym same) all.0, all.1)
good_set (u ∷ ws) (suc i) v w all is same = (all.0, good_set ws i v w all.1 is same)

-- the draft is that of the plain lines, or moves may follow them
abbrev pub Stands : Bool → DraftData → DraftData → Type 0
Stands false e d = d ≡ e
Stands true e d = (d ≡ record e { part = parts.Moves }) × (takes_moves e.part ≡ true)

-- the plain lines so far lead to a draft without moves, and the other lines read back
pub record Read (r : ReadingData) : Type 0 where
  pub base : DraftData
  pub moved : Bool
  pub goes : Goes blank r.setup base
  pub stands : Stands moved base r.draft
  pub lines : AllRead r.lines
  pub good : AllGood base.stations
  pub moves : base.moves ≡ []
  pub clock : base.clock ≡ 0

stands_moving : (moved : Bool) (e d : DraftData) → takes_moves d.part ≡ true → Stands moved e d → Stands true e (moving d)
stands_moving false e d t h =
    (rw t (ap (λ (x : DraftData). let y : DraftData = record x { part = parts.Moves } in y) h), subst (λ (x : DraftData). takes_moves x.part ≡ true) h t)
stands_moving true e d t h = (rw t (ap (λ (x : DraftData). let y : DraftData = record x { part = parts.Moves } in y) h.0), h.1)

line_read : (r : ReadingData) (n column : ℕ) (does : SourceMove) → takes_moves r.draft.part ≡ true → MoveReads does → Read r → Read (with_line r n column does)
line_read r n column does t is so = record {
  base = so.base;
  moved = true;
  goes = so.goes;
  stands = stands_moving so.moved so.base r.draft t so.stands;
  lines = all_more r.lines _ so.lines is;
  good = so.good;
  moves = so.moves;
  clock = so.clock;
}

labels_read : (r : ReadingData) (labels : List (List ℕ)) → Read r → Read (record r { labels = labels })
labels_read r labels so =
    record { base = so.base; moved = so.moved; goes = so.goes; stands = so.stands; lines = so.lines; good = so.good; moves = so.moves; clock = so.clock }

-- Steps.

pub rstep : {A B : Type 0} (x : Result A Refusal) (f : A → Result B Refusal) (y : B) → (x >>= f) ≡ Ok y → (a : A) × (x ≡ Ok a) × (f a ≡ Ok y)
rstep (Ok a) f y h = (a, refl, h)
rstep (Err e) f y h = absurd cc

same_ok : (r s : ReadingData) → (let x : Result ReadingData Refusal = Ok r in x) ≡ Ok s → Read r → Read s
same_ok r s h so = let same : r ≡ s = cc in subst Read same so

may_if : (t : Bool) (e : Refusal) (u : Unit {0}) → cond t (Ok u) (Err e) ≡ Ok u → t ≡ true
may_if true e u h = refl
may_if false e u h = absurd cc

may_is : (d : DraftData) (column : ℕ) (u : Unit {0}) → may_move d column ≡ Ok u → takes_moves d.part ≡ true
may_is d column u h = may_if (takes_moves d.part) _ u h

-- The exercise and its stations.

abbrev IsSetup : Statement → Type 0
IsSetup says.Nothing = ⊥
IsSetup (says.At now) = ⊥
IsSetup (says.Does a act) = ⊥
IsSetup s = Unit {0}

setup_spells : (s : Statement) → IsSetup s → IsSpelled s → Spells (setup_text s) s
setup_spells says.Nothing is h = absurd is
setup_spells (says.At now) is h = absurd is
setup_spells (says.Does a act) is h = absurd is
setup_spells (says.Exercise x) is h = h
setup_spells (says.Station a rules) is h = h.0
setup_spells (says.Opening a e y) is h = h
setup_spells (says.Fixed a d) is h = h
setup_spells (says.Action a id) is h = h

-- where moves follow, no setup does
no_setup : (e d : DraftData) (s : Statement) → IsSetup s → after (record e { part = parts.Moves }) s ≡ Ok d → ⊥
no_setup e d says.Nothing is h = absurd is
no_setup e d (says.At now) is h = absurd is
no_setup e d (says.Does a act) is h = absurd is
no_setup e d (says.Exercise x) is h = absurd cc
no_setup e d (says.Station a rules) is h = absurd cc
no_setup e d (says.Opening a n y) is h = absurd cc
no_setup e d (says.Fixed a x) is h = absurd cc
no_setup e d (says.Action a id) is h = absurd cc

-- what a setup leaves
record Leaves (d e : DraftData) : Type 0 where
  moves : e.moves ≡ d.moves
  clock : e.clock ≡ d.clock
  good : AllGood e.stations

abbrev Kept : DraftData → Result DraftData ScriptLineFault → Type 0
Kept d x = (e : DraftData) → x ≡ Ok e → Leaves d e

kept_ok : (d x : DraftData) → Leaves d x → Kept d (Ok x)
kept_ok d x l e h = let same : x ≡ e = cc in subst (Leaves d) same l

kept_err : (d : DraftData) (f : ScriptLineFault) → Kept d (Err f)
kept_err d f e h = absurd cc

kept_if : (d : DraftData) (test : Bool) (x : Result DraftData ScriptLineFault) → Kept d x → Kept d (cond test x (Err Bad))
kept_if d true x k = k
kept_if d false x k = kept_err d Bad

abbrev SameAddress : (WorldStationData → Option WorldStationData) → Type 0
SameAddress change = (v w : WorldStationData) → change v ≡ Some w → w.station.address ≡ v.station.address

kept_change : (d : DraftData) (change : WorldStationData → Option WorldStationData) (i : ℕ) (o : Option WorldStationData) → AllGood d.stations → SameAddress change
    → slice_get d.stations i ≡ o → Kept d (with_changed d i (option_and_then change o))
kept_change d change i None good same at = kept_err d Bad
kept_change d change i (Some v) good same at = by (change v) refl where
  by : (p : Option WorldStationData) → change v ≡ p → Kept d (with_changed d i p)
  by None is = kept_err d Bad
  by (Some w) is = kept_ok d _ (record { moves = refl; clock = refl; good = good_set d.stations i v w good at (same v w is) })

kept_outfit : (d : DraftData) (change : WorldStationData → Option WorldStationData) (i : Option ℕ) → AllGood d.stations → SameAddress change → Kept d (with_outfit d change i)
kept_outfit d change None good same = kept_err d Unknown
kept_outfit d change (Some i) good same = kept_change d change i (slice_get d.stations i) good same refl

opened_if : (t : Bool) (v u w : WorldStationData) → u.station.address ≡ v.station.address → cond t (Some u) None ≡ Some w → w.station.address ≡ v.station.address
opened_if true v u w same h = let is : u ≡ w = cc in ap (λ (x : WorldStationData). x.station.address) (sym is) ∙ same
opened_if false v u w same h = absurd cc

kept_setup : (d : DraftData) (s : Statement) → IsSetup s → IsSpelled s → AllGood d.stations → Kept d (after d s)
kept_setup d says.Nothing is p good = absurd is
kept_setup d (says.At now) is p good = absurd is
kept_setup d (says.Does a act) is p good = absurd is
kept_setup d (says.Exercise x) is p good = kept_if d (wants_exercise d.part) _ (kept_ok d _ (record { moves = refl; clock = refl; good = good }))
kept_setup d (says.Station a rules) is p good =
    kept_if d (takes_stations d.part) _ (kept_if d (nat_lt (length d.stations) 256 && is_above (last_address d.stations) a) _
    (kept_ok d (with_station d a rules) (record { moves = refl; clock = refl; good = good_more d.stations _ good p.1 })))
kept_setup d (says.Opening a e y) is p good =
    kept_if d (takes_outfits d.part) _ (kept_outfit d (opened_with e y) (index_of a d.stations) good
    (λ v w h. opened_if (is_opening (v.station.opening ++ (e, y) ∷ [])) v _ w refl h))
kept_setup d (says.Fixed a x) is p good =
    kept_if d (takes_outfits d.part) _ (kept_outfit d (λ w. Some (holding x w)) (index_of a d.stations) good (λ v w h. opened_if true v (holding x v) w refl h))
kept_setup d (says.Action a id) is p good =
    kept_if d (takes_outfits d.part) _ (kept_outfit d (λ w. Some (knowing id w)) (index_of a d.stations) good (λ v w h. opened_if true v (knowing id v) w refl h))

taken_read : (r : ReadingData) (s : Statement) (d : DraftData) (moved : Bool) (base : DraftData) → IsSetup s → IsSpelled s → Goes blank r.setup base → Stands moved base r.draft
    → AllRead r.lines → AllGood base.stations → base.moves ≡ [] → base.clock ≡ 0 → after r.draft s ≡ Ok d
    → Read (record r { draft = d; setup = r.setup ++ setup_text s })
taken_read r s d true base is p goes stands lines good none start h =
    absurd (no_setup base d s is (subst (λ (x : DraftData). after x s ≡ Ok d) stands.0 h))
taken_read r s d false base is p goes stands lines good none start h =
    let taken : after base s ≡ Ok d = subst (λ (x : DraftData). after x s ≡ Ok d) stands h in
    let left = kept_setup base s is p good d taken in
    record {
      base = d;
      moved = false;
      goes = goes_then blank base d r.setup (setup_text s) goes (goes_line base d (setup_text s) s (line_of (setup_text s) s (setup_spells s is p)) taken);
      stands = refl;
      lines = lines;
      good = left.good;
      moves = left.moves ∙ none;
      clock = left.clock ∙ start;
    }

setup_by : (r t : ReadingData) (s : Statement) (refusal : Refusal) (x : Result DraftData ScriptLineFault) → after r.draft s ≡ x → IsSetup s → IsSpelled s → Read r
    → taken_or r s refusal x ≡ Ok t → Read t
setup_by r t s refusal (Err f) e is p so h = absurd cc
setup_by r t s refusal (Ok d) e is p so h =
    same_ok (record r { draft = d; setup = r.setup ++ setup_text s }) t h (taken_read r s d so.moved so.base is p so.goes so.stands so.lines so.good so.moves so.clock e)

setup_read : (r t : ReadingData) (ps : List Placed) (s : Statement) → IsSetup s → IsSpelled s → Read r → setup_after r ps s ≡ Ok t → Read t
setup_read r t ps s is p so h = setup_by r t s _ (after r.draft s) refl is p so h

-- Moves.

acts_read : (r t : ReadingData) (n : ℕ) (ps : List Placed) (a : SiteApplication) (act : Act) (label : Option Placed) → IsSaid act → Read r → acts_after r n ps a act label ≡ Ok t → Read t
acts_read r t n ps a act label is so h =
    let may = rstep (may_move r.draft (column_at ps 0)) _ t h in
    let station = rstep (known_at r.draft (column_at ps 1) a) _ t may.2 in
    let labels = rstep (labels_with r.labels label) _ t station.2 in
    same_ok _ t labels.2
    (line_read (record r { labels = labels.0 }) n 1 (moves.Acts station.0 act (is_some label)) (may_is r.draft (column_at ps 0) may.0 may.1) is (labels_read r labels.0 so))

delivers_read : (r t : ReadingData) (n : ℕ) (ps : List Placed) (a : SiteApplication) (k : ℕ) → Read r → delivers_after r n ps a k ≡ Ok t → Read t
delivers_read r t n ps a k so h =
    let may = rstep (may_move r.draft (column_at ps 0)) _ t h in
    let station = rstep (known_at r.draft (column_at ps 2) a) _ t may.2 in
    same_ok _ t station.2 (line_read r n (column_at ps 1) (moves.Brings (Number k) (Some station.0)) (may_is r.draft (column_at ps 0) may.0 may.1) tt so)

does_read : (r t : ReadingData) (n : ℕ) (ps : List Placed) (a : SiteApplication) (act : Act) (label : Option Placed) → IsSaid act → Read r → does_after r n ps a act label ≡ Ok t → Read t
does_read r t n ps a (acts.Deliver k) label is so h = delivers_read r t n ps a k so h
does_read r t n ps a (acts.Command order) label is so h = acts_read r t n ps a (acts.Command order) label is so h
does_read r t n ps a acts.Tick label is so h = acts_read r t n ps a acts.Tick label is so h
does_read r t n ps a (acts.Tell e) label is so h = acts_read r t n ps a (acts.Tell e) label is so h

at_read : (r t : ReadingData) (n : ℕ) (ps : List Placed) (now : ℕ) → IsSpelled (says.At now) → Read r → at_after r n ps now ≡ Ok t → Read t
at_read r t n ps now is so h =
    let may = rstep (may_move r.draft (column_at ps 0)) _ t h in
    same_ok _ t may.2 (line_read r n 1 (moves.At now) (may_is r.draft (column_at ps 0) may.0 may.1) is so)

statement_read : (r t : ReadingData) (n : ℕ) (ps : List Placed) (s : Statement) (label : Option Placed) → IsSpelled s → Read r → statement_after r n ps s label ≡ Ok t → Read t
statement_read r t n ps says.Nothing label is so h = same_ok r t h so
statement_read r t n ps (says.At now) label is so h = at_read r t n ps now is so h
statement_read r t n ps (says.Does a act) label is so h = does_read r t n ps a act label is so h
statement_read r t n ps (says.Exercise x) label is so h = setup_read r t ps (says.Exercise x) tt is so h
statement_read r t n ps (says.Station a rules) label is so h = setup_read r t ps (says.Station a rules) tt is so h
statement_read r t n ps (says.Opening a e y) label is so h = setup_read r t ps (says.Opening a e y) tt is so h
statement_read r t n ps (says.Fixed a d) label is so h = setup_read r t ps (says.Fixed a d) tt is so h
statement_read r t n ps (says.Action a id) label is so h = setup_read r t ps (says.Action a id) tt is so h

-- The wider forms.

deliver_read : (r t : ReadingData) (n end : ℕ) (name : Placed) (ps : List Placed) → Read r → deliver_after r n end name ps ≡ Ok t → Read t
deliver_read r t n end name ps so h =
    let may = rstep (may_move r.draft name.0) _ t h in
    let which = rstep (which_in r.labels end ps) _ t may.2 in
    let to = rstep (place_in r.draft end ps) _ t which.2 in
    let few = rstep (no_more 2 ps) _ t to.2 in
    same_ok _ t few.2 (line_read r n (column_at ps 0) (moves.Brings which.0 to.0) (may_is r.draft name.0 may.0 may.1) tt so)

lose_read : (r t : ReadingData) (n end : ℕ) (name : Placed) (ps : List Placed) → Read r → lose_after r n end name ps ≡ Ok t → Read t
lose_read r t n end name ps so h =
    let may = rstep (may_move r.draft name.0) _ t h in
    let which = rstep (which_in r.labels end ps) _ t may.2 in
    let few = rstep (no_more 1 ps) _ t which.2 in
    same_ok _ t few.2 (line_read r n (column_at ps 0) (moves.Loses which.0) (may_is r.draft name.0 may.0 may.1) tt so)

said_is : (ws : List (List ℕ)) (o : Option Statement) (refusal : Refusal) (s : Statement) → form_of ws ≡ o → said_or o refusal ≡ Ok s → IsSpelled s
said_is ws None refusal s e h = absurd cc
said_is ws (Some x) refusal s e h = let same : x ≡ s = cc in subst IsSpelled same (form_again ws x e)

in_form : (end : ℕ) (ps : List Placed) (s : Statement) → statement_in end ps ≡ Ok s → IsSpelled s
in_form end ps s h = said_is (texts ps) (form_of (texts ps)) _ s refl h

in_station_by : (end : ℕ) (ps : List Placed) (s : Statement) (o : Option Refusal) → unless o (statement_in end ps) ≡ Ok s → IsSpelled s
in_station_by end ps s None h = in_form end ps s h
in_station_by end ps s (Some refusal) h = absurd cc

in_station : (end : ℕ) (ps : List Placed) (s : Statement) → station_in end ps ≡ Ok s → IsSpelled s
in_station end ps s h = in_station_by end (with_rules ps) s _ h

order_read : (r t : ReadingData) (n end : ℕ) (ps : List Placed) → Read r → order_after r n end ps ≡ Ok t → Read t
order_read r t n end ps so h =
    let s = rstep (statement_in (end_of end ps) (with_receiver (without_label ps))) _ t h in
    statement_read r t n ps s.0 (label_of ps) (in_form (end_of end ps) (with_receiver (without_label ps)) s.0 s.1) so s.2

other_read : (r t : ReadingData) (n : ℕ) (ps : List Placed) (said : Result Statement Refusal) → ((s : Statement) → said ≡ Ok s → IsSpelled s) → Read r → other_after r n ps said ≡ Ok t → Read t
other_read r t n ps said is so h =
    let s = rstep said _ t h in
    statement_read r t n ps s.0 None (is s.0 s.1) so s.2

words_by : (d l m s : Bool) (r t : ReadingData) (n end : ℕ) (name : Placed) (ps : List Placed) → Read r
    → cond d (deliver_after r n end name ps) (cond l (lose_after r n end name ps) (cond m (order_after r n end (name ∷ ps)) (cond s (other_after r n (name ∷ ps) (station_in end (name ∷ ps))) (other_after r n (name ∷ ps) (statement_in end (name ∷ ps)))))) ≡ Ok t
    → Read t
words_by true l m s r t n end name ps so h = deliver_read r t n end name ps so h
words_by false true m s r t n end name ps so h = lose_read r t n end name ps so h
words_by false false true s r t n end name ps so h = order_read r t n end (name ∷ ps) so h
words_by false false false true r t n end name ps so h = other_read r t n (name ∷ ps) (station_in end (name ∷ ps)) (in_station end (name ∷ ps)) so h
words_by false false false false r t n end name ps so h = other_read r t n (name ∷ ps) (statement_in end (name ∷ ps)) (in_form end (name ∷ ps)) so h

words_read : (r t : ReadingData) (n end : ℕ) (ps : List Placed) → Read r → words_after r n end ps ≡ Ok t → Read t
words_read r t n end [] so h = same_ok r t h so
words_read r t n end (name ∷ ps) so h = words_by _ _ _ _ r t n end name ps so h

-- Lines.

said_read : (r t : ReadingData) (n : ℕ) (line : List ℕ) (o : Option Statement) → statement_of line ≡ o → Read r → said_after r n line o ≡ Ok t → Read t
said_read r t n line None e so h =
    let valid = rstep (utf8_of line) _ t h in
    let printable = rstep (printable_of line) _ t valid.2 in
    words_read r t n (words_end line) (source_words line) so printable.2
said_read r t n line (Some s) e so h = statement_read r t n (placed_words_of line) s None (statement_again line s e) so h

went_on : (n : ℕ) (x : Result ReadingData Refusal) (next : ReadingData → Result ReadingData SourceReason) (t : ReadingData) → unless_refused n x next ≡ Ok t
    → (r : ReadingData) × (x ≡ Ok r) × (next r ≡ Ok t)
went_on n (Ok r) next t h = (r, refl, h)
went_on n (Err refusal) next t h = absurd cc

pub lines_read : (r t : ReadingData) (n : ℕ) (ls : List (List ℕ)) → Read r → lines_after r n ls ≡ Ok t → Read t
lines_read r t n [] so h = let same : r ≡ t = cc in subst Read same so
lines_read r t n (l ∷ ls) so h =
    let on = went_on (n + 1) (line_after r (n + 1) l) (λ s. lines_after s (n + 1) ls) t h in
    lines_read on.0 t (n + 1) ls (said_read r on.0 (n + 1) l (statement_of l) refl so on.1) on.2

pub nothing_reads : Read nothing_read
nothing_reads = record { base = blank; moved = false; goes = goes_none blank; stands = refl; lines = tt; good = tt; moves = refl; clock = refl }
