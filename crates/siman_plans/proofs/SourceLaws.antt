-- A text is a source or has a reason, and a script is a source that means the same.
use Rattle.std.proofs.Common.{◌≡◌, ℕ, ◌+◌, Bool, true, false, cond, not, ◌&&◌, nat_lt, eqb, List, [], ◌∷◌, ◌++◌, length, Option, Some, None, Result, Ok, Err, refl, ap, sym, subst, ◌∙◌, append_assoc, append-nil}
use Rattle.std.specs.List.{onto_first, slice_get}
use Rattle.std.specs.Option.{option_map, option_and_then}
use Rattle.std.specs.Result.{result_err}
use Rattle.std.proofs.lemmas.Bool.{eqb-true}
use Rattle.dis_records.specs.declared.address.SiteApplication.{SiteApplication}
use Rattle.byte_files.specs.Text.{lines_of}
use Rattle.exercise_model.specs.Station.{is_above}
use Rattle.siman_scripts.specs.declared.act.Act.{Act}
use Rattle.siman_scripts.specs.declared.act.Act.TheVariants as acts
use Rattle.siman_scripts.specs.declared.line_fault.ScriptLineFault.{ScriptLineFault}
use Rattle.siman_scripts.specs.declared.line_fault.ScriptLineFault.TheVariants.{Bad, Unknown}
use Rattle.siman_scripts.specs.declared.part.ScriptPart.TheVariants as parts
use Rattle.siman_scripts.specs.declared.script.TheConstants.{LARGEST_SCRIPT}
use Rattle.siman_scripts.specs.declared.script_fault.ScriptFault.{ScriptFault}
use Rattle.siman_scripts.specs.declared.script_fault.ScriptFault.TheVariants.{BadLine}
use Rattle.siman_scripts.specs.declared.statement.Statement.{Statement}
use Rattle.siman_scripts.specs.declared.statement.Statement.TheVariants as says
use Rattle.siman_scripts.specs.declared.why.LineReason.{LineReason}
use Rattle.siman_scripts.specs.Stations.{WorldStationData}
use Rattle.siman_scripts.specs.Statement.{statement_of}
use Rattle.siman_scripts.specs.Words.{placed_words_of}
use Rattle.siman_scripts.specs.Draft.{DraftData, blank, wants_exercise, takes_stations, takes_outfits, takes_moves, last_address, index_of, opened_with, holding, knowing, with_station, with_changed, with_outfit, with_move, in_part, after}
use Rattle.siman_scripts.specs.Reason.{end_reason}
use Rattle.siman_scripts.specs.Script.{ScriptData, after_if, script_of, is_whole, script_at}
use Rattle.siman_scripts.specs.Script as scripts
use Rattle.siman_plans.specs.declared.source.SourceLine.{SourceLine}
use Rattle.siman_plans.specs.declared.source_fault.SourceReason.{SourceReason}
use Rattle.siman_plans.specs.declared.source.Which.TheVariants.{Number}
use Rattle.siman_plans.specs.declared.source.SourceMove.TheVariants as moves
use Rattle.siman_plans.specs.declared.source_fault.SourceFault.TheVariants as sources
use Rattle.siman_scripts.specs.LineReason.{is_mark}
use Rattle.siman_plans.specs.SourceWords.{without_mark}
use Rattle.siman_plans.specs.SourceFault.{Refusal}
use Rattle.siman_plans.specs.SourceForms.{Placed, column_at}
use Rattle.siman_plans.specs.Plain.{setup_text}
use Rattle.siman_plans.specs.Source.{SourceData, ReadingData, nothing_read, taken_or, at_after, acts_after, delivers_after, does_after, statement_after, said_after, lines_after, too_long, whole_after, by_line, read_at}
use Rattle.siman_plans.specs.SourceLaws.{Explains, clock_after, clock_of, moves_by, moves_of, Means, IsSourceToo}

explained_by : (read : Result SourceData SourceReason) → result_err (by_line read) ≡ option_map (λ reason. sources.BadLine reason.line) (result_err read)
explained_by (Ok source) = refl
explained_by (Err reason) = refl

-- A TEXT HAS A FIRST REASON OR IS A SOURCE
pub explained : (text : List ℕ) → Explains text
explained text = explained_by (read_at text)

-- The draft of a source: that of a script, without moves.

abbrev pub bare : DraftData → DraftData
bare d = record { part = d.part; exercise = d.exercise; stations = d.stations; moves = []; clock = 0 }

-- what the draft takes, the draft without moves takes too; the moves and the clock stay
abbrev Kept : DraftData → Result DraftData ScriptLineFault → Result DraftData ScriptLineFault → Type 0
Kept d x y = (e : DraftData) → x ≡ Ok e → (y ≡ Ok (bare e)) × (e.moves ≡ d.moves) × (e.clock ≡ d.clock)

kept_ok : (d x : DraftData) → x.moves ≡ d.moves → x.clock ≡ d.clock → Kept d (Ok x) (Ok (bare x))
kept_ok d x m c e h =
    let same : x ≡ e = cc in
    (ap (λ (z : DraftData). Ok (bare z)) same, ap (λ (z : DraftData). z.moves) (sym same) ∙ m, ap (λ (z : DraftData). z.clock) (sym same) ∙ c)

kept_err : (d : DraftData) (f : ScriptLineFault) (y : Result DraftData ScriptLineFault) → Kept d (Err f) y
kept_err d f y e h = absurd cc

kept_part : (d : DraftData) (test : Bool) (x y : Result DraftData ScriptLineFault) → Kept d x y → Kept d (in_part test x) (in_part test y)
kept_part d true x y k = k
kept_part d false x y k = kept_err d Bad (Err Bad)

kept_changed : (d : DraftData) (i : ℕ) (w : Option WorldStationData) → Kept d (with_changed d i w) (with_changed (bare d) i w)
kept_changed d i None = kept_err d Bad (Err Bad)
kept_changed d i (Some w) = kept_ok d _ refl refl

kept_outfit : (d : DraftData) (change : WorldStationData → Option WorldStationData) (i : Option ℕ) → Kept d (with_outfit d change i) (with_outfit (bare d) change i)
kept_outfit d change None = kept_err d Unknown (Err Unknown)
kept_outfit d change (Some i) = kept_changed d i (option_and_then change (slice_get d.stations i))

-- Lines behind those of the exercise and its stations.

clock_last : (c : ℕ) (ls : List SourceLine) (l : SourceLine) → clock_of c (ls ++ l ∷ []) ≡ clock_after (clock_of c ls) l.does
clock_last c [] l = refl
clock_last c (k ∷ ls) l = clock_last (clock_after c k.does) ls l

moves_last : (c : ℕ) (ls : List SourceLine) (l : SourceLine) → moves_of c (ls ++ l ∷ []) ≡ moves_of c ls ++ moves_by (clock_of c ls) l.does
moves_last c [] l = append-nil (moves_by c l.does)
moves_last c (k ∷ ls) l =
    ap (λ rest. moves_by c k.does ++ rest) (moves_last (clock_after c k.does) ls l) ∙ sym (append_assoc (moves_by c k.does) (moves_of (clock_after c k.does) ls) (moves_by (clock_of (clock_after c k.does) ls) l.does))

abbrev reading : DraftData → List ℕ → List SourceLine → ReadingData
reading d setup lines = record { draft = bare d; setup = setup; lines = lines; labels = [] }

-- a source is as far as a script whose draft is this one
record Leads {F : Type 0} (wanted : Result ReadingData F) (e : DraftData) : Type 0 where
  setup : List ℕ
  lines : List SourceLine
  is : wanted ≡ Ok (reading e setup lines)
  moves : moves_of 0 lines ≡ e.moves
  clock : clock_of 0 lines ≡ e.clock

-- the draft so far
record Had (d : DraftData) (lines : List SourceLine) : Type 0 where
  moves : moves_of 0 lines ≡ d.moves
  clock : clock_of 0 lines ≡ d.clock

in_part_ok : (test : Bool) (x : Result DraftData ScriptLineFault) (e : DraftData) → in_part test x ≡ Ok e → (test ≡ true) × (x ≡ Ok e)
in_part_ok true x e h = (refl, h)
in_part_ok false x e h = absurd cc

setup_leads : (d : DraftData) (setup : List ℕ) (lines : List SourceLine) (s : Statement) (refusal : Refusal) (x y : Result DraftData ScriptLineFault) (e : DraftData)
    → Had d lines → Kept d x y → x ≡ Ok e → Leads (taken_or (reading d setup lines) s refusal y) e
setup_leads d setup lines s refusal x y e had k h =
    let kept = k e h in
    record {
      setup = setup ++ setup_text s;
      lines = lines;
      is = rw kept.0;
      moves = had.moves ∙ sym kept.1;
      clock = had.clock ∙ sym kept.2;
    }

-- one more line behind those of the exercise and its stations, where moves may follow
line_leads : (d e : DraftData) (setup : List ℕ) (lines : List SourceLine) (l : SourceLine) (wanted : Result ReadingData Refusal) → Had d lines
    → wanted ≡ Ok (reading e setup (lines ++ l ∷ []))
    → d.moves ++ moves_by d.clock l.does ≡ e.moves → clock_after d.clock l.does ≡ e.clock → Leads wanted e
line_leads d e setup lines l wanted had w m c =
    record {
      setup = setup;
      lines = lines ++ l ∷ [];
      is = w;
      moves = moves_last 0 lines l ∙ (rw (had.moves, had.clock) m);
      clock = clock_last 0 lines l ∙ (rw had.clock c);
    }

at_leads : (d e : DraftData) (setup : List ℕ) (lines : List SourceLine) (n : ℕ) (ps : List Placed) (now : ℕ) → Had d lines
    → in_part (takes_moves d.part) (Ok (record d { part = parts.Moves; clock = now })) ≡ Ok e → Leads (at_after (reading d setup lines) n ps now) e
at_leads d e setup lines n ps now had h =
    let may = in_part_ok (takes_moves d.part) _ e h in
    let same : record d { part = parts.Moves; clock = now } ≡ e = cc (may.1) in
    subst (λ z. Leads (at_after (reading d setup lines) n ps now) z) same
    (line_leads d (record d { part = parts.Moves; clock = now }) setup lines (record { line = n; column = 1; does = moves.At now }) _ had (rw may.0) (simp append-nil) refl)

abbrev act_line : (line : ℕ) → ℕ → Act → SourceLine
act_line n i act = record { line = n; column = 1; does = moves.Acts i act false }

-- an act that delivers nothing
acts_leads : (d e : DraftData) (setup : List ℕ) (lines : List SourceLine) (n : ℕ) (ps : List Placed) (a : SiteApplication) (act : Act) (index : Option ℕ) → Had d lines
    → takes_moves d.part ≡ true → index_of a d.stations ≡ index → with_move d act index ≡ Ok e → Leads (acts_after (reading d setup lines) n ps a act None) e
acts_leads d e setup lines n ps a act None had t i h = absurd cc
acts_leads d e setup lines n ps a act (Some k) had t i h =
    let same : record d { part = parts.Moves; moves = d.moves ++ record { now = d.clock; station = k; act = act } ∷ [] } ≡ e = cc in
    subst (λ z. Leads (acts_after (reading d setup lines) n ps a act None) z) same
    (line_leads d _ setup lines (act_line n k act) _ had (rw (t, i)) refl refl)

delivers_leads : (d e : DraftData) (setup : List ℕ) (lines : List SourceLine) (n : ℕ) (ps : List Placed) (a : SiteApplication) (k : ℕ) (index : Option ℕ) → Had d lines
    → takes_moves d.part ≡ true → index_of a d.stations ≡ index → with_move d (acts.Deliver k) index ≡ Ok e → Leads (delivers_after (reading d setup lines) n ps a k) e
delivers_leads d e setup lines n ps a k None had t i h = absurd cc
delivers_leads d e setup lines n ps a k (Some s) had t i h =
    let same : record d { part = parts.Moves; moves = d.moves ++ record { now = d.clock; station = s; act = acts.Deliver k } ∷ [] } ≡ e = cc in
    subst (λ z. Leads (delivers_after (reading d setup lines) n ps a k) z) same
    (line_leads d _ setup lines (record { line = n; column = column_at ps 1; does = moves.Brings (Number k) (Some s) }) _ had (rw (t, i)) refl refl)

does_leads : (d e : DraftData) (setup : List ℕ) (lines : List SourceLine) (n : ℕ) (ps : List Placed) (a : SiteApplication) (act : Act) → Had d lines
    → takes_moves d.part ≡ true → with_move d act (index_of a d.stations) ≡ Ok e → Leads (does_after (reading d setup lines) n ps a act None) e
does_leads d e setup lines n ps a (acts.Deliver k) had t h = delivers_leads d e setup lines n ps a k (index_of a d.stations) had t refl h
does_leads d e setup lines n ps a (acts.Command order) had t h = acts_leads d e setup lines n ps a (acts.Command order) (index_of a d.stations) had t refl h
does_leads d e setup lines n ps a acts.Tick had t h = acts_leads d e setup lines n ps a acts.Tick (index_of a d.stations) had t refl h
does_leads d e setup lines n ps a (acts.Tell entity) had t h = acts_leads d e setup lines n ps a (acts.Tell entity) (index_of a d.stations) had t refl h

-- a statement that a script takes
statement_leads : (d e : DraftData) (setup : List ℕ) (lines : List SourceLine) (n : ℕ) (ps : List Placed) (s : Statement) → Had d lines → after d s ≡ Ok e
    → Leads (statement_after (reading d setup lines) n ps s None) e
statement_leads d e setup lines n ps says.Nothing had h =
    let same : d ≡ e = cc in
    subst (λ z. Leads (statement_after (reading d setup lines) n ps says.Nothing None) z) same
    (record { setup = setup; lines = lines; is = refl; moves = had.moves; clock = had.clock })
statement_leads d e setup lines n ps (says.At now) had h = at_leads d e setup lines n ps now had h
statement_leads d e setup lines n ps (says.Does a act) had h =
    let may = in_part_ok (takes_moves d.part) _ e h in
    does_leads d e setup lines n ps a act had may.0 may.1
statement_leads d e setup lines n ps (says.Exercise x) had h =
    setup_leads d setup lines (says.Exercise x) _ _ _ e had (kept_part d (wants_exercise d.part) _ _ (kept_ok d (record d { part = parts.Stations; exercise = x }) refl refl)) h
statement_leads d e setup lines n ps (says.Station a rules) had h =
    let room = nat_lt (length d.stations) 256 && is_above (last_address d.stations) a in
    setup_leads d setup lines (says.Station a rules) _ _ _ e had (kept_part d (takes_stations d.part) _ _ (kept_part d room _ _ (kept_ok d (with_station d a rules) refl refl))) h
statement_leads d e setup lines n ps (says.Opening a k y) had h =
    setup_leads d setup lines (says.Opening a k y) _ _ _ e had (kept_part d (takes_outfits d.part) _ _ (kept_outfit d (opened_with k y) (index_of a d.stations))) h
statement_leads d e setup lines n ps (says.Fixed a datum) had h =
    setup_leads d setup lines (says.Fixed a datum) _ _ _ e had (kept_part d (takes_outfits d.part) _ _ (kept_outfit d (λ w. Some (holding datum w)) (index_of a d.stations))) h
statement_leads d e setup lines n ps (says.Action a id) had h =
    setup_leads d setup lines (says.Action a id) _ _ _ e had (kept_part d (takes_outfits d.part) _ _ (kept_outfit d (λ w. Some (knowing id w)) (index_of a d.stations))) h

said_leads : (d e : DraftData) (setup : List ℕ) (lines : List SourceLine) (n : ℕ) (line : List ℕ) (said : Option Statement) → Had d lines → after_if d said ≡ Ok e
    → Leads (said_after (reading d setup lines) n line said) e
said_leads d e setup lines n line None had h = absurd cc
said_leads d e setup lines n line (Some s) had h = statement_leads d e setup lines n (placed_words_of line) s had h

-- Texts.

went_on : (n : ℕ) (x : Result DraftData ScriptLineFault) (next : DraftData → Result DraftData ScriptFault) (e : DraftData) → scripts.unless_refused n x next ≡ Ok e
    → (d : DraftData) × (x ≡ Ok d) × (next d ≡ Ok e)
went_on n (Ok d) next e h = (d, refl, h)
went_on n (Err fault) next e h = absurd cc

lines_lead : (d e : DraftData) (setup : List ℕ) (lines : List SourceLine) (n : ℕ) (ls : List (List ℕ)) → Had d lines → scripts.lines_after d n ls ≡ Ok e
    → Leads (lines_after (reading d setup lines) n ls) e
lines_lead d e setup lines n [] had h =
    let same : d ≡ e = cc in
    subst (λ z. Leads (lines_after (reading d setup lines) n []) z) same
    (record { setup = setup; lines = lines; is = refl; moves = had.moves; clock = had.clock })
lines_lead d e setup lines n (l ∷ ls) had h =
    let on = went_on (n + 1) (scripts.line_after d l) (λ f. scripts.lines_after f (n + 1) ls) e h in
    let here = said_leads d on.0 setup lines (n + 1) l (statement_of l) had on.1 in
    let rest = lines_lead on.0 e here.setup here.lines (n + 1) ls (record { moves = here.moves; clock = here.clock }) on.2 in
    record { setup = rest.setup; lines = rest.lines; is = rw here.is rest.is; moves = rest.moves; clock = rest.clock }

and_first : (a b : Bool) → (a && b) ≡ true → a ≡ true
and_first true b h = refl
and_first false b h = absurd cc

-- a text that begins with a byte order mark is no script: its first line is not ASCII
marked_line : (ls : List (List ℕ)) (script : ScriptData) (n : ℕ) → scripts.whole_after n (scripts.lines_after blank 0 (onto_first 239 ls)) ≡ Ok script → ⊥
marked_line [] script n h = absurd cc
marked_line (l ∷ ls) script n h = absurd cc

marked : (text : List ℕ) (script : ScriptData) (n : ℕ) → is_mark text ≡ true → scripts.whole_after n (scripts.lines_after blank 0 (lines_of text)) ≡ Ok script → ⊥
marked [] script n m h = absurd cc
marked (b ∷ bs) script n m h =
    let first : b ≡ 239 = eqb-true b 239 (and_first (eqb b 239) _ m) in
    marked_line (lines_of bs) script n (subst (λ z. scripts.whole_after n (scripts.lines_after blank 0 (lines_of (z ∷ bs))) ≡ Ok script) first h)

unmarked : (text : List ℕ) (script : ScriptData) (n : ℕ) (mark : Bool) → is_mark text ≡ mark → scripts.whole_after n (scripts.lines_after blank 0 (lines_of text)) ≡ Ok script
    → without_mark text ≡ text
unmarked text script n true m h = absurd (marked text script n m h)
unmarked text script n false m h = rw m

no_end : (wants some : Bool) (x y : LineReason) → (not wants && some) ≡ true → cond wants (Some x) (cond some None (Some y)) ≡ None
no_end true some x y h = absurd cc
no_end false true x y h = refl
no_end false false x y h = absurd cc

-- the draft of a script that was read
record Ended (n : ℕ) (read : Result DraftData ScriptFault) (script : ScriptData) : Type 0 where
  draft : DraftData
  read_so : read ≡ Ok draft
  whole : is_whole draft ≡ true
  script_so : script_of draft ≡ script

ended_if : (n : ℕ) (d : DraftData) (whole : Bool) (script : ScriptData) → is_whole d ≡ whole → cond whole (Ok (script_of d)) (Err (BadLine (n + 1))) ≡ Ok script → Ended n (Ok d) script
ended_if n d true script w h = record { draft = d; read_so = refl; whole = w; script_so = cc }
ended_if n d false script w h = absurd cc

ended_so : (n : ℕ) (read : Result DraftData ScriptFault) (script : ScriptData) → scripts.whole_after n read ≡ Ok script → Ended n read script
ended_so n (Err fault) script h = absurd cc
ended_so n (Ok d) script h = ended_if n d (is_whole d) script refl h

whole_leads : (n : ℕ) (script : ScriptData) (read : Result ReadingData SourceReason) (d : DraftData) → Leads read d → is_whole d ≡ true → script_of d ≡ script
    → (source : SourceData) × (by_line (whole_after n read) ≡ Ok source) × Means source script
whole_leads n script read d leads whole same =
    let none : end_reason (bare d) n ≡ None = no_end (wants_exercise d.part) (nat_lt 0 (length d.stations)) _ _ whole in
    let source : SourceData = record { exercise = d.exercise; stations = d.stations; setup = leads.setup; lines = leads.lines; labels = [] } in (
      source,
      rw (leads.is, none),
      record {
        exercise = ap (λ (s : ScriptData). s.exercise) same;
        stations = ap (λ (s : ScriptData). s.stations) same;
        moves = leads.moves ∙ ap (λ (s : ScriptData). s.moves) same;
        labels = refl;
      },
    )

short_leads : (text : List ℕ) (long : Bool) (script : ScriptData)
    → cond long (Err (BadLine 0)) (scripts.whole_after (length (lines_of text)) (scripts.lines_after blank 0 (lines_of text))) ≡ Ok script
    → (source : SourceData) × (by_line (cond long (Err too_long) (whole_after (length (lines_of (without_mark text))) (lines_after nothing_read 0 (lines_of (without_mark text))))) ≡ Ok source) × Means source script
short_leads text true script h = absurd cc
short_leads text false script h =
    let n = length (lines_of text) in
    let end = ended_so n (scripts.lines_after blank 0 (lines_of text)) script h in
    let leads = lines_lead blank end.draft [] [] 0 (lines_of text) (record { moves = refl; clock = refl }) end.read_so in
    rw (unmarked text script n (is_mark text) refl h) (whole_leads n script _ end.draft leads end.whole end.script_so)

-- EVERY SCRIPT IS A SOURCE, and means the same
pub source_too : (text : List ℕ) → IsSourceToo text
source_too text script h = short_leads text (nat_lt LARGEST_SCRIPT (length text)) script h
