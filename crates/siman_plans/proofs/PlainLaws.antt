-- The plain script of a plan is the script of its moves.
use Rattle.std.proofs.Common.{◌≡◌, ℕ, ◌≤◌, Bool, true, false, nat_lt, nat_le, cond, List, [], ◌++◌, length, map, reverse, Option, Some, None, Result, Ok, Err, refl, sym, ap, subst, ◌∙◌, arith, append-nil}
use Rattle.std.proofs.lemmas.Bool.Decides.{nat_tests}
use Rattle.std.proofs.lemmas.List.{length-map}
use Rattle.std.specs.List.{list_all}
use Rattle.byte_files.specs.Text.{lines_of}
use Rattle.exercise_model.specs.Station.{are_rising, are_stations}
use Rattle.siman_print.specs.declared.spelling.Spelling.{Spelling}
use Rattle.siman_scripts.specs.declared.part.ScriptPart.{ScriptPart}
use Rattle.siman_scripts.specs.declared.part.ScriptPart.TheVariants as parts
use Rattle.siman_scripts.specs.declared.script.TheConstants.{LARGEST_SCRIPT}
use Rattle.siman_scripts.specs.declared.why.LineReason.{LineReason}
use Rattle.siman_scripts.specs.Stations.{WorldStationData}
use Rattle.siman_scripts.specs.Draft.{DraftData, blank, wants_exercise, takes_moves}
use Rattle.siman_scripts.specs.Reason.{end_reason}
use Rattle.siman_scripts.specs.Script.{ScriptData, script_at}
use Rattle.siman_scripts.specs.Script as scripts
use Rattle.siman_stations.specs.World.{WorldData, is_world_station, are_world_stations}
use Rattle.siman_plans.specs.declared.plan_fault.Refusal.{Refusal}
use Rattle.siman_plans.specs.declared.plan_fault.Stop.{Stop}
use Rattle.siman_plans.specs.declared.plan_fault.Stop.TheVariants as stops
use Rattle.siman_plans.specs.declared.plan_text.PlanTextFault.TheVariants as told
use Rattle.siman_plans.specs.declared.source_fault.SourceReason.{SourceReason}
use Rattle.siman_plans.specs.Plan.{PlanData, no_plan, plan_at}
use Rattle.siman_plans.specs.PlanText.{PlanTextData, world_of, text_of, said_from, said_by}
use Rattle.siman_plans.specs.Source.{SourceData, ReadingData, nothing_read, source_of, ended, whole_after, too_long, lines_after, read_at}
use Rattle.siman_plans.specs.SourceWords.{without_mark}
use Rattle.siman_plans.specs.PlainLaws.{IsScriptOfMoves}
use Rattle.siman_plans.proofs.PlainWords.{both}
use Rattle.siman_plans.proofs.PlainReading.{Goes, goes_none, goes_then, AllRead, AllGood, Stands, Read, lines_read, nothing_reads}
use Rattle.siman_plans.proofs.PlainMoves.{draft_of, Made, Stations, lines_made}

-- The source.

-- what the plain lines of the exercise and its stations lead to
abbrev bare : ScriptPart → DraftData → DraftData
bare part d = record { part = part; exercise = d.exercise; stations = d.stations; moves = []; clock = 0 }

bare_is : (d : DraftData) → d.moves ≡ [] → d.clock ≡ 0 → d ≡ bare d.part d
bare_is d m c = λ i. record { part = d.part; exercise = d.exercise; stations = d.stations; moves = m i; clock = c i }

-- a source whose plain lines lead to its exercise and its stations, and whose other lines read back
record Spelled (setup : List ℕ) (d : DraftData) : Type 0 where
  part : ScriptPart
  takes : takes_moves part ≡ true
  goes : Goes blank setup (bare part d)
  good : AllGood d.stations

takes_from : (p : ScriptPart) → wants_exercise p ≡ false → takes_moves p ≡ true
takes_from parts.Exercise h = absurd cc
takes_from parts.Stations h = refl
takes_from parts.Outfits h = refl
takes_from parts.Moves h = refl

wants_not : (p : ScriptPart) → takes_moves p ≡ true → wants_exercise p ≡ false
wants_not parts.Exercise h = absurd cc
wants_not parts.Stations h = refl
wants_not parts.Outfits h = refl
wants_not parts.Moves h = refl

spelled_by : (setup : List ℕ) (base d : DraftData) (moved : Bool) → Goes blank setup (bare base.part base) → AllGood base.stations → Stands moved base d → wants_exercise d.part ≡ false → Spelled setup d
spelled_by setup base d true goes good stands begun =
    let so : Spelled setup (record base { part = parts.Moves }) = record { part = base.part; takes = stands.1; goes = goes; good = good } in
    subst (Spelled setup) (sym stands.0) so
spelled_by setup base d false goes good stands begun =
    let so : Spelled setup base = record { part = base.part; takes = takes_from base.part (subst (λ (x : DraftData). wants_exercise x.part ≡ false) stands begun); goes = goes; good = good } in
    subst (Spelled setup) (sym stands) so

spelled : (r : ReadingData) → Read r → wants_exercise r.draft.part ≡ false → Spelled r.setup r.draft
spelled r so begun =
    spelled_by r.setup so.base r.draft so.moved (subst (Goes blank r.setup) (bare_is so.base so.moves so.clock) so.goes) so.good so.stands begun

begun_if : (wants some : Bool) (x y : LineReason) → cond wants (Some x) (cond some None (Some y)) ≡ None → wants ≡ false
begun_if true some x y h = absurd cc
begun_if false some x y h = refl

-- what is known of a source that was read
record Known (s : SourceData) : Type 0 where
  part : ScriptPart
  takes : takes_moves part ≡ true
  goes : Goes blank s.setup (draft_of (world_of s) part no_plan)
  good : AllGood s.stations
  lines : AllRead s.lines

known_end : (r : ReadingData) (s : SourceData) (n : ℕ) (o : Option LineReason) → end_reason r.draft n ≡ o → Read r → ended r o ≡ Ok s → Known s
known_end r s n (Some reason) is so h = absurd cc
known_end r s n None is so h =
    let p = spelled r so (begun_if (wants_exercise r.draft.part) (nat_lt 0 (length r.draft.stations)) _ _ is) in
    let same : source_of r ≡ s = cc in
    let k : Known (source_of r) = record { part = p.part; takes = p.takes; goes = p.goes; good = p.good; lines = so.lines } in
    subst Known same k

known_whole : (n : ℕ) (x : Result ReadingData SourceReason) (s : SourceData) → ((r : ReadingData) → x ≡ Ok r → Read r) → whole_after n x ≡ Ok s → Known s
known_whole n (Err reason) s reads h = absurd cc
known_whole n (Ok r) s reads h = known_end r s n (end_reason r.draft n) refl (reads r refl) h

known_if : (long : Bool) (n : ℕ) (ls : List (List ℕ)) (s : SourceData) → cond long (Err too_long) (whole_after n (lines_after nothing_read 0 ls)) ≡ Ok s → Known s
known_if true n ls s h = absurd cc
known_if false n ls s h = known_whole n (lines_after nothing_read 0 ls) s (λ r is. lines_read nothing_read r 0 ls nothing_reads is) h

known : (text : List ℕ) (s : SourceData) → read_at text ≡ Ok s → Known s
known text s h = known_if (nat_lt LARGEST_SCRIPT (length text)) (length (lines_of (without_mark text))) (lines_of (without_mark text)) s h

-- The plan.

-- a plan that no refusal stops, and its plain script
record Whole (s : SourceData) (t : PlanTextData) : Type 0 where
  fits : are_world_stations s.stations ≡ true
  ends : (plan_at (world_of s) s.lines).1 ≡ None
  short : nat_lt LARGEST_SCRIPT (length t.script) ≡ false
  script : t.script ≡ s.setup ++ (plan_at (world_of s) s.lines).0.notes.script

short_if : (long : Bool) (x t : PlanTextData) → nat_lt LARGEST_SCRIPT (length x.script) ≡ long → cond long (Err told.TooLong) (Ok x) ≡ Ok t
    → (nat_lt LARGEST_SCRIPT (length t.script) ≡ false) × (t.script ≡ x.script)
short_if true x t is h = absurd cc
short_if false x t is h =
    let same : x ≡ t = cc in
    (subst (λ (y : PlanTextData). nat_lt LARGEST_SCRIPT (length y.script) ≡ false) same is, ap (λ (y : PlanTextData). y.script) (sym same))

stopped_if : (long : Bool) (x t : PlanTextData) (refusal : Refusal) → x.stop ≡ Some refusal → cond long (Err told.TooLong) (Ok x) ≡ Ok t → t.stop ≡ None → ⊥
stopped_if true x t refusal is h ends = absurd cc
stopped_if false x t refusal is h ends =
    let same : x ≡ t = cc in
    let both_are : Some refusal ≡ None = sym is ∙ (ap (λ (y : PlanTextData). y.stop) same ∙ ends) in
    absurd cc

whole_by : (spelling : Spelling) (s : SourceData) (t : PlanTextData) (stop : Option Stop) → are_world_stations s.stations ≡ true → (plan_at (world_of s) s.lines).1 ≡ stop
    → said_from spelling s (plan_at (world_of s) s.lines).0 stop ≡ Ok t → t.stop ≡ None → Whole s t
whole_by spelling s t None fits is h ends =
    let p = short_if _ (text_of spelling s (plan_at (world_of s) s.lines).0 None) t refl h in
    record { fits = fits; ends = is; short = p.0; script = p.1 }
whole_by spelling s t (Some (stops.Refused refusal)) fits is h ends = absurd (stopped_if false (text_of spelling s (plan_at (world_of s) s.lines).0 (Some refusal)) t refusal refl h ends)
whole_by spelling s t (Some (stops.Unnamed line column why)) fits is h ends = absurd cc

whole_if : (spelling : Spelling) (s : SourceData) (t : PlanTextData) (fits : Bool) → are_world_stations s.stations ≡ fits
    → cond fits (said_from spelling s (plan_at (world_of s) s.lines).0 (plan_at (world_of s) s.lines).1) (Err told.Stations) ≡ Ok t → t.stop ≡ None → Whole s t
whole_if spelling s t true is h ends = whole_by spelling s t (plan_at (world_of s) s.lines).1 is refl h ends
whole_if spelling s t false is h ends = absurd cc

-- The script.

some_stations : (ss : List WorldStationData) → are_world_stations ss ≡ true → (nat_lt 0 (length ss) ≡ true) × (are_rising None (map (λ s. s.station) ss) ≡ true)
some_stations ss h =
    let first = both (are_stations (map (λ s. s.station) ss)) (list_all is_world_station ss) h in
    let some = both (nat_le 1 (length (map (λ s. s.station) ss))) _ first.0 in
    let few = both (nat_le (length (map (λ s. s.station) ss)) 256) _ some.1 in
    let count : length (map (λ s. s.station) ss) ≡ length ss = length-map ss (λ s. s.station) in
    let one : 1 ≤ length (map (λ s. s.station) ss) = grind (arith, nat_tests, some.0) in
    let more : 1 ≤ length ss = omega (arith, one, count) in
    (grind (arith, nat_tests), few.1)

script_by : (n : ℕ) (part : ScriptPart) (w : WorldData) (d : PlanData) → takes_moves part ≡ true → nat_lt 0 (length w.stations) ≡ true
    → scripts.whole_after n (Ok (draft_of w part d)) ≡ Ok (record { exercise = w.exercise; stations = w.stations; moves = reverse d.moves })
script_by n part w d takes some = rw (wants_not part takes) (rw some refl)

script_is : (text : List ℕ) (d : DraftData) (script : ScriptData) → nat_lt LARGEST_SCRIPT (length text) ≡ false → Goes blank text d
    → ((n : ℕ) → scripts.whole_after n (Ok d) ≡ Ok script) → script_at text ≡ Ok script
script_is text d script short goes whole =
    let all = goes 0 [] in
    let read : scripts.lines_after blank 0 (lines_of text) ≡ Ok d = ap (λ (z : List ℕ). scripts.lines_after blank 0 (lines_of z)) (sym (append-nil text)) ∙ all.1 in
    rw short (ap (scripts.whole_after (length (lines_of text))) read ∙ whole (length (lines_of text)))

plain_script : (s : SourceData) (t : PlanTextData) → Known s → Whole s t
    → script_at t.script ≡ Ok (record { exercise = s.exercise; stations = s.stations; moves = reverse (plan_at (world_of s) s.lines).0.moves })
plain_script s t k p =
    let w = world_of s in
    let d = (plan_at w s.lines).0 in
    let some = some_stations s.stations p.fits in
    let base = draft_of w k.part no_plan in
    let start : Made w base no_plan = record { part = k.part; takes = k.takes; goes = goes_none base } in
    let fit : Stations w = record { rising = some.1; good = k.good } in
    let made = lines_made w base no_plan s.lines fit k.lines start p.ends in
    let goes : Goes blank t.script (draft_of w made.part d) =
    subst (λ (z : List ℕ). Goes blank z (draft_of w made.part d)) (sym p.script)
    (goes_then blank base (draft_of w made.part d) s.setup d.notes.script k.goes made.goes) in
    script_is t.script (draft_of w made.part d) _ p.short goes (λ n. script_by n made.part w d made.takes some.0)

-- THE PLAIN SCRIPT OF A PLAN IS THE SCRIPT OF ITS MOVES
plain_by : (spelling : Spelling) (text : List ℕ) (t : PlanTextData) (read : Result SourceData SourceReason) → read_at text ≡ read → said_by spelling read ≡ Ok t → t.stop ≡ None
    → (s : SourceData) × (read_at text ≡ Ok s)
    × (script_at t.script ≡ Ok (record { exercise = s.exercise; stations = s.stations; moves = reverse (plan_at (world_of s) s.lines).0.moves }))
plain_by spelling text t (Err reason) is h ends = absurd cc
plain_by spelling text t (Ok s) is h ends =
    (s, is, plain_script s t (known text s is) (whole_if spelling s t (are_world_stations s.stations) refl h ends))

pub plain_is : (spelling : Spelling) (text : List ℕ) → IsScriptOfMoves spelling text
plain_is spelling text t said ends = plain_by spelling text t (read_at text) refl said ends
