-- What `plan` does with a source, and how it ends (profile).
use Rattle.std.specs.Prelude.{◌≡◌, ◌⊎◌, ⊤, ℕ, Bool, List, Option, Some, None, Result, Ok, Err}
use Rattle.std.specs.Io.KnownBytes.{Appends, Keeps}
use Rattle.byte_files.specs.Writing.{WritesPart}
use Rattle.siman_print.specs.declared.spelling.Spelling.{Spelling}
use Rattle.siman_plans.specs.declared.plan_fault.Refusal.{Refusal}
use Rattle.siman_plans.specs.declared.plan_text.PlanTextFault.{PlanTextFault}
use Rattle.siman_plans.specs.declared.plan_text.PlanTextFault.TheVariants as plans
use Rattle.siman_plans.specs.declared.source_fault.SourceReason.{SourceReason}
use Rattle.siman_plans.specs.PlanText.{PlanTextData, said_at}
use Rattle.siman_plans.specs.SourceReasonText.{source_reason_text}
use Rattle.siman_outside.specs.declared.fault.Fault.{Fault}
use Rattle.siman_outside.specs.declared.fault.Fault.TheVariants.{SourceLine, PlanTooLong, ScriptRead, WorldStations, Move, Output, Memory}
use Rattle.siman_outside.specs.declared.move_refusal.MovePlace.{MovePlace}
use Rattle.siman_outside.specs.declared.product.Product.{Product}
use Rattle.siman_outside.specs.declared.product.Product.TheVariants.{File, Nothing}
use Rattle.siman_outside.specs.declared.short_texts.ShortText.{ShortText}
use Rattle.siman_outside.specs.Making.{Answered, MakesProduct, PutsBoth}
use Rattle.siman_outside.specs.Opening.{MakesOfFile}
use Rattle.siman_outside.specs.Outside.{Deed, Given, Stream}
use Rattle.siman_outside.specs.Saying.{SaysOfFile}
use Rattle.siman_outside.specs.ShortTexts.{short_bytes}
use Rattle.siman_exercise_commands.specs.Refusals.{move_refusal}

-- what a plan says of a text
abbrev pub Said : Type 0
Said = Result PlanTextData PlanTextFault

-- the text of the reason for which a line of a source is refused
abbrev pub IsSourceWhy : SourceReason → Option ShortText → Type 0
IsSourceWhy reason why = (short : ShortText) × (why ≡ Some short) × (short_bytes short ≡ source_reason_text reason)

-- A SOURCE HAS NO PLAN: its first line that cannot be read or done, with the reason; or the stations, or the length of the
-- plain script; or the source could not be read; or memory ran out, which may happen at any time
abbrev pub PlansNone : Said → Fault → Type 0
PlansNone said (SourceLine line why) = (reason : SourceReason) × (said ≡ Err (plans.Source reason)) × (line ≡ reason.line) × IsSourceWhy reason why
PlansNone said WorldStations = said ≡ Err plans.Stations
PlansNone said PlanTooLong = said ≡ Err plans.TooLong
PlansNone said (ScriptRead failed) = ⊤
PlansNone said Memory = ⊤
PlansNone said other = ⊥

abbrev pub Plans : Said → Result PlanTextData Fault → Type 0
Plans said (Ok t) = said ≡ Ok t
Plans said (Err fault) = PlansNone said fault

-- the fault of a move that the world refuses, with its line, and the number of datagrams that were sent before it
abbrev pub stop_fault : Refusal → (sends : ℕ) → Fault
stop_fault r sends =
    let place : MovePlace = record { line = r.line; sends = Some sends } in Move r.number (move_refusal r.fault) (Some place)

-- the rows were written, and no file; then the fault of the move is told; or a prefix of the rows, after a failed write
abbrev pub TellsStop : PlanTextData → Refusal → Answered → (out : Stream) → Type 0
TellsStop t r answered out =
    ((answered ≡ Err (stop_fault r t.sends)) × Appends out.old out.new t.rows) ⊎ ((answered ≡ Err Output) × WritesPart out.old out.new t.rows)

-- THE OUTPUT OF A PLAN WITHOUT A FILE: its rows, or a prefix of them; behind those of the moves before it, the fault of
-- the move that the world refuses
abbrev pub Tells : PlanTextData → (stop : Option Refusal) → Answered → (out : Stream) → Type 0
Tells t None answered out = ((answered ≡ Ok 0) × Appends out.old out.new t.rows) ⊎ ((answered ≡ Err Output) × WritesPart out.old out.new t.rows)
Tells t (Some r) answered out = TellsStop t r answered out

-- THE OUTPUT OF A PLAN WITH A FILE: its plain script in the file, and then its rows; where the world refuses a move, the
-- file stays as it was
abbrev pub PutsBy : PlanTextData → (stop : Option Refusal) → Answered → (file out : Stream) → Type 0
PutsBy t None answered file out = PutsBoth t.script t.rows answered file out
PutsBy t (Some r) answered file out = Keeps file.old file.new × TellsStop t r answered out

abbrev pub PutsPlan : PlanTextData → Answered → (file out : Stream) → Type 0
PutsPlan t answered file out = PutsBy t t.stop answered file out

-- what a plan says of a file with these bytes, if they are known
abbrev pub PlansFile : Spelling → (known : Option (List ℕ)) → Result (Product PlanTextData) Fault → Type 0
PlansFile spelling known (Ok (File t)) = Given known (λ text. Plans (said_at spelling text) (Ok t))
PlansFile spelling known (Ok (Nothing text)) = ⊥
PlansFile spelling known (Err fault) = Given known (λ text. Plans (said_at spelling text) (Err fault))

-- the rows of what a plan says of a source, or why it has none
abbrev pub TellsText : Said → Answered → (out : Stream) → Type 0
TellsText said answered out =
    ((fault : Fault) × PlansNone said fault × (answered ≡ Err fault) × Keeps out.old out.new) ⊎ ((t : PlanTextData) × (said ≡ Ok t) × Tells t t.stop answered out)

abbrev pub TellsFile : Spelling → (known : Option (List ℕ)) → Answered → (out : Stream) → Type 0
TellsFile spelling known answered out = Given known (λ text. TellsText (said_at spelling text) answered out)

-- THE PLAN OF A SOURCE: its rows, and its plain script in a file that is made, if the words name one
abbrev pub PlansNamed : (source : List ℕ) → (script : Option (List ℕ)) → Spelling → (force : Bool) → List Deed → Answered → (out : Stream) → Type 0
PlansNamed source None spelling force deeds answered out = SaysOfFile (TellsFile spelling) source deeds answered out
PlansNamed source (Some script) spelling force deeds answered out = MakesOfFile (PlansFile spelling) (MakesProduct PutsPlan) force source script deeds answered out
