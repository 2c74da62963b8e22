-- The words ask for a task, or for none; or memory ran out while they were read.
use Rattle.std.proofs.Common.{ℕ, List, [], Bool, Option, Some, None, Err, ap, ◌∙◌, refl, inl, inr}
use Rattle.std.specs.Io.KnownBytes.{Keeps}
use Rattle.std.proofs.KnownBytes.{Keeps-refl}
use Rattle.std.proofs.lemmas.List.Elements.{All-nil}
use Rattle.siman_lines.specs.AtLines.{Telling}
use Rattle.siman_outside.specs.Words.{Asked, CommandLine, asked_by_name}
use Rattle.siman_outside.specs.declared.fault.Fault.TheVariants.{Memory}
use Rattle.siman_outside.specs.Ending.{Ends}
use Rattle.siman_outside.specs.Outside.{Outcome, WasHeld, begun_by}
use Rattle.siman_outside.proofs.Offered.{adds_none}
use Rattle.siman_console.specs.Program.{EndsIn, EndsAsked}
use Rattle.siman_console.proofs.program.end_words.Goals as goal

-- whatever the words ask for
memory_ends : {L : Type 0} (told : Telling L) (a : Option Asked) (helps : Bool) (input : Option (List ℕ)) (o : Outcome)
    → Keeps o.out.old o.out.new → EndsIn (Err Memory) o → EndsAsked told a helps [] input o
memory_ends told None helps input o keeps ends = (refl, inl (keeps, ends))
memory_ends told (Some task) helps input o keeps ends = inl (refl, keeps, ends)

pub returns-in-Err : goal.returns-in-Err
returns-in-Err g c =
    let after = g.E.Write.contents c.conclude-ending.new.errors in
    let ends : Ends (Err Memory) c.explained.result (g.E.Write.contents c.args.errors.now) after = rw c.explained.ensures.ended c.conclude-ending.ensures.ends in (
      [],
      adds_none _,
      All-nil (WasHeld (g.O.Outside.holds c.args.outside.now)),
      (
        c.conclude-ending.result.fault,
        begun_by c.conclude-ending.result,
        c.conclude-ending.result.warning,
        c.conclude-ending.result.further,
        memory_ends _ _ _ _ _ (Keeps-refl (g.W.Write.contents c.args.out.now)) (ends, c.conclude-ending.ensures.fault, c.conclude-ending.ensures.begun),
        c.explained.ensures.explains,
      ),
    )

pub returns-in-Some : goal.returns-in-Some
returns-in-Some g c =
    let asks = c.in-Some.ensures ∙ ap (λ (l : CommandLine). asked_by_name l.command l.behind) c.in-Ok.ensures in
    let did = c.end_task-ending.ensures in (
      did.0,
      did.1,
      did.2,
      (
        c.and_notes.result.fault,
        begun_by c.and_notes.result,
        c.and_notes.result.warning,
        c.and_notes.result.further,
        rw (← asks, c.explained-in-Some.ensures.ended, c.and_notes.ensures.ended, c.and_notes.ensures.fault, c.and_notes.ensures.begun) (inr did.3),
        c.explained-in-Some.ensures.explains,
      ),
    )

pub returns-in-None : goal.returns-in-None
returns-in-None g c =
    let none = c.in-None.ensures ∙ ap (λ (l : CommandLine). asked_by_name l.command l.behind) c.in-Ok.ensures in
    let helps = c.asks_help.ensures in (
      [],
      adds_none _,
      All-nil (WasHeld (g.O.Outside.holds c.args.outside.now)),
      (
        c.end_usage-ending.result.fault,
        begun_by c.end_usage-ending.result,
        c.end_usage-ending.result.warning,
        c.end_usage-ending.result.further,
        rw (← none, ← helps, c.explained-in-None.ensures.ended) (refl, c.end_usage-ending.ensures),
        c.explained-in-None.ensures.explains,
      ),
    )
