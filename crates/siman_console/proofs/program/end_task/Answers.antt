-- What standard input asks for is answered with no file; what words ask for, as their files have it.
use Rattle.std.proofs.Common.{◌≡◌, ℕ, List, [], Option, None, refl}
use Rattle.std.proofs.lemmas.List.Elements.{All-nil}
use Rattle.siman_outside.specs.declared.commands.NoWord.{NoWord}
use Rattle.siman_outside.specs.declared.commands.NoWord.TheVariants.{Pdus}
use Rattle.byte_files.specs.Text.{lines_of}
use Rattle.siman_outside.specs.Outside.{Has, Outcome, WasHeld}
use Rattle.siman_console.specs.Program.{EndsBare}
use Rattle.siman_file_commands.specs.Pdus.{EndsLines}
use Rattle.siman_outside.proofs.Offered.{adds_none}
use Rattle.siman_console.proofs.program.end_task.Goals as goal

pub returns-in-Trial : goal.returns-in-Trial
returns-in-Trial g c =
    rw c.in-Trial.is ([], adds_none _, All-nil (WasHeld (g.O.Outside.holds c.args.outside.now)), (refl, (c.try_input.result, c.try_input.ensures, (c.conclude.ensures.ends, c.conclude.ensures.fault, c.conclude.ensures.begun))))

pub returns-in-One : goal.returns-in-One
returns-in-One g c =
    let did = c.do_one-done.ensures in
    rw c.in-One.is (did.0, did.1, did.2, (c.do_one-done.result, did.3, (c.conclude-in-One.ensures.ends, c.conclude-in-One.ensures.fault, c.conclude-in-One.ensures.begun)))

pub returns-in-Two : goal.returns-in-Two
returns-in-Two g c = rw c.in-Two.is c.end_two.ensures

-- the only command that takes no words ends so
lines_end : (command : NoWord) (input : Option (List ℕ)) (o : Outcome) → (bytes : List ℕ) × Has input bytes × EndsLines (lines_of bytes) o → o.begun ≡ None → EndsBare command input o
lines_end Pdus input o ended begun = (ended, begun)

pub returns-in-Bare-Pdus : goal.returns-in-Bare-Pdus
returns-in-Bare-Pdus g c =
    rw c.in-Bare-Pdus.is (
      [],
      adds_none _,
      All-nil (WasHeld (g.O.Outside.holds c.args.outside.now)),
      (refl, lines_end c.in-Bare-Pdus.field-0 (g.R.Read.remaining c.args.input) _ c.end_lines.ensures.ends c.end_lines.ensures.begun),
    )

pub returns-in-Join : goal.returns-in-Join
returns-in-Join g c =
    let did = c.join_pieces-joined.ensures in
    rw c.in-Join.is (did.0, did.1, did.2, (c.join_pieces-joined.result, did.3, (c.conclude-in-Join.ensures.ends, c.conclude-in-Join.ensures.fault, c.conclude-in-Join.ensures.begun)))

pub returns-in-View : goal.returns-in-View
returns-in-View g c =
    let did = c.do_view-done.ensures in
    rw c.in-View.is (did.0, did.1, did.2, (c.do_view-done.result, did.3, (c.conclude-in-View.ensures.ends, c.conclude-in-View.ensures.fault, c.conclude-in-View.ensures.begun)))

pub returns-in-Prose : goal.returns-in-Prose
returns-in-Prose g c =
    let did = c.do_prose-done.ensures in
    rw c.in-Prose.is (did.0, did.1, did.2, (c.do_prose-done.result, did.3, (c.conclude-in-Prose.ensures.ends, c.conclude-in-Prose.ensures.fault, c.conclude-in-Prose.ensures.begun)))

pub returns-in-Why : goal.returns-in-Why
returns-in-Why g c =
    let did = c.why_named-done.ensures in
    rw c.in-Why.is (did.0, did.1, did.2, (c.why_named-done.result, did.3, (c.conclude-in-Why.ensures.ends, c.conclude-in-Why.ensures.fault, c.conclude-in-Why.ensures.begun)))

pub returns-in-Plan : goal.returns-in-Plan
returns-in-Plan g c =
    let did = c.plan_named-done.ensures in
    rw c.in-Plan.is (did.0, did.1, did.2, (c.plan_named-done.result, did.3, (c.conclude-in-Plan.ensures.ends, c.conclude-in-Plan.ensures.fault, c.conclude-in-Plan.ensures.begun)))

pub returns-in-Chart : goal.returns-in-Chart
returns-in-Chart g c =
    let did = c.chart_named-charted.ensures in
    rw c.in-Chart.is (did.0, did.1, did.2, (c.chart_named-charted.result, did.3, (c.conclude-in-Chart.ensures.ends, c.conclude-in-Chart.ensures.fault, c.conclude-in-Chart.ensures.begun)))

pub returns-in-Station : goal.returns-in-Station
returns-in-Station g c = rw c.in-Station.is c.end_station.ensures

pub returns-in-Import : goal.returns-in-Import
returns-in-Import g c =
    let did = c.import_named-imported.ensures in
    rw c.in-Import.is (
      did.0,
      did.1,
      did.2,
      (c.import_named-imported.result, did.3, (c.conclude-in-Import.ensures.ends, c.conclude-in-Import.ensures.fault, c.conclude-in-Import.ensures.begun)),
    )
