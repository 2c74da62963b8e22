-- A script was opened and read, and its moves were made.
use Rattle.std.proofs.Common.{[], ◌∷◌, ◌++◌, List, inl, inr, ap, sym, ◌∙◌}
use Rattle.std.proofs.KnownBytes.{Keeps-refl}
use Rattle.std.proofs.lemmas.List.Elements.{All-append}
use Rattle.siman_outside.specs.Outside.{Deed, Reads, WasHeld}
use Rattle.siman_exercise_commands.specs.Live.{is_created}
use Rattle.siman_outside.proofs.Offered.{adds_then, all_one}
use Rattle.siman_exercise_commands.proofs.Lived.{none_created}
use Rattle.siman_exercise_commands.proofs.Posts.{are_new}
use Rattle.siman_exercise_commands.proofs.live.live_of_file.Goals as goal

pub returns-in-Ok-begin_script : goal.returns-in-Ok-begin_script
returns-in-Ok-begin_script g c =
    let Held = WasHeld (g.O.Outside.holds c.args.outside.now) in
    let opened = c.in-Ok.ensures.did in
    let reads = Reads (g.O.Outside.bytes c.in-Ok.opened) ∷ [] in
    let rest = c.live_text.ensures in
    let made = rw c.read.ensures.same at c.in-Ok-begin_script.ensures in (
      opened.0 ++ (reads ++ rest.0),
      adds_then _ _ _ opened.0 (reads ++ rest.0) opened.1 (adds_then _ _ _ reads rest.0 c.read.ensures.done rest.1),
      All-append Held opened.0 (reads ++ rest.0) opened.2 (All-append Held reads rest.0 (all_one Held _ tt) (rest.2 (g.O.Outside.holds c.args.outside.now))),
      (
        inr (inr (_, rest.0, c.in-Ok-begin_script.script, ap (λ (deeds : List Deed). deeds ++ (reads ++ rest.0)) opened.3, made, rest.3.0)),
        rest.3.1 ∙ sym (ap (λ (deeds : List Deed). is_created (deeds ++ (reads ++ rest.0))) opened.3),
      ),
    )

pub returns-in-Err-begin_script : goal.returns-in-Err-begin_script
returns-in-Err-begin_script g c =
    let Held = WasHeld (g.O.Outside.holds c.args.outside.now) in
    let opened = c.in-Ok.ensures.did in
    let reads = Reads (g.O.Outside.bytes c.in-Ok.opened) ∷ [] in
    let none = rw c.read.ensures.same at c.in-Err-begin_script.ensures in (
      opened.0 ++ reads,
      adds_then _ _ _ opened.0 reads opened.1 c.read.ensures.done,
      All-append Held opened.0 reads opened.2 (all_one Held _ tt),
      (
        inr (inl (_, c.in-Err-begin_script.fault, ap (λ (deeds : List Deed). deeds ++ reads) opened.3, none, c.fault_before_file.ensures.answered, Keeps-refl (g.W.Write.contents c.args.out.now))),
        c.fault_before_file.ensures.created ∙ sym (ap (λ (deeds : List Deed). is_created (deeds ++ reads)) opened.3),
      ),
    )

pub returns-in-Err : goal.returns-in-Err
returns-in-Err g c =
    let opened = c.in-Err.ensures.did in (
      opened.0,
      opened.1,
      opened.2,
      (
        inl (c.in-Err.fault, opened.3, c.fault_before_file-in-Err.ensures.answered, Keeps-refl (g.W.Write.contents c.args.out.now)),
        c.fault_before_file-in-Err.ensures.created ∙ sym (none_created _ _ opened.0 c.in-Err.fault opened.3),
      ),
    )

pub live_text-requires : goal.live_text-requires
live_text-requires g c =
    let begun = c.in-Ok-begin_script.ensures.2.0 in are_new begun.script _ _ begun.setting begun.nodes
