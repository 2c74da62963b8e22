-- The stations stand at their lines, and the file was created.
use Rattle.std.proofs.Common.{[], ◌∷◌, length, refl, inr, sym, subst, ◌∙◌}
use Rattle.std.specs.Prelude.{Ok}
use Rattle.std.proofs.lemmas.List.Elements.{All-cons}
use Rattle.siman_lines.specs.AtLines.{AreFresh}
use Rattle.siman_outside.specs.Outside.{Lines, WasHeld}
use Rattle.siman_outside.proofs.Offered.{adds_then}
use Rattle.siman_exercise_commands.proofs.Posts.{posts_fresh}
use Rattle.siman_exercise_commands.proofs.live.live_at_lines.Goals as goal

pub create_live-requires : goal.create_live-requires
create_live-requires g c = λ is.
    subst (AreFresh _ c.args.begun.recording.setting) (sym c.in-Ok-attach_stations.ensures.posts)
    (posts_fresh _ c.args.begun.recording.setting c.args.begun.nodes.items c.in-Ok.lines.items is c.requires c.in-Ok.ensures.unused
    c.in-Ok-attach_stations.ensures.lines)

pub returns-in-Ok-attach_stations : goal.returns-in-Ok-attach_stations
returns-in-Ok-attach_stations g c =
    let had = Lines c.len.result (Ok (length c.in-Ok.lines.items)) in
    let rest = rw c.in-Ok-attach_stations.ensures.posts at c.create_live.ensures in (
      had ∷ rest.0,
      adds_then _ _ _ (had ∷ []) rest.0 c.in-Ok.ensures.done rest.1,
      (λ holds. All-cons (WasHeld holds) had rest.0 tt (rest.2 holds)),
      ((c.len.ensures ∙ c.args.begun.nodes.ok.0, (c.in-Ok.lines.items, refl, inr (inr (c.in-Ok-attach_stations.ensures.lines, rest.3.0)))), rest.3.1),
    )
