-- A file was created, the station was played, and the file was left; or none was.
use Rattle.std.proofs.Common.{[], ◌∷◌, refl}
use Rattle.std.specs.Prelude.{Err}
use Rattle.std.specs.IoError.{error_kind}
use Rattle.std.proofs.KnownBytes.{Keeps-refl}
use Rattle.siman_outside.specs.Outside.{Creates, WasHeld}
use Rattle.siman_outside.proofs.Offered.{adds_then, all_one, all_two}
use Rattle.siman_exercise_commands.proofs.station.create_played.Goals as goal

pub returns-in-Ok : goal.returns-in-Ok
returns-in-Ok g c = (
  _,
  adds_then _ _ _ _ _ c.in-Ok.ensures.done c.close.ensures.done,
  (λ holds. all_two (WasHeld holds) _ _ c.in-Ok.ensures.fresh tt),
  (
    refl,
    (
      _,
      _,
      c.record_session-recorded.ensures.records,
      c.record_session-recorded.ensures.left c.requires.ready,
      (
        c.and_closed.result,
        refl,
        (
          rw c.closed_by-closed.ensures at c.and_closed.ensures.status,
          rw c.closed_by-closed.ensures at c.and_closed.ensures.told,
        ),
      ),
    ),
  ),
)

pub returns : goal.returns
returns g c = (
  Creates c.args.placed.name.now (Err (error_kind c.in-Err.error)) ∷ [],
  c.in-Err.ensures.done,
  (λ holds. all_one (WasHeld holds) _ tt),
  (refl, (c.creation_fault.result, c.creation_fault.ensures, (refl, refl, Keeps-refl (g.W.Write.contents c.args.out.now), Keeps-refl (g.E.Write.contents c.args.errors.now)))),
)
