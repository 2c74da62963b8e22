-- A file was created, the moves were made, and it was left.
use Rattle.std.proofs.Common.{refl, ap, subst, ◌∙◌}
use Rattle.siman_lines.specs.declared.left.LeftOut.{LeftOut}
use Rattle.siman_lines.specs.LeftOut.{left_out_by}
use Rattle.siman_outside.specs.Outside.{WasHeld}
use Rattle.siman_exercise_commands.specs.Live.Lived.{PutsLiveRow}
use Rattle.siman_outside.proofs.Offered.{adds_then, all_two}
use Rattle.siman_exercise_commands.proofs.live.create_live.Goals as goal

pub returns-in-Ok : goal.returns-in-Ok
returns-in-Ok g c = (
  _,
  adds_then _ _ _ _ _ c.in-Ok.ensures.done c.close.ensures.done,
  (λ holds. all_two (WasHeld holds) _ _ c.in-Ok.ensures.fresh tt),
  (
    (
      refl,
      (
        c.put_live_row-answered.result,
        record {
          after = c.record_moves-recorded.new.stations.items;
          entries = c.record_moves-recorded.result.entries;
          records = c.record_moves-recorded.ensures.records;
          recorded = c.record_moves-recorded.ensures.recorded;
          tells =
              subst (λ (left : LeftOut). PutsLiveRow c.record_moves-recorded.result.entries left c.put_live_row-answered.result (record { old = g.W.Write.contents c.args.out.now; new = g.W.Write.contents c.put_live_row-answered.new.out }))
              (c.left_out.ensures ∙ ap (left_out_by g.O.Line.Line.passed) c.deref.ensures.value) c.put_live_row-answered.ensures;
        },
        c.settled_as.ensures,
      ),
    ),
    refl,
  ),
)
