-- The counts, the orders and the entities, one behind the other.
use Rattle.std.proofs.Common.{length}
use Rattle.std.specs.Prelude.{string_bytes}
use Rattle.siman_print.specs.declared.spelling.Spelling.TheVariants.{Text}
use Rattle.siman_print.specs.Spelled.{line_spelled}
use Rattle.siman_operator.specs.Notes.{status_row, standing_rows, entity_rows}
use Rattle.siman_operator.proofs.NotesPrinted.{joined}
use Rattle.siman_operator.proofs.post.Post.status.Goals as goal

pub returns : goal.returns
returns g c =
    let p = c.args.self.now in
    let row = status_row p.clock.now p.recorder.entries (length p.station.node.manager.orders) p.station.dropped (g.L.Line.passed p.station.line.line) c.lost.result in (
      c.lost.result,
      joined string_bytes c.status_text.result (line_spelled Text row) (standing_rows p.station.node.manager p.clock.now) (entity_rows p.address p.station.node.application)
          (rw (c.entry_count.ensures.entries, c.passed.ensures) at c.status_text.ensures),
    )
