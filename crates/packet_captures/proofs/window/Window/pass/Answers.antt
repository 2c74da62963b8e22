use Rattle.std.proofs.Common.{◌≤◌, [], length, sym, subst}
use Rattle.packet_captures.specs.Window.{Ahead, held_in}
use Rattle.packet_captures.proofs.Windows.{held_in-room, window-passed}
use Rattle.packet_captures.proofs.window.Window.pass.Goals as goal

pub returns : goal.returns
returns g c =
    let w = c.self.inside in
    let room = held_in-room w.start w.end c.args.size w.buffer.items c.self.invariant.held (subst (λ (a : Ahead). c.args.size ≤ length a.held) (sym c.self.view_is) c.requires) in
    rw (← c.self.view_is) (window-passed w.start w.end c.args.size w.at w.buffer.items (g.R.Read.remaining w.reader) (held_in w.kept_start w.kept_end w.buffer.items) [] room)
