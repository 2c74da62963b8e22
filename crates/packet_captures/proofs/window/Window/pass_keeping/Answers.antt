use Rattle.std.proofs.Common.{◌+◌, ◌≤◌, List, ℕ, length, sym, ◌∙◌, ap, subst, arith}
use Rattle.packet_captures.specs.Window.{Ahead, held_in, passed}
use Rattle.packet_captures.proofs.Windows.{held_in-room, held_in-part, window-passed}
use Rattle.packet_captures.proofs.window.Window.pass_keeping.Goals as goal

pub returns : goal.returns
returns g c =
    let w = c.self.inside in
    let rest = g.R.Read.remaining w.reader in
    let before = held_in w.kept_start w.kept_end w.buffer.items in
    let now : Ahead = record { at = w.at; held = held_in w.start w.end w.buffer.items; rest = rest; kept = before } in
    let room : w.start + c.args.size ≤ w.end = held_in-room w.start w.end c.args.size w.buffer.items c.self.invariant.held (subst (λ (a : Ahead). c.args.size ≤ length a.held) (sym c.self.view_is) c.requires.held) in
    let part = held_in-part w.start w.end c.args.from c.args.count w.buffer.items (omega arith) in
    rw (← c.self.view_is)
    (window-passed w.start w.end c.args.size w.at w.buffer.items rest before (held_in (w.start + c.args.from) (w.start + c.args.from + c.args.count) w.buffer.items) room
    ∙ ap (λ (ys : List ℕ). passed c.args.size now ys) part)
