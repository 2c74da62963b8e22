use Rattle.std.proofs.Common.{◌≡◌, ◌≤◌, List, ℕ, length, take, drop, subst, arith}
use Rattle.std.proofs.lemmas.List.{take_at}
use Rattle.packet_captures.proofs.Windows.{window-read}
use Rattle.packet_captures.specs.Window.{held_in}
use Rattle.packet_captures.proofs.window.Window.fill_room.Goals as goal

pub returns-clause-same : goal.returns-clause-same
returns-clause-same g c =
    let w = c.self.inside in
    let new = c.fill_behind.new.buffer in
    let front : take w.end new ≡ take w.end w.buffer.items = cc in
    let long : w.end ≤ length w.buffer.items = subst (λ (xs : List ℕ). w.end ≤ length xs) c.deref_mut.ensures.value (omega arith) in
    let size : length new ≡ w.buffer.len = omega arith in
    rw (← c.self.view_is, take_at new (drop (length new) w.buffer.items) w.buffer.len size)
    (window-read w.start w.end c.in_ok-count.count w.at w.buffer.items new (g.R.Read.remaining w.reader) (g.R.Read.remaining c.fill_behind.new.reader)
    (held_in w.kept_start w.kept_end w.buffer.items) (held_in w.kept_start w.kept_end new) c.self.invariant.held long front c.in_ok-count.ensures.taken)
