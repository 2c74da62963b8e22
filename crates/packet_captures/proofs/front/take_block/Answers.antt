use Rattle.std.proofs.Common.{List, ℕ, ap, arith}
use Rattle.std.proofs.lemmas.Grind.{common_steps}
use Rattle.std.specs.Option.{option_map}
use Rattle.packet_captures.specs.Pcapng.{block_content}
use Rattle.packet_captures.specs.Window.{Ahead}
use Rattle.packet_captures.proofs.HeldFronts.{content-held}
use Rattle.packet_captures.proofs.front.take_block.Goals as goal

pub returns-in-Some-clause-content : goal.returns-in-Some-clause-content
returns-in-Some-clause-content g c =
    let w = c.args.window.now in
    content-held (λ (k : List ℕ). block_content c.args.order (option_map (λ n. n.now) c.args.name) c.args.state.now c.args.kind w.at k)
    c.in-Some.part c.block_content.new.state c.args.size w.held w.rest c.pass_keeping.new.self.kept c.requires.1 (grind (arith, common_steps)) (grind (arith, common_steps)) (ap (λ (a : Ahead). a.kept) c.pass_keeping.ensures)
