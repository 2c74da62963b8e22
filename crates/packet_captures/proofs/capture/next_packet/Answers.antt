use Rattle.std.proofs.Common.{Option, subst}
use Rattle.std.specs.Prelude.{IfSome, Ok}
use Rattle.std.specs.Option.{option_map}
use Rattle.std.proofs.lemmas.Result.{err_from_is_err_and}
use Rattle.packet_captures.specs.Answers.{Finds}
use Rattle.packet_captures.specs.Faults.{format_of}
use Rattle.packet_captures.specs.declared.packet.PacketHead.{PacketHead}
use Rattle.packet_captures.specs.Capture.{front_found}
use Rattle.packet_captures.specs.Window.{bytes_ahead}
use Rattle.packet_captures.proofs.Nexts.{leads-start, leads-whole, leads-packet, leads-fault, leads-on}
use Rattle.packet_captures.proofs.capture.next_packet.Goals as goal

pub loop-init : goal.loop-init
loop-init g c = leads-start (option_map (λ n. n.now) c.args.name) c.args.window.now c.args.state.now

pub returns-then-branch : goal.returns-then-branch
returns-then-branch g c =
    leads-whole (option_map (λ n. n.now) c.args.name) c.args.window.now c.args.state.now c.loop.window c.is_whole.new.window c.loop.state c.loop.invariant
    c.in_ok-is_whole.ensures.same (rw (← c.if-branch.true) c.in_ok-is_whole.ensures.whole)

pub loop-preserved : goal.loop-preserved
loop-preserved g c =
    leads-on (option_map (λ n. n.now) c.args.name) c.args.window.now c.args.state.now c.loop.window c.is_whole.new.window c.loop.state c.front.new.window c.front.new.state c.loop.invariant
    c.in_ok-is_whole.ensures.same (rw (← c.if-branch.false) c.in_ok-is_whole.ensures.whole)
    (subst (λ (o : Option PacketHead). IfSome (bytes_ahead c.is_whole.new.window) (λ d. Finds (Ok o) c.front.new.window c.front.new.state
    (front_found c.loop.state.form (option_map (λ n. n.now) c.args.name) c.loop.state c.is_whole.new.window.at d))) c.in_default.is c.in_ok-head.ensures.found)

pub returns-in_err-head : goal.returns-in_err-head
returns-in_err-head g c =
    let p = err_from_is_err_and c.from_residual-in_err-head.result c.from_residual-in_err-head.ensures.1 in
    rw (p.1, p.2, c.in_err-head.ensures.failed)
    (leads-fault (option_map (λ n. n.now) c.args.name) c.args.window.now c.args.state.now c.loop.window c.is_whole.new.window c.loop.state (format_of c.in_err-head.field-0.0) c.loop.invariant
    c.in_ok-is_whole.ensures.same (rw (← c.if-branch.false) c.in_ok-is_whole.ensures.whole) c.in_err-head.ensures.found)

pub returns-in-Some : goal.returns-in-Some
returns-in-Some g c =
    leads-packet (option_map (λ n. n.now) c.args.name) c.args.window.now c.args.state.now c.loop.window c.is_whole.new.window c.loop.state c.front.new.window c.front.new.state c.in-Some.head c.loop.invariant
    c.in_ok-is_whole.ensures.same (rw (← c.if-branch.false) c.in_ok-is_whole.ensures.whole)
    (subst (λ (o : Option PacketHead). IfSome (bytes_ahead c.is_whole.new.window) (λ d. Finds (Ok o) c.front.new.window c.front.new.state
    (front_found c.loop.state.form (option_map (λ n. n.now) c.args.name) c.loop.state c.is_whole.new.window.at d))) c.in-Some.is c.in_ok-head.ensures.found)
