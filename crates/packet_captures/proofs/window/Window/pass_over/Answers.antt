use Rattle.std.proofs.Common.{◌≡◌, ℕ, ◌+◌, ◌-◌, [], subst, arith}
use Rattle.packet_captures.specs.Window.{Passes}
use Rattle.packet_captures.proofs.Windows.{passes-trans, passes-passed, passes-same, passes-all}
use Rattle.packet_captures.proofs.window.Window.pass_over.Goals as goal

pub returns-then-left-count-clause-whole : goal.returns-then-left-count-clause-whole
returns-then-left-count-clause-whole g c t =
    let now = c.loop.self in
    let all : c.args.size - c.loop.left + c.loop.left ≡ c.args.size = omega arith in
    let step = passes-passed c.loop.left now [] (omega arith) in
    subst (λ (n : ℕ). Passes n c.args.self.now c.pass.new.self) all
    (passes-trans (c.args.size - c.loop.left) c.loop.left c.args.self.now now c.pass.new.self c.loop.invariant.passed (rw c.pass.ensures step))

pub loop-preserved : goal.loop-preserved
loop-preserved g c =
    let now = c.loop.self in
    let n = c.count-count.result in
    let step = passes-passed n now [] (omega arith) in
    let first : Passes (c.args.size - c.loop.left + n) c.args.self.now c.pass-in-loop.new.self =
    passes-trans (c.args.size - c.loop.left) n c.args.self.now now c.pass-in-loop.new.self c.loop.invariant.passed (rw c.pass-in-loop.ensures step) in
    let second = passes-trans (c.args.size - c.loop.left + n) 0 c.args.self.now c.pass-in-loop.new.self c.hold.new.self first
    (passes-same c.pass-in-loop.new.self c.hold.new.self c.in_ok-hold.ensures.same) in
    let all : c.args.size - c.loop.left + n + 0 ≡ c.args.size - (c.loop.left - n) = omega arith in
    record {
      within = omega arith;
      passed = subst (λ (m : ℕ). Passes m c.args.self.now c.hold.new.self) all second;
    }

pub returns-then-not-branch-clause-end : goal.returns-then-not-branch-clause-end
returns-then-not-branch-clause-end g c t =
    let now = c.loop.self in
    let n = c.count-count.result in
    let step = passes-passed n now [] (omega arith) in
    let first : Passes (c.args.size - c.loop.left + n) c.args.self.now c.pass-in-loop.new.self =
    passes-trans (c.args.size - c.loop.left) n c.args.self.now now c.pass-in-loop.new.self c.loop.invariant.passed (rw c.pass-in-loop.ensures step) in
    let second = passes-trans (c.args.size - c.loop.left + n) 0 c.args.self.now c.pass-in-loop.new.self c.hold.new.self first
    (passes-same c.pass-in-loop.new.self c.hold.new.self c.in_ok-hold.ensures.same) in
    let end = c.in_ok-hold.ensures.end c.if-not-branch.true in
    passes-all (c.args.size - c.loop.left + n + 0) c.args.size c.args.self.now c.hold.new.self second end.1 end.0 (omega arith)
