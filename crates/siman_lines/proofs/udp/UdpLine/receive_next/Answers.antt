use Rattle.std.proofs.Common.{take, [], refl, inl, inr, arith}
use Rattle.siman_lines.proofs.Passing.{passes_none, pass_step, return_step}
use Rattle.siman_lines.proofs.udp.UdpLine.receive_next.Goals as goal

pub returns-then-not-passes_over-clause-ends : goal.returns-then-not-passes_over-clause-ends
returns-then-not-passes_over-clause-ends g c =
    let came = rw c.in-Ok-Some.field-0-is at c.in-Ok-Some.ensures.came in
    let says = c.if-not-passes_over.ensures in
    return_step _ _ _ c.loop.self _ c.receive_from.new.self c.loop.invariant.0 c.loop.counter c.in-Ok-Some.taken c.in-Ok-Some.from c.receive_from.new.buffer
    (take c.in-Ok-Some.taken c.receive_from.new.buffer) c.loop.invariant.1 c.loop-test.true c.loop.invariant.2 came c.in-Ok-Some.ensures.handed c.in-Ok-Some.ensures.worked refl says.result says.passed says.socket
    says.peers says.hearing says.trouble

pub returns-in-Ok-None-clause-ends : goal.returns-in-Ok-None-clause-ends
returns-in-Ok-None-clause-ends g c =
    let came = rw c.in-Ok-None.field-0-is at c.in-Ok-None.ensures.came in
    let nothing = rw c.in-Ok-None.field-0-is at c.in-Ok-None.ensures.nothing in
    record {
      datagrams = c.loop.invariant.0;
      mid = c.loop.self;
      over = c.loop.invariant.2;
      ends = inr (
        omega (arith, c.loop.invariant.1, c.loop-test.true),
        record {
          nothing = nothing;
          came = came;
          handed = c.in-Ok-None.ensures.handed;
          failed = c.in-Ok-None.ensures.worked;
          trouble = refl;
          keeps = record { passed = refl; peers = refl; hearing = refl };
        },
      );
    }

pub returns-in-Err-clause-ends : goal.returns-in-Err-clause-ends
returns-in-Err-clause-ends g c = record {
  datagrams = c.loop.invariant.0;
  mid = c.loop.self;
  over = c.loop.invariant.2;
  ends = (
    omega (arith, c.loop.invariant.1, c.loop-test.true),
    record {
      kind = c.in-Err.kind;
      failed = rw c.fail.ensures.socket c.in-Err.ensures.fails;
      came = rw c.fail.ensures.socket c.in-Err.ensures.none;
      handed = rw c.fail.ensures.socket c.in-Err.ensures.handed;
      trouble = rw c.receive_trouble.ensures at c.fail.ensures.kept;
      keeps = record { passed = c.fail.ensures.passed; peers = c.fail.ensures.peers; hearing = c.fail.ensures.hearing };
    },
  );
}

pub loop-init : goal.loop-init
loop-init g c = ([], refl, passes_none _ _)

pub loop-preserved : goal.loop-preserved
loop-preserved g c =
    let came = rw c.in-Ok-Some.field-0-is at c.in-Ok-Some.ensures.came in
    let says = c.if-not-passes_over.ensures in
    pass_step _ _ c.loop.self _ c.receive_from.new.self c.loop.invariant.0 c.loop.counter c.in-Ok-Some.taken c.in-Ok-Some.from c.receive_from.new.buffer
    (take c.in-Ok-Some.taken c.receive_from.new.buffer) c.loop.invariant.1 c.loop.invariant.2 came c.in-Ok-Some.ensures.handed c.in-Ok-Some.ensures.worked refl says.result says.passed says.socket
    says.peers says.hearing says.failures says.trouble

pub returns-clause-ends : goal.returns-clause-ends
returns-clause-ends g c = record {
  datagrams = c.loop.invariant.0;
  mid = c.loop.self;
  over = c.loop.invariant.2;
  ends = inl (omega (arith, c.loop.invariant.1, c.loop-test.false, c.loop.auto.counter-end), refl);
}
