use Rattle.std.proofs.Common.{◌≡◌, ℕ, ◌+◌, length, sym, ap, ◌∙◌, arith}
use Rattle.std.specs.Prelude.{is_some, nat_eq, ◌&&◌, if◌then◌else◌}
use Rattle.exercise_model.specs.Recording.{PlainRecording}
use Rattle.exercise_model.specs.Place.{own_event, log_before}
use Rattle.exercise_conflict.specs.StepClash.{has_rank}
use Rattle.exercise_conflict.proofs.Counted.{ranks_more, ranks_none}
use Rattle.exercise_conflict.proofs.Steps.{first_none, first_still, first_here}
use Rattle.exercise_conflict.proofs.taking.first_ranked.Goals as goal

pub loop-entry-init : goal.loop-entry-init
loop-entry-init g c = record { rank = ranks_none (g.L.ExerciseLog.recording c.args.log.now) c.args.station; few = omega arith; none = first_none _ }

pub returns-then-is_here : goal.returns-then-is_here
returns-then-is_here g c =
    let r : PlainRecording = g.L.ExerciseLog.recording c.args.log.now in
    let s = c.args.station in
    let n = c.loop-entry.entry in
    let here : has_rank r s c.args.done n ≡ c.is_here.result =
    ap (λ b. b && nat_eq (length (log_before r s n)) c.args.done) (sym c.is_own-own.ensures)
    ∙ ap (λ k. c.is_own-own.result && nat_eq k c.args.done) (sym c.loop-entry.invariant.rank) ∙ sym c.is_here.ensures in
    sym (first_here (has_rank r s c.args.done) n (length r.entries) c.loop-entry.invariant.none (here ∙ c.if-is_here.true) (omega arith))

pub loop-entry-preserved : goal.loop-entry-preserved
loop-entry-preserved g c =
    let r : PlainRecording = g.L.ExerciseLog.recording c.args.log.now in
    let s = c.args.station in
    let n = c.loop-entry.entry in
    let here : has_rank r s c.args.done n ≡ c.is_here.result =
    ap (λ b. b && nat_eq (length (log_before r s n)) c.args.done) (sym c.is_own-own.ensures)
    ∙ ap (λ k. c.is_own-own.result && nat_eq k c.args.done) (sym c.loop-entry.invariant.rank) ∙ sym c.is_here.ensures in
    record {
      rank = ap {B = ℕ} (λ n. c.loop-entry.rank + n) (c.one_if-rank.ensures.one ∙ ap {B = ℕ} (λ b. if b then 1 else 0) c.is_own-own.ensures)
          ∙ ap {B = ℕ} (λ d. d + (if is_some (own_event r s n) then 1 else 0)) c.loop-entry.invariant.rank
          ∙ sym (ranks_more r s n);
      few = omega (arith, c.one_if-rank.ensures.few, c.loop-entry.invariant.few);
      none = first_still (has_rank r s c.args.done) n c.loop-entry.invariant.none (here ∙ c.if-is_here.false);
    }
