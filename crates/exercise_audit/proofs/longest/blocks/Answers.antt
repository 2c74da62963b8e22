use Rattle.std.proofs.Common.{◌≡◌, ℕ, ◌+◌, ◌++◌, ◌∷◌, [], arith, subst, sym, ◌∙◌, rules}
use Rattle.std.proofs.lemmas.Grind.{common_steps}
use Rattle.exercise_check.specs.Course.{CourseData, so_far}
use Rattle.exercise_audit.specs.Audit.{AreBlocks, IsHeld, IsBlock, IsDone}
use Rattle.exercise_audit.proofs.Held.{blocks_done, blocks_push}
use Rattle.exercise_audit.proofs.longest.blocks.Goals as goal
use Rattle.exercise_audit.proofs.longest.blocks.Goals.{in-Some+in_ok-push, in_default}

pub loop-station-init : goal.loop-station-init
loop-station-init g c = record {
  course = search rules;
  blocks = c.new-blocks.ensures.items;
}

pub block_at-requires : goal.block_at-requires
block_at-requires g c =
    let s = c.loop-station.station in
    subst (λ (v : CourseData). IsHeld v.recording (so_far v) s) (sym c.loop-station.invariant.course) (c.requires s (omega (arith, c.loop-station-test.true)))

pub loop-station-preserved : goal.loop-station-preserved
loop-station-preserved g c =
    let v = c.args.course.now in
    let r = v.recording in
    let h = so_far v in
    let s = c.loop-station.station in
    let course = c.block_at.ensures.same ∙ c.loop-station.invariant.course in
    elim c.match-found.branch [
      | in-Some+in_ok-push w ↦
          let items : c.match-found.blocks.items ≡ c.loop-station.blocks.items ++ w.in-Some.block ∷ [] = first_of (cc, grind (arith, common_steps)) in
          let block = subst (λ (v : CourseData). IsBlock v.recording (so_far v) s w.in-Some.block) c.loop-station.invariant.course
          (rw w.in-Some.is at c.in_ok-found.ensures.block) in
          record {
            course = course;
            blocks = subst (AreBlocks r h (s + 1)) (sym items)
                (blocks_push r h s c.loop-station.blocks.items w.in-Some.block c.loop-station.invariant.blocks block);
          }
      | in_default w ↦
          let items : c.match-found.blocks.items ≡ c.loop-station.blocks.items = first_of (cc, grind (arith, common_steps)) in
          let done = subst (λ (v : CourseData). IsDone v.recording (so_far v) s) c.loop-station.invariant.course
          (rw w.in_default.is at c.in_ok-found.ensures.done) in
          record {
            course = course;
            blocks = subst (AreBlocks r h (s + 1)) (sym items) (blocks_done r h s c.loop-station.blocks.items c.loop-station.invariant.blocks done);
          }
    ]

pub returns-clause-blocks : goal.returns-clause-blocks
returns-clause-blocks g c =
    let end : c.loop-station.station ≡ c.args.stations = omega (arith, c.loop-station-test.false, c.loop-station.auto.station-end) in
    subst (λ (n : ℕ). AreBlocks c.args.course.now.recording (so_far c.args.course.now) n c.loop-station.blocks.items) end c.loop-station.invariant.blocks
