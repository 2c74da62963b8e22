-- The lines of each kind stand behind those before.
use Rattle.std.proofs.Common.{List, map, ◌++◌}
use Rattle.std.specs.List.{flat_map}
use Rattle.exercise_model.specs.Recording.{PlainRecording}
use Rattle.siman_print.specs.Line.{Line}
use Rattle.exercise_conflict.specs.declared.blocked.TheConstants.{CAUSES}
use Rattle.exercise_conflict.specs.Blocked.{blocked_lines, rule_lines}
use Rattle.exercise_conflict.specs.Lines.{way_lines, cycle_line, missing_line, repair_line}
use Rattle.exercise_conflict.specs.Told.{further_line, conflict_lines}
use Rattle.exercise_conflict.proofs.Joined.{lines_join, line_joins}
use Rattle.exercise_conflict.proofs.told.put_conflict.Goals as goal

pub returns : goal.returns
unfolding conflict_lines
returns g c =
    let r : PlainRecording = g.L.ExerciseLog.recording c.args.log.now in
    let k = c.args.conflict.now in
    let s = c.args.spelling in
    let blocked : List Line = blocked_lines r k.blocks.items in
    let rules : List Line = rule_lines k.blocks.items CAUSES in
    let ways : List Line = flat_map (way_lines r) k.ways.items in
    let cycles : List Line = map (λ v. cycle_line r v.items) k.cycles.items in
    let also : List Line = map (further_line r) k.also.items in
    let lacks : List Line = map (missing_line r) k.lacks.items in
    let first = rw c.deref.ensures.value at c.in_ok-put_blocked.ensures in
    let second = rw c.deref-2.ensures.value at c.in_ok-put_rules.ensures in
    let third = rw c.deref-3.ensures.value at c.in_ok-put_ways.ensures in
    let fourth = rw c.deref-4.ensures.value at c.in_ok-put_cycles.ensures in
    let fifth = rw c.deref-5.ensures.value at c.in_ok-put_further_causes.ensures in
    let sixth = rw c.deref-6.ensures.value at c.in_ok-put_missing_sends.ensures in
    let two = lines_join s _ _ _ blocked rules first second in
    let three = lines_join s _ _ _ (blocked ++ rules) ways two third in
    let four = lines_join s _ _ _ (blocked ++ rules ++ ways) cycles three fourth in
    let five = lines_join s _ _ _ (blocked ++ rules ++ ways ++ cycles) also four fifth in
    let six = lines_join s _ _ _ (blocked ++ rules ++ ways ++ cycles ++ also) lacks five sixth in
    line_joins s _ _ _ (blocked ++ rules ++ ways ++ cycles ++ also ++ lacks) (repair_line k.repair) six c.in_ok-put_repair.ensures
