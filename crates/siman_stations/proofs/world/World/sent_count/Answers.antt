use Rattle.std.proofs.Common.{◌≡◌, ◌≤◌, length, sym, subst, arith}
use Rattle.exercise_model.specs.declared.recording.TheConstants.{MOST_ENTRIES}
use Rattle.siman_stations.specs.World.{sent_in, course_of}
use Rattle.siman_stations.proofs.Courses.{count_is, count_within}
use Rattle.siman_stations.proofs.world.World.sent_count.Goals as goal

pub returns : goal.returns
returns c = λ w ms h.
    let sends = count_is w ms c.args.self.now h in
    let is : c.len.result ≡ length (sent_in (course_of w ms).entries) = omega (arith, c.len.ensures, c.args.self.now.journal.sends.ok.0, sends) in
    (is, subst (λ n. n ≤ MOST_ENTRIES) (sym is) (count_within w ms c.args.self.now h))
