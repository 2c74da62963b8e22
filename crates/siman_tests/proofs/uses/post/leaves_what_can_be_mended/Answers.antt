use Rattle.std.proofs.Common.{Some}
use Rattle.siman_tests.proofs.uses.post.leaves_what_can_be_mended.Goals as goal

pub returns : goal.returns
returns g c = λ before start w a bs d is go.
    let left = c.posts_keep_their_recordings.ensures.leaves (Some before) start w a d is (c.posts_keep_their_recordings.ensures.lines a bs d go) in
    (left.0.0, c.what_is_kept_stands.ensures.text before d.recorder left.0.0 left.0.1.written)
