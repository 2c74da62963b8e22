-- the lines are played, and then it ends
use Rattle.siman_operator.specs.Deeds.{data_of}
use Rattle.siman_operator.proofs.session.play.Goals as goal

pub returns : goal.returns
returns g c = record {
  mid = data_of c.play_lines-played.new.post;
  out_so_far = g.O.Write.contents c.play_lines-played.new.out;
  errors_so_far = g.E.Write.contents c.play_lines-played.new.errors;
  played = c.play_lines-played.result;
  lines = c.play_lines-played.ensures.plays;
  goes = c.play_lines-played.ensures.goes;
  ends = c.end_session.ensures;
}
