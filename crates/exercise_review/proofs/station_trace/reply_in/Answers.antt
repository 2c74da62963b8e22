use Rattle.exercise_review.proofs.Heard.{meant_sent}
use Rattle.exercise_review.proofs.Under.{is_answering}
use Rattle.exercise_review.specs.Entries.{pdu_sent}
use Rattle.exercise_review.specs.Reply.{is_reply}
use Rattle.exercise_review.specs.Word.{settles_at}
use Rattle.std.proofs.Common.{arith}
use Rattle.exercise_review.proofs.station_trace.reply_in.Goals as goal

pub returns-clause-settles : goal.returns-clause-settles
unfolding is_reply pdu_sent settles_at
returns-clause-settles g c = grind (arith, meant_sent, is_answering)
