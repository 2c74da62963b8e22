use Rattle.exercise_model.proofs.Heard.{open_is_heard, outside_is_stranger, sent_is_allowed, unsent_is_never_sent, outside_sends_nothing}
use Rattle.exercise_model.proofs.laws.forms_decide_who_is_heard.Goals as goal

pub returns : goal.returns
returns c = record {
  heard = open_is_heard;
  stranger = outside_is_stranger;
  sent = sent_is_allowed;
  never_sent = unsent_is_never_sent;
  outside = outside_sends_nothing;
}
