use Rattle.exercise_chart.proofs.signs.put_activity_sign.Goals as goal

pub returns-in-SentOther : goal.returns-in-SentOther
returns-in-SentOther c = rw c.in-SentOther.is c.put_column_sign-in-SentOther.ensures

pub returns-in-ReceivedOther : goal.returns-in-ReceivedOther
returns-in-ReceivedOther c = rw c.in-ReceivedOther.is c.put_column_sign-in-ReceivedOther.ensures
