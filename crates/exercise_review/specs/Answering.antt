-- Answers to an order in a run, judged by their contents alone, whichever request their station took them to answer
-- (profile).
use Rattle.std.specs.Prelude.{◌≡◌, ℕ, List, true, Some}
use Rattle.siman_pdus.specs.declared.pdu.Pdu.{Pdu}
use Rattle.siman_pdus.specs.Answers.{is_answer_to}
use Rattle.exercise_model.specs.Recording.{PlainRecording}
use Rattle.exercise_model.specs.History.{Send, Get, History, station_at}
use Rattle.exercise_model.specs.Meaning.{meaning}
use Rattle.exercise_model.specs.Setting.{is_from}
use Rattle.exercise_model.specs.Run.{Contains}
use Rattle.exercise_review.specs.Order.{OrderData}
use Rattle.exercise_review.specs.Word.{settles}

-- in h station t sent a datagram that answers the order
pub record SendsAnswer (r : PlainRecording) (h : History) (o : OrderData) (t : ℕ) : Type 0 where
  pub place : History
  pub bytes : List ℕ
  pub answer : Pdu
  pub sent : Contains h place (Send t bytes)
  pub meant : meaning r.setting.exercise bytes ≡ Some answer
  pub answers : is_answer_to answer o.request ≡ true

-- in h station t sent a datagram that answers the order and settles it
pub record SendsSettling (r : PlainRecording) (h : History) (o : OrderData) (t : ℕ) : Type 0 where
  pub sends : SendsAnswer r h o t
  pub settles : settles sends.answer.body ≡ true

-- in h station s received a datagram whose origin is station t, and which answers the order and settles it
pub record GetsSettling (r : PlainRecording) (h : History) (o : OrderData) (s t : ℕ) : Type 0 where
  pub before : History
  pub bytes : List ℕ
  pub answer : Pdu
  pub received : Contains h before (Get s bytes)
  pub meant : meaning r.setting.exercise bytes ≡ Some answer
  pub own : is_from (station_at r t).address answer ≡ true
  pub answers : is_answer_to answer o.request ≡ true
  pub settles : settles answer.body ≡ true
