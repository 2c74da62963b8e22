-- Actions of stations on an order in a run (profile).
use Rattle.std.specs.Prelude.{◌≡◌, ℕ, List, true, Some}
use Rattle.siman_pdus.specs.declared.pdu.Pdu.{Pdu}
use Rattle.siman_pdus.specs.Answers.{is_answer_to}
use Rattle.siman_pdus.specs.Same.{is_same_order}
use Rattle.exercise_model.specs.Recording.{PlainRecording}
use Rattle.exercise_model.specs.History.{Send, Get, History, log_at, station_at}
use Rattle.exercise_model.specs.Meaning.{meaning}
use Rattle.exercise_model.specs.Exchange.{request_taken_up}
use Rattle.exercise_model.specs.Run.{Contains}
use Rattle.exercise_review.specs.declared.word.Word.{Word}
use Rattle.exercise_review.specs.Order.{OrderData}
use Rattle.exercise_review.specs.Word.{settles, word_of}

-- in h station t received the order o
pub record Receives (r : PlainRecording) (h : History) (o : OrderData) (t : ℕ) : Type 0 where
  pub before : History
  pub bytes : List ℕ
  pub request : Pdu
  pub received : Contains h before (Get t bytes)
  pub meant : meaning r.setting.exercise bytes ≡ Some request
  pub same : is_same_order o.request request ≡ true

-- in h, right after `before`, station t replied to the order with these bytes: they mean an answer to it, and the
-- request that the answer takes up is this order
pub record Replies (r : PlainRecording) (h before : History) (o : OrderData) (t : ℕ) (bytes : List ℕ) : Type 0 where
  pub answer : Pdu
  pub taken : Pdu
  pub sent : Contains h before (Send t bytes)
  pub meant : meaning r.setting.exercise bytes ≡ Some answer
  pub answers : is_answer_to answer o.request ≡ true
  pub takes : request_taken_up r.setting.exercise (station_at r t).address answer (log_at t before) ≡ Some taken
  pub same : is_same_order o.request taken ≡ true

-- a datagram of these bytes settles the order that it answers
pub record Settles (r : PlainRecording) (bytes : List ℕ) : Type 0 where
  pub answer : Pdu
  pub meant : meaning r.setting.exercise bytes ≡ Some answer
  pub settles : settles answer.body ≡ true

-- in h station t replied to the order
pub record HasReplied (r : PlainRecording) (h : History) (o : OrderData) (t : ℕ) : Type 0 where
  pub place : History
  pub bytes : List ℕ
  pub reply : Replies r h place o t bytes

-- in h station t replied to the order with an answer that settles
pub record HasSettled (r : PlainRecording) (h : History) (o : OrderData) (t : ℕ) : Type 0 where
  pub place : History
  pub bytes : List ℕ
  pub reply : Replies r h place o t bytes
  pub settles : Settles r bytes

-- in h station s received a reply of station t to the order that settles
pub record Hears (r : PlainRecording) (h : History) (o : OrderData) (s t : ℕ) : Type 0 where
  pub before : History
  pub bytes : List ℕ
  pub received : Contains h before (Get s bytes)
  pub place : History
  pub reply : Replies r h place o t bytes
  pub settles : Settles r bytes

-- and that datagram says this word, and station t sent it earlier
pub record HearsWord (r : PlainRecording) (h : History) (o : OrderData) (s t : ℕ) (word : Word) : Type 0 where
  pub heard : Hears r h o s t
  pub says : word_of heard.settles.answer.body ≡ Some word
  pub earlier : History
  pub sent : Contains heard.before earlier (Send t heard.bytes)
