-- What happens to the entities where a recording reports a change (profile).
use Rattle.std.specs.Prelude.{◌≡◌, ℕ, List, Some}
use Rattle.exercise_model.specs.declared.state.Change.{Change}
use Rattle.exercise_model.specs.Recording.{PlainRecording}
use Rattle.exercise_model.specs.History.{Send, History}
use Rattle.exercise_model.specs.State.{change_of}
use Rattle.exercise_model.specs.Run.{Contains, Represents}
use Rattle.exercise_model.specs.Account.{change_at}
use Rattle.exercise_model.specs.Knowledge.{IsCarriedOut}
use Rattle.exercise_review.specs.Order.{OrderData}
use Rattle.exercise_review.specs.InRuns.{Replies}

-- IN THE RUN h ENTRY i MAKES THE CHANGE c: its station sends it right after `place`, and there the change is carried out
pub record IsMade (r : PlainRecording) (h : History) (i : ℕ) (c : Change) : Type 0 where
  pub station : ℕ
  pub place : History
  pub bytes : List ℕ
  pub sent : Contains h place (Send station bytes)
  pub stands : Represents r i place (Send station bytes)
  pub carried_out : IsCarriedOut r station place bytes c

-- IN THE RUN h ENTRY i OF STATION t DOES WHAT THE ORDER ASKS: it is a reply to the order, which changes what the order says, and that is carried out
pub record IsDone (r : PlainRecording) (h : History) (o : OrderData) (t i : ℕ) : Type 0 where
  pub place : History
  pub bytes : List ℕ
  pub reply : Replies r h place o t bytes
  pub stands : Represents r i place (Send t bytes)
  pub change : change_at r i ≡ Some (change_of reply.answer o.request)
  pub carried_out : IsCarriedOut r t place bytes (change_of reply.answer o.request)
