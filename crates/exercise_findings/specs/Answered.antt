-- Which requests were taken up so far, and whether an answer without a request was sent (profile).
use Rattle.std.specs.Prelude.{◌≡◌, ◌<◌, ◌≤◌, ℕ, Bool, true, false, ◌&&◌, is_none, Some, None, length, slice_get}
use Rattle.std.specs.Option.{option_map_or}
use Rattle.siman_pdus.specs.declared.pdu.Pdu.{Pdu}
use Rattle.exercise_model.specs.Recording.{PlainRecording}
use Rattle.exercise_model.specs.History.{Event, Send, Get, Tell, event_of}
use Rattle.exercise_model.specs.Meaning.{meaning}
use Rattle.exercise_model.specs.Exchange.{is_answer_body}
use Rattle.exercise_model.specs.Account.{pair_of_sent, pair_of}
use Rattle.exercise_findings.specs.declared.answered.Answered.{Answered}
use Rattle.exercise_findings.specs.Firsts.{key_at}

-- p, sent by station s at entry i, is an answer without a request
abbrev pub is_unasked : PlainRecording → ℕ → ℕ → Pdu → Bool
is_unasked r s i p = is_answer_body p.body && is_none (pair_of_sent r s i p)

-- an event at entry i sends an answer without a request
abbrev pub unasked_by : PlainRecording → ℕ → Event → Bool
unasked_by r i (Send s b) = option_map_or (is_unasked r s i) (meaning r.setting.exercise b) false
unasked_by r i (Get s b) = false
unasked_by r i (Tell s e y) = false

unfoldable pub unasked_at : PlainRecording → ℕ → Bool
unasked_at r i = option_map_or (λ e. unasked_by r i (event_of e)) (slice_get r.entries i) false

-- THE TIE: each request that an entry without a key takes up below n is marked, and so is the presence of an answer there without a request
pub record AreAnswered (r : PlainRecording) (n : ℕ) (a : Answered) : Type 0 where
  pub room : length a.taken.items ≤ length r.entries
  pub taken : (j e : ℕ) → j < n → key_at r j ≡ None → pair_of r j ≡ Some e → slice_get a.taken.items e ≡ Some true
  pub unasked : (j : ℕ) → j < n → unasked_at r j ≡ true → a.unasked ≡ true
