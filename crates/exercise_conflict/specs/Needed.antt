-- Missing sends that each run needs (profile).
use Rattle.std.specs.Prelude.{◌≡◌, ℕ, List, Some, slice_get}
use Rattle.exercise_model.specs.Entry.{Received}
use Rattle.exercise_model.specs.Recording.{PlainRecording}
use Rattle.exercise_model.specs.History.{Send, History, log_of}
use Rattle.exercise_model.specs.Run.{Contains}
use Rattle.exercise_findings.specs.declared.missing.Missing.{Missing}

-- the log of station t has a send of these bytes
abbrev pub HasSend : PlainRecording → ℕ → List ℕ → Type 0
HasSend r t b = (before : History) × Contains (log_of r t) before (Send t b)

-- A NEEDED SEND: entry i receives a datagram whose send the log of its sender lacks in r, and has in the wider recording
pub record IsNeeded (r wide : PlainRecording) (i : ℕ) (m : Missing) : Type 0 where
  pub station : ℕ
  pub stamp : ℕ
  pub bytes : List ℕ
  pub got : slice_get r.entries i ≡ Some (Received station stamp bytes)
  pub lacks : HasSend r m.sender bytes → ⊥
  pub sent : HasSend wide m.sender bytes
