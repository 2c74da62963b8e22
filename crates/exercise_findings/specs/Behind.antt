-- The changes behind received Ables: the entries that may have one, collected until all entries are known (profile).
use Rattle.std.specs.Prelude.{◌≡◌, ◌<◌, ℕ, List, [], ◌∷◌, ◌==◌, All, Option, None, option_map, option_and_then, slice_get, if◌then◌else◌}
use Rattle.std.specs.Option.{option_or}
use Rattle.siman_pdus.specs.declared.pdu.Pdu.{Pdu}
use Rattle.exercise_model.specs.declared.acknowledge.AcknowledgeKey.{AcknowledgeKey}
use Rattle.exercise_model.specs.Recording.{PlainRecording}
use Rattle.exercise_model.specs.History.{Event, Send, Get, Tell, event_of}
use Rattle.exercise_model.specs.Meaning.{meaning}
use Rattle.exercise_model.specs.Change.{able, responds, key_of}
use Rattle.exercise_model.specs.Account.{sender_of}
use Rattle.exercise_findings.specs.declared.key.Key.{Key}
use Rattle.exercise_findings.specs.Firsts.{acknowledged_key}

-- the key of the Ables of this sender under k
abbrev pub able_key : Option ℕ → AcknowledgeKey → Option Key
able_key sender k = option_map (λ t. acknowledged_key t able k) sender

-- look-up key of the change behind p, if p is an Able Acknowledge of this sender
abbrev pub change_key : Option ℕ → Pdu → Option Key
change_key sender p = if responds able p then option_and_then (able_key sender) (key_of p) else None

-- look-up key of the change behind an event that receives an Able
abbrev pub event_change_key : PlainRecording → Event → Option Key
event_change_key r (Send s b) = None
event_change_key r (Get s b) = option_and_then (λ p. change_key (sender_of r p) p) (meaning r.setting.exercise b)
event_change_key r (Tell s e y) = None

-- look-up key of the change behind entry i
unfoldable pub change_key_at : PlainRecording → ℕ → Option Key
change_key_at r i = option_and_then (λ e. event_change_key r (event_of e)) (slice_get r.entries i)

-- look-up key of the change behind entry i, if i is in the list
abbrev pub listed_behind : PlainRecording → List ℕ → ℕ → Option Key
listed_behind r [] i = None
listed_behind r (x ∷ xs) i = option_or (listed_behind r xs i) (if x == i then change_key_at r i else None)

-- THE TIE: the list holds only entries below n, and each that has a look-up key for the change behind it
pub record AreChangeKeys (r : PlainRecording) (n : ℕ) (ables : List ℕ) : Type 0 where
  pub within : All (λ x. x < n) ables
  pub kept : (i : ℕ) → i < n → listed_behind r ables i ≡ change_key_at r i
