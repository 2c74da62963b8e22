-- Index of the first send of each datagram (profile).
use Rattle.std.specs.Prelude.{◌≡◌, ℕ, List, Bool, true, false, slice_get}
use Rattle.std.specs.Option.{option_map_or}
use Rattle.exercise_model.specs.Recording.{PlainRecording}
use Rattle.exercise_model.specs.History.{event_of}
use Rattle.exercise_model.specs.Cause.{sends}
use Rattle.exercise_findings.specs.declared.kept.Kept.{Kept}
use Rattle.exercise_findings.specs.Hashed.{datagram_hash}
use Rattle.exercise_findings.specs.Slots.{HasSlot}
use Rattle.exercise_findings.specs.Kept.{AreKept}
use Rattle.exercise_findings.specs.Source.{is_source, source_at}

-- entry j sends a datagram of these bytes
abbrev pub sends_at : PlainRecording → List ℕ → ℕ → Bool
sends_at r b j = option_map_or (λ e. sends b (event_of e)) (slice_get r.entries j) false

-- THE TIE: for the bytes of each datagram, the table holds the first entry below n by which its originating station sends it
pub record AreSenders (r : PlainRecording) (n : ℕ) (senders : Kept) : Type 0 where
  pub kept : AreKept (is_source r) datagram_hash n senders
  pub sources : (e : ℕ) → HasSlot senders.slots.slots e → source_at r e ≡ true
