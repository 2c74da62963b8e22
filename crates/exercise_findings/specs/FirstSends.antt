-- The first send of each datagram, collected during a pass: listed in order, and hashed as far as a look-up among all required it (profile).
use Rattle.std.specs.Prelude.{◌≡◌, ◌≤◌, ◌<◌, ℕ, List, true, Some, None, length, slice_get}
use Rattle.exercise_model.specs.Recording.{PlainRecording}
use Rattle.exercise_findings.specs.declared.first_sends.FirstSends.{FirstSends}
use Rattle.exercise_findings.specs.Firsts.{key_at, first_under}
use Rattle.exercise_findings.specs.declared.key.Key.{Key}
use Rattle.exercise_findings.specs.Hashed.{datagram_hash}
use Rattle.exercise_findings.specs.Slots.{IsReached, HasSlot}
use Rattle.exercise_findings.specs.Source.{is_source, source_at, first_source}

-- Entry e sends from its own station, and is the first below n to send its bytes.
pub record IsFirstSend (r : PlainRecording) (n e : ℕ) : Type 0 where
  pub source : source_at r e ≡ true
  pub first : (b : List ℕ) → is_source r b e ≡ true → first_source r b n ≡ Some e

-- THE TIE: the list holds exactly the first sends below n of each datagram by its originating station; the first `hashed` of them are found in the slots under the hashes of their bytes, and the slots hold nothing that is not in the list
pub record AreFirstSends (r : PlainRecording) (n : ℕ) (s : FirstSends) : Type 0 where
  pub all : (b : List ℕ) (e : ℕ) → first_source r b n ≡ Some e → (i : ℕ) × (slice_get s.kept.order.items i ≡ Some e)
  pub each : (i e : ℕ) → slice_get s.kept.order.items i ≡ Some e → IsFirstSend r n e
  pub within : s.hashed ≤ length s.kept.order.items
  pub reached : (b : List ℕ) (i e : ℕ) → i < s.hashed → slice_get s.kept.order.items i ≡ Some e → is_source r b e ≡ true
      → IsReached s.kept.slots.slots (datagram_hash b) e
  pub only : (e : ℕ) → HasSlot s.kept.slots.slots e → (i : ℕ) × (slice_get s.kept.order.items i ≡ Some e)

-- entry n sends a datagram that its originating station did not send before
abbrev pub IsNewSend : PlainRecording → ℕ → Type 0
IsNewSend r n = (b : List ℕ) → is_source r b n ≡ true → first_source r b n ≡ None

-- entry n is the first under its key
abbrev pub IsNewKey : PlainRecording → ℕ → Type 0
IsNewKey r n = (k : Key) × ((Some k ≡ key_at r n) × (first_under r k n ≡ None))
