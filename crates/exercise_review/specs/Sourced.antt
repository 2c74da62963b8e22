-- Columns of receipts by source: the first and the last receipt of each sent datagram, by the number of the sending
-- entry (profile).
use Rattle.std.specs.Prelude.{◌≡◌, ℕ, List, ◌<◌, length, Bool, true, false, ◌&&◌, Option, Some, is_some, is_none, slice_index_or}
use Rattle.siman_pdus.specs.Answers.{same_id}
use Rattle.exercise_model.specs.Account.{pair_of}
use Rattle.exercise_model.specs.Place.{first_below}
use Rattle.exercise_model.specs.Recording.{PlainRecording}
use Rattle.exercise_model.specs.Setting.{is_open}
use Rattle.exercise_findings.specs.Number.{entry_of}
use Rattle.exercise_findings.specs.Source.{source_of}
use Rattle.exercise_review.specs.declared.sources.SourceColumns.{SourceColumns}
use Rattle.exercise_review.specs.Counted.{last_below}
use Rattle.exercise_review.specs.Entries.{bytes_sent}
use Rattle.exercise_review.specs.Records.{entry_places}
use Rattle.exercise_review.specs.Register.{key_at, no_entry}

-- entry j is the source of entry i, which has no key and so brings no request
unfoldable pub is_keyless_source : PlainRecording → (j i : ℕ) → Bool
is_keyless_source r j i = is_none (key_at r i) && same_id (source_of r i) (Some j)

-- the entry in a column at the index j
abbrev pub entry_in : List ℕ → ℕ → Option ℕ
entry_in column j = entry_of (slice_index_or column j no_entry)

-- THE COLUMNS ARE RIGHT for the entries below n: they have, for each source, the first and the last receipt; all
-- receipts of one source are at one station
pub record AreColumns (r : PlainRecording) (n : ℕ) (x : SourceColumns) : Type 0 where
  pub closed : is_open r.setting.form ≡ false
  pub first : (j : ℕ) → entry_in x.first.items j ≡ first_below (is_keyless_source r j) n
  pub last : (j : ℕ) → entry_in x.last.items j ≡ last_below (is_keyless_source r j) n
  pub place : (j f i : ℕ) → first_below (is_keyless_source r j) n ≡ Some f → i < n → is_keyless_source r j i ≡ true → entry_places r i ≡ entry_places r f

-- incomplete columns say nothing
abbrev pub AreSources : PlainRecording → ℕ → SourceColumns → Type 0
AreSources r n x = x.whole ≡ true → AreColumns r n x

-- entry i takes up a request and has no receipt
unfoldable pub is_unreceived : PlainRecording → SourceColumns → ℕ → Bool
is_unreceived r x i = is_some (pair_of r i) && is_none (entry_in x.first.items i)

-- columns are complete: they have the first and the last receipt of each entry that takes up a request
pub record AreWhole (r : PlainRecording) (x : SourceColumns) : Type 0 where
  pub tells : AreColumns r (length r.entries) x
  pub each : (i : ℕ) → is_some (pair_of r i) ≡ true → is_some (entry_in x.first.items i) ≡ true

-- AN ANSWER IN THESE BYTES: entry i sends them, at any station, and takes up a request
abbrev pub IsAnswerIn : PlainRecording → ℕ → List ℕ → Type 0
IsAnswerIn r i b = ((t : ℕ) × (bytes_sent r t i ≡ Some b)) × (is_some (pair_of r i) ≡ true)
