-- The replies of a station that the maker of an order heard, found from these replies (profile).
use Rattle.std.specs.Prelude.{ℕ, length, Bool, false, nat_le, Option, Some, None, option_and_then, if◌then◌else◌}
use Rattle.std.specs.Option.{option_map_or}
use Rattle.exercise_model.specs.Recording.{PlainRecording}
use Rattle.exercise_model.specs.Place.{first_below}
use Rattle.exercise_review.specs.Counted.{last_below}
use Rattle.exercise_review.specs.Entries.{bytes_sent}
use Rattle.exercise_review.specs.Heard.{gets_in}

-- station s receives at entry i the datagram that station t sends at entry j
abbrev pub hears_at : PlainRecording → (s t j i : ℕ) → Bool
hears_at r s t j i = option_map_or (λ b. gets_in r s b i) (bytes_sent r t j) false

-- the first entry at which it does, and the last
abbrev pub first_heard : PlainRecording → (s t j : ℕ) → Option ℕ
first_heard r s t j = option_and_then (λ b. first_below (gets_in r s b) (length r.entries)) (bytes_sent r t j)

abbrev pub last_heard : PlainRecording → (s t j : ℕ) → Option ℕ
last_heard r s t j = option_and_then (λ b. last_below (gets_in r s b) (length r.entries)) (bytes_sent r t j)

-- the earlier and the later of two entries, either of which may be missing
abbrev pub earlier : Option ℕ → Option ℕ → Option ℕ
earlier None other = other
earlier (Some i) None = Some i
earlier (Some i) (Some j) = if nat_le i j then Some i else Some j

abbrev pub later : Option ℕ → Option ℕ → Option ℕ
later None other = other
later (Some i) None = Some i
later (Some i) (Some j) = if nat_le i j then Some j else Some i
