-- Counts of receipts of each sent datagram (profile).
use Rattle.std.specs.Prelude.{ℕ, length}
use Rattle.exercise_model.specs.Recording.{PlainRecording}
use Rattle.exercise_findings.specs.Source.{source_of}
use Rattle.exercise_review.specs.Counted.{count_at}

-- THE NUMBER OF RECEIPTS OF ENTRY j: how many entries have it as their source
unfoldable pub receipts_of : PlainRecording → ℕ → ℕ
receipts_of r j = count_at (source_of r) j (length r.entries)
