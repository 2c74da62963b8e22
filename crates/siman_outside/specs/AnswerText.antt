-- Answers whose whole text is made before any of it is written (profile).
use Rattle.std.specs.Prelude.{◌≡◌, ◌⊎◌, ℕ, List, Ok, Err}
use Rattle.std.specs.Io.KnownBytes.{Appends, Keeps}
use Rattle.byte_files.specs.Writing.{WritesPart}
use Rattle.siman_outside.specs.declared.fault.Fault.TheVariants.{Output, Memory}
use Rattle.siman_outside.specs.Making.{Answered}
use Rattle.siman_outside.specs.Outside.{Stream}

-- A text was written whole, with its status, or a prefix of it.
abbrev pub PutsAnswer : (text : List ℕ) → (status : ℕ) → Answered → (out : Stream) → Type 0
PutsAnswer text status (Ok answered) out = (answered ≡ status) × Appends out.old out.new text
PutsAnswer text status (Err fault) out = (fault ≡ Output) × WritesPart out.old out.new text

-- THE ANSWER IS A TEXT WITH A STATUS of which this holds; or memory ran out, before anything was written
abbrev pub Answers : (Says : (text : List ℕ) → (status : ℕ) → Type 0) → Answered → (out : Stream) → Type 0
Answers Says answered out =
    ((answered ≡ Err Memory) × Keeps out.old out.new)
    ⊎ ((text : List ℕ) × (status : ℕ) × Says text status × PutsAnswer text status answered out)
