-- What was passed on of a recording's text.
use Rattle.std.proofs.Common.{ℕ, List, [], Option, Result, Ok, Err, refl, inl, inr}
use Rattle.exercise_model.specs.Recording.{PlainRecording}
use Rattle.siman_outside.specs.declared.fault.Fault.{Fault}
use Rattle.siman_outside.specs.Outside.{stream}
use Rattle.siman_outside.specs.Passing.{Gives, PassesOn, PrintsText, shown_status}
use Rattle.siman_outside.proofs.Passings.{passed-whole}

-- the text of a recording that was read
pub gives_passed : (text : PlainRecording → List ℕ) (r : PlainRecording) (shown : Result (Unit {0}) Fault) (old new : Option (List ℕ))
    → PassesOn shown old new [] (text r) → Gives text (Ok r) shown old new
gives_passed text r (Ok x) old new passed = (r, refl, passed-whole old new (text r) passed)
gives_passed text r (Err fault) old new (inl e, part) = rw e (r, refl, part)
gives_passed text r (Err fault) old new (inr e, part) = rw e (inr (r, refl, part))

-- a text that was passed on is printed
pub prints_passed : (text : List ℕ) (shown : Result (Unit {0}) Fault) (old new : Option (List ℕ)) → PassesOn shown old new [] text
    → PrintsText text (shown_status shown) (stream old new)
prints_passed text (Ok x) old new passed = (refl, passed-whole old new text passed)
prints_passed text (Err fault) old new passed = passed
