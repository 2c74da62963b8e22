-- The files that a command opens which says something of one file, or of two (profile).
use Rattle.std.specs.Prelude.{◌≡◌, ℕ, List, [], ◌∷◌, Option, Result, Ok, Err}
use Rattle.siman_outside.specs.declared.fault.Fault.{Fault}
use Rattle.siman_outside.specs.Opening.{ReportsUnopened}
use Rattle.siman_outside.specs.Outside.{Stream, Deed, Opens, Reads}

-- ONE FILE IS OPENED and read, and `Says` relates its bytes to the answer
abbrev pub SaysOfFile : {A : Type 0} → (Says : Option (List ℕ) → Result A Fault → Stream → Type 0) → (name : List ℕ) → List Deed → Result A Fault → Stream → Type 0
SaysOfFile Says name (Opens opened (Ok known) ∷ Reads read ∷ []) answered out = (opened ≡ name) × (read ≡ known) × Says known answered out
SaysOfFile Says name (Opens opened (Err kind) ∷ []) answered out = (opened ≡ name) × ReportsUnopened name kind answered out
SaysOfFile Says name deeds answered out = ⊥

-- TWO FILES ARE OPENED in the order of the words before either is read, and `Says` relates their bytes to the answer; if the first cannot be opened, the second is not tried
abbrev pub SaysOfFiles : {A : Type 0} → (Says : (first second : Option (List ℕ)) → Result A Fault → Stream → Type 0) → (name other : List ℕ) → List Deed → Result A Fault → Stream → Type 0
SaysOfFiles Says name other (Opens opened (Err kind) ∷ []) answered out = (opened ≡ name) × ReportsUnopened name kind answered out
SaysOfFiles Says name other (Opens opened (Ok first) ∷ Opens next (Err kind) ∷ []) answered out =
    (opened ≡ name) × (next ≡ other) × ReportsUnopened other kind answered out
SaysOfFiles Says name other (Opens opened (Ok first) ∷ Opens next (Ok second) ∷ Reads one ∷ Reads two ∷ []) answered out =
    (opened ≡ name) × (next ≡ other) × (one ≡ first) × (two ≡ second) × Says first second answered out
SaysOfFiles Says name other deeds answered out = ⊥
