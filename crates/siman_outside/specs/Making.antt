-- How a command makes a file (profile).
use Rattle.std.specs.Prelude.{◌≡◌, ◌⊎◌, ℕ, Bool, List, [], ◌∷◌, string_bytes, Option, Result, Ok, Err}
use Rattle.std.specs.Io.KnownBytes.{Appends, Keeps}
use Rattle.byte_files.specs.Writing.{WritesPart}
use Rattle.std.specs.declared.io.ErrorKind.{ErrorKind}
use Rattle.std.specs.declared.io.ErrorKind.TheVariants.{AlreadyExists}
use Rattle.siman_outside.specs.Ending.{IsFaultOf}
use Rattle.siman_outside.specs.declared.fault.Fault.{Fault}
use Rattle.siman_outside.specs.declared.fault.Fault.TheVariants.{Output, Exists}
use Rattle.siman_outside.specs.declared.product.Product.{Product}
use Rattle.siman_outside.specs.declared.product.Product.TheVariants.{File, Nothing}
use Rattle.siman_outside.specs.Outside.{Deed, Saved, Makes, Saves, Discards, Stream}

-- the result of a command: its status, or its fault
abbrev pub Answered : Type 0
Answered = Result ℕ Fault

-- A FILE IS SETTLED BEFORE ITS ANSWER GOES OUT: with a status it is settled as it stands, and with a fault too, unless nothing of the answer is out
abbrev pub IsSettledFirst : Answered → (settled left : Option (List ℕ)) → (out : Stream) → Type 0
IsSettledFirst (Ok status) settled left out = settled ≡ left
IsSettledFirst (Err fault) settled left out = (settled ≡ left) ⊎ Keeps out.old out.new

-- the same of a file that is written here, unless nothing was written to it
abbrev pub SettlesFirst : Answered → (settled : Option (List ℕ)) → (file out : Stream) → Type 0
SettlesFirst (Ok status) settled file out = settled ≡ file.new
SettlesFirst (Err fault) settled file out = IsSettledFirst (Err fault) settled file.new out ⊎ Keeps file.old file.new

-- Once the file is settled a line was written, with status 0, or a prefix of it; the file is unchanged.
abbrev pub PutsSettled : (line : List ℕ) → Answered → (file out : Stream) → Type 0
PutsSettled line (Ok status) file out = (status ≡ 0) × Keeps file.old file.new × Appends out.old out.new line
PutsSettled line (Err fault) file out = (fault ≡ Output) × Keeps file.old file.new × WritesPart out.old out.new line

-- A failed write leaves a prefix of the file and no line, or the whole file and a prefix of the line.
abbrev pub WritesShort : (first second : List ℕ) → (file out : Stream) → Type 0
WritesShort first second file out =
    (WritesPart file.old file.new first × Keeps out.old out.new)
    ⊎ (Appends file.old file.new first × WritesPart out.old out.new second)

-- Two texts were written, the first whole to a file before the second, or a write failed.
abbrev pub PutsBoth : (first second : List ℕ) → Result ℕ Fault → (file out : Stream) → Type 0
PutsBoth first second (Ok status) file out =
    (status ≡ 0) × Appends file.old file.new first × Appends out.old out.new second
PutsBoth first second (Err fault) file out = (fault ≡ Output) × WritesShort first second file out

-- THE ANSWER WHERE THERE IS NOTHING TO MAKE: a text that says why, as the blocked list, with status 1, or a prefix of it
abbrev pub PutsBlocked : (list : List ℕ) → Result ℕ Fault → (out : Stream) → Type 0
PutsBlocked list (Ok status) out = (status ≡ 1) × Appends out.old out.new list
PutsBlocked list (Err fault) out = (fault ≡ Output) × WritesPart out.old out.new list

-- A file that was not made or not saved is reported as a failed write, or as lack of memory.
abbrev pub ReportsUnmade : ErrorKind → Answered → Stream → Type 0
ReportsUnmade kind answered out = Keeps out.old out.new × ((fault : Fault) × IsFaultOf kind Output fault × (answered ≡ Err fault))

-- the fault of a file that was not saved: its name is taken meanwhile, or something else
abbrev pub saving_fault : ErrorKind → Fault
saving_fault AlreadyExists = Exists
saving_fault kind = Output

-- The status is returned if the file was saved.
abbrev pub AnswersSaved : Saved → (status : ℕ) → Answered → Type 0
AnswersSaved (Ok x) status answered = answered ≡ Ok status
AnswersSaved (Err kind) status answered = (fault : Fault) × IsFaultOf kind (saving_fault kind) fault × (answered ≡ Err fault)

-- AFTER AN ANSWER THE FILE IS SAVED, with its content, all of which is settled, and after a fault it is discarded
abbrev pub IsSaved : (left : Option (List ℕ)) → (put : Answered) → Deed → Answered → Type 0
IsSaved left (Ok status) deed answered = (saved : Saved) × (deed ≡ Saves left left saved) × AnswersSaved saved status answered
IsSaved left (Err fault) deed answered = (deed ≡ Discards left) × (answered ≡ Err fault)

-- A FILE IS MADE, which replaces an existing one or not, written and reported as `Puts` says, and then saved or discarded
abbrev pub MakesFile : (Puts : Answered → (file out : Stream) → Type 0) → (force : Bool) → (name : List ℕ) → List Deed → Answered → Stream → Type 0
MakesFile Puts force name (Makes made replaces (Err kind) ∷ []) answered out = (made ≡ name) × (replaces ≡ force) × ReportsUnmade kind answered out
MakesFile Puts force name (Makes made replaces (Ok fresh) ∷ deed ∷ []) answered out =
    (made ≡ name) × (replaces ≡ force) × ((left : Option (List ℕ)) × (put : Answered) × (let file : Stream = record { old = fresh; new = left } in Puts put file out) × IsSaved left put deed answered)
MakesFile Puts force name deeds answered out = ⊥

-- ---- products

-- WHAT A COMMAND MADE IS WRITTEN to a file that is there: as `Puts` says, or else the text of the answer, and the file is unchanged
abbrev pub PutsProduct : {M : Type 0} → (Puts : M → Answered → (file out : Stream) → Type 0) → Product M → Answered → (file out : Stream) → Type 0
PutsProduct Puts (File made) answered file out = Puts made answered file out
PutsProduct Puts (Nothing text) answered file out = Keeps file.old file.new × PutsBlocked (string_bytes text) answered out

-- ITS FILE IS MADE, or else no file is made, and the text of the answer is written
abbrev pub MakesProduct : {M : Type 0} → (Puts : M → Answered → (file out : Stream) → Type 0) → Product M → (force : Bool) → (name : List ℕ) → List Deed → Answered → Stream → Type 0
MakesProduct Puts (File made) force name deeds answered out = MakesFile (Puts made) force name deeds answered out
MakesProduct Puts (Nothing text) force name deeds answered out = (deeds ≡ []) × PutsBlocked (string_bytes text) answered out

-- A product is read from a file with these bytes, if they are known, and written; or nothing is, after a fault.
abbrev pub PutsOfFile : {M : Type 0} → (Reads : Option (List ℕ) → Result (Product M) Fault → Type 0) → (Puts : M → Answered → (file out : Stream) → Type 0)
    → (known : Option (List ℕ)) → Answered → (file out : Stream) → Type 0
PutsOfFile {M} Reads Puts known answered file out =
    ((fault : Fault) × Reads known (Err fault) × (answered ≡ Err fault) × Keeps file.old file.new × Keeps out.old out.new)
    ⊎ ((product : Product M) × Reads known (Ok product) × PutsProduct Puts product answered file out)
