-- How files are opened for reading, while another is to be made (profile).
use Rattle.std.specs.Prelude.{◌≡◌, ◌≢◌, ◌⊎◌, ℕ, Bool, true, false, List, [], ◌∷◌, ◌++◌, codes, Option, Result, Ok, Err}
use Rattle.std.specs.Io.KnownBytes.{Keeps}
use Rattle.std.specs.declared.io.ErrorKind.{ErrorKind}
use Rattle.std.specs.declared.io.ErrorKind.TheVariants.{OutOfMemory}
use Rattle.siman_outside.specs.declared.fault.Fault.{Fault}
use Rattle.siman_outside.specs.declared.fault.Fault.TheVariants.{Exists, Memory}
use Rattle.siman_outside.specs.Ending.{fault_text, reason_of, reason_text}
use Rattle.siman_outside.specs.Making.{Answered}
use Rattle.siman_outside.specs.Outside.{Deed, Opens, Compares, LooksInto, Reads, Stream}

-- the fault of a file that could not be opened: lack of memory, or else `file: NAME: REASON` with the name as it was given
abbrev pub IsOpenFault : List ℕ → ErrorKind → Fault → Type 0
IsOpenFault name kind fault = ((kind ≡ OutOfMemory) × (fault ≡ Memory)) ⊎ ((kind ≢ OutOfMemory) × (fault_text fault ≡ (codes "file: " ++ name) ++ codes ": " ++ reason_text (reason_of kind)))

abbrev pub ReportsUnopened : {A : Type 0} → List ℕ → ErrorKind → Result A Fault → Stream → Type 0
ReportsUnopened name kind answered out = Keeps out.old out.new × ((fault : Fault) × IsOpenFault name kind fault × (answered ≡ Err fault))

-- the fault of an opened file that is the one to be made: `output: same as NAME` with the name of the opened one as it was given
abbrev pub IsSame : List ℕ → Fault → Type 0
IsSame name fault = fault_text fault ≡ codes "output: same as " ++ name

-- what is opened, as contracts see it
abbrev pub seen_as : {F X : Type 0} → (F → X) → Result F Fault → Result X Fault
seen_as see (Ok opened) = Ok (see opened)
seen_as see (Err fault) = Err fault

-- A FILE IS OPENED that is not the one to be made; otherwise nothing is read
abbrev pub OpensInput : (name made : List ℕ) → List Deed → Result (Option (List ℕ)) Fault → Type 0
OpensInput name made deeds (Ok bytes) = deeds ≡ Opens name (Ok bytes) ∷ Compares made false ∷ []
OpensInput name made deeds (Err fault) =
    ((kind : ErrorKind) × (deeds ≡ Opens name (Err kind) ∷ []) × IsOpenFault name kind fault)
    ⊎ ((bytes : Option (List ℕ)) × (deeds ≡ Opens name (Ok bytes) ∷ Compares made true ∷ []) × IsSame name fault)

-- the bytes of two opened files, if they are known
abbrev pub Both : Type 0
Both = Option (List ℕ) × Option (List ℕ)

abbrev pub both : {F : Type 0} → (F → Option (List ℕ)) → F × F → Both
both bytes files = (bytes files.0, bytes files.1)

-- BOTH FILES ARE OPENED in the order of the words, neither of which is the one to be made; otherwise nothing is read, and the second is not opened if the first could not be
abbrev pub OpensInputs : (name other made : List ℕ) → List Deed → Result Both Fault → Type 0
OpensInputs name other made deeds (Ok bytes) =
    deeds ≡ Opens name (Ok bytes.0) ∷ Compares made false ∷ Opens other (Ok bytes.1) ∷ Compares made false ∷ []
OpensInputs name other made deeds (Err fault) =
    OpensInput name made deeds (Err fault)
    ⊎ ((first : Option (List ℕ)) × (last : List Deed) × (deeds ≡ (Opens name (Ok first) ∷ Compares made false ∷ []) ++ last) × OpensInput other made last (Err fault))

-- ---- the file under the name of the one to be made

-- the look for a file to replace, which is left out under `force`
abbrev pub looks_into : (force : Bool) → (made : List ℕ) → List Deed
looks_into true made = []
looks_into false made = LooksInto made false ∷ []

-- AN EXISTING FILE IS SPARED: it is reported, unless it is to be replaced
abbrev pub Spares : (force : Bool) → (made : List ℕ) → List Deed → Result (Unit {0}) Fault → Type 0
Spares force made deeds (Ok x) = deeds ≡ looks_into force made
Spares force made deeds (Err fault) = (force ≡ false) × (deeds ≡ LooksInto made true ∷ []) × (fault ≡ Exists)

-- What was opened is kept if there is no file to spare; if nothing was opened, there is no look for one.
abbrev pub IfFree : {B : Type 0} → (force : Bool) → (made : List ℕ) → (opened : Result B Fault) → List Deed → Result B Fault → Type 0
IfFree force made (Ok b) deeds (Ok kept) = (kept ≡ b) × Spares force made deeds (Ok tt)
IfFree force made (Ok b) deeds (Err fault) = Spares force made deeds (Err fault)
IfFree force made (Err why) deeds result = (deeds ≡ []) × (result ≡ Err why)

-- INPUTS ARE OPENED as `Opening` says, and then an existing file is spared
abbrev pub OpensSparing : {B : Type 0} → (Opening : List Deed → Result B Fault → Type 0) → (force : Bool) → (made : List ℕ) → List Deed → Result B Fault → Type 0
OpensSparing {B} Opening force made deeds result =
    (first last : List Deed) × (opened : Result B Fault) × Opening first opened × IfFree force made opened last result × (deeds ≡ first ++ last)

-- ---- one file made of others

-- A FILE IS OPENED, a value is read from it, and another file is made of the value; or the fault is returned, of a file that is not opened or cannot be read as such a value
abbrev pub WorksOn : {A : Type 0} → (Gives : Option (List ℕ) → Result A Fault → Type 0) → (Makes : A → (made : List ℕ) → List Deed → Answered → Stream → Type 0)
    → (name made : List ℕ) → List Deed → Answered → Stream → Type 0
WorksOn {A} Gives Makes name made deeds answered out =
    ((fault : Fault) × OpensInput name made deeds (Err fault) × (answered ≡ Err fault) × Keeps out.old out.new)
    ⊎ ((known : Option (List ℕ)) × (fault : Fault) × (deeds ≡ Opens name (Ok known) ∷ Compares made false ∷ Reads known ∷ []) × Gives known (Err fault)
    × (answered ≡ Err fault) × Keeps out.old out.new)
    ⊎ ((known : Option (List ℕ)) × (rest : List Deed) × (a : A) × (deeds ≡ Opens name (Ok known) ∷ Compares made false ∷ Reads known ∷ rest) × Gives known (Ok a)
    × Makes a made rest answered out)

-- INPUTS ARE OPENED, and an existing file is spared; then a value is read from them all, and a file is made of it; or the first fault is returned
abbrev pub MakesOf : {B A : Type 0} → (Opening : List Deed → Result B Fault → Type 0) → (reading : B → List Deed) → (Gives : B → Result A Fault → Type 0)
    → (Makes : A → List Deed → Answered → Stream → Type 0) → List Deed → Answered → Stream → Type 0
MakesOf {B} {A} Opening reading Gives Makes deeds answered out =
    ((fault : Fault) × Opening deeds (Err fault) × (answered ≡ Err fault) × Keeps out.old out.new)
    ⊎ ((first : List Deed) × (b : B) × (fault : Fault) × Opening first (Ok b) × Gives b (Err fault) × (deeds ≡ first ++ reading b) × (answered ≡ Err fault) × Keeps out.old out.new)
    ⊎ ((first rest : List Deed) × (b : B) × (a : A) × Opening first (Ok b) × Gives b (Ok a) × (deeds ≡ first ++ (reading b ++ rest)) × Makes a rest answered out)

-- ONE FILE IS MADE OF ANOTHER, which is not the one to be made
abbrev pub MakesOfFile : {A : Type 0} → (Gives : Option (List ℕ) → Result A Fault → Type 0) → (Makes : A → (force : Bool) → (made : List ℕ) → List Deed → Answered → Stream → Type 0)
    → (force : Bool) → (name made : List ℕ) → List Deed → Answered → Stream → Type 0
MakesOfFile Gives Makes force name made =
    MakesOf (OpensSparing (OpensInput name made) force made) (λ known. Reads known ∷ []) Gives (λ a. Makes a force made)

-- ONE FILE IS MADE OF TWO, neither of which is the one to be made, and both of which are opened before either is read
abbrev pub MakesOfFiles : {A : Type 0} → (Gives : (first second : Option (List ℕ)) → Result A Fault → Type 0) → (Makes : A → (force : Bool) → (made : List ℕ) → List Deed → Answered → Stream → Type 0)
    → (force : Bool) → (name other made : List ℕ) → List Deed → Answered → Stream → Type 0
MakesOfFiles Gives Makes force name other made =
    MakesOf (OpensSparing (OpensInputs name other made) force made) (λ known. Reads known.0 ∷ Reads known.1 ∷ []) (λ known. Gives known.0 known.1) (λ a. Makes a force made)
