-- The surroundings of a program and its calls there: the files that it opens, makes, saves, discards and closes, and the links that it opens, in their order.
use Rattle.std.specs.Prelude.{◌≡◌, ◌⊎◌, ⊤, ℕ, Bool, List, [], ◌++◌, length, Vec, Option, Some, None, IfSome, option_map, Result, Ok, Err}
use Rattle.std.specs.declared.alloc.Global.{Global}
use Rattle.std.specs.IoError.{error_kind}
use Rattle.std.specs.List.{All}
use Rattle.std.specs.declared.io.Error.{Error}
use Rattle.std.specs.declared.io.ErrorKind.{ErrorKind}
use Rattle.std.specs.declared.io.ErrorKind.TheVariants.{OutOfMemory}
use Rattle.siman_outside.specs.declared.commands.Listening.{Listening}
use Rattle.siman_outside.specs.declared.ending.Ending.{Ending}
use Rattle.siman_outside.specs.declared.endpoint.Endpoint.{Endpoint}
use Rattle.siman_outside.specs.declared.fault.Ended.{Ended}
use Rattle.siman_outside.specs.declared.fault.Fault.{Fault}

-- A reader has these bytes; if its bytes are not known, these may be any.
abbrev pub Has : (known : Option (List ℕ)) → (bytes : List ℕ) → Type 0
Has known bytes = IfSome known (λ all. bytes ≡ all)

-- WHAT IS SAID OF THE BYTES OF A READER: it holds of these bytes, or of some if they are not known.
abbrev pub Given : (known : Option (List ℕ)) → (Says : List ℕ → Type 0) → Type 0
Given known Says = (bytes : List ℕ) × Has known bytes × Says bytes

-- the bytes on a writer before and after a call, if they are known
pub record Stream : Type 0 where
  pub old : Option (List ℕ)
  pub new : Option (List ℕ)

abbrev pub stream : (old new : Option (List ℕ)) → Stream
stream old new = record { old = old; new = new }

-- the outcome of a command: its ending, the fault to explain, the recording that it began before that fault, and the writer of answers and the writer of faults before and after
pub record Outcome : Type 0 where
  pub ended : Ended
  pub fault : Option Fault
  pub begun : Option (List ℕ)
  pub out : Stream
  pub errors : Stream

-- the name of the recording that a command began before its fault
abbrev pub begun_by : Ending → Option (List ℕ)
begun_by ending = option_map (λ name. name.now) ending.begun

-- the outcome of an ending, with the writers
abbrev pub outcome_of : Ending → (out errors : Stream) → Outcome
outcome_of ending out errors = record { ended = ending.ended; fault = ending.fault; begun = begun_by ending; out = out; errors = errors }

-- the bytes of a file that was opened or made, if they are known, or the error
abbrev pub Found : Type 0
Found = Result (Option (List ℕ)) ErrorKind

abbrev pub found_by : {F : Type 0} → (F → Option (List ℕ)) → Result F Error → Found
found_by remaining (Ok file) = Ok (remaining file)
found_by remaining (Err error) = Err (error_kind error)

-- whether a file was saved, or the error
abbrev pub Saved : Type 0
Saved = Result (Unit {0}) ErrorKind

abbrev pub save_result : Result (Unit {0}) Error → Saved
save_result (Ok x) = Ok x
save_result (Err error) = Err (error_kind error)

-- whether a call succeeded, or the error
abbrev pub call_result : {F : Type 0} → Result F Error → Saved
call_result (Ok x) = Ok tt
call_result (Err error) = Err (error_kind error)

-- the number of items, or the error
abbrev pub count_result : {F : Type 0} → Result (Vec F Global) Error → Result ℕ ErrorKind
count_result (Ok items) = Ok (length items.items)
count_result (Err error) = Err (error_kind error)

pub data Deed : Type 0 where
  -- The file of a name was opened for reading.
  Opens : (name : List ℕ) → Found → Deed
  -- A call asked whether the regular file of a name is the one that was opened last.
  Compares : (name : List ℕ) → Bool → Deed
  -- An opened file with these bytes, if they are known, is read from here on.
  Reads : Option (List ℕ) → Deed
  -- A call asked whether a name has a file that a new one would have to replace.
  LooksInto : (name : List ℕ) → Bool → Deed
  -- A file was made that is to take a name and replaces an existing one or not; it was saved with these bytes, of which these are settled on the disk, if they are known, or discarded.
  Makes : (name : List ℕ) → (force : Bool) → Found → Deed
  Saves : Option (List ℕ) → (settled : Option (List ℕ)) → Saved → Deed
  Discards : Option (List ℕ) → Deed
  -- A call asked whether a name is taken.
  LooksFor : (name : List ℕ) → Bool → Deed
  -- A call asked for the links of so many stations, and returned this number of them or the error.
  Lines : (stations : ℕ) → Result ℕ ErrorKind → Deed
  -- A call asked for a link whose socket is bound to `bind` and which sends to these peers and hears whom and what it is to hear; it succeeded, or this is the error.
  Binds : (bind : Endpoint) → (peers : List Endpoint) → Listening → Saved → Deed
  -- A file was created under a name; it was left with these bytes, if they are known, and they are settled on the disk, or not.
  Creates : (name : List ℕ) → Found → Deed
  Leaves : Option (List ℕ) → Saved → Deed

-- The calls are appended to the calls before, if those are known.
abbrev pub Adds : Option (List Deed) → Option (List Deed) → List Deed → Type 0
Adds None after deeds = ⊤
Adds (Some before) None deeds = ⊥
Adds (Some before) (Some after) deeds = after ≡ before ++ deeds

-- The result is that of the file held under the name, if it is known, or memory ran out.
abbrev pub IsHeld : Option Found → Found → Type 0
IsHeld None found = ⊤
IsHeld (Some held) found = (found ≡ held) ⊎ (found ≡ Err OutOfMemory)

-- A made file has no bytes yet, if its bytes are known.
abbrev pub IsFresh : Found → Type 0
IsFresh (Ok None) = ⊤
IsFresh (Ok (Some bytes)) = bytes ≡ []
IsFresh (Err kind) = ⊤

abbrev pub WasHeld : (List ℕ → Option Found) → Deed → Type 0
WasHeld holds (Opens name found) = IsHeld (holds name) found
WasHeld holds (Makes name force made) = IsFresh made
WasHeld holds (Creates name made) = IsFresh made
WasHeld holds other = ⊤

-- WHAT WAS DONE OUTSIDE between two states: the calls of which this is said are appended to those before, and each file that they opened was the one held under its name
abbrev pub Did : {O : Type 0} → (deeds_of : O → Option (List Deed)) → (holds_of : O → List ℕ → Option Found) → (old new : O) → (Says : List Deed → Type 0) → Type 0
Did deeds_of holds_of old new Says =
    (deeds : List Deed) × Adds (deeds_of old) (deeds_of new) deeds × All (WasHeld (holds_of old)) deeds × Says deeds

-- the same of calls that open no file, whatever files are held
abbrev pub DidMake : {O : Type 0} → (deeds_of : O → Option (List Deed)) → (old new : O) → (Says : List Deed → Type 0) → Type 0
DidMake deeds_of old new Says =
    (deeds : List Deed) × Adds (deeds_of old) (deeds_of new) deeds × ((holds : List ℕ → Option Found) → All (WasHeld holds) deeds) × Says deeds
