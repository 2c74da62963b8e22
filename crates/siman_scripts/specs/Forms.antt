-- The forms of lines as a table: the name of each, and what may follow at the places behind it (profile).
use Rattle.std.specs.Prelude.{ℕ, Bool, nat_lt, nat_le, List, [], ◌∷◌, codes, find, slice_index_or, Option, Some, None, is_some, if◌then◌else◌}
use Rattle.std.specs.Str.{bytes_eq}
use Rattle.exercise_model.specs.Station.{is_entity}
use Rattle.siman_scripts.specs.declared.form.LineForm.{LineForm}
use Rattle.siman_scripts.specs.declared.form.LineForm.TheVariants as forms
use Rattle.siman_scripts.specs.declared.form.Next.{Next}
use Rattle.siman_scripts.specs.declared.form.Next.TheVariants.{Needed, Optional, End}
use Rattle.siman_scripts.specs.declared.word_kind.WordKind.{WordKind}
use Rattle.siman_scripts.specs.declared.word_kind.WordKind.TheVariants as kinds
use Rattle.byte_files.specs.Text.{number_to, ◌>>=◌}
use Rattle.siman_scripts.specs.Statement.{address_of, target_of, value_of, state_of, number_named}

-- the number of an entity that a station may open with
abbrev pub entity_of : List ℕ → Option ℕ
entity_of word = do
  entity ← number_to 65535 word
  if is_entity entity then Some entity else None

-- T of `tries=T`, at least 1
abbrev pub tries_of : List ℕ → Option ℕ
tries_of word = do
  tries ← number_named (codes "tries") word
  if nat_le 1 tries then Some tries else None

-- W of `wait=W`
abbrev pub wait_of : List ℕ → Option ℕ
wait_of word = do
  long ← value_of (codes "wait") word
  number_to 18446744073709551615 long

-- a word is of a kind
abbrev pub fits : WordKind → List ℕ → Bool
fits (kinds.Number largest) word = is_some (number_to largest word)
fits kinds.Address word = is_some (address_of word)
fits kinds.Receiver word = is_some (target_of word)
fits kinds.Entity word = is_some (entity_of word)
fits kinds.State word = is_some (state_of word)
fits kinds.FirstId word = is_some (number_named (codes "first") word)
fits kinds.Tries word = is_some (tries_of word)
fits kinds.Wait word = is_some (wait_of word)

-- the name with which the lines of a form begin
abbrev pub form_name : LineForm → List ℕ
form_name forms.Exercise = codes "exercise"
form_name forms.Station = codes "station"
form_name forms.At = codes "at"
form_name forms.Opening = codes "opening"
form_name forms.Fixed = codes "fixed"
form_name forms.Action = codes "action"
form_name forms.Deliver = codes "deliver"
form_name forms.Tick = codes "tick"
form_name forms.Tell = codes "tell"
form_name forms.Do = codes "do"
form_name forms.Query = codes "query"
form_name forms.Set = codes "set"
form_name forms.Create = codes "create"
form_name forms.Remove = codes "remove"
form_name forms.Start = codes "start"
form_name forms.Stop = codes "stop"

abbrev pub all_forms : List LineForm
all_forms =
    forms.Exercise ∷ forms.Station ∷ forms.At ∷ forms.Opening ∷ forms.Fixed ∷ forms.Action ∷ forms.Deliver ∷ forms.Tick ∷ forms.Tell ∷ forms.Do ∷ forms.Query ∷ forms.Set ∷ forms.Create ∷ forms.Remove ∷ forms.Start ∷ forms.Stop ∷ []

-- the form whose lines begin with this name, if any
abbrev pub form_named : List ℕ → Option LineForm
form_named name = find (λ form. bytes_eq name (form_name form)) all_forms

abbrev pub bits_32 : Next
bits_32 = Needed (kinds.Number 4294967295)

-- THE TABLE OF FORMS: what may follow at the first four places behind the name
abbrev pub row : LineForm → List Next
row forms.Exercise = Needed (kinds.Number 255) ∷ End ∷ End ∷ End ∷ []
row forms.Station = Needed kinds.Address ∷ Optional kinds.FirstId ∷ Needed kinds.Tries ∷ Needed kinds.Wait ∷ []
row forms.At = Needed (kinds.Number 18446744073709551615) ∷ End ∷ End ∷ End ∷ []
row forms.Opening = Needed kinds.Address ∷ Needed kinds.Entity ∷ Needed kinds.State ∷ End ∷ []
row forms.Fixed = Needed kinds.Address ∷ bits_32 ∷ bits_32 ∷ End ∷ []
row forms.Action = Needed kinds.Address ∷ bits_32 ∷ End ∷ End ∷ []
row forms.Deliver = bits_32 ∷ Needed kinds.Address ∷ End ∷ End ∷ []
row forms.Tick = Needed kinds.Address ∷ End ∷ End ∷ End ∷ []
row forms.Tell = Needed kinds.Address ∷ Needed (kinds.Number 65535) ∷ End ∷ End ∷ []
row forms.Do = Needed kinds.Address ∷ Needed kinds.Receiver ∷ bits_32 ∷ End ∷ []
row forms.Query = Needed kinds.Address ∷ Needed kinds.Receiver ∷ bits_32 ∷ Optional (kinds.Number 4294967295) ∷ []
row forms.Set = Needed kinds.Address ∷ Needed kinds.Receiver ∷ bits_32 ∷ bits_32 ∷ []
row forms.Create = Needed kinds.Address ∷ Needed kinds.Receiver ∷ End ∷ End ∷ []
row forms.Remove = Needed kinds.Address ∷ Needed kinds.Receiver ∷ End ∷ End ∷ []
row forms.Start = Needed kinds.Address ∷ Needed kinds.Receiver ∷ End ∷ End ∷ []
row forms.Stop = Needed kinds.Address ∷ Needed kinds.Receiver ∷ End ∷ End ∷ []

-- what may follow after the first four places: a query may go on
abbrev pub beyond : LineForm → Next
beyond forms.Query = Optional (kinds.Number 4294967295)
beyond _ = End

-- what may follow at a place behind the name
abbrev pub next_word : LineForm → ℕ → Next
next_word form place = if nat_lt place 4 then slice_index_or (row form) place End else beyond form
