-- The statement of a line of a script: its forms, word by word (profile).
use Rattle.std.specs.Prelude.{ℕ, Bool, true, ◌==◌, nat_le, List, [], ◌∷◌, codes, Option, Some, None, if◌then◌else◌}
use Rattle.std.specs.Str.{bytes_eq}
use Rattle.dis_records.specs.declared.address.SiteApplication.{SiteApplication}
use Rattle.dis_records.specs.Address.{is_address}
use Rattle.dis_records.specs.declared.clock_time.ClockTime.{ClockTime}
use Rattle.dis_records.specs.declared.datum.FixedDatum.{FixedDatum}
use Rattle.dis_records.specs.declared.entity.EntityId.{EntityId}
use Rattle.dis_records.specs.declared.entity_state.EntityState.{EntityState}
use Rattle.dis_records.specs.declared.entity_state.EntityState.TheVariants as states
use Rattle.siman_pdus.specs.declared.pdu.Body.{Body}
use Rattle.siman_pdus.specs.declared.pdu.Body.TheVariants as bodies
use Rattle.exercise_model.specs.Station.{is_entity}
use Rattle.siman_scripts.specs.declared.act.Act.{Act}
use Rattle.siman_scripts.specs.declared.act.Act.TheVariants.{Command, Deliver, Tick, Tell}
use Rattle.siman_scripts.specs.declared.statement.ManagerRules.{ManagerRules}
use Rattle.siman_scripts.specs.declared.statement.Statement.{Statement}
use Rattle.siman_scripts.specs.declared.statement.Statement.TheVariants as says
use Rattle.byte_files.specs.Text.{is_ascii, words_of, cut_at, number_to, ◌>>=◌}

-- Words.

-- `S:A`, the address of a station: each number in 1 to 65534
abbrev pub address_of : List ℕ → Option SiteApplication
address_of word = do
  p ← cut_at 58 word
  site ← number_to 65535 p.0
  application ← number_to 65535 p.1
  if is_address (record { site = site; application = application }) then Some (record { site = site; application = application }) else None

-- `S:A:E`, a receiving identifier: each number in 0 to 65535
abbrev pub target_of : List ℕ → Option EntityId
target_of word = do
  p ← cut_at 58 word
  q ← cut_at 58 p.1
  site ← number_to 65535 p.0
  application ← number_to 65535 q.0
  entity ← number_to 65535 q.1
  Some (record { site = site; application = application; entity = entity })

-- the value of a word `NAME=VALUE`
abbrev pub value_of : List ℕ → List ℕ → Option (List ℕ)
value_of name word = do
  p ← cut_at 61 word
  if bytes_eq p.0 name then Some p.1 else None

abbrev pub state_of : List ℕ → Option EntityState
state_of word =
    if bytes_eq word (codes "stopped") then Some states.Stopped
    else if bytes_eq word (codes "running") then Some states.Running
    else None

-- the numbers that some words spell, each of 32 bits
abbrev pub numbers_of : List (List ℕ) → Option (List ℕ)
numbers_of [] = Some []
numbers_of (w ∷ ws) = do
  n ← number_to 4294967295 w
  ns ← numbers_of ws
  Some (n ∷ ns)

-- `ID VALUE`, a fixed datum
abbrev pub datum_of : List (List ℕ) → Option FixedDatum
datum_of (i ∷ v ∷ []) = do
  id ← number_to 4294967295 i
  value ← number_to 4294967295 v
  Some (record { id = id; value = value })
datum_of words = None

-- The forms of the exercise and its stations, by the words after the first.

-- `exercise X`
abbrev pub exercise_form : List (List ℕ) → Option Statement
exercise_form (x ∷ []) = do
  n ← number_to 255 x
  Some (says.Exercise n)
exercise_form words = None

-- the number of 32 bits in a word `NAME=NUMBER`
abbrev pub number_named : List ℕ → List ℕ → Option ℕ
number_named name word = do
  value ← value_of name word
  number_to 4294967295 value

-- the rules of a manager: `first=F tries=T wait=W`, T at least 1, or nothing, which means first=1 tries=3 wait=10
abbrev pub rules_of : List (List ℕ) → Option ManagerRules
rules_of [] = Some (record { first_id = 1; tries = 3; wait = 10 })
rules_of (f ∷ t ∷ w ∷ []) = do
  first_id ← number_named (codes "first") f
  tries ← number_named (codes "tries") t
  long ← value_of (codes "wait") w
  wait ← number_to 18446744073709551615 long
  if nat_le 1 tries then Some (record { first_id = first_id; tries = tries; wait = wait }) else None
rules_of words = None

-- `station S:A` and the rules of its manager
abbrev pub station_form : List (List ℕ) → Option Statement
station_form [] = None
station_form (s ∷ words) = do
  a ← address_of s
  rules ← rules_of words
  Some (says.Station a rules)

-- `opening S:A E STATE`
abbrev pub opening_form : List (List ℕ) → Option Statement
opening_form (s ∷ e ∷ y ∷ []) = do
  a ← address_of s
  entity ← number_to 65535 e
  state ← state_of y
  if is_entity entity then Some (says.Opening a entity state) else None
opening_form words = None

-- `fixed S:A ID VALUE`
abbrev pub fixed_form : List (List ℕ) → Option Statement
fixed_form [] = None
fixed_form (s ∷ words) = do
  a ← address_of s
  datum ← datum_of words
  Some (says.Fixed a datum)

-- `action S:A ID`
abbrev pub action_form : List (List ℕ) → Option Statement
action_form (s ∷ i ∷ []) = do
  a ← address_of s
  id ← number_to 4294967295 i
  Some (says.Action a id)
action_form words = None

-- The forms of moves.

-- `at N`
abbrev pub at_form : List (List ℕ) → Option Statement
at_form (n ∷ []) = do
  now ← number_to 18446744073709551615 n
  Some (says.At now)
at_form words = None

abbrev pub never : ClockTime
never = record { hour = 0; past = 0 }

-- a value, if no words follow
abbrev pub alone : {A : Type 0} → List (List ℕ) → A → Option A
alone [] x = Some x
alone (w ∷ ws) x = None

-- `do S:A TO ACTION`
abbrev pub action_body : List (List ℕ) → Option Body
action_body (x ∷ []) = do
  action ← number_to 4294967295 x
  Some (bodies.ActionRequest 0 action (record { fixed = []; variable = [] }))
action_body words = None

-- `query S:A TO ID ..`, one or more fixed identifiers
abbrev pub query_body : List (List ℕ) → Option Body
query_body [] = None
query_body (w ∷ ws) = do
  ids ← numbers_of (w ∷ ws)
  Some (bodies.DataQuery 0 0 (record { fixed = ids; variable = [] }))

-- `set S:A TO ID VALUE`
abbrev pub set_body : List (List ℕ) → Option Body
set_body words = do
  datum ← datum_of words
  Some (bodies.SetData 0 (record { fixed = datum ∷ []; variable = [] }))

-- the body of a request with no further words, by its name: clock times, reason and behaviour are 0
abbrev pub plain_body : List ℕ → Option Body
plain_body name =
    if bytes_eq name (codes "create") then Some (bodies.CreateEntity 0)
    else if bytes_eq name (codes "remove") then Some (bodies.RemoveEntity 0)
    else if bytes_eq name (codes "start") then Some (bodies.StartResume never never 0)
    else if bytes_eq name (codes "stop") then Some (bodies.StopFreeze never 0 0 0)
    else None

-- the body of a request by its name and the words after the receiver: the interval is 0, and lists that no word names are empty
abbrev pub body_of : List ℕ → List (List ℕ) → Option Body
body_of name words =
    if bytes_eq name (codes "do") then action_body words
    else if bytes_eq name (codes "query") then query_body words
    else if bytes_eq name (codes "set") then set_body words
    else (plain_body name >>= alone words)

-- an order: its receiver `S:A:E`, and the further words of its name
abbrev pub command_act : List ℕ → List (List ℕ) → Option Act
command_act name [] = None
command_act name (to ∷ words) = do
  target ← target_of to
  body ← body_of name words
  Some (Command (record { target = target; body = body }))

-- `tell S:A E`
abbrev pub tell_act : List (List ℕ) → Option Act
tell_act (e ∷ []) = do
  entity ← number_to 65535 e
  Some (Tell entity)
tell_act words = None

-- the act of a station, by the words after its address
abbrev pub act_of : List ℕ → List (List ℕ) → Option Act
act_of name words =
    if bytes_eq name (codes "tick") then alone words Tick
    else if bytes_eq name (codes "tell") then tell_act words
    else command_act name words

-- a move of the station that the first word names
abbrev pub acting_form : List ℕ → List (List ℕ) → Option Statement
acting_form name [] = None
acting_form name (s ∷ words) = do
  a ← address_of s
  act ← act_of name words
  Some (says.Does a act)

-- `deliver K S:A`
abbrev pub deliver_form : List (List ℕ) → Option Statement
deliver_form (k ∷ s ∷ []) = do
  place ← number_to 4294967295 k
  a ← address_of s
  Some (says.Does a (Deliver place))
deliver_form words = None

-- Lines.

-- an entity, a datum or an action of a station, or else a move
abbrev pub station_line : List ℕ → List (List ℕ) → Option Statement
station_line name words =
    if bytes_eq name (codes "opening") then opening_form words
    else if bytes_eq name (codes "fixed") then fixed_form words
    else if bytes_eq name (codes "action") then action_form words
    else if bytes_eq name (codes "deliver") then deliver_form words
    else acting_form name words

-- THE FORMS OF LINES, by their words
abbrev pub form_of : List (List ℕ) → Option Statement
form_of [] = None
form_of (name ∷ words) =
    if bytes_eq name (codes "exercise") then exercise_form words
    else if bytes_eq name (codes "station") then station_form words
    else if bytes_eq name (codes "at") then at_form words
    else station_line name words

-- a line is ignored: it is empty, or its first byte is `#`
abbrev pub is_passed_over : List ℕ → Bool
is_passed_over [] = true
is_passed_over (b ∷ bs) = b == 35

-- THE STATEMENT OF A LINE, if it is ASCII text and has a form
abbrev pub statement_of : List ℕ → Option Statement
statement_of line =
    if is_ascii line then (if is_passed_over line then Some says.Nothing else form_of (words_of line)) else None
