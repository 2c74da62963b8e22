-- The laws of plans.
use Rattle.std.specs.Prelude.{◌≡◌, ℕ, ◌+◌, List, [], ◌∷◌, ◌++◌, length, reverse, slice_get, Some, option_to_list, IfSome, IfOk}
use Rattle.std.specs.List.{AllByRecursion}
use Rattle.dis_records.specs.declared.entity_state.EntityState.{EntityState}
use Rattle.exercise_model.specs.Entry.{Entry, Sent, Received, Told}
use Rattle.exercise_model.specs.Recording.{PlainRecording}
use Rattle.siman_stations.specs.World.{sent_in, world_recording}
use Rattle.siman_plans.specs.declared.deed.Deed.{Deed}
use Rattle.siman_plans.specs.declared.deed.Deed.TheVariants as deeds
use Rattle.siman_plans.specs.declared.deed.PlannedLine.{PlannedLine}
use Rattle.siman_plans.specs.Plan.{plan_at}
use Rattle.siman_plans.specs.PlanText.{world_of}
use Rattle.siman_plans.specs.Source.{SourceData, read_at}

-- the stations of the Sent entries, in their order
abbrev pub senders : List Entry → List ℕ
senders [] = []
senders (Sent s stamp b ∷ es) = s ∷ senders es
senders (Received s stamp b ∷ es) = senders es
senders (Told s e y ∷ es) = senders es

-- the Sent entry of this number, from 0, is of this station
abbrev pub IsSentBy : List Entry → (s k : ℕ) → Type 0
IsSentBy es s k = slice_get (senders es) k ≡ Some s

-- a station told this state of its entity in some entry
abbrev pub IsTold : List Entry → (s e : ℕ) → EntityState → Type 0
IsTold es s e y = (k : ℕ) × (slice_get es k ≡ Some (Told s e y))

-- ENTRIES HAVE WHAT A LINE DID: what an order, a tick or a delivery sends is the Sent entry of that number, of the
-- station of the line; and what a line tells is told in some entry
abbrev pub IsSaid : List Entry → Deed → Type 0
IsSaid es (deeds.Set is_back) = Unit {0}
IsSaid es (deeds.Ordered s k label) = IsSentBy es s k
IsSaid es (deeds.Ticked s sends label) = IfSome sends (IsSentBy es s)
IsSaid es (deeds.Told s e y) = IsTold es s e y
IsSaid es (deeds.Brought s k answers) = IfSome answers (IsSentBy es s)
IsSaid es (deeds.Lost k) = Unit {0}

-- of each line
abbrev pub AreSaid : List Entry → List PlannedLine → Type 0
AreSaid es planned = AllByRecursion (λ l. IsSaid es l.did) planned

-- the datagrams that lines sent, in the order of the lines
abbrev pub sends_of : Deed → List ℕ
sends_of (deeds.Set is_back) = []
sends_of (deeds.Ordered s k label) = k ∷ []
sends_of (deeds.Ticked s sends label) = option_to_list sends
sends_of (deeds.Told s e y) = []
sends_of (deeds.Brought s k answers) = option_to_list answers
sends_of (deeds.Lost k) = []

abbrev pub sends_in : List PlannedLine → List ℕ
sends_in [] = []
sends_in (l ∷ planned) = sends_of l.did ++ sends_in planned

-- numbers that count up from k
abbrev pub CountUp : ℕ → List ℕ → Type 0
CountUp k [] = Unit {0}
CountUp k (n ∷ ns) = (n ≡ k) × CountUp (k + 1) ns

-- THE RECORDING OF THE MOVES OF A SOURCE HAS WHAT THE LINES DID; and each sent datagram was sent by one line, whose
-- numbers count up from 0
pub record AreRecorded (recording : PlainRecording) (planned : List PlannedLine) : Type 0 where
  pub said : AreSaid recording.entries planned
  pub count : length (sends_in planned) ≡ length (sent_in recording.entries)
  pub rising : CountUp 0 (sends_in planned)

abbrev pub recording_of : SourceData → PlainRecording
recording_of s = world_recording (world_of s) (reverse (plan_at (world_of s) s.lines).0.moves)

-- of each text that is a source
abbrev pub LinesAreRecorded : List ℕ → Type 0
LinesAreRecorded text = IfOk (read_at text) (λ s. AreRecorded (recording_of s) (plan_at (world_of s) s.lines).0.notes.planned)
