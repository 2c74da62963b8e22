-- The clock of a session: what sets it, when it ticks by itself, and how long it waits (profile).
use Rattle.std.specs.Prelude.{ℕ, ◌+◌, zero, suc, ◌*◌, ◌-◌, ◌^◌, Bool, true, false, nat_lt, nat_le, min, length, slice_get, Option, Some, None, is_some, if◌then◌else◌}
use Rattle.std.specs.Option.{option_map_or}
use Rattle.exercise_model.specs.Place.{first_below}
use Rattle.siman_manager.specs.Book.{Book}
use Rattle.siman_manager.specs.Viewed.{OrderStands, view_of}
use Rattle.siman_manager.specs.declared.order.OrderStatus.{OrderStatus}
use Rattle.siman_manager.specs.declared.order.OrderStatus.TheVariants as statuses
use Rattle.siman_stations.specs.declared.moment.Moment.{Moment}
use Rattle.siman_stations.specs.Moments.{absolute_moment}
use Rattle.siman_operator.specs.declared.clock.ClockSource.{ClockSource}
use Rattle.siman_operator.specs.declared.clock.ClockSource.TheVariants as sources
use Rattle.siman_operator.specs.declared.clock.WaitUnit.{WaitUnit}
use Rattle.siman_operator.specs.declared.clock.WaitUnit.TheVariants as units
use Rattle.siman_operator.specs.Notes.{due_at}

-- the later of two times
abbrev pub later_of : (a b : ℕ) → ℕ
later_of a b = if nat_lt a b then b else a

-- THE CLOCK where something is taken, given what the system's clock shows and what the clock showed before: the
-- system's, unless that stepped back; or what lines set
abbrev pub clock_at : ClockSource → (time : ℕ) → (before : Moment) → Moment
clock_at sources.Lines time before = before
clock_at (sources.System wait) time before = absolute_moment (later_of before.now time)

abbrev pub is_system : ClockSource → Bool
is_system sources.Lines = false
is_system (sources.System wait) = true

-- an order is due at this time
unfoldable pub has_due : Book → (now : ℕ) → Bool
has_due b now = is_some (first_below (due_at b now) (length b.orders))

-- a sum of 64 bits, if it is one
abbrev pub sum_within : (a b : ℕ) → Option ℕ
sum_within a b = if nat_lt (a + b) (2 ^ 64) then Some (a + b) else None

-- an order that waits
abbrev pub is_waiting : OrderStatus → Bool
is_waiting (statuses.Waiting sends) = true
is_waiting statuses.Answered = false
is_waiting statuses.GivenUp = false

-- the time at which an order is due, if it waits and there is such a time
abbrev pub due_time_of : (wait : ℕ) → OrderStands → Option ℕ
due_time_of wait k = if is_waiting k.status then sum_within k.last wait else None

abbrev pub due_time : Book → (wait place : ℕ) → Option ℕ
due_time b wait place = option_map_or (λ k. due_time_of wait (view_of k)) (slice_get b.orders place) None

-- the earlier of two times, of which either may be missing
abbrev pub earlier : Option ℕ → Option ℕ → Option ℕ
earlier None b = b
earlier (Some a) None = Some a
earlier (Some a) (Some b) = Some (min a b)

-- the earliest of the times that a function gives below n
unfoldable pub earliest_below : (ℕ → Option ℕ) → ℕ → Option ℕ
earliest_below f zero = None
earliest_below f (suc n) = earlier (earliest_below f n) (f n)

-- THE TIME AT WHICH THE NEXT ORDER IS DUE, each so long after it was last sent
abbrev pub next_due : Book → (wait : ℕ) → Option ℕ
next_due b wait = earliest_below (due_time b wait) (length b.orders)

-- a time has come, by what the clock shows; where there is none, it never comes
abbrev pub is_reached : Option ℕ → (now : ℕ) → Bool
is_reached None now = false
is_reached (Some time) now = nat_le time now

-- until when a session waits, if it does not wait for ever
abbrev pub wait_end : ClockSource → Book → Option ℕ
wait_end sources.Lines b = None
wait_end (sources.System wait) b = next_due b wait

-- the wait of a station's orders, given that of its script
abbrev pub wait_by : WaitUnit → ℕ → ℕ
wait_by units.AsSaid said = said
wait_by units.Milliseconds said = min (said * 1000) (2 ^ 64 - 1)
wait_by units.OneSecond said = 1000000

-- what sets the clock, with this wait of orders
abbrev pub source_by : (by_system : Bool) → (wait : ℕ) → ClockSource
source_by by_system wait = if by_system then sources.System wait else sources.Lines

-- what the wait of a station counts, which the script may have in the short form
abbrev pub unit_by : (by_system is_short : Bool) → WaitUnit
unit_by by_system is_short = if by_system then (if is_short then units.OneSecond else units.Milliseconds) else units.AsSaid
