-- What a call ensures that reads a part of a line of a source (profile).
use Rattle.std.specs.Prelude.{◌≡◌, ℕ, Option, Some, None, Result, Ok, Err}
use Rattle.siman_plans.specs.declared.source_fault.LineFault.{LineFault}
use Rattle.siman_plans.specs.declared.source_fault.LineFault.TheVariants.{Refused, Memory}
use Rattle.siman_plans.specs.declared.source_fault.SourceFault.{SourceFault}
use Rattle.siman_plans.specs.declared.source_fault.SourceFault.TheVariants as sources
use Rattle.siman_plans.specs.declared.source_fault.SourceReason.{SourceReason}
use Rattle.siman_plans.specs.declared.source_fault.SourceWhy.{SourceWhy}
use Rattle.siman_plans.specs.declared.source_fault.TextFault.{TextFault}
use Rattle.siman_plans.specs.declared.source_fault.TextFault.TheVariants as texts

-- why a line cannot be read: a column, counted in bytes from 1, and the reason
abbrev pub Refusal : Type 0
Refusal = ℕ × SourceWhy

-- the fault of a call is that of this result; lack of memory may happen with any
abbrev pub Refuses : {Y : Type 0} → LineFault → Result Y Refusal → Type 0
Refuses (Refused column why) wanted = wanted ≡ Err (column, why)
Refuses Memory wanted = Unit {0}

-- a call gives what this result says, seen by a view
abbrev pub Gives : {X Y : Type 0} → (X → Y) → Result X LineFault → Result Y Refusal → Type 0
Gives view (Ok x) wanted = wanted ≡ Ok (view x)
Gives view (Err fault) wanted = Refuses fault wanted

-- a call leaves what this result says
abbrev pub Leaves : {X Y : Type 0} → Result X LineFault → Y → Result Y Refusal → Type 0
Leaves (Ok x) new wanted = wanted ≡ Ok new
Leaves (Err fault) new wanted = Refuses fault wanted

-- the fault of a line of this number
abbrev pub fault_at : (line : ℕ) → LineFault → TextFault
fault_at n (Refused column why) = texts.Refused (record { line = n; column = column; why = why })
fault_at n Memory = texts.Memory

-- the same of a whole text, whose refusals have a line
abbrev pub RefusesText : {Y : Type 0} → TextFault → Result Y SourceReason → Type 0
RefusesText (texts.Refused reason) wanted = wanted ≡ Err reason
RefusesText texts.Memory wanted = Unit {0}

abbrev pub GivesText : {Y : Type 0} → Result Y TextFault → Result Y SourceReason → Type 0
GivesText (Ok y) wanted = wanted ≡ Ok y
GivesText (Err fault) wanted = RefusesText fault wanted

abbrev pub RefusesSource : {Y : Type 0} → SourceFault → Result Y SourceFault → Type 0
RefusesSource (sources.BadLine line) wanted = wanted ≡ Err (sources.BadLine line)
RefusesSource sources.Memory wanted = Unit {0}

abbrev pub GivesSource : {Y : Type 0} → Result Y SourceFault → Result Y SourceFault → Type 0
GivesSource (Ok y) wanted = wanted ≡ Ok y
GivesSource (Err fault) wanted = RefusesSource fault wanted

-- this result, unless there is a refusal
abbrev pub unless : {Y : Type 0} → Option Refusal → Result Y Refusal → Result Y Refusal
unless None wanted = wanted
unless (Some refusal) wanted = Err refusal
