-- What a link that logs its datagrams specifies (profile).
use Rattle.std.specs.Prelude.{◌≡◌, ◌⊎◌, ℕ, List, [], ◌∷◌, ◌++◌, length, take, Option, Some, None, Result, Ok, Err}
use Rattle.siman_lines.specs.declared.line.PassedOver.{PassedOver}
use Rattle.siman_lines.specs.declared.line.LineFault.{LineFault}
use Rattle.siman_lines.specs.AtLines.{Telling}
use Rattle.siman_lines.specs.LineDatagrams.{Datagrams, Same, Grows, MayGrow}
use Rattle.siman_operator.specs.declared.tracing_line.TracingLine.{TracingLine}
use Rattle.siman_operator.specs.Noted.{datagrams_of}

-- EACH DATAGRAM PASSED TO ITS SENDS, the oldest first, and each that its receives returned
abbrev pub datagrams_sent : {L : Type 0} → TracingLine L → Datagrams
datagrams_sent l = datagrams_of l.sent.all.items

abbrev pub datagrams_received : {L : Type 0} → TracingLine L → Datagrams
datagrams_received l = datagrams_of l.received.all.items

-- what links of this kind specify, given the number of strangers that the inner link passed over
abbrev pub telling : {L : Type 0} → (passed : L → PassedOver) → Telling (TracingLine L)
telling passed = record {
  received = λ l. Some (datagrams_received l);
  sent = λ l. Some (datagrams_sent l);
  failures = λ l. length l.failures.items;
  passed = λ l. passed l.line;
}

-- the datagrams of one direction that a kind of link specifies
abbrev pub Tells : Type 0 → Type 0
Tells L = L → Option Datagrams

-- A SEND PASSES THE DATAGRAM to the inner link, which promises this of it; if there is no room for it, the inner
-- link is unchanged
abbrev pub PassesDatagram : {L : Type 0} → Tells L → (says : L → L → Result (Unit {0}) LineFault → Type 0) → List ℕ → (old new : TracingLine L) → Result (Unit {0}) LineFault → Type 0
PassesDatagram sent says d old new (Ok u) = Grows (sent old.line) (sent new.line) d × says old.line new.line (Ok tt)
PassesDatagram sent says d old new (Err fault) =
    (new.line ≡ old.line)
    ⊎ (MayGrow (sent old.line) (sent new.line) d × ((f : LineFault) × says old.line new.line (Err f)))

-- A RECEIVE RETURNS WHAT THE INNER LINK RETURNED, as much of it as fits the buffer, and logs it; it fails if the
-- inner link does, or if there is no room for the datagram
abbrev pub ReturnsDatagram : {L : Type 0} → Tells L → (says : L → L → Result (Option ℕ) LineFault → Type 0) → (old new : TracingLine L) → Result (Option ℕ) LineFault → Type 0
ReturnsDatagram received says old new (Ok (Some n)) =
    says old.line new.line (Ok (Some n))
    × ((d : List ℕ) × Grows (received old.line) (received new.line) d × (datagrams_received new ≡ datagrams_received old ++ take n d ∷ []))
ReturnsDatagram received says old new (Ok None) = says old.line new.line (Ok None) × Same (received old.line) (received new.line)
ReturnsDatagram received says old new (Err fault) =
    (((f : LineFault) × says old.line new.line (Err f)) × Same (received old.line) (received new.line))
    ⊎ ((n : ℕ) × says old.line new.line (Ok (Some n)) × ((d : List ℕ) × Grows (received old.line) (received new.line) d))
