-- What stations left out, all together (profile).
use Rattle.std.specs.Prelude.{ℕ, ◌-◌, ◌^◌, min, Bool, ◌&&◌, ◌==◌, List, sum_by, count_by}
use Rattle.siman_lines.specs.declared.line.PassedOver.{PassedOver}
use Rattle.siman_lines.specs.declared.left.LeftOut.{LeftOut}
use Rattle.siman_lines.specs.declared.station_at_line.StationAtLine.{StationAtLine}

-- a count that saturates at the greatest number of 64 bits
abbrev pub capped : ℕ → ℕ
capped n = min n (2 ^ 64 - 1)

-- THE COUNTS OF WHAT STATIONS LEFT OUT: at how many of them something may be left to serve, how many long datagrams
-- they dropped, and how many datagrams from strangers their links passed over
abbrev pub left_out_by : {L : Type 0} → (passed : L → PassedOver) → List (StationAtLine L) → LeftOut
left_out_by passed ps = record {
  busy = count_by (λ p. p.busy) ps;
  dropped = capped (sum_by (λ p. p.dropped) ps);
  strangers = capped (sum_by (λ p. (passed p.line).strangers) ps);
}

-- nothing was left out
abbrev pub is_nothing : LeftOut → Bool
is_nothing left = left.busy == 0 && left.dropped == 0 && left.strangers == 0
