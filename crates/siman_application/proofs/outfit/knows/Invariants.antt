use Rattle.std.proofs.Common.{◌≡◌, drop}
use Rattle.std.specs.Prelude.{◌==◌}
use Rattle.std.specs.List.{list_any}
use Rattle.siman_application.proofs.outfit.knows.Given as goal

abbrev pub invariant-loop-known : goal.invariant-loop-known
invariant-loop-known l = list_any (λ known. known == l.action) (drop l.known-index l.actions) ≡ list_any (λ known. known == l.action) l.actions
