-- What is held after nothing came.
use Rattle.std.proofs.Common.{◌≡◌}
use Rattle.siman_application.specs.Holding.{Holding, nothing, stored_in}
use Rattle.siman_application.proofs.Found.{stored_none}

pub stored_nothing : (h : Holding) → stored_in nothing h ≡ h
stored_nothing h = λ i. record { fixed = λ id. (stored_none (h.fixed id)) i; variable = λ id. (stored_none (h.variable id)) i }
