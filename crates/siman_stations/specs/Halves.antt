-- THE INVARIANT OF A STATION: its application and manager follow from its log (profile). Histories, turns and calls
-- have THE LAST ONE FIRST.
use Rattle.std.specs.Prelude.{◌≡◌, ℕ, List, [], ◌∷◌, ◌⊎◌}
use Rattle.siman_pdus.specs.declared.pdu.Pdu.{Pdu}
use Rattle.exercise_model.specs.History.{History}
use Rattle.siman_application.specs.Distinct.{distinct}
use Rattle.siman_application.specs.AppProfile.{AppProfile}
use Rattle.siman_application.specs.OwnLog.{OwnTurn, Tells, Orders, Passes, Takes, Loses, taken_in, IsOwnLog, MissNone, TakesAll}
use Rattle.siman_application.specs.Play.{state_over}
use Rattle.siman_manager.specs.Book.{Book}
use Rattle.siman_manager.specs.Calls.{Call, Requested, Came, Ticked, kept}
use Rattle.siman_stations.specs.Orders.{AreFit, SendOwnOrders}

-- the PDUs that the manager received in these calls
abbrev pub received_in : List Call → List Pdu
received_in [] = []
received_in (Requested order now stamp ∷ calls) = received_in calls
received_in (Came p ∷ calls) = p ∷ received_in calls
received_in (Ticked now stamp ∷ calls) = received_in calls

-- the PDUs of the turns that were done whole
abbrev pub heard_in : List OwnTurn → List Pdu
heard_in [] = []
heard_in (Tells e y ∷ ts) = heard_in ts
heard_in (Orders b p ∷ ts) = heard_in ts
heard_in (Passes b ∷ ts) = heard_in ts
heard_in (Takes b q stamp ∷ ts) = q ∷ heard_in ts
heard_in (Loses b q stamp ∷ ts) = heard_in ts

-- each told state is that of the application, and no reply is missing before it
abbrev pub TellsOwn : AppProfile → List OwnTurn → Type 0
TellsOwn a [] = Unit {0}
TellsOwn a (Tells e y ∷ ts) = (y ≡ state_over a (distinct a (taken_in ts)) e) × MissNone ts × TellsOwn a ts
TellsOwn a (Orders b p ∷ ts) = TellsOwn a ts
TellsOwn a (Passes b ∷ ts) = TellsOwn a ts
TellsOwn a (Takes b q stamp ∷ ts) = TellsOwn a ts
TellsOwn a (Loses b q stamp ∷ ts) = TellsOwn a ts

-- APPLICATION AND MANAGER FOLLOW FROM THE LOG OF THEIR STATION: the log is one that such a station writes, whose
-- turns lead to the state of the application; the manager took exactly the PDUs of these turns, and each request
-- that the log sends is the same order as one that the manager made
pub record HalvesFollow (wants : Type 0) (s : ℕ) (a : AppProfile) (ds : List Pdu) (k : Book) (log : History) (closed : Type 0) : Type 0 where
  pub turns : List OwnTurn
  pub calls : List Call
  pub own_log : IsOwnLog a s turns log (taken_in turns)
  pub application : ds ≡ distinct a (taken_in turns)
  pub passed : TakesAll turns ⊎ wants
  pub missing : MissNone turns ⊎ closed
  pub told : TellsOwn a turns
  pub manager : k.orders ≡ kept k.settings calls
  pub fit : AreFit calls
  pub heard : received_in calls ≡ heard_in turns
  pub ordered : SendOwnOrders k.settings calls a.exercise log
