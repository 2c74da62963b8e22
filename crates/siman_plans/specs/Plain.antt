-- Plain lines: how the plain script of a plan spells a statement, each with its line feed (profile).
use Rattle.std.specs.Prelude.{ℕ, List, [], ◌++◌, codes, decimal}
use Rattle.std.specs.List.{flat_map}
use Rattle.dis_records.specs.declared.address.SiteApplication.{SiteApplication}
use Rattle.dis_records.specs.declared.datum.FixedDatum.{FixedDatum}
use Rattle.dis_records.specs.Texts.{entity_text, state_text}
use Rattle.siman_pdus.specs.declared.pdu.Body.{Body}
use Rattle.siman_pdus.specs.declared.pdu.Body.TheVariants as bodies
use Rattle.siman_print.specs.Spelled.{address_text}
use Rattle.siman_scripts.specs.declared.act.Act.{Act}
use Rattle.siman_scripts.specs.declared.act.Act.TheVariants.{Command, Deliver, Tick, Tell}
use Rattle.siman_scripts.specs.declared.statement.ManagerRules.{ManagerRules}
use Rattle.siman_scripts.specs.declared.statement.Statement.{Statement}
use Rattle.siman_scripts.specs.declared.statement.Statement.TheVariants as says

-- a number behind a blank
abbrev pub behind : ℕ → List ℕ
behind n = codes " " ++ decimal n

-- the name of the line of an order, by its body
abbrev pub order_name : Body → List ℕ
order_name (bodies.CreateEntity request) = codes "create"
order_name (bodies.RemoveEntity request) = codes "remove"
order_name (bodies.StartResume real sim request) = codes "start"
order_name (bodies.StopFreeze real reason behaviour request) = codes "stop"
order_name (bodies.ActionRequest request action datums) = codes "do"
order_name (bodies.DataQuery request interval ids) = codes "query"
order_name (bodies.SetData request datums) = codes "set"
order_name other = []

abbrev pub datum_words : FixedDatum → List ℕ
datum_words d = behind d.id ++ behind d.value

-- the words behind the receiver of an order, by its body
abbrev pub order_words : Body → List ℕ
order_words (bodies.ActionRequest request action datums) = behind action
order_words (bodies.DataQuery request interval ids) = flat_map behind ids.fixed
order_words (bodies.SetData request datums) = flat_map datum_words datums.fixed
order_words other = []

-- THE PLAIN LINE OF A MOVE of the station of this address
abbrev pub act_text : SiteApplication → Act → List ℕ
act_text a (Command order) = order_name order.body ++ codes " " ++ address_text a ++ codes " " ++ entity_text order.target ++ order_words order.body ++ codes "\n"
act_text a (Deliver k) = codes "deliver " ++ decimal k ++ codes " " ++ address_text a ++ codes "\n"
act_text a Tick = codes "tick " ++ address_text a ++ codes "\n"
act_text a (Tell e) = codes "tell " ++ address_text a ++ behind e ++ codes "\n"

-- THE PLAIN LINE OF A TIME of the clocks
abbrev pub at_text : ℕ → List ℕ
at_text now = codes "at " ++ decimal now ++ codes "\n"

-- the words of a manager's rules
abbrev pub rules_text : ManagerRules → List ℕ
rules_text rules = codes " first=" ++ decimal rules.first_id ++ codes " tries=" ++ decimal rules.tries ++ codes " wait=" ++ decimal rules.wait

-- THE PLAIN LINE of the exercise, of a station, or of what it opens with; none of other statements
abbrev pub setup_text : Statement → List ℕ
setup_text (says.Exercise x) = codes "exercise " ++ decimal x ++ codes "\n"
setup_text (says.Station a rules) = codes "station " ++ address_text a ++ rules_text rules ++ codes "\n"
setup_text (says.Opening a e y) = codes "opening " ++ address_text a ++ behind e ++ codes " " ++ state_text y ++ codes "\n"
setup_text (says.Fixed a datum) = codes "fixed " ++ address_text a ++ datum_words datum ++ codes "\n"
setup_text (says.Action a id) = codes "action " ++ address_text a ++ behind id ++ codes "\n"
setup_text other = []
