-- The orders of a recording at their parties, by head and then by address of the party (profile).
use Rattle.std.specs.Prelude.{ℕ, List, length, map, option_map}
use Rattle.std.specs.Option.{option_to_list}
use Rattle.std.specs.List.{flat_map}
use Rattle.siman_pdus.specs.Role.{request_id_of}
use Rattle.siman_pdus.specs.Spelling.{body_kind}
use Rattle.exercise_model.specs.Recording.{PlainRecording}
use Rattle.exercise_review.specs.declared.outcome.Outcome.{Outcome}
use Rattle.exercise_review.specs.declared.told.OrderAt.{OrderAt}
use Rattle.exercise_review.specs.Order.{OrderData, order_at}
use Rattle.exercise_review.specs.Parties.{maker_address, party_address}
use Rattle.exercise_review.specs.Outcome.{outcomes_of}
use Rattle.exercise_review.specs.Room.{lists_below}

-- AN ORDER AT A PARTY, with its maker, its kind, its target and its outcome there
abbrev pub order_at_party : PlainRecording → OrderData → Outcome → OrderAt
order_at_party r o x = record {
  head = o.head;
  from = maker_address r o;
  request = request_id_of o.request.body;
  kind = body_kind o.request.body;
  to = o.request.target;
  at = option_map (λ party. party_address r party) x.party;
  outcome = x;
}

-- an order at each of its parties, or once if it has none
abbrev pub order_at_parties : PlainRecording → OrderData → List OrderAt
order_at_parties r o = map (order_at_party r o) (outcomes_of r o)

-- the order at entry i, if any, as a list
abbrev pub orders_at : PlainRecording → ℕ → List OrderData
orders_at r i = option_to_list (order_at r i)

-- the order at entry i, if any, at each of its parties
abbrev pub order_at_its_parties : PlainRecording → ℕ → List OrderAt
order_at_its_parties r i = flat_map (order_at_parties r) (orders_at r i)

-- THE ORDERS OF A RECORDING, by their heads
unfoldable pub orders_of : PlainRecording → List OrderData
orders_of r = lists_below (orders_at r) (length r.entries)

-- ALL ORDERS AT ALL THEIR PARTIES
unfoldable pub reviewed_orders : PlainRecording → List OrderAt
reviewed_orders r = flat_map (order_at_parties r) (orders_of r)
