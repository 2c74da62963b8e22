use Rattle.std.proofs.Common.{sym}
use Rattle.siman_tests.proofs.uses.pieces.come_station_by_station.Goals as goal

pub returns : goal.returns
returns c = λ word h first second same. (
  c.order_among_stations_says_nothing.ensures.explained word c.args.parts.now c.args.again.now h first second same,
  c.order_among_stations_says_nothing.ensures.explained word c.args.again.now c.args.parts.now h second first (λ a. sym (same a)),
)
