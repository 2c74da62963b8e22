use Rattle.siman_manager.proofs.Induction.{counts, agrees, made_as}
use Rattle.siman_manager.proofs.Sends.{sends_of}
use Rattle.siman_manager.proofs.Consequences.{sends_are_same, of_orders, at_most_tries}
use Rattle.siman_manager.proofs.Settled.{answered_by, found, taken_none, taken_own, taken_elsewhere, unchanged_unless, given_up_count}
use Rattle.siman_manager.proofs.laws.orders_are_kept.Goals as goal

pub returns : goal.returns
returns c = record {
  count = counts;
  kept = agrees;
  found = found;
  order = made_as;
  sends = sends_of;
  same = sends_are_same;
  nothing_else = of_orders;
  tries = at_most_tries;
  answered = answered_by;
  taken = taken_own;
  foreign = taken_none;
  elsewhere = taken_elsewhere;
  unchanged = unchanged_unless;
  given_up = given_up_count;
}
