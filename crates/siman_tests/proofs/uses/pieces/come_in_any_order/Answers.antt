use Rattle.siman_tests.proofs.uses.pieces.come_in_any_order.Goals as goal

pub returns : goal.returns
returns c = λ word h first second same. (
  c.order_of_pieces_says_nothing.ensures.explained word c.args.pieces.now c.args.again.now h first second same,
  c.order_of_pieces_says_nothing.ensures.explained word c.args.again.now c.args.pieces.now h second first (record { there = same.back; back = same.there }),
)
