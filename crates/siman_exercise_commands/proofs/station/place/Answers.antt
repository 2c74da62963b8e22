-- The first word that says of no place is told.
use Rattle.siman_outside.specs.Words.{named_by}
use Rattle.siman_exercise_commands.specs.Station.{Places}
use Rattle.siman_outside.proofs.Offered.{at_fault}
use Rattle.siman_exercise_commands.proofs.Placed.{bad_address, bad_bind, bad_peers}
use Rattle.siman_exercise_commands.proofs.station.place.Goals as goal

pub returns-in_err-address : goal.returns-in_err-address
returns-in_err-address c =
    at_fault (Places (named_by (λ word. word.now) c.args.words.now)) c.in_err-address.field-0.0 c.from_residual.result c.from_residual.ensures.1
    (bad_address (named_by (λ word. word.now) c.args.words.now) c.in_err-address.field-0.0 c.in_err-address.ensures)

pub returns-in_err-bind : goal.returns-in_err-bind
returns-in_err-bind c =
    at_fault (Places (named_by (λ word. word.now) c.args.words.now)) c.in_err-bind.field-0.0 c.from_residual-in_err-bind.result c.from_residual-in_err-bind.ensures.1
    (bad_bind (named_by (λ word. word.now) c.args.words.now) c.in_ok-address.address c.in_err-bind.field-0.0 c.in_ok-address.ensures c.in_err-bind.ensures)

pub returns-in_err-peers : goal.returns-in_err-peers
returns-in_err-peers c =
    at_fault (Places (named_by (λ word. word.now) c.args.words.now)) c.in_err-peers.field-0.0 c.from_residual-in_err-peers.result c.from_residual-in_err-peers.ensures.1
    (bad_peers (named_by (λ word. word.now) c.args.words.now) c.in_ok-address.address c.in_ok-bind.bind c.in_err-peers.field-0.0 c.in_ok-address.ensures c.in_ok-bind.ensures
    c.in_err-peers.ensures)
