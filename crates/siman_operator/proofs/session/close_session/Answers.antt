-- the recording is ended, and what failed of that is told
use Rattle.siman_operator.proofs.session.close_session.Goals as goal

pub returns : goal.returns
returns g c = record { closed = c.close-closed.result; closes = c.close-closed.ensures; status = c.and_closed.ensures.status; tells = c.and_closed.ensures.told }
