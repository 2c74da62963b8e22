use Rattle.std.proofs.Common.{subst, ◌≤◌}
use Rattle.std.specs.Prelude.{IfSome}
use Rattle.dis_records.specs.declared.header.TheConstants.{LARGEST_DATAGRAM}
use Rattle.siman_pdus.specs.Spelling.{HasCarriedStatus, pdu_size}
use Rattle.siman_application.specs.Play.{reply_after}
use Rattle.siman_application.specs.Application.{ApplicationData, came}
use Rattle.siman_application.proofs.Replies.{reply_size, reply_status}
use Rattle.siman_application.proofs.application.Application.take_up.Goals as goal

pub returns-clause-size : goal.returns-clause-size
returns-clause-size c =
    subst (λ (s : ApplicationData). IfSome (reply_after s.outfit (came s) c.args.pdu.now c.args.stamp) (λ p. pdu_size p ≤ LARGEST_DATAGRAM)) c.self.view_is
    (reply_size c.self.inside.outfit _ c.args.pdu.now c.args.stamp c.self.invariant.own)

pub returns-clause-status : goal.returns-clause-status
returns-clause-status c =
    subst (λ (s : ApplicationData). IfSome (reply_after s.outfit (came s) c.args.pdu.now c.args.stamp) HasCarriedStatus) c.self.view_is
    (reply_status c.self.inside.outfit _ c.args.pdu.now c.args.stamp c.self.invariant.own)
