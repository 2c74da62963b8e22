-- a failed read is told before
use Rattle.siman_operator.proofs.Ended.{ends_unread}
use Rattle.siman_operator.proofs.session.end_session.Goals as goal

pub returns-in-Unread : goal.returns-in-Unread
returns-in-Unread g c =
    ends_unread _ _ _ _ _ _ _ _ _ _ c.and_unread-told.result (g.E.Write.contents c.and_unread-told.new.errors) c.in-Unread.is
    (record { status = c.and_unread-told.ensures.status; tells = c.and_unread-told.ensures.told }) c.close_session-in-Unread.ensures
