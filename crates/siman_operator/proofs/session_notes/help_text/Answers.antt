-- One row behind the other.
use Rattle.siman_operator.proofs.session_notes.help_text.Goals as goal

pub returns : goal.returns
returns c =
    rw (c.in_ok-push_str-3.ensures.bytes, c.in_ok-push_str-2.ensures.bytes, c.in_ok-push_str.ensures.bytes, c.new-text.ensures.bytes, c.clock_help.ensures) at c.in_ok-push_str-4.ensures.bytes
