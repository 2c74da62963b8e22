use Rattle.std.proofs.Common.{◌≡◌, ◌≤◌, ◌+◌, length, true}
use Rattle.std.specs.Prelude.{IfSome}
use Rattle.exercise_review.specs.StationTrace.{AreEntryWords}
use Rattle.exercise_review.specs.Order.{order_of, sends_order}
use Rattle.exercise_review.specs.Party.{is_copy}
use Rattle.exercise_review.specs.Register.{has_key}
use Rattle.exercise_review.specs.Reply.{is_reply, is_changing_reply}
use Rattle.exercise_review.specs.Word.{is_settling}
use Rattle.exercise_review.proofs.Replied.{IsLeast, IsGreatest, hears}
use Rattle.exercise_review.proofs.Walks.{past, IsCountOn, IsFirstOn, IsLatestOn, IsOn}
use Rattle.exercise_review.proofs.station_trace.trace_under_key.Given as goal

-- What the entries behind the one that is next say.
abbrev pub invariant-loop-next : goal.invariant-loop-next
invariant-loop-next g l = record {
  on : IsOn (has_key l.replies.findings.now l.key) (length l.replies.findings.now.entries) l.next;
  room : past l.next + l.gathered.copies.count ≤ length l.replies.findings.now.entries;
  known : IfSome l.known (λ i. is_copy l.replies.findings.now (order_of l.replies.order.now) l.replies.station i ≡ true);
  sends : IsCountOn (sends_order l.replies.findings.now l.replies.station (order_of l.replies.order.now).request) (length l.replies.findings.now.entries) l.next l.gathered.sends;
  sent : past l.next + l.gathered.sends ≤ length l.replies.findings.now.entries;
  count : IsCountOn (is_copy l.replies.findings.now (order_of l.replies.order.now) l.replies.station) (length l.replies.findings.now.entries) l.next l.gathered.copies.count;
  first : IsFirstOn (is_copy l.replies.findings.now (order_of l.replies.order.now) l.replies.station) (length l.replies.findings.now.entries) l.next l.gathered.copies.first;
  settled : IsFirstOn (is_settling l.replies.findings.now (is_reply l.replies.findings.now (order_of l.replies.order.now) l.replies.station)) (length l.replies.findings.now.entries) l.next l.gathered.replied.settled.entry;
  last : IsLatestOn (is_reply l.replies.findings.now (order_of l.replies.order.now) l.replies.station) (length l.replies.findings.now.entries) l.next l.gathered.replied.last.entry;
  change : IsFirstOn (is_changing_reply l.replies.findings.now (order_of l.replies.order.now) l.replies.station) (length l.replies.findings.now.entries) l.next l.gathered.replied.change;
  heard : IsLeast (is_settling l.replies.findings.now (is_reply l.replies.findings.now (order_of l.replies.order.now) l.replies.station)) (hears l.replies.findings.now (order_of l.replies.order.now).maker l.replies.station) (length l.replies.findings.now.entries) (past l.next) l.gathered.news.settled.entry;
  news : IsGreatest (is_reply l.replies.findings.now (order_of l.replies.order.now) l.replies.station) (hears l.replies.findings.now (order_of l.replies.order.now).maker l.replies.station) (length l.replies.findings.now.entries) (past l.next) l.gathered.news.last.entry;
  words : AreEntryWords l.replies.findings.now l.gathered.replied l.gathered.news;
}

abbrev pub decreases-loop-next : goal.decreases-loop-next
decreases-loop-next g l = past l.next
