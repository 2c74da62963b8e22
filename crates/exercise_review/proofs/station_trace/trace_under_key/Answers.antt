use Rattle.std.proofs.Common.{◌≡◌, ◌≤◌, ◌+◌, ℕ, suc, length, Bool, true, false, Option, Some, None, sym, ap, ◌∙◌, subst, arith}
use Rattle.std.specs.Prelude.{◌&&◌, is_some, IfSome, if◌then◌else◌}
use Rattle.std.specs.Option.{option_or, option_map_or}
use Rattle.std.proofs.lemmas.Bool.{and_parts}
use Rattle.exercise_model.specs.Recording.{PlainRecording}
use Rattle.exercise_model.specs.Account.{change_at}
use Rattle.exercise_review.specs.declared.reply.Reply.{Reply}
use Rattle.exercise_review.specs.StationTrace.{first_news, last_news}
use Rattle.exercise_review.specs.News.{earlier}
use Rattle.exercise_review.specs.Order.{OrderData, order_of, sends_order}
use Rattle.exercise_review.specs.Party.{is_copy, first_copy}
use Rattle.exercise_review.specs.Register.{key_at, has_key, IsUnder}
use Rattle.exercise_review.specs.Reply.{is_reply, is_news, is_changing_reply, change_of_order}
use Rattle.exercise_review.specs.Word.{is_settling, first_settling}
use Rattle.exercise_review.proofs.Replied.{IsLeast, IsGreatest, IsFoundAt, hears, least_starts, greatest_starts, least_on, greatest_on, least_ends, greatest_ends, settled_news, all_news, spoken_there, first_is_news, last_is_news, no_reply_no_news}
use Rattle.exercise_review.proofs.Registered.{held_key}
use Rattle.exercise_review.proofs.Sourced.{answer_there}
use Rattle.exercise_review.proofs.Under.{copy_has, reply_has, send_has}
use Rattle.exercise_review.proofs.Walks.{past, IsCountOn, IsFirstOn, IsLatestOn, on_last, lower, count_starts, count_on, count_ends, first_starts, first_on, first_ends, latest_starts, latest_on, latest_ends}
use Rattle.exercise_review.proofs.station_trace.trace_under_key.Goals as goal

pub loop-next-init : goal.loop-next-init
unfolding is_changing_reply
loop-next-init g c =
    let r : PlainRecording = c.args.replies.now.findings.now in
    let o : OrderData = order_of c.args.replies.now.order.now in
    let t : ℕ = c.args.replies.now.station in
    let h = has_key r c.args.key in
    let n : ℕ = length r.entries in
    let next : Option ℕ = c.last_near-next.result in
    let e = c.last_near-next.ensures in
    let less = lower h n next e in
    let sent = sends_order r t o.request in
    let sending = send_has r o t c.args.key c.requires.key in
    let copies = copy_has r o t c.args.key c.requires.key in
    let under = reply_has r o t c.args.key c.requires.key in
    let settling : IsUnder r (is_settling r (is_reply r o t)) c.args.key = λ j p. under j (and_parts (is_reply r o t j) _ p).0 in
    let changing : IsUnder r (is_changing_reply r o t) c.args.key = λ j p. under j (and_parts (is_reply r o t j) _ p).0 in
    let none = c.empty_trace-gathered.ensures in
    record {
      on = on_last h n n next e (omega arith);
      room = omega (arith, less, none.copies.0);
      sent = omega (arith, less, none.sends);
      known = tt;
      sends = subst (IsCountOn sent n next) (sym none.sends) (count_starts sent h n next sending e);
      count = subst (IsCountOn (is_copy r o t) n next) (sym none.copies.0) (count_starts (is_copy r o t) h n next copies e);
      first = subst (IsFirstOn (is_copy r o t) n next) (sym none.copies.1) (first_starts (is_copy r o t) h n next copies e);
      settled = subst (IsFirstOn (is_settling r (is_reply r o t)) n next) (sym none.replied.0) (first_starts (is_settling r (is_reply r o t)) h n next settling e);
      last = subst (IsLatestOn (is_reply r o t) n next) (sym none.replied.1.0) (latest_starts (is_reply r o t) h n next under e);
      change = subst (IsFirstOn (is_changing_reply r o t) n next) (sym none.replied.1.1) (first_starts (is_changing_reply r o t) h n next changing e);
      heard = subst (IsLeast (is_settling r (is_reply r o t)) (hears r o.maker t) n (past next)) (sym none.news.0)
          (least_starts (is_settling r (is_reply r o t)) h (hears r o.maker t) n next settling e);
      news = subst (IsGreatest (is_reply r o t) (hears r o.maker t) n (past next)) (sym none.news.1)
          (greatest_starts (is_reply r o t) h (hears r o.maker t) n next under e);
      words = none.words r;
    }

pub role_of_entry-part-requires-clause-keyed : goal.role_of_entry-part-requires-clause-keyed
role_of_entry-part-requires-clause-keyed g c =
    let r : PlainRecording = c.args.replies.now.findings.now in
    let at = rw c.in-Some.is at c.loop-next.invariant.on in
    ap is_some (held_key (key_at r) c.in-Some.entry c.args.key at.1)

pub role_of_entry-part-requires-clause-known : goal.role_of_entry-part-requires-clause-known
role_of_entry-part-requires-clause-known g c = c.loop-next.invariant.known

pub count_with_one-requires : goal.count_with_one-requires
count_with_one-requires g c =
    let room = rw c.in-Some.is at c.loop-next.invariant.sent in
    let end = c.entry_count-end.ensures.count ∙ ap (λ (r : PlainRecording). length r.entries) c.log.ensures in
    omega (arith, room, end, c.entry_count-end.type_inv)

pub copy_count-requires : goal.copy_count-requires
copy_count-requires g c =
    let room = rw c.in-Some.is at c.loop-next.invariant.room in
    let end = c.entry_count-end.ensures.count ∙ ap (λ (r : PlainRecording). length r.entries) c.log.ensures in
    omega (arith, room, end, c.entry_count-end.type_inv)

pub loop-next-smaller : goal.loop-next-smaller
loop-next-smaller g c =
    let less = lower (has_key c.args.replies.now.findings.now c.args.key) c.in-Some.entry c.before-next.result c.before-next.ensures in
    omega (arith, less, ap past c.in-Some.is)

pub loop-next-preserved : goal.loop-next-preserved
unfolding is_changing_reply
loop-next-preserved g c =
    let r : PlainRecording = c.args.replies.now.findings.now in
    let o : OrderData = order_of c.args.replies.now.order.now in
    let t : ℕ = c.args.replies.now.station in
    let h = has_key r c.args.key in
    let n : ℕ = length r.entries in
    let j : ℕ = c.in-Some.entry in
    let next : Option ℕ = c.before-next.result in
    let e = c.before-next.ensures in
    let copied = is_copy r o t in
    let reply = is_reply r o t in
    let settling = is_settling r reply in
    let changing = is_changing_reply r o t in
    let was = c.loop-next.gathered in
    let found : Option Reply = c.role_of_entry-part.result.reply in
    let sent = sends_order r t o.request in
    let sending = send_has r o t c.args.key c.requires.key in
    let copies = copy_has r o t c.args.key c.requires.key in
    let under = reply_has r o t c.args.key c.requires.key in
    let settling_under : (i : ℕ) → settling i ≡ true → h i ≡ true = λ i q. under i (and_parts (reply i) _ q).0 in
    let changing_under : (i : ℕ) → changing i ≡ true → h i ≡ true = λ i q. under i (and_parts (reply i) _ q).0 in
    let is : IsFoundAt r o t j found = (c.role_of_entry-part.ensures.reply, c.role_of_entry-part.ensures.bytes) in
    let at = rw c.in-Some.is at c.loop-next.invariant.on in
    let room = rw c.in-Some.is at c.loop-next.invariant.room in
    let sends_room = rw c.in-Some.is at c.loop-next.invariant.sent in
    let sends : IsCountOn sent n (Some j) was.sends = rw c.in-Some.is at c.loop-next.invariant.sends in
    let count : IsCountOn copied n (Some j) was.copies.count = rw c.in-Some.is at c.loop-next.invariant.count in
    let first : IsFirstOn copied n (Some j) was.copies.first = rw c.in-Some.is at c.loop-next.invariant.first in
    let settled : IsFirstOn settling n (Some j) was.replied.settled.entry = rw c.in-Some.is at c.loop-next.invariant.settled in
    let last : IsLatestOn reply n (Some j) was.replied.last.entry = rw c.in-Some.is at c.loop-next.invariant.last in
    let change : IsFirstOn changing n (Some j) was.replied.change = rw c.in-Some.is at c.loop-next.invariant.change in
    let heard : IsLeast settling (hears r o.maker t) n (suc j) was.news.settled.entry = rw c.in-Some.is at c.loop-next.invariant.heard in
    let news : IsGreatest reply (hears r o.maker t) n (suc j) was.news.last.entry = rw c.in-Some.is at c.loop-next.invariant.news in
    let less = lower h j next e in
    let one = c.copy_count.ensures.count ∙ ap (λ (b : Bool). (if b then 1 else 0) + was.copies.count) c.role_of_entry-part.ensures.copy in
    let counted = count_on copied h n j was.copies.count next copies e count in
    let most = at_most_one c.role_of_entry-part.result.is_copy in
    let one_sent = c.count_with_one.ensures ∙ ap (λ (b : Bool). (if b then 1 else 0) + was.sends) c.role_of_entry-part.ensures.send in
    let sends_counted = count_on sent h n j was.sends next sending e sends in
    let most_sent = at_most_one c.role_of_entry-part.result.is_send in
    record {
      on = on_last h n j next e (omega (arith, at.0));
      room = omega (arith, less, room, c.copy_count.ensures.count, most);
      count = omega (arith, counted, one);
      sends = omega (arith, sends_counted, one_sent);
      sent = omega (arith, less, sends_room, c.count_with_one.ensures, most_sent);
      known = subst (λ (k : Option ℕ). IfSome k (λ i. copied i ≡ true)) (sym c.known_copy-known.ensures)
          (known_on (λ i. copied i ≡ true) found c.loop-next.known c.role_of_entry-part.ensures.taken c.loop-next.invariant.known);
      first = subst (IsFirstOn copied n next)
          (sym (c.copy_count.ensures.first ∙ ap (λ (b : Bool). option_or (if b then Some j else None) was.copies.first) c.role_of_entry-part.ensures.copy))
          (first_on copied h n j next was.copies.first copies e first);
      settled = subst (IsFirstOn settling n next)
          (sym (c.station_replies.ensures.settled ∙ ap (λ (b : Bool). option_or (if b then Some j else None) was.replied.settled.entry) c.role_of_entry-part.ensures.settles))
          (first_on settling h n j next was.replied.settled.entry settling_under e settled);
      last = subst (IsLatestOn reply n next)
          (sym (c.station_replies.ensures.last ∙ ap (λ (b : Bool). option_or was.replied.last.entry (if b then Some j else None)) is.0))
          (latest_on reply h n j next was.replied.last.entry under e last);
      change = subst (IsFirstOn changing n next)
          (sym (c.station_replies.ensures.change ∙ ap (λ (b : Bool). option_or (if b && is_some (change_at r j) then Some j else None) was.replied.change) is.0))
          (first_on changing h n j next was.replied.change changing_under e change);
      heard = subst (IsLeast settling (hears r o.maker t) n (past next))
          (sym (c.heard_replies.ensures.settled
          ∙ ap (λ (b : Bool). if b then earlier was.news.settled.entry (first_news r o.maker found) else was.news.settled.entry) c.role_of_entry-part.ensures.settles))
          (least_on settling h (hears r o.maker t) n j next was.news.settled.entry (first_news r o.maker found) settling_under e at.0
          (λ settles. first_is_news r o t j o.maker found (and_parts (reply j) _ settles).0 is) heard);
      news = subst (IsGreatest reply (hears r o.maker t) n (past next)) (sym c.heard_replies.ensures.last)
          (greatest_on reply h (hears r o.maker t) n j next was.news.last.entry (last_news r o.maker found) under e at.0
          (λ replies. last_is_news r o t j o.maker found replies is) (λ none. no_reply_no_news r o t j o.maker found none is) news);
      words = record {
        settled = c.station_replies.ensures.words.0;
        last = c.station_replies.ensures.words.1;
        heard = c.heard_replies.ensures.words.0;
        heard_last = c.heard_replies.ensures.words.1;
      };
    }
  where
    known_on : (P : ℕ → Type 0) (reply : Option Reply) (known : Option ℕ) → IfSome reply (λ (x : Reply). P x.copy) → IfSome known P
        → IfSome (option_map_or (λ (x : Reply). Some x.copy) reply known) P
    known_on P None known taken was = was
    known_on P (Some x) known taken was = taken

    at_most_one : (b : Bool) → (if b then 1 else 0) ≤ 1
    at_most_one true = omega arith
    at_most_one false = omega arith

pub returns : goal.returns
unfolding first_copy first_settling change_of_order
returns g c =
    let r : PlainRecording = c.args.replies.now.findings.now in
    let o : OrderData = order_of c.args.replies.now.order.now in
    let t : ℕ = c.args.replies.now.station in
    let n : ℕ = length r.entries in
    let x = c.loop-next.gathered in
    let was = c.loop-next.invariant in
    let reply = is_reply r o t in
    record {
      sends = count_ends (sends_order r t o.request) n x.sends (rw c.in_default.is at was.sends);
      count = count_ends (is_copy r o t) n x.copies.count (rw c.in_default.is at was.count);
      first = first_ends (is_copy r o t) n x.copies.first (rw c.in_default.is at was.first);
      settled = first_ends (is_settling r reply) n x.replied.settled.entry (rw c.in_default.is at was.settled);
      last = latest_ends reply n x.replied.last.entry (rw c.in_default.is at was.last);
      change = first_ends (is_changing_reply r o t) n x.replied.change (rw c.in_default.is at was.change);
      heard = least_ends (is_settling r reply) (hears r o.maker t) n x.news.settled.entry (is_settling r (is_news r o t))
          (settled_news r o t) (rw c.in_default.is at was.heard);
      news = greatest_ends reply (hears r o.maker t) n x.news.last.entry (is_news r o t) (all_news r o t) (rw c.in_default.is at was.news);
      words = was.words;
    }

pub station_replies-requires-clause-settled : goal.station_replies-requires-clause-settled
station_replies-requires-clause-settled g c = c.loop-next.invariant.words.settled

pub station_replies-requires-clause-last : goal.station_replies-requires-clause-last
station_replies-requires-clause-last g c = c.loop-next.invariant.words.last

pub station_replies-requires-clause-word : goal.station_replies-requires-clause-word
station_replies-requires-clause-word g c =
    spoken_there c.args.replies.now.findings.now c.args.replies.now.station c.in-Some.entry c.role_of_entry-part.result.reply
    c.role_of_entry-part.ensures.bytes c.role_of_entry-part.ensures.word

pub heard_replies-requires-clause-settled : goal.heard_replies-requires-clause-settled
heard_replies-requires-clause-settled g c = c.loop-next.invariant.words.heard

pub heard_replies-requires-clause-last : goal.heard_replies-requires-clause-last
heard_replies-requires-clause-last g c = c.loop-next.invariant.words.heard_last

pub heard_replies-requires-clause-sent : goal.heard_replies-requires-clause-sent
heard_replies-requires-clause-sent g c =
    answer_there c.args.replies.now.findings.now (order_of c.args.replies.now.order.now) c.args.replies.now.station c.in-Some.entry c.role_of_entry-part.result.reply
    c.role_of_entry-part.ensures.reply c.role_of_entry-part.ensures.bytes
