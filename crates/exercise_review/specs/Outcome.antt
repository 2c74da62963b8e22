-- The outcome of an order at each of its parties (profile).
use Rattle.std.specs.Prelude.{ℕ, ◌-◌, List, [], ◌∷◌, length, map, nat_le, Option, Some, None, option_map, option_and_then, slice_get, if◌then◌else◌}
use Rattle.exercise_model.specs.Entry.{Entry, Sent, Received, Told}
use Rattle.exercise_model.specs.Recording.{PlainRecording}
use Rattle.exercise_review.specs.declared.fate.Fate.TheVariants as fates
use Rattle.exercise_review.specs.declared.party.Party.{Party}
use Rattle.exercise_review.specs.declared.party.Party.TheVariants as parties
use Rattle.dis_records.specs.declared.address.SiteApplication.{SiteApplication}
use Rattle.exercise_review.specs.declared.outcome.Outcome.{Outcome}
use Rattle.exercise_review.specs.Counted.{count_below}
use Rattle.exercise_review.specs.Order.{OrderData, sends_of}
use Rattle.exercise_review.specs.Party.{is_copy, first_copy, is_heard_from}
use Rattle.exercise_review.specs.Parties.{parties_of}
use Rattle.exercise_review.specs.Reply.{is_reply, is_news, change_of_order}
use Rattle.exercise_review.specs.Word.{decisive_entry, decisive_word}
use Rattle.exercise_review.specs.Fate.{fate_of}

-- ---- clocks

-- the stamp of an entry, by the clock of its station; none for a state report
abbrev pub stamp_of : Entry → Option ℕ
stamp_of (Sent s stamp b) = Some stamp
stamp_of (Received s stamp b) = Some stamp
stamp_of (Told s e y) = None

unfoldable pub stamp_at : PlainRecording → ℕ → Option ℕ
stamp_at r i = option_and_then stamp_of (slice_get r.entries i)

-- how far a clock advanced, unless it was set back
abbrev pub clock_advance : ℕ → ℕ → Option ℕ
clock_advance from until = if nat_le from until then Some (until - from) else None

-- the time from entry i to entry j by the clock of their station
abbrev pub time_between : PlainRecording → ℕ → ℕ → Option ℕ
time_between r i j = option_and_then (λ from. option_and_then (clock_advance from) (stamp_at r j)) (stamp_at r i)

-- THE TIME AN ORDER TOOK, from its head to the entry `news`
abbrev pub took : PlainRecording → OrderData → Option ℕ → Option ℕ
took r o news = option_and_then (time_between r o.head) news

-- ---- outcomes

-- how often the order was sent, if its maker is recorded
abbrev pub known_sends : PlainRecording → OrderData → Option ℕ
known_sends r o = option_map (λ s. sends_of r o) o.maker

-- how often station t received the order
abbrev pub receipts_of : PlainRecording → OrderData → ℕ → ℕ
receipts_of r o t = count_below (is_copy r o t) (length r.entries)

-- THE OUTCOME AT A RECORDED STATION has everything from the two logs
abbrev pub recorded_outcome : PlainRecording → OrderData → ℕ → Outcome
recorded_outcome r o t = record {
  party = Some (parties.Station t);
  sends = known_sends r o;
  receipts = Some (receipts_of r o t);
  got = first_copy r o t;
  said = decisive_word r (is_reply r o t);
  answer = decisive_entry r (is_reply r o t);
  heard = decisive_word r (is_news r o t);
  news = decisive_entry r (is_news r o t);
  took = took r o (decisive_entry r (is_news r o t));
  change = change_of_order r o t;
  fate = fate_of r o (parties.Station t);
}

-- THE OUTCOME AT AN ADDRESS OF NO RECORDED STATION has what the maker heard from there
abbrev pub outsider_outcome : PlainRecording → OrderData → SiteApplication → Outcome
outsider_outcome r o a = record {
  party = Some (parties.Outside a);
  sends = known_sends r o;
  receipts = None;
  got = None;
  said = None;
  answer = None;
  heard = decisive_word r (is_heard_from r o a);
  news = decisive_entry r (is_heard_from r o a);
  took = took r o (decisive_entry r (is_heard_from r o a));
  change = None;
  fate = fate_of r o (parties.Outside a);
}

-- THE OUTCOME OF AN ORDER WITHOUT PARTIES has only the number of sends
abbrev pub partyless_outcome : PlainRecording → OrderData → Outcome
partyless_outcome r o = record {
  party = None;
  sends = known_sends r o;
  receipts = None;
  got = None;
  said = None;
  answer = None;
  heard = None;
  news = None;
  took = None;
  change = None;
  fate = fates.Nobody;
}

unfoldable pub outcome_at : PlainRecording → OrderData → Party → Outcome
outcome_at r o (parties.Station t) = recorded_outcome r o t
outcome_at r o (parties.Outside a) = outsider_outcome r o a

-- one outcome for each party, or the one of an order without parties
abbrev pub outcomes_at : PlainRecording → OrderData → List Party → List Outcome
outcomes_at r o [] = partyless_outcome r o ∷ []
outcomes_at r o (party ∷ parties) = map (outcome_at r o) (party ∷ parties)

-- THE OUTCOMES OF AN ORDER, by rising address of its parties
unfoldable pub outcomes_of : PlainRecording → OrderData → List Outcome
outcomes_of r o = outcomes_at r o (parties_of r o)
