-- The replies of a party to an order, and their receipts by its maker (profile, over the exchanges of IEEE 1278.1-2012,
-- 5.6.5).
use Rattle.std.specs.Prelude.{ℕ, List, length, Bool, false, ◌&&◌, bytes_eq, Option, is_some, option_and_then}
use Rattle.std.specs.Option.{option_map_or}
use Rattle.siman_pdus.specs.Answers.{is_answer_to}
use Rattle.exercise_model.specs.Recording.{PlainRecording}
use Rattle.exercise_model.specs.Place.{first_below}
use Rattle.exercise_model.specs.Account.{pair_of, change_at}
use Rattle.exercise_review.specs.Entries.{bytes_sent, bytes_received, pdu_sent}
use Rattle.exercise_review.specs.Order.{OrderData}
use Rattle.exercise_review.specs.Party.{is_copy}

-- station t sends at entry i an answer to the order
abbrev pub answers_order : PlainRecording → OrderData → ℕ → ℕ → Bool
answers_order r o t i = option_map_or (λ p. is_answer_to p o.request) (pdu_sent r t i) false

-- the request that entry i takes up is a copy of the order
abbrev pub takes_copy : PlainRecording → OrderData → ℕ → ℕ → Bool
takes_copy r o t i = option_map_or (is_copy r o t) (pair_of r i) false

-- A REPLY OF STATION t: it sends at entry i an answer to the order that takes up a copy of it
unfoldable pub is_reply : PlainRecording → OrderData → ℕ → ℕ → Bool
is_reply r o t i = answers_order r o t i && takes_copy r o t i

-- the reply at entry i makes a change at its station
unfoldable pub is_changing_reply : PlainRecording → OrderData → ℕ → ℕ → Bool
is_changing_reply r o t i = is_reply r o t i && is_some (change_at r i)

-- THE CHANGE THAT AN ORDER MADE at station t: the entry of the first of its replies that makes a change
unfoldable pub change_of_order : PlainRecording → OrderData → ℕ → Option ℕ
change_of_order r o t = first_below (is_changing_reply r o t) (length r.entries)

-- entry j is a reply of station t with these bytes
unfoldable pub replies_in : PlainRecording → OrderData → ℕ → List ℕ → ℕ → Bool
replies_in r o t b j = is_reply r o t j && option_map_or (bytes_eq b) (bytes_sent r t j) false

-- a reply of station t has these bytes
unfoldable pub has_reply_in : PlainRecording → OrderData → ℕ → List ℕ → Bool
has_reply_in r o t b = is_some (first_below (replies_in r o t b) (length r.entries))

-- NEWS OF STATION t: the maker receives at entry i the bytes of one of its replies
unfoldable pub is_news : PlainRecording → OrderData → ℕ → ℕ → Bool
is_news r o t i = option_map_or (has_reply_in r o t) (option_and_then (λ s. bytes_received r s i) o.maker) false
