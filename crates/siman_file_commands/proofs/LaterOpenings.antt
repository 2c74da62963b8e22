-- The first opening list that does not agree with the log before it, list after list.
use Rattle.std.proofs.Common.{◌≡◌, ℕ, zero, suc, ◌+◌, ◌<◌, ◌≤◌, List, [], ◌∷◌, length, drop, get_or, Option, sym, ap, ◌∙◌, arith}
use Rattle.std.specs.Prelude.{nat_lt, if◌then◌else◌}
use Rattle.std.proofs.lemmas.List.{take_all}
use Rattle.exercise_model.specs.History.{History, past, log_at, station_at}
use Rattle.exercise_model.specs.Place.{log_before}
use Rattle.exercise_model.specs.Recording.{PlainRecording}
use Rattle.exercise_model.specs.State.{entities_after}
use Rattle.exercise_recording.specs.Joining.{place_among, LaterOpeningData}
use Rattle.siman_file_commands.specs.Openings.{first_difference, entities_then, other_entity, other_with, first_other}

-- no entry is behind the last
pub log_past : (r : PlainRecording) (s n : ℕ) → length r.entries ≤ n → log_before r s (length r.entries) ≡ log_before r s n
unfolding log_before
log_past r s n beyond = ap (λ es. log_at s (past es)) (take_all (length r.entries) r.entries (omega arith) ∙ sym (take_all n r.entries beyond))

-- the entities before two entries with equal logs before them
then_same : (r : PlainRecording) (s i n : ℕ) → ((t : ℕ) → log_before r t i ≡ log_before r t n) → entities_then r s i ≡ entities_then r s n
then_same r s i n same = ap (λ (log : History). if nat_lt s (length r.setting.stations) then entities_after r.setting.exercise (station_at r s) log else []) (same s)

-- what is found of an opening list
pub other_found : (r : PlainRecording) (o : LaterOpeningData) (i : ℕ) (found : Option ℕ) → ((t : ℕ) → log_before r t i ≡ log_before r t o.entry)
    → found ≡ first_difference (entities_then r (place_among r.setting.stations o.station.address) i) o.station.opening → found ≡ other_entity r o
other_found r o i found same is =
    is ∙ ap (λ xs. first_difference xs o.station.opening) (then_same r (place_among r.setting.stations o.station.address) i o.entry same)

drop_first : (os : List LaterOpeningData) (i : ℕ) (o : LaterOpeningData) → i < length os → o ≡ get_or os i o → drop i os ≡ o ∷ drop (suc i) os
drop_first [] i o within is = absurd (omega (arith, within))
drop_first (x ∷ os) zero o within is = ap (λ y. y ∷ os) (sym is)
drop_first (x ∷ os) (suc i) o within is = drop_first os i o (omega (arith, within)) is

-- the next list agrees, or it is the first that does not
pub next_other : (r : PlainRecording) (os : List LaterOpeningData) (i : ℕ) (o : LaterOpeningData) (found : Option ℕ) → i < length os → o ≡ get_or os i o → found ≡ other_entity r o
    → first_other r (drop i os) ≡ other_with o found (first_other r (drop (i + 1) os))
next_other r os i o found within is same =
    let next : suc i ≡ i + 1 = omega arith in
    ap (first_other r) (drop_first os i o within is) ∙ ap (λ n. other_with o (other_entity r o) (first_other r (drop n os))) next
    ∙ ap (λ f. other_with o f (first_other r (drop (i + 1) os))) (sym same)
