-- How many events of a station stand before an entry.
use Rattle.std.proofs.Common.{◌≡◌, ℕ, zero, suc, ◌+◌, ◌-◌, ◌<◌, ◌≤◌, ◌∷◌, length, Option, Some, None, true, sym, ap, ◌∙◌, arith}
use Rattle.std.specs.Prelude.{is_some, if◌then◌else◌}
use Rattle.std.specs.Option.{option_map_or}
use Rattle.std.proofs.Math.Numerals.{add-one}
use Rattle.std.proofs.Math.Nat.{add-zero}
use Rattle.exercise_model.specs.Recording.{PlainRecording}
use Rattle.exercise_model.specs.History.{Event, History}
use Rattle.exercise_model.specs.Place.{own_event, log_before}
use Rattle.exercise_model.proofs.Onward.{log_before-more}

-- one event more, where there is one
pub longer : (o : Option Event) (h : History) → length (option_map_or (λ v. v ∷ h) o h) ≡ length h + (if is_some o then 1 else 0)
longer None h = sym (add-zero (length h))
longer (Some v) h = sym (add-one (length h))

pub length-entries-more : (r : PlainRecording) (s i : ℕ)
    → length (log_before r s (i + 1)) ≡ length (log_before r s i) + (if is_some (own_event r s i) then 1 else 0)
length-entries-more r s i =
    ap (λ n. length (log_before r s n)) (add-one i) ∙ ap length (log_before-more r s i) ∙ longer (own_event r s i) (log_before r s i)

-- as many or more of a station stand before a later entry
rises : (r : PlainRecording) (s i n : ℕ) → length (log_before r s i) ≤ length (log_before r s (i + n))
rises r s i zero =
    let same : length (log_before r s (i + 0)) ≡ length (log_before r s i) = ap (λ m. length (log_before r s m)) (omega (arith)) in omega (arith, same)
rises r s i (suc n) =
    let more : length (log_before r s (i + n + 1)) ≡ length (log_before r s (i + n)) + (if is_some (own_event r s (i + n)) then 1 else 0) =
    length-entries-more r s (i + n) in
    let next : length (log_before r s (i + suc n)) ≡ length (log_before r s (i + n + 1)) = ap (λ m. length (log_before r s m)) (omega (arith)) in
    omega (arith, next, more, rises r s i n)

-- and more, where the entry is its own
pub passes : (r : PlainRecording) (s i j : ℕ) → is_some (own_event r s i) ≡ true → i < j → length (log_before r s i) < length (log_before r s j)
passes r s i j own before =
    let more : length (log_before r s (i + 1)) ≡ length (log_before r s i) + 1 =
    length-entries-more r s i ∙ ap (λ b. length (log_before r s i) + (if b then 1 else 0)) own in
    let later : length (log_before r s (i + 1 + (j - (i + 1)))) ≡ length (log_before r s j) = ap (λ m. length (log_before r s m)) (omega (arith, before)) in
    omega (arith, more, later, rises r s (i + 1) (j - (i + 1)))
