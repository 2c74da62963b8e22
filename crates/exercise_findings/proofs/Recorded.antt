-- The recorded station that a PDU comes from: the first whose address is the PDU's.
use Rattle.std.proofs.Common.{◌≡◌, ℕ, zero, suc, ◌+◌, ◌-◌, ◌<◌, ◌≤◌, List, length, take, get_or, Some, None, Bool, true, false, refl, sym, ap, ◌∙◌, arith}
use Rattle.std.specs.Prelude.{is_some, ◌||◌, if◌then◌else◌}
use Rattle.std.specs.Option.{option_or}
use Rattle.std.specs.List.{list_any}
use Rattle.std.proofs.Math.Numerals.{add-one}
use Rattle.std.proofs.Math.Seq.{take-length}
use Rattle.std.proofs.lemmas.List.Folds.{list_any_more}
use Rattle.siman_pdus.specs.declared.pdu.Pdu.{Pdu}
use Rattle.exercise_model.specs.Recording.{PlainRecording}
use Rattle.exercise_model.specs.Setting.{is_from, is_recorded, nowhere}
use Rattle.exercise_model.specs.History.{station_at}
use Rattle.exercise_model.specs.Place.{first_below}
use Rattle.exercise_model.specs.Account.{sender_of}

-- the first that passes stays the first
pub first_stays : (f : ℕ → Bool) (k n j : ℕ) → first_below f n ≡ Some j → first_below f (k + n) ≡ Some j
unfolding first_below
first_stays f zero n j e = let same : 0 + n ≡ n = omega arith in ap (first_below f) same ∙ e
first_stays f (suc k) n j e =
    let next : suc k + n ≡ suc (k + n) = omega arith in
    ap (first_below f) next ∙ ap (λ o. option_or o (if f (k + n) then Some (k + n) else None)) (first_stays f k n j e)

first_here : (f : ℕ → Bool) (n m : ℕ) → first_below f n ≡ None → f n ≡ true → n < m → first_below f m ≡ Some n
unfolding first_below
first_here f n m none here l =
    let from : m ≡ m - (n + 1) + (n + 1) = omega (arith, l) in
    ap (first_below f) from
    ∙ first_stays f (m - (n + 1)) (n + 1) n
    (ap (first_below f) (add-one n) ∙ ap (λ o. option_or o (if f n then Some n else None)) none ∙ ap (λ b. if b then Some n else None) here)

pub sender_here : (r : PlainRecording) (p : Pdu) (s : ℕ) → first_below (λ t. is_from (station_at r t).address p) s ≡ None
    → is_from (station_at r s).address p ≡ true → s < length r.setting.stations → sender_of r p ≡ Some s
unfolding sender_of
sender_here r p s none here l = first_here (λ t. is_from (station_at r t).address p) s (length r.setting.stations) none here l

pub no_sender : (r : PlainRecording) (p : Pdu) (s : ℕ) → first_below (λ t. is_from (station_at r t).address p) s ≡ None
    → s ≡ length r.setting.stations → sender_of r p ≡ None
unfolding sender_of
no_sender r p s none end = ap (first_below (λ t. is_from (station_at r t).address p)) (sym end) ∙ none

pub no_first_yet : (f : ℕ → Bool) → first_below f 0 ≡ None
unfolding first_below
no_first_yet f = refl

pub no_first_still : (f : ℕ → Bool) (n : ℕ) → first_below f n ≡ None → f n ≡ false → first_below f (n + 1) ≡ None
unfolding first_below
no_first_still f n none here =
    ap (first_below f) (add-one n) ∙ ap (λ o. option_or o (if f n then Some n else None)) none ∙ ap (λ b. if b then Some n else None) here

any_first : {X : Type 0} (test : X → Bool) (xs : List X) (d : X) (n : ℕ) → n ≤ length xs
    → list_any test (take n xs) ≡ is_some (first_below (λ i. test (get_or xs i d)) n)
unfolding first_below
any_first test xs d zero l = refl
any_first test xs d (suc n) l =
    ap (λ m. list_any test (take m xs)) (sym (add-one n))
    ∙ list_any_more test xs n d (omega (arith, l))
    ∙ ap (λ b. b || test (get_or xs n d)) (any_first test xs d n (omega (arith, l)))
    ∙ elim (first_below (λ i. test (get_or xs i d)) n) as
    (λ o. (is_some o || test (get_or xs n d)) ≡ is_some (option_or o (if test (get_or xs n d) then Some n else None))) [
      | Some j ↦ refl
      | None ↦ elim (test (get_or xs n d)) as (λ b. b ≡ is_some (if b then Some n else None)) [ true ↦ refl | false ↦ refl ]
    ]

-- A PDU comes from a recorded station exactly where there is a sender.
pub recorded_sender : (r : PlainRecording) (p : Pdu) → is_some (sender_of r p) ≡ is_recorded r.setting p
unfolding sender_of is_recorded
recorded_sender r p =
    sym (any_first (λ o. is_from o.address p) r.setting.stations nowhere (length r.setting.stations) (omega arith))
    ∙ ap (list_any (λ o. is_from o.address p)) (take-length r.setting.stations)
