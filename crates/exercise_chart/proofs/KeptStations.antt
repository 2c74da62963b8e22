-- The columns of the stations that are kept, one station more at a time.
use Rattle.std.proofs.Common.{◌≡◌, ℕ, zero, suc, ◌+◌, List, [], ◌∷◌, ◌++◌, length, true, false, Option, Some, None, refl, sym, ap, ◌∙◌, length-append, arith}
use Rattle.std.specs.Prelude.{is_some, if◌then◌else◌}
use Rattle.std.proofs.Math.Numerals.{add-one}
use Rattle.dis_records.specs.declared.address.SiteApplication.{SiteApplication}
use Rattle.exercise_model.proofs.Offered.{values_below-more}
use Rattle.exercise_model.specs.Account.{values_below}
use Rattle.exercise_model.specs.Recording.{PlainRecording}
use Rattle.exercise_chart.specs.Kept.{is_kept, kept_below, column_of, columns_of}

length_below : {X : Type 0} (f : ℕ → X) (n : ℕ) → length (values_below f n) ≡ n
unfolding values_below
length_below f zero = refl
length_below f (suc n) = omega (arith, length-append (values_below f n) (f n ∷ []), length_below f n)

-- each station has an entry in the table
pub columns_count : (r : PlainRecording) (stations : List SiteApplication) → length (columns_of r stations) ≡ length r.setting.stations
columns_count r stations = length_below (column_of r stations) (length r.setting.stations)

-- one column more
pub columns_more : (r : PlainRecording) (stations : List SiteApplication) (n kept : ℕ) (old new : List (Option ℕ)) (column : Option ℕ)
    → column ≡ (if is_kept r stations n then Some kept else None) → kept ≡ kept_below r stations n → old ≡ values_below (column_of r stations) n
    → new ≡ old ++ column ∷ [] → new ≡ values_below (column_of r stations) (n + 1)
columns_more r stations n kept old new column here count before is =
    is ∙ ap (λ xs. xs ++ column ∷ []) before
    ∙ ap (λ o. values_below (column_of r stations) n ++ o ∷ []) (here ∙ ap (λ k. if is_kept r stations n then Some k else None) count)
    ∙ sym (values_below-more (column_of r stations) n)

kept_step : (r : PlainRecording) (stations : List SiteApplication) (n : ℕ)
    → kept_below r stations (n + 1) ≡ (if is_kept r stations n then kept_below r stations n + 1 else kept_below r stations n)
unfolding kept_below
kept_step r stations n = ap (kept_below r stations) (add-one n)

-- the number of columns, once it is known whether the next station has one
pub kept_more : (r : PlainRecording) (stations : List SiteApplication) (n kept : ℕ) (column : Option ℕ)
    → column ≡ (if is_kept r stations n then Some kept else None) → kept ≡ kept_below r stations n
    → (if is_some column then kept + 1 else kept) ≡ kept_below r stations (n + 1)
kept_more r stations n kept column here count =
    ap (λ o. if is_some o then kept + 1 else kept) here
    ∙ elim (is_kept r stations n) as
    (λ t. (if is_some (if t then Some kept else None) then kept + 1 else kept) ≡ (if t then kept_below r stations n + 1 else kept_below r stations n)) [
      | true ↦ ap (λ k. k + 1) count
      | false ↦ count
    ]
    ∙ sym (kept_step r stations n)
