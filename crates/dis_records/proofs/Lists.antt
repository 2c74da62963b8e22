-- The first of the records that are left.
use Rattle.std.proofs.Common.{◌≡◌, ℕ, zero, suc, ◌+◌, ◌-◌, ◌<◌, ◌≤◌, List, [], ◌∷◌, length, take, drop, refl, sym, arith}
use Rattle.std.specs.Int.{w32}
use Rattle.dis_records.specs.Layout.{spelled_number, bytes_for, total}
use Rattle.dis_records.specs.Datum.{padded}
use Rattle.dis_records.specs.Records.{fixed_at, ids_at, variable_sizes, variable_at}
use Rattle.dis_records.specs.Views.{variable_start, ids_start, shown_datums, shown_ids}

fixed_length : (n at : ℕ) (b : List ℕ) → length (fixed_at n at b) ≡ n
unfolding fixed_at
fixed_length zero at b = refl
fixed_length (suc n) at b = rw (fixed_length n (at + 8) b) refl

ids_length : (n at : ℕ) (b : List ℕ) → length (ids_at n at b) ≡ n
unfolding ids_at
ids_length zero at b = refl
ids_length (suc n) at b = rw (ids_length n (at + 4) b) refl

variable_length : (n at : ℕ) (b : List ℕ) → length (variable_at n at b) ≡ n
unfolding variable_at
variable_length zero at b = refl
variable_length (suc n) at b = rw (variable_length n (at + padded (spelled_number w32 (at + 4) b)) b) refl

-- as many records are shown as their counts say
pub fixed_count : (counts : ℕ) (b : List ℕ) → spelled_number w32 counts b ≡ length (shown_datums counts b).fixed
unfolding shown_datums
fixed_count counts b = sym (fixed_length (spelled_number w32 counts b) (counts + 8) b)

pub variable_count : (counts : ℕ) (b : List ℕ) → spelled_number w32 (counts + 4) b ≡ length (shown_datums counts b).variable
unfolding shown_datums
variable_count counts b = sym (variable_length (spelled_number w32 (counts + 4) b) (variable_start counts b) b)

pub fixed_id_count : (counts : ℕ) (b : List ℕ) → spelled_number w32 counts b ≡ length (shown_ids counts b).fixed
unfolding shown_ids
fixed_id_count counts b = sym (ids_length (spelled_number w32 counts b) (counts + 8) b)

pub variable_id_count : (counts : ℕ) (b : List ℕ) → spelled_number w32 (counts + 4) b ≡ length (shown_ids counts b).variable
unfolding shown_ids
variable_id_count counts b = sym (ids_length (spelled_number w32 (counts + 4) b) (ids_start counts b) b)

pub fixed_none : (left at : ℕ) (b : List ℕ) → left ≡ 0 → fixed_at left at b ≡ []
unfolding fixed_at
fixed_none left at b none = rw none refl

pub fixed_more : (left at : ℕ) (b : List ℕ) → 0 < left
    → fixed_at left at b ≡ record { id = spelled_number w32 at b; value = spelled_number w32 (at + 4) b } ∷ fixed_at (left - 1) (at + 8) b
unfolding fixed_at
fixed_more zero at b lt = absurd (omega arith)
fixed_more (suc n) at b lt = let e : suc n - 1 ≡ n = omega arith in rw e refl

pub ids_none : (left at : ℕ) (b : List ℕ) → left ≡ 0 → ids_at left at b ≡ []
unfolding ids_at
ids_none left at b none = rw none refl

pub ids_more : (left at : ℕ) (b : List ℕ) → 0 < left → ids_at left at b ≡ spelled_number w32 at b ∷ ids_at (left - 1) (at + 4) b
unfolding ids_at
ids_more zero at b lt = absurd (omega arith)
ids_more (suc n) at b lt = let e : suc n - 1 ≡ n = omega arith in rw e refl

pub variable_none : (left at : ℕ) (b : List ℕ) → left ≡ 0 → variable_at left at b ≡ []
unfolding variable_at
variable_none left at b none = rw none refl

pub variable_more : (left at : ℕ) (b : List ℕ) → 0 < left
    → variable_at left at b ≡ record {
      id = spelled_number w32 at b;
      bits = spelled_number w32 (at + 4) b;
      bytes = take (bytes_for (spelled_number w32 (at + 4) b))
          (drop (at + 8) b);
    } ∷ variable_at (left - 1) (at + padded (spelled_number w32 (at + 4) b)) b
unfolding variable_at
variable_more zero at b lt = absurd (omega arith)
variable_more (suc n) at b lt = let e : suc n - 1 ≡ n = omega arith in rw e refl

pub sizes_more : (left at : ℕ) (b : List ℕ) → 0 < left
    → variable_sizes left at b ≡ padded (spelled_number w32 (at + 4) b) ∷ variable_sizes (left - 1) (at + padded (spelled_number w32 (at + 4) b)) b
unfolding variable_sizes
sizes_more zero at b lt = absurd (omega arith)
sizes_more (suc n) at b lt = let e : suc n - 1 ≡ n = omega arith in rw e refl

-- the first record is wholly there, and so are the others
pub record Room (left at : ℕ) (b : List ℕ) : Type 0 where
  pub head : at + 8 ≤ length b
  pub value : at + 8 + bytes_for (spelled_number w32 (at + 4) b) ≤ length b
  pub others : at + padded (spelled_number w32 (at + 4) b) + total (variable_sizes (left - 1) (at + padded (spelled_number w32 (at + 4) b)) b) ≤ length b

pub room : (left at : ℕ) (b : List ℕ) → 0 < left → at + total (variable_sizes left at b) ≤ length b → Room left at b
room left at b lt within =
    let first = rw (sizes_more left at b lt) at within in
    record { head = omega arith; value = omega arith; others = omega arith }
