-- Which entry of a station is its next one, by how many of it stand before an entry.
use Rattle.std.proofs.Common.{◌≡◌, ℕ, ◌<◌, ◌≤◌, List, length, cond, Some, None, true, false, refl, sym, ap, ◌∙◌, ⊎_elim, arith}
use Rattle.std.specs.Prelude.{is_some, slice_get, nat_eq, option_and_then}
use Rattle.std.proofs.lemmas.Bool.Decides.{nat_tests}
use Rattle.std.proofs.lemmas.Bool.{cases_lt, eq-eqb}
use Rattle.exercise_model.specs.Entry.{Entry}
use Rattle.exercise_model.specs.Recording.{PlainRecording}
use Rattle.exercise_model.specs.History.{event_of, station_of, log_at}
use Rattle.exercise_model.specs.Place.{event_at, own_event, log_before}
use Rattle.exercise_model.proofs.Offered.{passes}
use Rattle.exercise_check.specs.declared.certificate.Step.{Step}
use Rattle.exercise_check.specs.Sequence.{sequence_of, is_next}
use Rattle.exercise_check.specs.Cursors.{Represents}

-- an entry is a station's own where it is the station's
pub own_here : (r : PlainRecording) (s i : ℕ) (e : Entry) → slice_get r.entries i ≡ Some e
    → is_some (own_event r s i) ≡ nat_eq s (station_of (event_of e))
unfolding own_event
own_here r s i e at =
    ap (λ o. is_some (option_and_then (λ e. event_at s (event_of e)) o)) at
    ∙ elim (nat_eq (station_of (event_of e)) s) as (λ b. is_some (cond b (Some (event_of e)) None) ≡ b) [ true ↦ refl | false ↦ refl ]
    ∙ swap (station_of (event_of e)) s
  where
    swap : (a b : ℕ) → nat_eq a b ≡ nat_eq b a
    swap a b = grind (arith, nat_tests)

differ : (a b m n : ℕ) → (a ≡ b → ⊥) → (m ≡ n → ⊥) → nat_eq a b ≡ nat_eq m n
differ a b m n ab mn = grind (arith, nat_tests)

-- an entry is its station's next one exactly where the number that stands for that one is its own
pub next_by_cursor : (r : PlainRecording) (steps : List Step) (place s number : ℕ) (e : Entry) → s ≡ station_of (event_of e)
    → place < length r.entries → slice_get r.entries place ≡ Some e
    → Represents r s (length (log_at s (sequence_of r steps))) number
    → nat_eq number place ≡ is_next r steps place (event_of e)
unfolding is_next
next_by_cursor r steps place s number e same within at stands =
    by ∙ ap (λ t. nat_eq (length (log_at t (sequence_of r steps))) (length (log_before r t place))) same
  where
    k : ℕ
    k = length (log_at s (sequence_of r steps))

    own : is_some (own_event r s place) ≡ true
    own = own_here r s place e at ∙ eq-eqb s _ same

    by : nat_eq number place ≡ nat_eq k (length (log_before r s place))
    by = ⊎_elim
        (λ (below : number < place).
        let less = passes r s number place (stands.own (omega (arith, below, within))) below in
        differ number place k _ (λ is. omega (arith, is, below)) (λ is. omega (arith, is, less, stands.rank (omega (arith, below, within)))))
        (λ (from : place ≤ number). ⊎_elim
        (λ (above : place < number). ⊎_elim
        (λ (there : number < length r.entries).
        let more = passes r s place number own above in
        differ number place k _ (λ is. omega (arith, is, above)) (λ is. omega (arith, is, more, stands.rank there)))
        (λ (past : length r.entries ≤ number).
        let more = passes r s place (length r.entries) own within in
        differ number place k _ (λ is. omega (arith, is, above)) (λ is. omega (arith, is, more, stands.none past)))
        (cases_lt number (length r.entries)))
        (λ (most : number ≤ place).
        let equal : number ≡ place = omega (arith, from, most) in
        eq-eqb number place equal ∙ sym (eq-eqb k _ (sym (stands.rank (omega (arith, equal, within))) ∙ ap (λ m. length (log_before r s m)) equal)))
        (cases_lt place number))
        (cases_lt number place)
