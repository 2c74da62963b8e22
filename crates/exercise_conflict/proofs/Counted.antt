-- Steps that name entries, and sends by their places, one more at a time.
use Rattle.std.proofs.Common.{◌≡◌, ⊎_elim, ℕ, zero, suc, ◌+◌, ◌<◌, ◌≤◌, List, [], ◌∷◌, ◌++◌, map, filter, get_or, take, length, cond, Bool, true, false, Option, Some, None, refl, sym, ap, ◌∙◌, arith}
use Rattle.std.specs.Prelude.{slice_index_or, slice_get, nat_eq, is_some, option_map, option_and_then, if◌then◌else◌}
use Rattle.std.specs.Option.{option_map_or, option_or, option_to_list}
use Rattle.std.proofs.Math.Numerals.{add-one}
use Rattle.std.proofs.Math.ListN.{get_or-eq_default}
use Rattle.std.proofs.lemmas.Bool.{cases_lt}
use Rattle.std.proofs.lemmas.List.{length-take-le, map-append, take_more}
use Rattle.std.proofs.lemmas.List.Elements.{filter-append}
use Rattle.std.proofs.lemmas.List.Sums.{count_by-le-length, count_by_more_no, count_by_more_yes}
use Rattle.dis_records.specs.declared.entity_state.EntityState.{EntityState}
use Rattle.exercise_model.specs.Entry.{Sent, Received, Told}
use Rattle.exercise_model.specs.Recording.{PlainRecording}
use Rattle.exercise_model.specs.History.{Event, History, event_of}
use Rattle.exercise_model.specs.Meaning.{meaning}
use Rattle.exercise_model.specs.Place.{own_event, log_before, first_below}
use Rattle.exercise_model.specs.Account.{pair_of_entry, pair_of}
use Rattle.exercise_model.proofs.Offered.{log_before-more, log_before-none}
use Rattle.exercise_check.specs.Sequence.{sender_link, link_of}
use Rattle.exercise_check.specs.declared.certificate.Step.{Step}
use Rattle.exercise_check.specs.Goodness.{no_step}
use Rattle.exercise_conflict.specs.declared.lacks.MissingSend.{MissingSend}
use Rattle.exercise_audit.specs.declared.blocks.Block.{Block}
use Rattle.exercise_conflict.specs.declared.waits.Wait.{Wait}
use Rattle.exercise_conflict.specs.Also.{further_cause_at}
use Rattle.exercise_conflict.specs.Cycles.{cycle_at}
use Rattle.exercise_conflict.specs.Ways.{cycles_below, further_cause, further_causes_below}
use Rattle.exercise_conflict.specs.Repair.{made, kept, is_first, is_after, slots_below}
use Rattle.exercise_conflict.specs.StepClash.{right_link, times_taken}

-- ---- how often entries are named

pub one_taken : (steps : List Step) (i k : ℕ) → i < length steps
    → times_taken (take (i + 1) steps) k ≡ times_taken (take i steps) k + cond (nat_eq (get_or steps i no_step).place k) 1 0
one_taken steps i k within =
    elim (nat_eq (get_or steps i no_step).place k) as (λ b. nat_eq (get_or steps i no_step).place k ≡ b
    → times_taken (take (i + 1) steps) k ≡ times_taken (take i steps) k + cond b 1 0) [
      | true ↦ λ is. count_by_more_yes (λ (step : Step). nat_eq step.place k) steps i no_step within is
      | false ↦ λ is. let same = count_by_more_no (λ (step : Step). nat_eq step.place k) steps i no_step within is in omega (arith, same)
    ] refl

-- there is room for one more
pub room : (steps : List Step) (i n : ℕ) (times : List ℕ) → i < 18446744073709551615 → i ≤ length steps → length times ≡ n
    → ((k : ℕ) → k < n → slice_index_or times k 0 ≡ times_taken (take i steps) k) → (k : ℕ) → slice_index_or times k 0 < 18446744073709551615
room steps i n times few le count each k = ⊎_elim
    (λ (below : k < n).
    let most : times_taken (take i steps) k ≤ length (take i steps) = count_by-le-length (λ (step : Step). nat_eq step.place k) (take i steps) in
    let is = each k below in
    omega (arith, most, is, few, length-take-le i steps le))
    (λ (past : n ≤ k). let none = get_or-eq_default times 0 {n = k} (omega (arith, past, count)) in omega (arith, none))
    (cases_lt k n)

-- the first number that passes below a bound asks for those below it alone
pub same_below : (f g : ℕ → Bool) (n : ℕ) → ((i : ℕ) → i < n → f i ≡ g i) → first_below f n ≡ first_below g n
unfolding first_below
same_below f g zero same = refl
same_below f g (suc n) same =
    ap (λ o. option_or o (if f n then Some n else None)) (same_below f g n (λ i less. same i (omega (arith, less))))
    ∙ ap (λ (b : Bool). option_or (first_below g n) (if b then Some n else None)) (same n (omega arith))

-- ---- sends by their places

pub made_more : (t : MissingSend → Bool) (xs : List MissingSend) (i : ℕ) (x : MissingSend) → i < length xs → x ≡ get_or xs i x
    → map made (filter t (take (i + 1) xs)) ≡ map made (filter t (take i xs)) ++ map made (filter t (x ∷ []))
made_more t xs i x within is =
    ap (λ ys. map made (filter t ys)) (take_more xs i x within ∙ ap (λ y. take i xs ++ y ∷ []) (sym is))
    ∙ ap (map made) (filter-append t (take i xs) (x ∷ []))
    ∙ map-append made (filter t (take i xs)) (filter t (x ∷ []))

pub made_here : (t : MissingSend → Bool) (x : MissingSend) → t x ≡ true → map made (filter t (x ∷ [])) ≡ made x ∷ []
made_here t x on = ap (λ (b : Bool). map made (cond b (x ∷ []) [])) on

pub made_not : (t : MissingSend → Bool) (x : MissingSend) → t x ≡ false → map made (filter t (x ∷ [])) ≡ []
made_not t x off = ap (λ (b : Bool). map made (cond b (x ∷ []) [])) off

-- ---- slots, cycles and what stands beside, one more

pub slots_none : (xs : List MissingSend) → slots_below xs 0 ≡ map made (filter is_first xs)
unfolding slots_below
slots_none xs = refl

pub slots_more : (xs : List MissingSend) (n : ℕ) → slots_below xs (n + 1) ≡ slots_below xs n ++ kept n ∷ map made (filter (is_after n) xs)
unfolding slots_below
slots_more xs n = ap (slots_below xs) (add-one n)

pub cycles_none : (waits : List Wait) → cycles_below waits 0 ≡ []
unfolding cycles_below
cycles_none waits = refl

pub cycles_more : (waits : List Wait) (n : ℕ) → cycles_below waits (n + 1) ≡ cycles_below waits n ++ option_to_list (cycle_at waits n)
unfolding cycles_below
cycles_more waits n = ap (cycles_below waits) (add-one n)

pub also_none : (r : PlainRecording) (blocks : List Block) → further_causes_below r blocks 0 ≡ []
unfolding further_causes_below
also_none r blocks = refl

pub also_more : (r : PlainRecording) (blocks : List Block) (n : ℕ)
    → further_causes_below r blocks (n + 1) ≡ further_causes_below r blocks n ++ option_to_list (option_map (further_cause n) (further_cause_at r blocks n))
unfolding further_causes_below
also_more r blocks n = ap (further_causes_below r blocks) (add-one n)

-- ---- ranks, one entry more

longer : (o : Option Event) (h : History) → length (option_map_or (λ v. v ∷ h) o h) ≡ length h + cond (is_some o) 1 0
longer None h = omega arith
longer (Some v) h = omega arith

pub ranks_more : (r : PlainRecording) (s i : ℕ) → length (log_before r s (i + 1)) ≡ length (log_before r s i) + cond (is_some (own_event r s i)) 1 0
ranks_more r s i =
    ap (λ m. length (log_before r s m)) (add-one i) ∙ ap length (log_before-more r s i) ∙ longer (own_event r s i) (log_before r s i)

pub ranks_none : (r : PlainRecording) (s : ℕ) → 0 ≡ length (log_before r s 0)
ranks_none r s = sym (ap length (log_before-none r s))

-- ---- the right link, by the entry

pub right_sent : (r : PlainRecording) (before : List Step) (i s stamp : ℕ) (b : List ℕ) → slice_get r.entries i ≡ Some (Sent s stamp b)
    → pair_of r i ≡ right_link r before i
unfolding right_link link_of pair_of
right_sent r before i s stamp b at =
    ap (option_and_then (pair_of_entry r i)) at ∙ sym (ap (option_and_then (λ e. link_of r before i (event_of e))) at)

pub right_got : (r : PlainRecording) (before : List Step) (i s stamp : ℕ) (b : List ℕ) → slice_get r.entries i ≡ Some (Received s stamp b)
    → option_and_then (sender_link r b before) (meaning r.setting.exercise b) ≡ right_link r before i
unfolding right_link link_of
right_got r before i s stamp b at = sym (ap (option_and_then (λ e. link_of r before i (event_of e))) at)

pub right_told : (r : PlainRecording) (before : List Step) (i s n : ℕ) (y : EntityState) → slice_get r.entries i ≡ Some (Told s n y)
    → None ≡ right_link r before i
unfolding right_link link_of
right_told r before i s n y at = sym (ap (option_and_then (λ e. link_of r before i (event_of e))) at)
