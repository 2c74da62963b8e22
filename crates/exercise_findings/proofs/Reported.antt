-- The entities that are told: their states by the tables, page by page.
use Rattle.std.proofs.Common.{◌≡◌, ℕ, zero, suc, ◌+◌, ◌*◌, ◌/◌, ◌<◌, ◌≤◌, List, [], ◌∷◌, ◌++◌, length, Some, None, true, false, Vec, get_or, ◌%◌, append-nil, refl, sym, ap, ◌∙◌, subst, arith}
use Rattle.std.specs.Prelude.{IfSome, IfOk, Result, Ok, Err, slice_get, nat_lt, option_and_then, if◌then◌else◌}
use Rattle.std.specs.Option.{option_map_or}
use Rattle.std.specs.declared.alloc.Global.{Global}
use Rattle.std.proofs.lemmas.Bool.Decides.{nat_tests}
use Rattle.std.proofs.lemmas.Nat.{div_below, le-div}
use Rattle.std.proofs.lemmas.Option.{slice_get_read}
use Rattle.dis_records.specs.declared.entity_state.EntityState.{EntityState}
use Rattle.dis_records.specs.declared.entity_state.EntityState.TheVariants.{Absent}
use Rattle.exercise_model.specs.Station.{is_entity, is_absent}
use Rattle.exercise_model.specs.Recording.{PlainRecording}
use Rattle.exercise_model.specs.History.{station_at}
use Rattle.exercise_model.specs.State.{state_after, entities_after, present_below}
use Rattle.exercise_model.specs.Place.{log_before}
use Rattle.exercise_model.specs.Account.{entities_of}
use Rattle.exercise_model.proofs.Offered.{change_steps, log_before-all, present_below-all}
use Rattle.exercise_findings.specs.State.{entities_before}
use Rattle.exercise_findings.specs.declared.states.SingleState.{SingleState}
use Rattle.exercise_findings.specs.declared.states.States.{States}
use Rattle.exercise_findings.specs.States.{held_at, state_by, has_page, state_in, state_or_absent, AreStatesOf, AreStates}

-- the states of a station, at its place in a table
pub states_at : (r : PlainRecording) (n s : ℕ) (ts : List States) (t : States) → AreStates r n ts → s < length r.setting.stations
    → t ≡ get_or ts s t → AreStatesOf r n s t
states_at r n s ts t tied within at =
    subst (λ o. IfSome o (AreStatesOf r n s)) (slice_get_read ts (length ts) s t refl (omega (arith, within, tied.count)) at) (tied.each s)

-- what the tables know is the state
pub known : (r : PlainRecording) (n s : ℕ) (t : States) → AreStatesOf r n s t
    → (e : ℕ) → state_or_absent t e ≡ state_after r.setting.exercise (station_at r s) (log_before r s n) e
unfolding state_after
known r n s t states e = ap (λ y. if is_entity e then y else Absent) (states.states e)

-- ---- a page of which nothing is kept

no_page : (pages : List (Vec SingleState Global)) (e page : ℕ) → e / 256 ≡ page → has_page pages page ≡ false → held_at pages e ≡ None
unfolding held_at
no_page pages e page here none =
    ap (λ i. option_and_then (λ (p : Vec SingleState Global). slice_get p.items (e % 256)) (slice_get pages i)) here
    ∙ elim (slice_get pages page) as (λ o. option_map_or (λ (p : Vec SingleState Global). nat_lt 0 (length p.items)) o false ≡ false
    → option_and_then (λ (p : Vec SingleState Global). slice_get p.items (e % 256)) o ≡ None) [
      | None ↦ λ _. refl
      | Some p ↦ elim p.items as (λ xs. nat_lt 0 (length xs) ≡ false → slice_get xs (e % 256) ≡ None) [
        | [] ↦ λ _. refl
        | (x ∷ xs) ↦ λ none. absurd (apart xs none)
      ]
    ] none
  where
    apart : (xs : List SingleState) → nat_lt 0 (suc (length xs)) ≡ false → ⊥
    apart xs none = grind (arith, nat_tests)

pub none_there : (t : States) (page : ℕ) → t.rest ≡ Absent → has_page t.pages.items page ≡ false
    → (e : ℕ) → page * 256 ≤ e → e < (page + 1) * 256 → is_absent (state_or_absent t e) ≡ true
unfolding state_in
none_there t page rest none e from to =
    let here : e / 256 ≡ page = omega (arith, le-div page e 256 (omega arith) from, div_below e 256 (page + 1) (omega arith) to) in
    let absent : state_in t e ≡ Absent = ap (state_by t) (no_page t.pages.items e page here none) ∙ rest in
    ap (λ y. is_absent (if is_entity e then y else Absent)) absent
    ∙ elim (is_entity e) as (λ b. is_absent (if b then Absent else Absent) ≡ true) [ true ↦ refl | false ↦ refl ]

-- ---- lists of what is there

present-more : (y : ℕ → EntityState) (n : ℕ) → present_below y (n + 1) ≡ present_below y n ++ (if is_absent (y n) then [] else (n, y n) ∷ [])
present-more y n = search change_steps

-- the next number, in its state
pub present-next : (y : ℕ → EntityState) (n m : ℕ) (x : EntityState) (xs ys : List (ℕ × EntityState)) → m ≡ n + 1 → x ≡ y n → xs ≡ present_below y n
    → ys ≡ xs ++ (if is_absent x then [] else (n, x) ∷ []) → ys ≡ present_below y m
present-next y n m x xs ys next here so_far pushed =
    pushed ∙ ap (λ zs. zs ++ (if is_absent x then [] else (n, x) ∷ [])) so_far
    ∙ ap (λ z. present_below y n ++ (if is_absent z then [] else (n, z) ∷ [])) here
    ∙ sym (present-more y n) ∙ sym (ap (present_below y) next)

pub present-none : (y : ℕ → EntityState) → present_below y 0 ≡ []
unfolding present_below
present-none y = refl

-- none are there from a on
pub present-absent : (y : ℕ → EntityState) (a k : ℕ) → ((e : ℕ) → a ≤ e → e < a + k → is_absent (y e) ≡ true)
    → present_below y (a + k) ≡ present_below y a
present-absent y a zero absent = ap (present_below y) (omega arith)
present-absent y a (suc k) absent =
    ap (present_below y) (omega arith)
    ∙ present-more y (a + k)
    ∙ ap (λ b. present_below y (a + k) ++ (if b then [] else (a + k, y (a + k)) ∷ [])) (absent (a + k) (omega arith) (omega arith))
    ∙ append-nil (present_below y (a + k))
    ∙ present-absent y a k (λ e from to. absent e from (omega (arith, to)))

-- two tellers of states that agree
present-same : (y z : ℕ → EntityState) → ((e : ℕ) → y e ≡ z e) → (n : ℕ) → present_below y n ≡ present_below z n
unfolding present_below
present-same y z same zero = refl
present-same y z same (suc n) =
    ap (λ xs. xs ++ (if is_absent (y n) then [] else (n, y n) ∷ [])) (present-same y z same n)
    ∙ ap (λ x. present_below z n ++ (if is_absent x then [] else (n, x) ∷ [])) (same n)

-- all numbers: those above the last entity are none
pub present-before : (r : PlainRecording) (n s : ℕ) (t : States) → AreStatesOf r n s t → present_below (state_or_absent t) 65536 ≡ entities_before r s n
present-before r n s t states =
    present-absent (state_or_absent t) 65534 2 (λ e from to. ap (λ b. is_absent (if b then state_in t e else Absent)) (past e from))
    ∙ present-same (state_or_absent t) (state_after r.setting.exercise (station_at r s) (log_before r s n)) (known r n s t states) 65534
    ∙ present_below-all r.setting.exercise (station_at r s) (log_before r s n) 65534 refl
  where
    past : (e : ℕ) → 65534 ≤ e → is_entity e ≡ false
    past e from = grind (arith, nat_tests)

-- after the whole log
pub present-all : (r : PlainRecording) (s : ℕ) (t : States) → AreStatesOf r (length r.entries) s t → present_below (state_or_absent t) 65536 ≡ entities_of r s
present-all r s t states = present-before r (length r.entries) s t states ∙ ap (entities_after r.setting.exercise (station_at r s)) (log_before-all r s)

pub if_ok : {A E : Type 0} {P Q : A → Type 0} (result : Result A E) → ((a : A) → P a → Q a) → IfOk result P → IfOk result Q
if_ok (Ok a) f p = f a p
if_ok (Err e) f p = tt
