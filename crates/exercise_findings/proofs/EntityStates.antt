-- The states of the entities of a station: what setting one, making all alike and moving all makes of them.
use Rattle.std.proofs.Common.{◌≡◌, ◌≢◌, ◌⊎◌, inl, inr, ⊎_elim, ℕ, zero, suc, ◌+◌, ◌*◌, ◌/◌, ◌%◌, ◌<◌, ◌≤◌, List, [], ◌∷◌, ◌++◌, length, set, Option, Some, None, Bool, true, false, Vec, Bor, get_or, refl, sym, ap, ◌∙◌, subst, arith}
use Rattle.std.specs.Prelude.{IfSome, is_some, option_copied, slice_get, nat_eq, nat_lt, option_and_then, if◌then◌else◌}
use Rattle.std.specs.declared.alloc.Global.{Global}
use Rattle.std.proofs.lemmas.Bool.{cases_eq, cases_lt, eq-eqb, ne_eqb, lt-ltb, le-ltb}
use Rattle.std.proofs.lemmas.Nat.{div-add-mod'}
use Rattle.std.proofs.lemmas.Option.{slice_get_past, slice_get_read}
use Rattle.dis_records.specs.declared.entity_state.EntityState.{EntityState}
use Rattle.dis_records.specs.declared.entity_state.EntityState.TheVariants.{Absent, Stopped, Running}
use Rattle.exercise_model.specs.Station.{is_absent}
use Rattle.exercise_findings.specs.declared.states.SingleState.{SingleState}
use Rattle.exercise_findings.specs.declared.states.States.{States}
use Rattle.exercise_findings.specs.States.{held_at, state_by, state_in, AreUpTo, IsKept, IsPut}

-- ---- lists at a place

pub get-pushed : {X : Type 0} (xs : List X) (x : X) (k : ℕ)
    → (slice_get (xs ++ x ∷ []) k ≡ slice_get xs k) ⊎ ((slice_get xs k ≡ None) × (slice_get (xs ++ x ∷ []) k ≡ Some x))
get-pushed [] x zero = inr (refl, refl)
get-pushed [] x (suc k) = inl refl
get-pushed (y ∷ ys) x zero = inl refl
get-pushed (y ∷ ys) x (suc k) = get-pushed ys x k

pub get-set_other : {X : Type 0} (xs : List X) (i : ℕ) (y : X) (k : ℕ) → k ≢ i → slice_get (set xs i y) k ≡ slice_get xs k
get-set_other [] i y k apart = refl
get-set_other (x ∷ xs) zero y zero apart = absurd (apart refl)
get-set_other (x ∷ xs) zero y (suc k) apart = refl
get-set_other (x ∷ xs) (suc i) y zero apart = refl
get-set_other (x ∷ xs) (suc i) y (suc k) apart = get-set_other xs i y k (λ e. apart (ap suc e))

pub get-set_here : {X : Type 0} (xs : List X) (i : ℕ) (y : X) → i < length xs → slice_get (set xs i y) i ≡ Some y
get-set_here [] i y l = absurd (omega (arith, l))
get-set_here (x ∷ xs) zero y l = refl
get-set_here (x ∷ xs) (suc i) y l = get-set_here xs i y (omega (arith, l))

-- what `get` gives, copied
pub got : {X : Type 0} (xs : List X) (i : ℕ) (o : Option (Bor X)) → is_some o ≡ nat_lt i (length xs)
    → IfSome o (λ x. x.now ≡ get_or xs i x.now) → option_copied o ≡ slice_get xs i
got xs i None past at =
    ⊎_elim
    (λ (below : i < length xs). absurd (no (past ∙ lt-ltb i (length xs) below)))
    (λ beyond. sym (slice_get_past xs i beyond))
    (cases_lt i (length xs))
  where
    no : false ≡ true → ⊥
    no e = cc
got xs i (Some x) within at =
    ⊎_elim
    (λ (below : i < length xs). sym (slice_get_read xs (length xs) i x.now refl below at))
    (λ (beyond : length xs ≤ i). absurd (no (within ∙ le-ltb i (length xs) beyond)))
    (cases_lt i (length xs))
  where
    no : true ≡ false → ⊥
    no e = cc

-- ---- what is kept of one entity

pub held_at-there : (pages : List (Vec SingleState Global)) (page : Vec SingleState Global) (e i : ℕ) → i ≡ e / 256
    → slice_get pages i ≡ Some page → slice_get page.items (e % 256) ≡ held_at pages e
unfolding held_at
held_at-there pages page e i same at =
    sym (ap (option_and_then (λ (p : Vec SingleState Global). slice_get p.items (e % 256))) (ap (slice_get pages) (sym same) ∙ at))

pub held_at-beyond : (pages : List (Vec SingleState Global)) (e i : ℕ) → i ≡ e / 256 → length pages ≤ i → held_at pages e ≡ None
unfolding held_at
held_at-beyond pages e i same beyond =
    ap (option_and_then (λ (p : Vec SingleState Global). slice_get p.items (e % 256))) (ap (slice_get pages) (sym same) ∙ slice_get_past pages i beyond)

-- an empty page more
pub held_at-pushed : (pages : List (Vec SingleState Global)) (page : Vec SingleState Global) (e : ℕ) → page.items ≡ []
    → held_at (pages ++ page ∷ []) e ≡ held_at pages e
unfolding held_at
held_at-pushed pages page e empty =
    let at = λ (o : Option (Vec SingleState Global)). option_and_then (λ (p : Vec SingleState Global). slice_get p.items (e % 256)) o in
    ⊎_elim
    (λ same. ap at same)
    (λ came. ap at came.1 ∙ ap (λ xs. slice_get xs (e % 256)) empty ∙ sym (ap at came.0))
    (get-pushed pages page (e / 256))

-- what is kept where this was put into the page of entity n
pub held_at-here : (pages : List (Vec SingleState Global)) (old new : Vec SingleState Global) (n : ℕ) (filler held : SingleState) → n / 256 < length pages
    → IsPut filler (n % 256) held old.items new.items → held_at (set pages (n / 256) new) n ≡ Some held
unfolding held_at
held_at-here pages old new n filler held within put =
    ap (option_and_then (λ (p : Vec SingleState Global). slice_get p.items (n % 256))) (get-set_here pages (n / 256) new within) ∙ put.here

-- two numbers with one page and one place are one
same_number : (e n : ℕ) → e / 256 ≡ n / 256 → e % 256 ≡ n % 256 → e ≡ n
same_number e n page place = sym (div-add-mod' e 256) ∙ ap (λ x. x * 256 + e % 256) page ∙ ap (λ x. n / 256 * 256 + x) place ∙ div-add-mod' n 256

pub held_at-others : (pages : List (Vec SingleState Global)) (old new : Vec SingleState Global) (n : ℕ) (filler held : SingleState) → slice_get pages (n / 256) ≡ Some old
    → n / 256 < length pages
    → IsPut filler (n % 256) held old.items new.items → (e : ℕ) → e ≢ n → IsKept filler (held_at pages e) (held_at (set pages (n / 256) new) e)
unfolding held_at
held_at-others pages old new n filler held at within put e apart =
    let read = λ (o : Option (Vec SingleState Global)). option_and_then (λ (p : Vec SingleState Global). slice_get p.items (e % 256)) o in
    ⊎_elim
    (λ (same : e / 256 ≡ n / 256).
    let was : read (slice_get pages (e / 256)) ≡ slice_get old.items (e % 256) = ap (λ i. read (slice_get pages i)) same ∙ ap read at in
    let is : read (slice_get (set pages (n / 256) new) (e / 256)) ≡ slice_get new.items (e % 256) =
    ap (λ i. read (slice_get (set pages (n / 256) new) i)) same ∙ ap read (get-set_here pages (n / 256) new within) in
    subst (λ o. IsKept filler o (read (slice_get (set pages (n / 256) new) (e / 256)))) (sym was)
    (subst (λ o. IsKept filler (slice_get old.items (e % 256)) o) (sym is)
    (put.others (e % 256) (λ place. apart (same_number e n same place)))))
    (λ other. inl (ap read (get-set_other pages (n / 256) new (e / 256) other)))
    (cases_eq (e / 256) (n / 256))

-- ---- the state by what is kept

not_below : (a b : ℕ) → a ≤ b → nat_lt b a ≡ false
not_below a b l = le-ltb b a l

-- what was put now is the state
pub state_by-held : (t : States) (n : ℕ) (held : SingleState) → held.since ≡ n → AreUpTo n t → state_by t (Some held) ≡ held.state
state_by-held t n held now up =
    ap (λ b. if b then t.rest else (if is_absent held.state then Absent else (if nat_lt held.since t.moved then t.moved_to else held.state)))
    (not_below t.alike held.since (omega (arith, now, up.alike)))
    ∙ ap (λ b. if is_absent held.state then Absent else (if b then t.moved_to else held.state)) (not_below t.moved held.since (omega (arith, now, up.moved)))
    ∙ elim held.state as (λ y. (if is_absent y then Absent else y) ≡ y) [ Absent ↦ refl | Stopped ↦ refl | Running ↦ refl ]

-- what stays keeps its state, also where it gets the filler
pub state_by-kept : (t : States) (n : ℕ) (filler : SingleState) (o p : Option SingleState) → filler.since ≡ n → filler.state ≡ t.rest → AreUpTo n t
    → IsKept filler o p → state_by t p ≡ state_by t o
state_by-kept t n filler o p now rest up kept =
    ⊎_elim
    (λ same. ap (state_by t) same)
    (λ came. ap (state_by t) came.1 ∙ state_by-held t n filler now up ∙ rest ∙ sym (ap (state_by t) came.0))
    kept

pub since-kept : (n : ℕ) (filler : SingleState) (o p : Option SingleState) → filler.since ≡ n → IsKept filler o p
    → IfSome o (λ h. h.since ≤ n) → IfSome p (λ h. h.since ≤ n)
since-kept n filler o p now kept before =
    ⊎_elim
    (λ same. subst (λ x. IfSome x (λ h. h.since ≤ n)) (sym same) before)
    (λ came. subst (λ x. IfSome x (λ h. h.since ≤ n)) (sym came.1) (omega (arith, now)))
    kept

below_next : (o : Option SingleState) (n : ℕ) → IfSome o (λ h. h.since ≤ n) → IfSome o (λ h. h.since ≤ n + 1)
below_next None n l = tt
below_next (Some h) n l = omega (arith, l)

pub up_to-next : (t : States) (n : ℕ) → AreUpTo n t → AreUpTo (n + 1) t
up_to-next t n up = record {
  alike = omega (arith, up.alike);
  moved = omega (arith, up.moved);
  moved_to = up.moved_to;
  held = λ e. below_next (held_at t.pages.items e) n (up.held e);
}

-- all are made alike: t is the old one, u the new one
pub state_in-alike : (t u : States) (n : ℕ) → u.alike ≡ n + 1 → u.pages.items ≡ t.pages.items → AreUpTo n t → (e : ℕ) → state_in u e ≡ u.rest
unfolding state_in
state_in-alike t u n now pages up e =
    ap (λ ps. state_by u (held_at ps e)) pages
    ∙ elim (held_at t.pages.items e) as (λ o. IfSome o (λ h. h.since ≤ n) → state_by u o ≡ u.rest) [
      | None ↦ λ _. refl
      | Some h ↦ λ l. ap (λ b. if b then u.rest else (if is_absent h.state then Absent else (if nat_lt h.since u.moved then u.moved_to else h.state)))
          (lt-ltb h.since u.alike (omega (arith, l, now)))
    ] (up.held e)

moved_from : (y z : EntityState) (b : Bool) (x : EntityState) → is_absent x ≡ false
    → (if is_absent y then Absent else z) ≡ (if is_absent (if is_absent y then Absent else (if b then x else y)) then Absent else z)
moved_from Absent z b x there = refl
moved_from Stopped z true x there = ap (λ a. if a then Absent else z) (sym there)
moved_from Stopped z false x there = refl
moved_from Running z true x there = ap (λ a. if a then Absent else z) (sym there)
moved_from Running z false x there = refl

-- all that are there are moved
pub state_in-moved : (t u : States) (n : ℕ) → u.alike ≡ t.alike → u.moved ≡ n + 1 → u.rest ≡ (if is_absent t.rest then Absent else u.moved_to)
    → u.pages.items ≡ t.pages.items → AreUpTo n t
    → (e : ℕ) → state_in u e ≡ (if is_absent (state_in t e) then Absent else u.moved_to)
unfolding state_in
state_in-moved t u n alike now rest pages up e =
    ap (λ ps. state_by u (held_at ps e)) pages
    ∙ elim (held_at t.pages.items e) as (λ o. IfSome o (λ h. h.since ≤ n) → state_by u o ≡ (if is_absent (state_by t o) then Absent else u.moved_to)) [
      | None ↦ λ _. rest
      | Some h ↦ λ l.
          let later = if is_absent h.state then Absent else u.moved_to in
          let before = if is_absent h.state then Absent else (if nat_lt h.since t.moved then t.moved_to else h.state) in
          ap (λ b. if nat_lt h.since u.alike then u.rest else (if is_absent h.state then Absent else (if b then u.moved_to else h.state)))
          (lt-ltb h.since u.moved (omega (arith, l, now)))
          ∙ ap (λ a. if nat_lt h.since a then u.rest else later) alike
          ∙ elim (nat_lt h.since t.alike) as (λ b. (if b then u.rest else later) ≡ (if is_absent (if b then t.rest else before) then Absent else u.moved_to)) [
            | true ↦ rest
            | false ↦ moved_from h.state u.moved_to (nat_lt h.since t.moved) t.moved_to up.moved_to
          ]
    ] (up.held e)

-- ---- one is set: the pages are those that were reached, with a new one in place i, that of number n; j is its place in the page

module _ (t : States) (pages : List (Vec SingleState Global)) (old new : Vec SingleState Global) (number n i j : ℕ) (filler held : SingleState) (up : AreUpTo number t)
    (filled : filler.since ≡ number) (rest : filler.state ≡ t.rest) (now : held.since ≡ number) (page : i ≡ n / 256) (place : j ≡ n % 256)
    (at : slice_get pages i ≡ Some old) (within : i < length pages) (same : (e : ℕ) → held_at pages e ≡ held_at t.pages.items e)
    (put : IsPut filler j held old.items new.items) where
  put_there : IsPut filler (n % 256) held old.items new.items
  put_there = subst (λ k. IsPut filler k held old.items new.items) place put

  there : n / 256 < length pages
  there = subst (λ k. k < length pages) page within

  set_there : (e : ℕ) → held_at (set pages i new) e ≡ held_at (set pages (n / 256) new) e
  set_there e = ap (λ k. held_at (set pages k new) e) page

  is_here : held_at (set pages i new) n ≡ Some held
  is_here = set_there n ∙ held_at-here pages old new n filler held there put_there

  kept-others : (e : ℕ) → e ≢ n → IsKept filler (held_at t.pages.items e) (held_at (set pages i new) e)
  kept-others e apart =
      subst (λ o. IsKept filler o (held_at (set pages i new) e)) (same e)
      (subst (IsKept filler (held_at pages e)) (sym (set_there e))
      (held_at-others pages old new n filler held (subst (λ k. slice_get pages k ≡ Some old) page at) there put_there e apart))

  pub state-set : (e : ℕ) → state_by t (held_at (set pages i new) e) ≡ (if nat_eq n e then held.state else state_in t e)
  unfolding state_in
  state-set e =
      let was = state_by t (held_at t.pages.items e) in
      ⊎_elim
      (λ (one : e ≡ n). ap (λ m. state_by t (held_at (set pages i new) m)) one ∙ ap (state_by t) is_here ∙ state_by-held t number held now up
      ∙ ap (λ b. if b then held.state else was) (sym (eq-eqb n e (sym one))))
      (λ apart. state_by-kept t number filler (held_at t.pages.items e) (held_at (set pages i new) e) filled rest up (kept-others e apart)
      ∙ ap (λ b. if b then held.state else was) (sym (ne_eqb n e (λ one. apart (sym one)))))
      (cases_eq e n)

  pub since-set : (e : ℕ) → IfSome (held_at (set pages i new) e) (λ h. h.since ≤ number)
  since-set e =
      ⊎_elim
      (λ (one : e ≡ n). subst (λ m. IfSome (held_at (set pages i new) m) (λ h. h.since ≤ number)) (sym one)
      (subst (λ o. IfSome o (λ h. h.since ≤ number)) (sym is_here) (omega (arith, now))))
      (λ apart. since-kept number filler (held_at t.pages.items e) (held_at (set pages i new) e) filled (kept-others e apart) (up.held e))
      (cases_eq e n)
