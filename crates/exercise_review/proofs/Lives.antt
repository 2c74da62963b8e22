-- The stretches of a life tell the state at each place of the log.
use Rattle.std.proofs.Common.{◌≡◌, ⊎_elim, ℕ, zero, suc, ◌+◌, ◌<◌, ◌≤◌, List, [], ◌∷◌, ◌++◌, length, cond, Bool, true, false, Option, Some, None, refl, sym, ap, ◌∙◌, arith}
use Rattle.std.specs.Prelude.{◌&&◌, if◌then◌else◌}
use Rattle.std.proofs.Math.Numerals.{add-one}
use Rattle.std.proofs.lemmas.Bool.{lt-ltb, le-ltb, ltb-true, le-leb, lt-leb, cases_lt}
use Rattle.dis_records.specs.declared.entity_state.EntityState.{EntityState}
use Rattle.dis_records.specs.declared.entity_state.EntityState.TheVariants as states
use Rattle.exercise_model.specs.Station.{is_absent}
use Rattle.exercise_model.specs.Recording.{PlainRecording}
use Rattle.exercise_model.specs.Cause.{same_state}
use Rattle.exercise_review.specs.declared.life.Stretch.{Stretch}
use Rattle.exercise_findings.specs.State.{state_before}
use Rattle.exercise_review.specs.Life.{LifeSoFar, stretch_of, life_after, life_before, lives_of, is_after, is_no_later, covers, states_at, if_there}

-- the states of two lists of stretches, one after the other
states_at-append : (n : ℕ) (xs ys : List Stretch) → states_at n (xs ++ ys) ≡ states_at n xs ++ states_at n ys
states_at-append n [] ys = refl
states_at-append n (x ∷ xs) ys =
    elim (covers n x) as (λ b. cond b (x.state ∷ states_at n (xs ++ ys)) (states_at n (xs ++ ys)) ≡ cond b (x.state ∷ states_at n xs) (states_at n xs) ++ states_at n ys) [
      | true ↦ ap (λ zs. x.state ∷ zs) (states_at-append n xs ys)
      | false ↦ states_at-append n xs ys
    ]

pub append_none : {X : Type 0} (xs : List X) → xs ++ [] ≡ xs
append_none [] = refl
append_none (x ∷ xs) = ap (λ ys. x ∷ ys) (append_none xs)

-- what the stretch that a life is in says of a place
stretch_says : (l : LifeSoFar) (end : Option ℕ) (n : ℕ) (b : Bool) → (is_after l.since n && is_no_later end n) ≡ b
    → states_at n (stretch_of l end) ≡ (if b then if_there l.state else [])
stretch_says l end n b is =
    elim (is_absent l.state) as (λ q. states_at n (cond q [] (record { state = l.state; from = l.since; until = end } ∷ [])) ≡ cond b (cond q [] (l.state ∷ [])) []) [
      | true ↦ elim b as (λ c. [] ≡ cond {A = List EntityState} c [] []) [ true ↦ refl | false ↦ refl ]
      | false ↦ ap (λ c. cond c (l.state ∷ []) []) is
    ]

-- a life so far tells the states before each entry up to n
record IsLife (r : PlainRecording) (s e n : ℕ) (l : LifeSoFar) : Type 0 where
  state : l.state ≡ state_before r s e n
  ended : (m : ℕ) → n < m → states_at m l.ended ≡ []
  after : is_after l.since n ≡ true
  told : (m : ℕ) → m ≤ n → states_at m (l.ended ++ stretch_of l None) ≡ if_there (state_before r s e m)

same : (y z : EntityState) → same_state y z ≡ true → y ≡ z
same states.Absent states.Absent e = refl
same states.Absent states.Stopped e = absurd (cc)
same states.Absent states.Running e = absurd (cc)
same states.Stopped states.Absent e = absurd (cc)
same states.Stopped states.Stopped e = refl
same states.Stopped states.Running e = absurd (cc)
same states.Running states.Absent e = absurd (cc)
same states.Running states.Stopped e = absurd (cc)
same states.Running states.Running e = refl

after_next : (since : Option ℕ) (n : ℕ) → is_after since n ≡ true → is_after since (suc n) ≡ true
after_next None n h = refl
after_next (Some i) n h = let below : i < n = ltb-true i n h in lt-ltb i (suc n) (omega (arith, below))

-- at a place past the stretches that ended, the one that goes on tells the state
tells_last : (l : LifeSoFar) (m : ℕ) → states_at m l.ended ≡ [] → is_after l.since m ≡ true → states_at m (l.ended ++ stretch_of l None) ≡ if_there l.state
tells_last l m ended after =
    states_at-append m l.ended (stretch_of l None)
    ∙ ap (λ xs. xs ++ states_at m (stretch_of l None)) ended
    ∙ stretch_says l None m true (ap (λ b. b && true) after)

-- the stretch that a life is in, ended at entry n, says the same up to there
same_says : (l : LifeSoFar) (n m : ℕ) → m ≤ n → states_at m (stretch_of l (Some n)) ≡ states_at m (stretch_of l None)
same_says l n m below =
    stretch_says l (Some n) m (is_after l.since m && true) (ap (λ b. is_after l.since m && b) (le-leb m n below))
    ∙ sym (stretch_says l None m (is_after l.since m && true) refl)

and_false : (b : Bool) → (b && false) ≡ false
and_false true = refl
and_false false = refl

-- and nothing past it
ended_says : (l : LifeSoFar) (n m : ℕ) → n < m → states_at m (stretch_of l (Some n)) ≡ []
ended_says l n m past = stretch_says l (Some n) m false (ap (λ b. is_after l.since m && b) (lt-leb m n past) ∙ and_false (is_after l.since m))

-- ---- one entry more

goes_on : (r : PlainRecording) (s e n : ℕ) (l : LifeSoFar) → IsLife r s e n l → same_state (state_before r s e (suc n)) l.state ≡ true → IsLife r s e (suc n) l
goes_on r s e n l life alike =
    let is : state_before r s e (suc n) ≡ l.state = same (state_before r s e (suc n)) l.state alike in
    record {
      state = sym is;
      ended = λ m past. life.ended m (omega (arith, past));
      after = after_next l.since n life.after;
      told = λ m within. ⊎_elim
          (λ (less : m < suc n). life.told m (omega (arith, less)))
          (λ (most : suc n ≤ m).
          let at : m ≡ suc n = omega (arith, within, most) in
          ap (λ k. states_at k (l.ended ++ stretch_of l None)) at
          ∙ tells_last l (suc n) (life.ended (suc n) (omega arith)) (after_next l.since n life.after)
          ∙ ap if_there (sym is) ∙ ap (λ k. if_there (state_before r s e k)) (sym at))
          (cases_lt m (suc n));
    }

begins : (r : PlainRecording) (s e n : ℕ) (l : LifeSoFar) → IsLife r s e n l
    → IsLife r s e (suc n) (record { ended = l.ended ++ stretch_of l (Some n); state = state_before r s e (suc n); since = Some n })
begins r s e n l life =
    let next : LifeSoFar = record { ended = l.ended ++ stretch_of l (Some n); state = state_before r s e (suc n); since = Some n } in
    let none : (m : ℕ) → n < m → states_at m next.ended ≡ [] = λ m past.
    states_at-append m l.ended (stretch_of l (Some n)) ∙ ap (λ xs. xs ++ states_at m (stretch_of l (Some n))) (life.ended m past) ∙ ended_says l n m past in
    record {
      state = refl;
      ended = λ m past. none m (omega (arith, past));
      after = lt-ltb n (suc n) (omega arith);
      told = λ m within. ⊎_elim
          (λ (less : m < suc n).
          let below : m ≤ n = omega (arith, less) in
          states_at-append m (l.ended ++ stretch_of l (Some n)) (stretch_of next None)
          ∙ ap (λ xs. states_at m (l.ended ++ stretch_of l (Some n)) ++ xs) (stretch_says next None m false (ap (λ b. b && true) (le-ltb n m below)))
          ∙ append_none (states_at m (l.ended ++ stretch_of l (Some n)))
          ∙ states_at-append m l.ended (stretch_of l (Some n))
          ∙ ap (λ xs. states_at m l.ended ++ xs) (same_says l n m below)
          ∙ sym (states_at-append m l.ended (stretch_of l None))
          ∙ life.told m below)
          (λ (most : suc n ≤ m).
          let at : m ≡ suc n = omega (arith, within, most) in
          ap (λ k. states_at k (next.ended ++ stretch_of next None)) at
          ∙ tells_last next (suc n) (none (suc n) (omega arith)) (lt-ltb n (suc n) (omega arith))
          ∙ ap (λ k. if_there (state_before r s e k)) (sym at))
          (cases_lt m (suc n));
    }

one_more : (r : PlainRecording) (s e n : ℕ) (l : LifeSoFar) → IsLife r s e n l → IsLife r s e (suc n) (life_after l n (state_before r s e (suc n)))
one_more r s e n l life =
    elim (same_state (state_before r s e (suc n)) l.state) as (λ b. same_state (state_before r s e (suc n)) l.state ≡ b
    → IsLife r s e (suc n) (cond b l (record { ended = l.ended ++ stretch_of l (Some n); state = state_before r s e (suc n); since = Some n }))) [
      | true ↦ goes_on r s e n l life
      | false ↦ λ _. begins r s e n l life
    ] refl

is_life : (r : PlainRecording) (s e n : ℕ) → IsLife r s e n (life_before r s e n)
unfolding life_before
is_life r s e zero = record {
  state = refl;
  ended = λ m past. refl;
  after = refl;
  told = λ m within.
      let at : m ≡ 0 = omega (arith, within) in
      ap (λ k. states_at k (stretch_of (life_before r s e 0) None)) at
      ∙ stretch_says (life_before r s e 0) None 0 true refl ∙ ap (λ k. if_there (state_before r s e k)) (sym at);
}
is_life r s e (suc n) = one_more r s e n (life_before r s e n) (is_life r s e n)

-- THE STRETCHES OF A LIFE TELL THE STATE at each place of the log, and nothing else
pub states_told : (r : PlainRecording) (s e n : ℕ) → n ≤ length r.entries → states_at n (lives_of r s e) ≡ if_there (state_before r s e n)
unfolding lives_of
states_told r s e n within = (is_life r s e (length r.entries)).told n within

-- the state that a life is in
pub state_lived : (r : PlainRecording) (s e n : ℕ) → (life_before r s e n).state ≡ state_before r s e n
state_lived r s e n = (is_life r s e n).state

-- ---- as a loop makes it

pub life_none : (r : PlainRecording) (s e : ℕ) → life_before r s e 0 ≡ record { ended = []; state = state_before r s e 0; since = None }
unfolding life_before
life_none r s e = refl

pub life_more : (r : PlainRecording) (s e n : ℕ) → life_before r s e (n + 1) ≡ life_after (life_before r s e n) n (state_before r s e (n + 1))
unfolding life_before
life_more r s e n = ap (life_before r s e) (add-one n) ∙ ap (λ k. life_after (life_before r s e n) n (state_before r s e k)) (sym (add-one n))

pub ruleset life_steps = (life_none, life_more)
