-- A life by the changes of its station alone.
use Rattle.std.proofs.Common.{◌≡◌, ℕ, zero, suc, ◌+◌, ◌<◌, List, [], ◌∷◌, ◌++◌, length, take, get_or, cond, true, false, Option, Some, None, refl, sym, ap, ◌∙◌}
use Rattle.std.specs.Prelude.{option_map, option_and_then}
use Rattle.std.specs.Option.{option_map_or, option_to_list}
use Rattle.std.proofs.lemmas.List.{take_more}
use Rattle.dis_records.specs.declared.entity_state.EntityState.{EntityState}
use Rattle.dis_records.specs.declared.entity_state.EntityState.TheVariants as states
use Rattle.exercise_model.specs.declared.state.Change.{Change}
use Rattle.exercise_model.specs.Station.{StationData, is_entity}
use Rattle.exercise_model.specs.Recording.{PlainRecording}
use Rattle.exercise_model.specs.History.{station_at}
use Rattle.exercise_model.specs.State.{changed, change_made, entity_state, state_after}
use Rattle.exercise_model.specs.Cause.{same_state}
use Rattle.exercise_model.specs.Place.{own_event, log_before}
use Rattle.exercise_model.proofs.Offered.{log_before-more}
use Rattle.exercise_review.specs.declared.life.Stretch.{Stretch}
use Rattle.exercise_review.specs.declared.changes.Made.{Made}
use Rattle.exercise_findings.specs.State.{state_before}
use Rattle.exercise_review.specs.Life.{LifeSoFar, stretch_of, life_after, life_before, lives_of}
use Rattle.exercise_review.specs.Room.{lists_below}
use Rattle.exercise_review.specs.Span.{own_change, made_of, made_at, changes_made, life_by_changes}
use Rattle.exercise_review.proofs.Lists.{lists_more}
use Rattle.exercise_review.proofs.Lives.{append_none, life_none, state_lived}

same_self : (y : EntityState) → same_state y y ≡ true
same_self states.Absent = refl
same_self states.Stopped = refl
same_self states.Running = refl

-- an entry changes the state of an entity, or leaves it
entity_more : (x : ℕ) (o : StationData) (e : ℕ) (r : PlainRecording) (s i : ℕ)
    → entity_state x o (log_before r s (suc i)) e ≡ option_map_or (changed e (entity_state x o (log_before r s i) e))
    (option_and_then (change_made x o (log_before r s i)) (own_event r s i)) (entity_state x o (log_before r s i) e)
unfolding entity_state
entity_more x o e r s i =
    ap (λ log. entity_state x o log e) (log_before-more r s i)
    ∙ elim (own_event r s i) as (λ v. entity_state x o (option_map_or (λ w. w ∷ log_before r s i) v (log_before r s i)) e
    ≡ option_map_or (changed e (entity_state x o (log_before r s i) e)) (option_and_then (change_made x o (log_before r s i)) v) (entity_state x o (log_before r s i) e)) [
      | None ↦ refl
      | Some v ↦ refl
    ]

pub state_is : (r : PlainRecording) (s e n : ℕ) → is_entity e ≡ true → state_before r s e n ≡ entity_state r.setting.exercise (station_at r s) (log_before r s n) e
unfolding state_after
state_is r s e n is = ap (λ b. cond b (entity_state r.setting.exercise (station_at r s) (log_before r s n) e) states.Absent) is

state_more : (r : PlainRecording) (s e n : ℕ) → is_entity e ≡ true
    → state_before r s e (suc n) ≡ option_map_or (changed e (state_before r s e n)) (own_change r s n) (state_before r s e n)
state_more r s e n is =
    state_is r s e (suc n) is
    ∙ entity_more r.setting.exercise (station_at r s) e r s n
    ∙ ap (λ y. option_map_or (changed e y) (own_change r s n) y) (sym (state_is r s e n is))

life_by_changes-append : (e : ℕ) (l : LifeSoFar) (xs ys : List Made) → life_by_changes e l (xs ++ ys) ≡ life_by_changes e (life_by_changes e l xs) ys
life_by_changes-append e l [] ys = refl
life_by_changes-append e l (x ∷ xs) ys = life_by_changes-append e (life_after l x.entry (changed e l.state x.change)) xs ys

pub life_by_changes-more : (e : ℕ) (l : LifeSoFar) (xs : List Made) (m : Made)
    → life_by_changes e l (xs ++ m ∷ []) ≡ life_after (life_by_changes e l xs) m.entry (changed e (life_by_changes e l xs).state m.change)
life_by_changes-more e l xs m = life_by_changes-append e l xs (m ∷ [])

-- where the state stays, so does the life
pub lives_on : (l : LifeSoFar) (n : ℕ) → life_after l n l.state ≡ l
lives_on l n = ap (λ b. cond b l (record { ended = l.ended ++ stretch_of l (Some n); state = l.state; since = Some n })) (same_self l.state)

-- what an entry makes of a life, by what its station changes there
lived_once : (r : PlainRecording) (s e n : ℕ) (l : LifeSoFar) (c : Option Change) → l.state ≡ state_before r s e n
    → state_before r s e (suc n) ≡ option_map_or (changed e (state_before r s e n)) c (state_before r s e n)
    → life_by_changes e l (option_to_list (option_map (made_of n) c)) ≡ life_after l n (state_before r s e (suc n))
lived_once r s e n l None at next = sym (ap (life_after l n) (next ∙ sym at) ∙ lives_on l n)
lived_once r s e n l (Some c) at next = sym (ap (life_after l n) (next ∙ ap (λ y. changed e y c) (sym at)))

-- THE CHANGES OF A STATION make the lives of its entities
lived_below : (r : PlainRecording) (s e n : ℕ) → is_entity e ≡ true → life_by_changes e (life_before r s e 0) (lists_below (made_at r s) n) ≡ life_before r s e n
unfolding lists_below life_before made_at
lived_below r s e zero is = refl
lived_below r s e (suc n) is =
    life_by_changes-append e (life_before r s e 0) (lists_below (made_at r s) n) (made_at r s n)
    ∙ ap (λ l. life_by_changes e l (made_at r s n)) (lived_below r s e n is)
    ∙ lived_once r s e n (life_before r s e n) (own_change r s n) (state_lived r s e n) (state_more r s e n is)

lived_whole : (r : PlainRecording) (s e : ℕ) → is_entity e ≡ true → life_by_changes e (life_before r s e 0) (changes_made r s) ≡ life_before r s e (length r.entries)
unfolding changes_made
lived_whole r s e is = lived_below r s e (length r.entries) is

-- ---- as loops make them

pub change_more : (r : PlainRecording) (s k : ℕ) (c : Change) (xs ys : List Made) → own_change r s k ≡ Some c → xs ≡ lists_below (made_at r s) k
    → ys ≡ xs ++ made_of k c ∷ [] → ys ≡ lists_below (made_at r s) (k + 1)
unfolding made_at
change_more r s k c xs ys own before here =
    here ∙ ap (λ zs. zs ++ made_of k c ∷ []) before ∙ ap (λ o. lists_below (made_at r s) k ++ option_to_list (option_map (made_of k) o)) (sym own)
    ∙ sym (lists_more (made_at r s) k)

pub change_none : (r : PlainRecording) (s k : ℕ) (xs : List Made) → own_change r s k ≡ None → xs ≡ lists_below (made_at r s) k
    → xs ≡ lists_below (made_at r s) (k + 1)
unfolding made_at
change_none r s k xs own before =
    before ∙ sym (append_none (lists_below (made_at r s) k)) ∙ ap (λ o. lists_below (made_at r s) k ++ option_to_list (option_map (made_of k) o)) (sym own)
    ∙ sym (lists_more (made_at r s) k)

-- a life after one change more of a list
pub lived_more : (e : ℕ) (l before after : LifeSoFar) (xs : List Made) (k : ℕ) (d : Made) (y : EntityState) → k < length xs → before ≡ life_by_changes e l (take k xs)
    → y ≡ changed e before.state (get_or xs k d).change → after ≡ life_after before (get_or xs k d).entry y → after ≡ life_by_changes e l (take (k + 1) xs)
lived_more e l before after xs k d y within so_far made here =
    here
    ∙ ap (life_after before (get_or xs k d).entry) made
    ∙ ap (λ b. life_after b (get_or xs k d).entry (changed e b.state (get_or xs k d).change)) so_far
    ∙ sym (life_by_changes-more e l (take k xs) (get_or xs k d))
    ∙ ap (life_by_changes e l) (sym (take_more xs k d within))

-- the stretches of a life that the changes made
pub lives_are : (r : PlainRecording) (s e : ℕ) (items out : List Stretch) (y : EntityState) (l : LifeSoFar) (changes : List Made) → is_entity e ≡ true → items ≡ []
    → y ≡ state_before r s e 0 → changes ≡ changes_made r s → l ≡ life_by_changes e (record { ended = items; state = y; since = None }) changes
    → out ≡ l.ended ++ stretch_of l None → out ≡ lives_of r s e
unfolding lives_of
lives_are r s e items out y l changes entity none at are lived here =
    let whole : l ≡ life_before r s e (length r.entries) =
    lived
    ∙ ap (λ xs. life_by_changes e (record { ended = xs; state = y; since = None }) changes) none
    ∙ ap (λ z. life_by_changes e (record { ended = []; state = z; since = None }) changes) at
    ∙ ap (λ b. life_by_changes e b changes) (sym (life_none r s e))
    ∙ ap (life_by_changes e (life_before r s e 0)) are
    ∙ lived_whole r s e entity in
    here ∙ ap (λ b. b.ended ++ stretch_of b None) whole

-- ---- a number that no entity has is never there

never_there : (r : PlainRecording) (s e n : ℕ) → is_entity e ≡ false → state_before r s e n ≡ states.Absent
unfolding state_after
never_there r s e n outside = ap (λ b. cond b (entity_state r.setting.exercise (station_at r s) (log_before r s n) e) states.Absent) outside

never_lived : (r : PlainRecording) (s e n : ℕ) → is_entity e ≡ false → life_before r s e n ≡ record { ended = []; state = states.Absent; since = None }
unfolding life_before
never_lived r s e zero outside = ap (λ y. record { ended = []; state = y; since = None }) (never_there r s e 0 outside)
never_lived r s e (suc n) outside =
    ap (λ l. life_after l n (state_before r s e (suc n))) (never_lived r s e n outside)
    ∙ ap (life_after (record { ended = []; state = states.Absent; since = None }) n) (never_there r s e (suc n) outside)

pub lives_none : (r : PlainRecording) (s e : ℕ) (items : List Stretch) → is_entity e ≡ false → items ≡ [] → items ≡ lives_of r s e
unfolding lives_of
lives_none r s e items outside none = none ∙ sym (ap (λ l. l.ended ++ stretch_of l None) (never_lived r s e (length r.entries) outside))
