-- What stays as it was, and what only grows, where a log has further events.
use Rattle.std.proofs.Common.{◌≡◌, ⊎_elim, inr, ℕ, List, [], ◌∷◌, ◌++◌, get_or, drop, Bool, Option, Some, None, true, false, refl, sym, ap, ◌∙◌, subst}
use Rattle.std.specs.Prelude.{◌||◌, ◌&&◌, not, option_and_then, if◌then◌else◌}
use Rattle.std.specs.Option.{option_map_or, option_or}
use Rattle.std.specs.List.{list_any}
use Rattle.std.proofs.lemmas.Bool.{or_cases, or_left, or_right}
use Rattle.dis_records.specs.declared.address.SiteApplication.{SiteApplication}
use Rattle.dis_records.specs.declared.entity_state.EntityState.{EntityState}
use Rattle.dis_records.specs.declared.entity_state.EntityState.TheVariants.{Absent}
use Rattle.dis_records.specs.declared.entity.Scope.{Scope}
use Rattle.dis_records.specs.declared.entity.Scope.TheVariants.{One, All}
use Rattle.dis_records.specs.declared.kind.Kind.{Kind}
use Rattle.siman_pdus.specs.declared.pdu.Pdu.{Pdu}
use Rattle.exercise_model.specs.declared.acknowledge.AcknowledgeKey.{AcknowledgeKey}
use Rattle.exercise_model.specs.Station.{StationData, is_entity}
use Rattle.exercise_model.specs.History.{Event, Send, Get, Tell, History}
use Rattle.exercise_model.specs.Meaning.{meaning}
use Rattle.exercise_model.specs.Exchange.{request_brought, request_taken_up}
use Rattle.exercise_model.specs.Change.{able, unable, responds, key_of, responds_under, sends_under, was_acknowledged, is_change}
use Rattle.exercise_model.specs.State.{changed, change_of, carried_out, change_by, change_made, entity_state, state_after}
use Rattle.exercise_model.specs.Cause.{is_reused, is_changed_answer, sends_other, is_hopeless, is_hopeless_for, is_impossible}
use Rattle.exercise_conflict.specs.Wider.{AddsTo, sends_no_able}

head_same : (v w : Event) (h k : History) → v ∷ h ≡ w ∷ k → v ≡ w
head_same v w h k e = ap (λ xs. get_or xs 0 v) e

tail_same : (v w : Event) (h k : History) → v ∷ h ≡ w ∷ k → h ≡ k
tail_same v w h k e = ap (drop 1) e

-- nothing is added to a history by itself
pub adds_itself : (may : Event → Bool) (h : History) → AddsTo may h h
adds_itself may [] = refl
adds_itself may (v ∷ h) = inr (h, refl, adds_itself may h)

-- ---- where an event stands

-- the event v stands in k, and what stands before it there adds to the log l
pub record StandsAfter (may : Event → Bool) (l : History) (v : Event) (k : History) : Type 0 where
  pub log : History
  pub later : History
  pub whole : later ++ v ∷ log ≡ k
  pub adds : AddsTo may l log

one_later : (may : Event → Bool) (l : History) (v w : Event) (k : History) → StandsAfter may l v k → StandsAfter may l v (w ∷ k)
one_later may l v w k at = record { log = at.log; later = w ∷ at.later; whole = ap (λ z. w ∷ z) at.whole; adds = at.adds }

not_nothing : (later l : History) (v : Event) → later ++ v ∷ l ≡ [] → ⊥
not_nothing [] l v e = absurd (cc)
not_nothing (x ∷ later) l v e = absurd (cc)

-- an event of a history stands in what adds to it, and what stands before it there adds to what stood before it
pub stands_after : (may : Event → Bool) (later l : History) (v : Event) (k : History) → AddsTo may (later ++ v ∷ l) k → StandsAfter may l v k
stands_after may later l v [] adds = absurd (not_nothing later l v adds)
stands_after may [] l v (w ∷ k) adds =
    ⊎_elim
    (λ (new : (may w ≡ true) × AddsTo may (v ∷ l) k). one_later may l v w k (stands_after may [] l v k new.1))
    (λ (old : (g : History) × (v ∷ l ≡ w ∷ g) × AddsTo may g k).
    record {
      log = k;
      later = [];
      whole = ap (λ z. z ∷ k) (head_same v w l old.0 old.1);
      adds = subst (λ z. AddsTo may z k) (sym (tail_same v w l old.0 old.1)) old.2;
    })
    adds
stands_after may (x ∷ later) l v (w ∷ k) adds =
    ⊎_elim
    (λ (new : (may w ≡ true) × AddsTo may (x ∷ later ++ v ∷ l) k). one_later may l v w k (stands_after may (x ∷ later) l v k new.1))
    (λ (old : (g : History) × (x ∷ later ++ v ∷ l ≡ w ∷ g) × AddsTo may g k). one_later may l v w k (stands_after may later l v k
    (subst (λ z. AddsTo may z k) (sym (tail_same x w (later ++ v ∷ l) old.0 old.1)) old.2)))
    adds

-- ---- tests over events

-- what some event passed, some event passes
pub any_more : (may test : Event → Bool) (h k : History) → AddsTo may h k → list_any test h ≡ true → list_any test k ≡ true
any_more may test h [] adds e = ap (list_any test) (sym adds) ∙ e
any_more may test h (v ∷ k) adds e =
    ⊎_elim
    (λ (new : (may v ≡ true) × AddsTo may h k). or_right _ _ (any_more may test h k new.1 e))
    (λ (old : (g : History) × (h ≡ v ∷ g) × AddsTo may g k).
    ⊎_elim (λ (here : test v ≡ true). or_left _ _ here)
    (λ (there : list_any test old.0 ≡ true). or_right _ _ (any_more may test old.0 k old.2 there))
    (or_cases _ _ (ap (list_any test) (sym old.1) ∙ e)))
    adds

-- where no new event passes, some event passes exactly where one did
pub any_same : (may test : Event → Bool) (h k : History) → ((v : Event) → may v ≡ true → test v ≡ false) → AddsTo may h k
    → list_any test h ≡ list_any test k
any_same may test h [] none adds = ap (list_any test) adds
any_same may test h (v ∷ k) none adds =
    ⊎_elim
    (λ (new : (may v ≡ true) × AddsTo may h k). any_same may test h k none new.1 ∙ ap (λ t. t || list_any test k) (sym (none v new.0)))
    (λ (old : (g : History) × (h ≡ v ∷ g) × AddsTo may g k).
    ap (list_any test) old.1 ∙ ap (λ t. test v || t) (any_same may test old.0 k none old.2))
    adds

-- an identifier that was used for another order was so
pub reused_more : (may : Event → Bool) (x : ℕ) (p : Pdu) (h k : History) → AddsTo may h k → is_reused x p h ≡ true → is_reused x p k ≡ true
unfolding is_reused
reused_more may x p h k adds e = any_more may (sends_other x p) h k adds e

acknowledged_more : (may : Event → Bool) (x response : ℕ) (key : AcknowledgeKey) (h k : History) → AddsTo may h k
    → was_acknowledged x response key h ≡ true → was_acknowledged x response key k ≡ true
unfolding was_acknowledged
acknowledged_more may x response key h k adds e = any_more may (sends_under x response key) h k adds e

and_more : (a b c : Bool) → (b ≡ true → c ≡ true) → (a && b) ≡ true → (a && c) ≡ true
and_more true b c on e = on e
and_more false b c on e = absurd (cc)

or_more : (a b c d : Bool) → (a ≡ true → c ≡ true) → (b ≡ true → d ≡ true) → (a || b) ≡ true → (c || d) ≡ true
or_more true b c d one other e = or_left _ _ (one refl)
or_more false b c d one other e = or_right _ _ (other e)

-- an answer that was changed was so
pub changed_more : (may : Event → Bool) (x : ℕ) (p : Pdu) (h k : History) → AddsTo may h k → is_changed_answer x p h ≡ true
    → is_changed_answer x p k ≡ true
unfolding is_changed_answer
changed_more may x p h k adds e =
    elim (key_of p) as (λ o. option_map_or (λ key. (responds able p && was_acknowledged x unable key h) || (responds unable p && was_acknowledged x able key h)) o false ≡ true
    → option_map_or (λ key. (responds able p && was_acknowledged x unable key k) || (responds unable p && was_acknowledged x able key k)) o false ≡ true) [
      | None ↦ λ e. e
      | Some key ↦ or_more (responds able p && was_acknowledged x unable key h) (responds unable p && was_acknowledged x able key h)
          (responds able p && was_acknowledged x unable key k) (responds unable p && was_acknowledged x able key k)
          (and_more (responds able p) (was_acknowledged x unable key h) (was_acknowledged x unable key k) (acknowledged_more may x unable key h k adds))
          (and_more (responds unable p) (was_acknowledged x able key h) (was_acknowledged x able key k) (acknowledged_more may x able key h k adds))
    ] e

-- ---- what sends that are no Ables leave as it was

or_none : {X : Type 0} (o : Option X) → option_or o None ≡ o
or_none None = refl
or_none (Some x) = refl

brings_none : (x : ℕ) (a : SiteApplication) (p : Pdu) (v : Event) (o : Option Pdu) → sends_no_able x v ≡ true → option_or o (request_brought x a p v) ≡ o
brings_none x a p (Send s b) o may = or_none o
brings_none x a p (Get s b) o may = absurd (cc)
brings_none x a p (Tell s e y) o may = absurd (cc)

-- the request that is taken up
pub taken_same : (x : ℕ) (a : SiteApplication) (p : Pdu) (h k : History) → AddsTo (sends_no_able x) h k → request_taken_up x a p h ≡ request_taken_up x a p k
unfolding request_taken_up
taken_same x a p h [] adds = ap (request_taken_up x a p) adds
taken_same x a p h (v ∷ k) adds =
    ⊎_elim
    (λ (new : (sends_no_able x v ≡ true) × AddsTo (sends_no_able x) h k). taken_same x a p h k new.1
    ∙ sym (brings_none x a p v (request_taken_up x a p k) new.0))
    (λ (old : (g : History) × (h ≡ v ∷ g) × AddsTo (sends_no_able x) g k).
    ap (request_taken_up x a p) old.1 ∙ ap (λ o. option_or o (request_brought x a p v)) (taken_same x a p old.0 k old.2))
    adds

not_able : (x : ℕ) (key : AcknowledgeKey) (b : List ℕ) → not (option_map_or (responds able) (meaning x b) false) ≡ true
    → option_map_or (responds_under able key) (meaning x b) false ≡ false
not_able x key b may =
    elim (meaning x b) as (λ o. not (option_map_or (responds able) o false) ≡ true → option_map_or (responds_under able key) o false ≡ false) [
      | None ↦ λ _. refl
      | Some p ↦ λ e. off (responds able p) _ e
    ] may
  where
    off : (t u : Bool) → not t ≡ true → (t && u) ≡ false
    off true u e = absurd (cc)
    off false u e = refl

no_able : (x : ℕ) (key : AcknowledgeKey) (v : Event) → sends_no_able x v ≡ true → sends_under x able key v ≡ false
no_able x key (Send s b) may = not_able x key b may
no_able x key (Get s b) may = absurd (cc)
no_able x key (Tell s e y) may = absurd (cc)

acknowledged_same : (x : ℕ) (key : AcknowledgeKey) (h k : History) → AddsTo (sends_no_able x) h k
    → was_acknowledged x able key h ≡ was_acknowledged x able key k
unfolding was_acknowledged
acknowledged_same x key h k adds = any_same (sends_no_able x) (sends_under x able key) h k (no_able x key) adds

-- whether a PDU is a Change
change_is_same : (x : ℕ) (p : Pdu) (h k : History) → AddsTo (sends_no_able x) h k → is_change x p h ≡ is_change x p k
unfolding is_change
change_is_same x p h k adds =
    ap (λ t. responds able p && t) (elim (key_of p) as (λ o. option_map_or (λ key. not (was_acknowledged x able key h)) o false
    ≡ option_map_or (λ key. not (was_acknowledged x able key k)) o false) [
      | None ↦ refl
      | Some key ↦ ap not (acknowledged_same x key h k adds)
    ])

change_by_same : (x : ℕ) (o : StationData) (p : Pdu) (h k : History) → AddsTo (sends_no_able x) h k → change_by x o h p ≡ change_by x o k p
unfolding change_by
change_by_same x o p h k adds =
    ap (λ (t : Bool). if t then option_and_then (carried_out p) (request_taken_up x o.address p h) else None) (change_is_same x p h k adds)
    ∙ ap (λ (q : Option Pdu). if is_change x p k then option_and_then (carried_out p) q else None) (taken_same x o.address p h k adds)

made_same : (x : ℕ) (o : StationData) (v : Event) (h k : History) → AddsTo (sends_no_able x) h k → change_made x o h v ≡ change_made x o k v
made_same x o (Send s b) h k adds =
    elim (meaning x b) as (λ q. option_and_then (change_by x o h) q ≡ option_and_then (change_by x o k) q) [
      | None ↦ refl
      | Some p ↦ change_by_same x o p h k adds
    ]
made_same x o (Get s b) h k adds = refl
made_same x o (Tell s e y) h k adds = refl

-- what is no Able changes nothing
changes_none : (x : ℕ) (o : StationData) (p : Pdu) (k : History) → not (responds able p) ≡ true → change_by x o k p ≡ None
unfolding change_by is_change
changes_none x o p k may =
    elim (responds able p) as (λ t. not t ≡ true → (if t && option_map_or (λ key. not (was_acknowledged x able key k)) (key_of p) false
    then option_and_then (carried_out p) (request_taken_up x o.address p k) else None) ≡ None) [
      | true ↦ λ e. absurd (cc)
      | false ↦ λ _. refl
    ] may

made_none : (x : ℕ) (o : StationData) (v : Event) (k : History) → sends_no_able x v ≡ true → change_made x o k v ≡ None
made_none x o (Send s b) k may =
    elim (meaning x b) as (λ q. not (option_map_or (responds able) q false) ≡ true → option_and_then (change_by x o k) q ≡ None) [
      | None ↦ λ _. refl
      | Some p ↦ λ e. changes_none x o p k e
    ] may
made_none x o (Get s b) k may = absurd (cc)
made_none x o (Tell s e y) k may = absurd (cc)

-- the state of an entity
entity_same : (x : ℕ) (o : StationData) (e : ℕ) (h k : History) → AddsTo (sends_no_able x) h k → entity_state x o h e ≡ entity_state x o k e
unfolding entity_state
entity_same x o e h [] adds = ap (λ l. entity_state x o l e) adds
entity_same x o e h (v ∷ k) adds =
    ⊎_elim
    (λ (new : (sends_no_able x v ≡ true) × AddsTo (sends_no_able x) h k). entity_same x o e h k new.1
    ∙ ap (λ c. option_map_or (changed e (entity_state x o k e)) c (entity_state x o k e)) (sym (made_none x o v k new.0)))
    (λ (old : (g : History) × (h ≡ v ∷ g) × AddsTo (sends_no_able x) g k).
    ap (λ l. entity_state x o l e) old.1
    ∙ ap (λ y. option_map_or (changed e y) (change_made x o old.0 v) y) (entity_same x o e old.0 k old.2)
    ∙ ap (λ c. option_map_or (changed e (entity_state x o k e)) c (entity_state x o k e)) (made_same x o v old.0 k old.2))
    adds

pub state_same : (x : ℕ) (o : StationData) (e : ℕ) (h k : History) → AddsTo (sends_no_able x) h k → state_after x o h e ≡ state_after x o k e
unfolding state_after
state_same x o e h k adds = ap (λ (y : EntityState). if is_entity e then y else Absent) (entity_same x o e h k adds)

hopeless_same : (kind : Kind) (scope : Scope) (y z : ℕ → EntityState) → ((e : ℕ) → y e ≡ z e) → is_hopeless kind scope y ≡ is_hopeless kind scope z
hopeless_same kind (One n) y z same = ap (is_hopeless_for kind n) (same n)
hopeless_same kind All y z same = refl

-- whether a change is impossible
pub impossible_same : (x : ℕ) (o : StationData) (p q : Pdu) (h k : History) → AddsTo (sends_no_able x) h k
    → is_impossible x o h p q ≡ is_impossible x o k p q
unfolding is_impossible
impossible_same x o p q h k adds =
    let c = change_of p q in
    ap (λ t. t && is_hopeless c.kind c.scope (state_after x o h)) (change_is_same x p h k adds)
    ∙ ap (λ t. is_change x p k && t) (hopeless_same c.kind c.scope (state_after x o h) (state_after x o k) (λ e. state_same x o e h k adds))
