-- What one more change decides of each entity.
use Rattle.std.proofs.Common.{◌≡◌, ℕ, suc, ◌+◌, ◌<◌, [], ◌∷◌, length, refl, sym, ap, subst, ◌∙◌, arith}
use Rattle.std.specs.Prelude.{Bool, true, false, Some, None, ◌==◌, nat_le, ◌++◌, if◌then◌else◌, slice_index_or, replicate}
use Rattle.std.proofs.lemmas.Bool.{and_parts}
use Rattle.std.proofs.lemmas.Bool.Decides.{nat_tests}
use Rattle.std.proofs.lemmas.List.{length-replicate, get_or-replicate, append-nil}
use Rattle.dis_records.specs.declared.entity_state.EntityState.TheVariants.{Absent, Stopped}
use Rattle.dis_records.specs.declared.entity.Scope.TheVariants.{One}
use Rattle.exercise_model.specs.declared.state.Change.{Change}
use Rattle.exercise_model.specs.declared.station.TheConstants.{LARGEST_ENTITY}
use Rattle.exercise_model.specs.Account.{change_at}
use Rattle.exercise_model.specs.Recording.{PlainRecording}
use Rattle.exercise_model.specs.Station.{is_entity, is_opening, listed_state}
use Rattle.siman_application.specs.Listed.{Entities, inserted}
use Rattle.siman_application.proofs.Changes.{opening_inserted}
use Rattle.siman_exercise_commands.specs.declared.assumed.Decision.{Decision}
use Rattle.siman_exercise_commands.specs.declared.assumed.Decision.TheVariants.{Open, Assumed, Settled}
use Rattle.siman_exercise_commands.specs.declared.assumed.Decisions.{Decisions}
use Rattle.siman_exercise_commands.specs.Assumed.{own_decision, decided, decided_by, then_decided, decision_below, seen, AreDecisions, Decides, is_assumed, assumed_in, numbers_below}

-- nothing more is said
pub then_nothing : (d : Decision) → then_decided d Open ≡ d
then_nothing Open = refl
then_nothing Assumed = refl
then_nothing Settled = refl

-- where all are settled
settled_stays : (d next : Decision) → seen true d ≡ then_decided (seen true d) next
settled_stays Open next = refl
settled_stays Assumed next = refl
settled_stays Settled next = refl

unsettled : (d : Decision) → seen false d ≡ d
unsettled Open = refl
unsettled Assumed = refl
unsettled Settled = refl

own_decided : (e n : ℕ) (c : Change) → c.scope ≡ One n → (n == e) ≡ true → decided e c ≡ own_decision c.kind
own_decided e n c scope same = rw (scope, same) refl

other_undecided : (e n : ℕ) (c : Change) → c.scope ≡ One n → (n == e) ≡ false → decided e c ≡ Open
other_undecided e n c scope differs = rw (scope, differs) refl

-- before the first entry
pub none_decided : (r : PlainRecording) (d : Decisions) → d.table.items ≡ replicate (LARGEST_ENTITY + 1) Open → d.all_removed ≡ false → AreDecisions r 0 d
unfolding decision_below
none_decided r d items unsettled_all = record {
  size = ap length items ∙ length-replicate (LARGEST_ENTITY + 1) Open;
  each = λ e below. ap (λ b. seen b (slice_index_or d.table.items e Open)) unsettled_all ∙ ap (λ xs. seen false (slice_index_or xs e Open)) items
      ∙ ap (seen false) (get_or-replicate (LARGEST_ENTITY + 1) e Open Open below);
}

-- one entry more, which changes something
pub decided_next : (r : PlainRecording) (n : ℕ) (old new : Decisions) (c : Change) → AreDecisions r n old → Decides c old new → change_at r n ≡ Some c
    → AreDecisions r (suc n) new
unfolding decision_below
decided_next r n old new c are decides change = record {
  size = decides.size ∙ are.size;
  each = λ e below. decides.each e (subst (λ k. e < k) (sym are.size) below) ∙ ap (λ d. then_decided d (decided e c)) (are.each e below)
      ∙ ap (λ o. then_decided (decision_below r e n) (decided_by e o)) (sym change);
}

-- one entry more, which changes nothing
pub decided_past : (r : PlainRecording) (n : ℕ) (d : Decisions) → AreDecisions r n d → change_at r n ≡ None → AreDecisions r (suc n) d
unfolding decision_below
decided_past r n d are change = record {
  size = are.size;
  each = λ e below. are.each e below ∙ sym (then_nothing (decision_below r e n)) ∙ ap (λ o. then_decided (decision_below r e n) (decided_by e o)) (sym change);
}

-- entities with which a station may open, and one more, stopped
pub stopped_opens : (e : ℕ) (xs : Entities) → is_entity e ≡ true → is_opening xs ≡ true → listed_state xs e ≡ Absent → is_opening (inserted e Stopped xs) ≡ true
stopped_opens e xs entity opens absent =
    let parts = and_parts (nat_le 1 e) (nat_le e LARGEST_ENTITY) entity in
    opening_inserted 0 e Stopped xs (grind (arith, nat_tests)) (grind (arith, nat_tests)) refl opens absent

-- one number more, which passes
pub more_number : (test : ℕ → Bool) (n : ℕ) → test n ≡ true → numbers_below test (suc n) ≡ numbers_below test n ++ n ∷ []
unfolding numbers_below
more_number test n passes = ap (λ b. numbers_below test n ++ (if b then n ∷ [] else [])) passes

-- one number more, which does not
pub same_numbers : (test : ℕ → Bool) (n : ℕ) → test n ≡ false → numbers_below test (suc n) ≡ numbers_below test n
unfolding numbers_below
same_numbers test n fails = ap (λ b. numbers_below test n ++ (if b then n ∷ [] else [])) fails ∙ append-nil (numbers_below test n)

-- the numbers of all entities
pub all_numbers : (r : PlainRecording) (opening : Entities) → assumed_in r opening ≡ numbers_below (is_assumed r opening) (LARGEST_ENTITY + 1)
unfolding assumed_in
all_numbers r opening = refl

-- no number is below zero
pub no_numbers : (test : ℕ → Bool) → numbers_below test 0 ≡ []
unfolding numbers_below
no_numbers test = refl
