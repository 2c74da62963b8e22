-- An answer that is the first to take up its request was not sent before.
use Rattle.std.proofs.Common.{◌≡◌, ℕ, zero, suc, ◌+◌, ◌-◌, ◌<◌, ◌≤◌, List, [], ◌∷◌, ◌++◌, length, length-set, set, take, Option, Some, None, Bool, true, false, refl, sym, ap, ◌∙◌, ⊎_elim, inl, inr, subst, arith}
use Rattle.std.specs.Prelude.{◌⊎◌, ◌≢◌, ◌&&◌, ◌||◌, not, IfSome, is_none, slice_get, option_and_then, if◌then◌else◌}
use Rattle.std.specs.Option.{option_map_or}
use Rattle.std.proofs.lemmas.Bool.{cases_eq, cases_lt}
use Rattle.std.proofs.lemmas.Option.{same_Some}
use Rattle.std.proofs.lemmas.List.{take_all}
use Rattle.siman_pdus.specs.declared.pdu.Pdu.{Pdu}
use Rattle.exercise_model.specs.Entry.{Sent}
use Rattle.exercise_model.specs.Recording.{PlainRecording}
use Rattle.exercise_model.specs.Meaning.{meaning}
use Rattle.exercise_model.specs.Exchange.{is_answer_body}
use Rattle.exercise_model.specs.Place.{first_below, brings_request, entry_taken_up}
use Rattle.exercise_model.specs.Account.{pair_of_sent, pair_of}
use Rattle.exercise_findings.specs.declared.answered.Answered.{Answered}
use Rattle.exercise_findings.specs.Answered.{is_unasked, unasked_at, AreAnswered}
use Rattle.exercise_findings.specs.Firsts.{key_at}
use Rattle.exercise_findings.specs.FirstSends.{IsNewSend}
use Rattle.exercise_findings.specs.Source.{is_source, first_source}
use Rattle.exercise_findings.proofs.EntityStates.{get-set_here, get-set_other}
use Rattle.exercise_findings.proofs.FirstSends.{same_sends, key_of_send}
use Rattle.exercise_findings.proofs.Keyed.{passes}
use Rattle.exercise_findings.proofs.Looks.{pair_here, pair_earlier, unasked_here}
use Rattle.exercise_findings.proofs.Recorded.{first_stays}

-- the request that an answer takes up at one place it takes up at each place behind it
taken_stays : (r : PlainRecording) (s : ℕ) (p : Pdu) (j n e : ℕ) → j < n → entry_taken_up r s p j ≡ Some e → entry_taken_up r s p n ≡ Some e
unfolding entry_taken_up
taken_stays r s p j n e before taken =
    let from : n ≡ n - j + j = omega (arith, before) in
    ap (first_below (brings_request r s p)) from ∙ first_stays (brings_request r s p) (n - j) j e taken

-- what takes up a request at one place takes up the same at a place before it, or is an answer there that takes up none
same_answer : (r : PlainRecording) (s j n e : ℕ) (o : Option Pdu) → j < n → option_and_then (pair_of_sent r s n) o ≡ Some e
    → (option_and_then (pair_of_sent r s j) o ≡ Some e) ⊎ (option_map_or (is_unasked r s j) o false ≡ true)
same_answer r s j n e None before pair = absurd (cc pair)
same_answer r s j n e (Some p) before pair =
    elim (is_answer_body p.body) as (λ t. (if t then entry_taken_up r s p n else None) ≡ Some e
    → ((if t then entry_taken_up r s p j else None) ≡ Some e) ⊎ ((t && is_none (if t then entry_taken_up r s p j else None)) ≡ true)) [
      | false ↦ λ none. absurd (cc none)
      | true ↦ λ pair. elim (entry_taken_up r s p j) as (λ o. entry_taken_up r s p j ≡ o → (o ≡ Some e) ⊎ ((true && is_none o) ≡ true)) [
        | None ↦ λ _. inr refl
        | Some x ↦ λ taken. inl (sym (taken_stays r s p j n x before taken) ∙ pair)
      ] refl
    ] pair

-- two sends of the same bytes by one station have the same key
same_key : (r : PlainRecording) (j n t s u : ℕ) (b : List ℕ) → slice_get r.entries j ≡ Some (Sent t s b) → slice_get r.entries n ≡ Some (Sent t u b)
    → key_at r j ≡ key_at r n
same_key r j n t s u b there here = key_of_send r j t s b there ∙ sym (key_of_send r n t u b here)

-- THE FIRST ANSWER to a request was not sent before, where it has no key
pub new_answer : (r : PlainRecording) (n e : ℕ) (a : Answered) → AreAnswered r n a → key_at r n ≡ None → pair_of r n ≡ Some e → a.unasked ≡ false
    → (slice_get a.taken.items e ≡ Some true → ⊥) → IsNewSend r n
unfolding first_source
new_answer r n e a tied unkeyed pair asked free b source =
    elim (first_below (is_source r b) n) as (λ o. first_below (is_source r b) n ≡ o → o ≡ None) [
      | None ↦ λ _. refl
      | Some j ↦ λ found.
          let before = passes (is_source r b) n j found in
          let sends = same_sends r b j n before.1 source in
          let s = sends.0 in
          let there : slice_get r.entries j ≡ Some (Sent s sends.1.0.0 b) = sends.1.0.1 in
          let here : slice_get r.entries n ≡ Some (Sent s sends.1.1.0 b) = sends.1.1.1 in
          ⊎_elim
          (λ same. absurd (free (tied.taken j e before.0 (same_key r j n s sends.1.0.0 sends.1.1.0 b there here ∙ unkeyed)
          (pair_here r j (Sent s sends.1.0.0 b) there ∙ same))))
          (λ none. absurd (cc (sym (tied.unasked j before.0 (unasked_here r j (Sent s sends.1.0.0 b) there ∙ none)) ∙ asked)))
          (same_answer r s j n e (meaning r.setting.exercise b) before.0 (sym (pair_here r n (Sent s sends.1.1.0 b) here) ∙ pair))
    ] refl

-- what is so where one of three is
pub one_of : (a b c : Bool) (P : Type 0) → (a || (b || c)) ≡ true → (a ≡ true → P) → (b ≡ true → P) → (c ≡ true → P) → P
one_of true b c P any first second third = first refl
one_of false true c P any first second third = second refl
one_of false false c P any first second third = third any

-- ---- one entry more

-- what is marked stays, and what the next entry takes up, or that it takes up nothing, is known
pub answered_more : (r : PlainRecording) (n : ℕ) (a b : Answered) → length b.taken.items ≤ length r.entries
    → ((e : ℕ) → slice_get a.taken.items e ≡ Some true → slice_get b.taken.items e ≡ Some true) → (a.unasked ≡ true → b.unasked ≡ true)
    → ((e : ℕ) → key_at r n ≡ None → pair_of r n ≡ Some e → slice_get b.taken.items e ≡ Some true) → (unasked_at r n ≡ true → b.unasked ≡ true)
    → AreAnswered r n a → AreAnswered r (n + 1) b
answered_more r n a b room kept known taken unasked tied = record {
  room = room;
  taken = λ j e within unkeyed pair. ⊎_elim
      (λ (below : j < n). kept e (tied.taken j e below unkeyed pair))
      (λ (from : n ≤ j). let here : n ≡ j = omega (arith, from, within) in taken e (ap (key_at r) here ∙ unkeyed) (ap (pair_of r) here ∙ pair))
      (cases_lt j n);
  unasked = λ j within asked. ⊎_elim
      (λ (below : j < n). known (tied.unasked j below asked))
      (λ (from : n ≤ j). let here : n ≡ j = omega (arith, from, within) in unasked (ap (unasked_at r) here ∙ asked))
      (cases_lt j n);
}

-- an entry that is no answer
pub answered_still : (r : PlainRecording) (n : ℕ) (a : Answered) → pair_of r n ≡ None → unasked_at r n ≡ false → AreAnswered r n a → AreAnswered r (n + 1) a
answered_still r n a none asked tied =
    answered_more r n a a tied.room (λ e marked. marked) (λ known. known)
    (λ e unkeyed pair. absurd (cc (sym none ∙ pair))) (λ unasked. absurd (cc (sym asked ∙ unasked))) tied

-- the request that an entry takes up is an entry of the log
pub taken_within : (r : PlainRecording) (n e : ℕ) → n < length r.entries → pair_of r n ≡ Some e → e < length r.entries
taken_within r n e within pair =
    let earlier : e < n = subst (λ o. IfSome o (λ e. e < n)) pair (pair_earlier r n) in
    omega (arith, earlier, within)

-- what was marked stays so where one more is
pub marked_stays : (xs : List Bool) (i e : ℕ) → i < length xs → slice_get xs e ≡ Some true → slice_get (set xs i true) e ≡ Some true
marked_stays xs i e within marked = ⊎_elim
    (λ (same : e ≡ i). ap (slice_get (set xs i true)) same ∙ get-set_here xs i true within)
    (λ (apart : e ≢ i). get-set_other xs i true e apart ∙ marked)
    (cases_eq e i)

found_in_front : {X : Type 0} (xs ys : List X) (e : ℕ) (x : X) → slice_get xs e ≡ Some x → slice_get (xs ++ ys) e ≡ Some x
found_in_front [] ys e x at = absurd (cc at)
found_in_front (z ∷ xs) ys zero x at = at
found_in_front (z ∷ xs) ys (suc e) x at = found_in_front xs ys e x at

-- and where room for all entries is made
pub marked_within : (xs free : List Bool) (n e : ℕ) → length xs ≤ n → slice_get xs e ≡ Some true → slice_get (take n xs ++ free) e ≡ Some true
marked_within xs free n e room marked = ap (λ ys. slice_get (ys ++ free) e) (take_all n xs room) ∙ found_in_front xs free e true marked

pub known_stays : (a b : Bool) → a ≡ true → (a || b) ≡ true
known_stays true b known = refl
known_stays false b known = absurd (cc known)

pub known_here : (a b : Bool) → b ≡ true → (a || b) ≡ true
known_here true b known = refl
known_here false b known = known

-- an answer without a key, whose request is marked
pub answered_marked : (r : PlainRecording) (n i : ℕ) (xs : List Bool) (a b : Answered) → pair_of r n ≡ Some i → i < length xs → length xs ≤ length r.entries
    → ((e : ℕ) → slice_get a.taken.items e ≡ Some true → slice_get xs e ≡ Some true) → b.taken.items ≡ set xs i true → b.unasked ≡ a.unasked
    → (unasked_at r n ≡ true → a.unasked ≡ true) → AreAnswered r n a → AreAnswered r (n + 1) b
answered_marked r n i xs a b pair within room kept marked same unasked tied =
    let long : length b.taken.items ≡ length xs = ap length marked ∙ length-set xs i true in
    answered_more r n a b (omega (arith, long, room))
    (λ e was. ap (λ ys. slice_get ys e) marked ∙ marked_stays xs i e within (kept e was))
    (λ was. same ∙ was)
    (λ e unkeyed other. ap (slice_get b.taken.items) (same_Some e i (sym other ∙ pair)) ∙ ap (λ ys. slice_get ys i) marked ∙ get-set_here xs i true within)
    (λ is. same ∙ unasked is)
    tied

unmarked : (a b : Bool) → not (a || b) ≡ true → (a ≡ false) × (b ≡ false)
unmarked false false new = (refl, refl)
unmarked false true new = absurd (cc new)
unmarked true b new = absurd (cc new)

-- an answer without a key, whose request was not marked
pub new_unmarked : (r : PlainRecording) (n i : ℕ) (was : Bool) (xs : List Bool) (a : Answered) → key_at r n ≡ None → pair_of r n ≡ Some i
    → ((e : ℕ) → slice_get a.taken.items e ≡ Some true → slice_get xs e ≡ Some true) → slice_get xs i ≡ Some was
    → not (was || a.unasked) ≡ true → AreAnswered r n a → IsNewSend r n
new_unmarked r n i was xs a unkeyed pair kept marked new tied =
    let none = unmarked was a.unasked new in
    new_answer r n i a tied unkeyed pair none.1 (λ was_so. cc (sym (kept i was_so) ∙ marked ∙ ap Some none.0))
