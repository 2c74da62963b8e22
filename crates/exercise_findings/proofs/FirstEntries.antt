-- The first entries under keys, as they are kept, one entry after another, and what is looked up among them.
use Rattle.std.proofs.Common.{◌≡◌, ℕ, ◌+◌, length, Option, Some, None, true, false, refl, sym, ap, ◌∙◌}
use Rattle.std.specs.Prelude.{IfSome, IfNone, slice_get, option_map, option_and_then}
use Rattle.std.specs.Option.{option_map_or}
use Rattle.siman_pdus.specs.declared.pdu.Pdu.{Pdu}
use Rattle.siman_pdus.specs.Role.{request_id_of}
use Rattle.exercise_model.specs.Recording.{PlainRecording}
use Rattle.exercise_model.specs.Place.{brings_request, entry_taken_up}
use Rattle.exercise_findings.specs.declared.key.Key.{Key}
use Rattle.exercise_findings.specs.declared.kept.Kept.{Kept}
use Rattle.exercise_findings.specs.Decided.{key_decides}
use Rattle.exercise_findings.specs.Hashed.{key_hash}
use Rattle.exercise_findings.specs.Slots.{IsReached, HasSlot}
use Rattle.exercise_findings.specs.Kept.{IsAppended}
use Rattle.exercise_findings.specs.Firsts.{same_key, request_key, key_at, has_key, first_under, AreFirsts}
use Rattle.exercise_findings.proofs.Keyed.{taken_up_by_key, asked_at, unasked_at}
use Rattle.exercise_findings.proofs.Keeping.{looked_up, kept_none, kept_still, kept_later, kept_more, order_first}

-- an entry has no key but its own
own_key : (r : PlainRecording) (n : ℕ) (l : Key) → Some l ≡ key_at r n → (k : Key) → has_key r k n ≡ true → k ≡ l
own_key r n l at k has = (key_decides k l).0 (ap (λ m. option_map_or (same_key k) m false) at ∙ has)

pub its_key : (r : PlainRecording) (n : ℕ) (l : Key) → Some l ≡ key_at r n → has_key r l n ≡ true
its_key r n l at = sym (ap (λ m. option_map_or (same_key l) m false) at) ∙ (key_decides l l).1 refl

pub firsts_none : (r : PlainRecording) (firsts : Kept) → length firsts.slots.slots ≡ 0 → length firsts.order.items ≡ 0 → AreFirsts r 0 firsts
firsts_none r firsts none empty = kept_none (has_key r) key_hash firsts none empty

-- an entry that has none
pub firsts_still : (r : PlainRecording) (n : ℕ) (firsts : Kept) → None ≡ key_at r n → AreFirsts r n firsts → AreFirsts r (n + 1) firsts
firsts_still r n firsts has tied = kept_still (has_key r) key_hash n firsts (λ k. sym (ap (λ m. option_map_or (same_key k) m false) has)) tied

-- an entry under whose key another one stands
pub firsts_later : (r : PlainRecording) (n m : ℕ) (l : Key) (firsts : Kept) → Some l ≡ key_at r n → first_under r l n ≡ Some m
    → AreFirsts r n firsts → AreFirsts r (n + 1) firsts
unfolding first_under
firsts_later r n m l firsts at first tied = kept_later (has_key r) key_hash n m firsts l (own_key r n l at) first tied

-- the first entry under its key
pub firsts_kept : (r : PlainRecording) (n : ℕ) (l : Key) (old new : Kept) → Some l ≡ key_at r n → first_under r l n ≡ None
    → IsAppended (key_hash l) n old new → AreFirsts r n old → AreFirsts r (n + 1) new
unfolding first_under
firsts_kept r n l old new at none behind tied =
    kept_more (has_key r) key_hash n old new l (own_key r n l at) (its_key r n l at) none behind tied

-- what is looked up
pub firsts_looked_up : (r : PlainRecording) (n : ℕ) (firsts : Kept) (k : Key) (o : Option ℕ) → AreFirsts r n firsts
    → IfSome o (λ e. HasSlot firsts.slots.slots e × (has_key r k e ≡ true))
    → IfNone o ((e : ℕ) → IsReached firsts.slots.slots (key_hash k) e → has_key r k e ≡ false) → o ≡ first_under r k n
unfolding first_under
firsts_looked_up r n firsts k o tied found absent =
    looked_up (has_key r) key_hash n firsts.slots.slots k (has_key r k) tied.first (λ e stands. refl) o found absent

pub firsts_order : (r : PlainRecording) (n : ℕ) (firsts : Kept) (k : Key) (i e : ℕ) → AreFirsts r n firsts
    → slice_get firsts.order.items i ≡ Some e → has_key r k e ≡ true → first_under r k n ≡ Some e
unfolding first_under
firsts_order r n firsts k i e tied at is = order_first (has_key r) key_hash n firsts k i e tied at is

-- what stands in order and brings a request for an answer is what the answer takes up
pub order_taken : (r : PlainRecording) (s n : ℕ) (firsts : Kept) (p : Pdu) (i e : ℕ) → AreFirsts r n firsts → slice_get firsts.order.items i ≡ Some e
    → brings_request r s p e ≡ true → entry_taken_up r s p n ≡ Some e
order_taken r s n firsts p i e tied at brings =
    taken_up_by_key r s p n
    ∙ elim (request_id_of p.body) as (λ o. request_id_of p.body ≡ o
    → option_and_then (λ k. first_under r k n) (option_map (request_key s p.target.site p.target.application) o) ≡ Some e) [
      | None ↦ λ none. absurd (cc (sym (unasked_at r s p none e) ∙ brings))
      | Some id ↦ λ is. firsts_order r n firsts (request_key s p.target.site p.target.application id) i e tied at (sym (asked_at r s p id is e) ∙ brings)
    ] refl
