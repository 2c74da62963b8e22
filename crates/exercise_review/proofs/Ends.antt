-- Entries to which none goes back are the last under their keys, and what stands at such a head was sent once.
use Rattle.std.proofs.Common.{◌≡◌, ℕ, zero, suc, ◌%◌, ◌^◌, ◌<◌, length, Bool, true, false, Some, None, refl, sym, ap, ◌∙◌, subst, arith}
use Rattle.std.specs.Prelude.{is_some, option_map, IfSome, if◌then◌else◌}
use Rattle.std.specs.Option.{option_map_or}
use Rattle.std.proofs.lemmas.Option.{same_Some}
use Rattle.exercise_model.specs.Place.{first_below}
use Rattle.exercise_model.specs.Recording.{PlainRecording}
use Rattle.exercise_model.proofs.Offered.{first_found}
use Rattle.exercise_review.specs.Counted.{last_below, count_below}
use Rattle.exercise_review.specs.Digest.{digest, digest_of, at_station}
use Rattle.exercise_review.specs.Order.{OrderData, sends_order, order_at, sends_of}
use Rattle.exercise_review.specs.Outcome.{known_sends}
use Rattle.exercise_review.specs.Register.{request_digest, order_key, key_at, has_key, IsUnder}
use Rattle.exercise_review.proofs.Digests.{digest_whole}
use Rattle.exercise_review.proofs.FirstOnes.{off}
use Rattle.exercise_review.proofs.OneOrder.{order_made}
use Rattle.exercise_review.proofs.Runs.{none_passes}
use Rattle.exercise_review.proofs.Under.{sends_keyed, sends_under}
use Rattle.exercise_review.proofs.Walks.{past, jump, count_still}

-- ---- what was sent once

nothing_counted : (f : ℕ → Bool) (n : ℕ) → ((j : ℕ) → j < n → f j ≡ false) → count_below f n ≡ 0
unfolding count_below
nothing_counted f zero none = refl
nothing_counted f (suc n) none =
    let before = nothing_counted f n (λ j l. none j (omega (arith, l))) in
    let here = ap {B = ℕ} (λ b. if b then 1 else 0) (none n (omega arith)) in
    omega (arith, before, here)

-- one passes, where the first that does is the last under a key that all have which pass
one_counted : (f h : ℕ → Bool) (n i : ℕ) → ((j : ℕ) → f j ≡ true → h j ≡ true) → first_below f n ≡ Some i → last_below h n ≡ Some i → count_below f n ≡ 1
unfolding count_below
one_counted f h n i under first last =
    let found = first_found f n i first in
    let none = nothing_counted f i (λ j l. off (f j) (none_passes f i j (ap is_some found.none) l)) in
    let one = ap {B = ℕ} (λ b. if b then 1 else 0) found.passes in
    jump (count_below f) f h under (count_still f) n ∙ ap (λ o. count_below f (past o)) last ∙ omega (arith, none, one)

-- AN ORDER WAS SENT ONCE where its head is the last entry under its key
pub sent_once : (r : PlainRecording) (o : OrderData) (s : ℕ) → order_at r o.head ≡ Some o → o.maker ≡ Some s
    → ((k : ℕ) → has_key r k o.head ≡ true → last_below (has_key r k) (length r.entries) ≡ Some o.head) → Some 1 ≡ known_sends r o
unfolding sends_of order_key
sent_once r o s order maker last =
    let made = order_made r o.head s o order maker in
    let f = sends_order r s o.request in
    let k : ℕ = digest_of s o.request in
    let key : order_key s o.request ≡ Some k = ap (λ b. if b then Some k else None) made.request in
    let under : IsUnder r f k = subst (λ x. IfSome x (IsUnder r f)) key (sends_under r s o.request) in
    let passes = (first_found f (length r.entries) o.head made.first).passes in
    let once = one_counted f (has_key r k) (length r.entries) o.head under made.first (last k (under o.head passes)) in
    sym (ap (option_map (λ s. sends_of r o)) maker ∙ ap (λ m. Some (option_map_or (λ s. count_below (sends_order r s o.request) (length r.entries)) m 0)) maker ∙ ap Some once)

-- ---- the digest of what stands at its head

-- THE KEY OF A HEAD is the digest of its request, told at its maker
pub head_digest : (r : PlainRecording) (o : OrderData) (s k d : ℕ) → order_at r o.head ≡ Some o → o.maker ≡ Some s → key_at r o.head ≡ Some k
    → ((e : ℕ) → k ≡ at_station s e → d ≡ e % 2 ^ 64) → Some d ≡ request_digest o.request
unfolding order_key digest_of
head_digest r o s k d order maker key back =
    let made = order_made r o.head s o order maker in
    let passes = (first_found (sends_order r s o.request) (length r.entries) o.head made.first).passes in
    let own : Some k ≡ Some (digest_of s o.request) =
    sym key ∙ sends_keyed r s o.request made.request o.head passes ∙ ap (λ b. if b then Some (digest_of s o.request) else None) made.request in
    ap Some (back (digest o.request) (same_Some k (digest_of s o.request) own) ∙ digest_whole o.request)
    ∙ sym (ap (λ b. if b then Some (digest o.request) else None) made.request)
