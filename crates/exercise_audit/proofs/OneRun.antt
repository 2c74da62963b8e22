-- The longest run in the sequence of time is one, and so are its blocks.
use Rattle.std.proofs.Common.{◌≡◌, ⊎_elim, ℕ, zero, suc, ◌<◌, ◌≤◌, List, [], ◌∷◌, ◌++◌, length, take, refl, sym, ap, ◌∙◌, subst, arith}
use Rattle.std.specs.Prelude.{slice_index_or}
use Rattle.std.proofs.lemmas.Bool.{cases_lt}
use Rattle.std.proofs.lemmas.List.{take_all}
use Rattle.std.proofs.lemmas.Option.{same_Some}
use Rattle.exercise_model.specs.Recording.{PlainRecording}
use Rattle.exercise_model.specs.History.{History, event_of, station_of, log_at, log_of}
use Rattle.exercise_model.specs.Cause.{cause_of}
use Rattle.exercise_model.specs.Place.{log_before, own_event}
use Rattle.exercise_model.specs.Run.{IsBeginning, IsStuck}
use Rattle.exercise_model.proofs.Offered.{same_beginnings, log_before-next, log_before-beginning}
use Rattle.exercise_check.specs.declared.certificate.Step.{Step}
use Rattle.exercise_check.specs.Sequence.{sequence_of}
use Rattle.exercise_check.specs.Goodness.{no_step, IsGoodStep, GoodBelow}
use Rattle.exercise_check.proofs.Offered.{good_logs, good_step}
use Rattle.exercise_audit.specs.declared.blocks.Block.{Block}
use Rattle.exercise_audit.specs.Audit.{IsDone, IsBlock, AreBlocks}
use Rattle.exercise_audit.specs.Time.{IsTimely}
use Rattle.exercise_audit.specs.Longest.{IsLongest}
use Rattle.exercise_audit.proofs.Held.{own_from, done_unblocked}
use Rattle.exercise_audit.proofs.Times.{one_next, same_front}

-- ---- the steps

-- no good steps go on after a run that is stuck
none_after : (r : PlainRecording) (xs ys : List Step) → GoodBelow r xs (length xs) → IsStuck r (sequence_of r xs) → GoodBelow r ys (length ys)
    → xs ≡ take (length xs) ys → length ys ≤ length xs
none_after r xs ys good stuck fine same = ⊎_elim
    (λ (more : length xs < length ys).
    let y = slice_index_or ys (length xs) no_step in
    let found = good_step r (take (length xs) ys) y (fine (length xs) more) in
    let v = event_of found.0 in
    let s = station_of v in
    let next = subst (λ zs. IsGoodStep r zs y found.0) (sym same) found.1 in
    let before : log_before r s y.place ≡ log_at s (sequence_of r xs) =
    same_beginnings _ _ (log_of r s) (log_before-beginning r s y.place) (good_logs r xs good s) (sym next.next) in
    absurd (stuck.stuck v
    (subst (λ log. IsBeginning (v ∷ log) (log_of r s)) before (log_before-next r s y.place v (own_from r s y.place found.0 next.at refl)))
    next.allowed))
    (λ (few : length ys ≤ length xs). few)
    (cases_lt (length xs) (length ys))

no_longer : (r : PlainRecording) (xs ys : List Step) → GoodBelow r xs (length xs) → IsTimely r xs → IsStuck r (sequence_of r xs)
    → GoodBelow r ys (length ys) → IsTimely r ys → length xs ≤ length ys → xs ≡ ys
no_longer r xs ys good timely stuck fine punctual few =
    let front = same_front r xs ys good timely fine punctual few in
    front ∙ take_all (length xs) ys (none_after r xs ys good stuck fine front)

one_run : (r : PlainRecording) (xs ys : List Step) (blocks more : List Block) → IsLongest r xs blocks → IsLongest r ys more → xs ≡ ys
one_run r xs ys blocks more p q = ⊎_elim
    (λ (less : length xs < length ys). no_longer r xs ys p.good p.timely p.stuck q.good q.timely (omega (arith, less)))
    (λ (least : length ys ≤ length xs). sym (no_longer r ys xs q.good q.timely q.stuck p.good p.timely least))
    (cases_lt (length xs) (length ys))

-- ---- the blocks

one_block : (r : PlainRecording) (h : History) (s : ℕ) (b c : Block) → IsBlock r h s b → IsBlock r h s c → b ≡ c
one_block r h s b c p q =
    let station : b.station ≡ c.station = p.station ∙ sym q.station in
    let entry : b.entry ≡ c.entry = one_next r h s b.entry c.entry p.event q.event p.next q.next in
    let event : p.event ≡ q.event = same_Some _ _ (sym p.next.own ∙ ap (own_event r s) entry ∙ q.next.own) in
    let cause : b.cause ≡ c.cause = same_Some _ _ (sym p.cause ∙ ap (cause_of r.setting h) event ∙ q.cause) in
    ap (λ n. record { station = n; entry = b.entry; cause = b.cause }) station
    ∙ ap (λ i. record { station = c.station; entry = i; cause = b.cause }) entry
    ∙ ap (λ x. record { station = c.station; entry = c.entry; cause = x }) cause

-- the blocks of so many stations, where the last one of them has a block
abbrev Last : PlainRecording → History → ℕ → List Block → Type 0
Last r h s blocks = (others : List Block) × (b : Block) × (blocks ≡ others ++ b ∷ []) × AreBlocks r h s others × IsBlock r h s b

one_list : (r : PlainRecording) (h : History) (n : ℕ) (blocks more : List Block) → AreBlocks r h n blocks → AreBlocks r h n more → blocks ≡ more
one_list r h zero blocks more p q = p ∙ sym q
one_list r h (suc s) blocks more p q =
    ⊎_elim
    (λ (done : IsDone r h s × AreBlocks r h s blocks).
    ⊎_elim
    (λ (too : IsDone r h s × AreBlocks r h s more). one_list r h s blocks more done.1 too.1)
    (λ (last : Last r h s more). absurd (done_unblocked r h s last.1 done.0 last.4))
    q)
    (λ (last : Last r h s blocks).
    ⊎_elim
    (λ (done : IsDone r h s × AreBlocks r h s more). absurd (done_unblocked r h s last.1 done.0 last.4))
    (λ (other : Last r h s more).
    last.2 ∙ ap (λ xs. xs ++ last.1 ∷ []) (one_list r h s last.0 other.0 last.3 other.3)
    ∙ ap (λ b. other.0 ++ b ∷ []) (one_block r h s last.1 other.1 last.4 other.4) ∙ sym other.2)
    q)
    p

-- THE LONGEST RUN IS ONE
pub one_longest : (r : PlainRecording) (xs ys : List Step) (blocks more : List Block) → IsLongest r xs blocks → IsLongest r ys more
    → (xs ≡ ys) × (blocks ≡ more)
one_longest r xs ys blocks more p q =
    let same = one_run r xs ys blocks more p q in
    let there = subst (λ zs. AreBlocks r (sequence_of r zs) (length r.setting.stations) more) (sym same) q.blocks_are in
    (same, one_list r (sequence_of r xs) (length r.setting.stations) blocks more p.blocks_are there)
