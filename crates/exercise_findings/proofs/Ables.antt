-- What is kept of the Ables that stations receive gives the change behind each entry.
use Rattle.std.proofs.Common.{◌≡◌, ℕ, ◌+◌, ◌<◌, ◌≤◌, List, [], ◌∷◌, ◌++◌, length, cond, Bool, Option, Some, None, true, false, refl, sym, ap, ◌∙◌, subst, ⊎_elim, arith}
use Rattle.std.specs.Prelude.{◌≢◌, All, IfSome, nat_eq, slice_get, slice_index_or, option_map, option_and_then, if◌then◌else◌}
use Rattle.std.specs.Option.{option_or}
use Rattle.std.proofs.lemmas.Bool.{cases_eq, eq-eqb, ne_eqb}
use Rattle.std.proofs.lemmas.List.Elements.{All-nil, All-push, All-weaker}
use Rattle.std.proofs.lemmas.Option.{slice_get_past}
use Rattle.siman_pdus.specs.declared.pdu.Pdu.{Pdu}
use Rattle.exercise_model.specs.Entry.{Entry, Sent, Received, Told}
use Rattle.exercise_model.specs.Recording.{PlainRecording}
use Rattle.exercise_model.specs.History.{event_of}
use Rattle.exercise_model.specs.Meaning.{meaning}
use Rattle.exercise_model.specs.Change.{responds, key_of, able}
use Rattle.exercise_model.specs.Account.{sender_of, first_able, change_under, change_behind_pdu, change_behind_entry, change_behind}
use Rattle.exercise_findings.specs.declared.key.Key.{Key}
use Rattle.exercise_findings.specs.Number.{entry_number, entry_of, IsNumberOf}
use Rattle.exercise_findings.specs.Column.{IsShortColumn}
use Rattle.exercise_findings.specs.Firsts.{acknowledged_key, first_under}
use Rattle.exercise_findings.specs.Behind.{able_key, change_key, event_change_key, change_key_at, listed_behind, AreChangeKeys}
use Rattle.exercise_findings.proofs.Keyed.{first_able_by_key, under_earlier}
use Rattle.exercise_findings.proofs.Columns.{number_back, written_here, written_apart}

-- ---- one more is kept

either : (o : Option Key) (b : Bool) → option_or o (cond b o None) ≡ o
either (Some k) b = refl
either None true = refl
either None false = refl

kept_snoc : (r : PlainRecording) (xs : List ℕ) (x i : ℕ) → listed_behind r (xs ++ x ∷ []) i ≡ (if nat_eq x i then change_key_at r i else listed_behind r xs i)
kept_snoc r [] x i = refl
kept_snoc r (y ∷ ys) x i =
    let o : Option Key = if nat_eq y i then change_key_at r i else None in
    ap (λ k. option_or k o) (kept_snoc r ys x i)
    ∙ elim (nat_eq x i) as (λ b. option_or (cond b (change_key_at r i) (listed_behind r ys i)) o ≡ cond b (change_key_at r i) (option_or (listed_behind r ys i) o)) [
      | true ↦ either (change_key_at r i) (nat_eq y i)
      | false ↦ refl
    ]

-- the one more, and any other
snoc_here : (r : PlainRecording) (xs : List ℕ) (x : ℕ) → listed_behind r (xs ++ x ∷ []) x ≡ change_key_at r x
snoc_here r xs x = kept_snoc r xs x x ∙ ap (λ b. cond b (change_key_at r x) (listed_behind r xs x)) (eq-eqb x x refl)

snoc_apart : (r : PlainRecording) (xs : List ℕ) (x i : ℕ) → i ≢ x → listed_behind r (xs ++ x ∷ []) i ≡ listed_behind r xs i
snoc_apart r xs x i apart =
    kept_snoc r xs x i ∙ ap (λ b. cond b (change_key_at r i) (listed_behind r xs i)) (ne_eqb x i (λ same. apart (sym same)))

-- of an entry with no change behind it there is nothing to keep
kept_nothing : (r : PlainRecording) (xs : List ℕ) (i : ℕ) → change_key_at r i ≡ None → listed_behind r xs i ≡ None
kept_nothing r [] i none = refl
kept_nothing r (y ∷ ys) i none =
    ap (λ k. option_or k (if nat_eq y i then change_key_at r i else None)) (kept_nothing r ys i none)
    ∙ ap (λ o. cond (nat_eq y i) o None) none
    ∙ elim (nat_eq y i) as (λ b. cond {A = Option Key} b None None ≡ None) [ true ↦ refl | false ↦ refl ]

-- what is kept is of an entry below the next one too
later : (r : PlainRecording) (n : ℕ) (xs : List ℕ) → AreChangeKeys r n xs → All (λ x. x < n + 1) xs
later r n xs tied = All-weaker (λ x. x < n) (λ x. x < n + 1) (λ x l. omega (arith, l)) xs tied.within

pub behind_none : (r : PlainRecording) → AreChangeKeys r 0 []
behind_none r = record {
  within = All-nil (λ x. x < 0);
  kept = λ i l. absurd (omega (arith, l));
}

-- the next entry has a change behind it
pub behind_more : (r : PlainRecording) (n : ℕ) (xs : List ℕ) → AreChangeKeys r n xs → AreChangeKeys r (n + 1) (xs ++ n ∷ [])
behind_more r n xs tied = record {
  within = All-push (λ x. x < n + 1) xs n (later r n xs tied) (omega arith);
  kept = λ i l. ⊎_elim
      (λ (same : i ≡ n). subst (λ j. listed_behind r (xs ++ n ∷ []) j ≡ change_key_at r j) (sym same) (snoc_here r xs n))
      (λ apart. snoc_apart r xs n i apart ∙ tied.kept i (omega (arith, l, apart)))
      (cases_eq i n);
}

-- the next entry has none
pub behind_still : (r : PlainRecording) (n : ℕ) (xs : List ℕ) → None ≡ change_key_at r n → AreChangeKeys r n xs → AreChangeKeys r (n + 1) xs
behind_still r n xs here tied = record {
  within = later r n xs tied;
  kept = λ i l. ⊎_elim
      (λ (same : i ≡ n). let none : change_key_at r i ≡ None = ap (change_key_at r) same ∙ sym here in kept_nothing r xs i none ∙ sym none)
      (λ apart. tied.kept i (omega (arith, l, apart)))
      (cases_eq i n);
}

-- THE CHANGE BEHIND AN ENTRY, BY ITS KEY
pdu_by_key : (r : PlainRecording) (p : Pdu)
    → option_and_then (λ k. first_under r k (length r.entries)) (change_key (sender_of r p) p) ≡ change_behind_pdu r p
pdu_by_key r p =
    let look : Key → Option ℕ = λ k. first_under r k (length r.entries) in
    elim (responds able p) as (λ b. option_and_then look (cond b (option_and_then (able_key (sender_of r p)) (key_of p)) None)
    ≡ cond b (option_and_then (change_under r p) (key_of p)) None) [
      | false ↦ refl
      | true ↦ elim (key_of p) as (λ o. option_and_then look (option_and_then (able_key (sender_of r p)) o) ≡ option_and_then (change_under r p) o) [
        | None ↦ refl
        | Some k ↦ elim (sender_of r p) as (λ o. option_and_then look (option_map (λ t. acknowledged_key t able k) o) ≡ option_and_then (first_able r k) o) [
          | None ↦ refl
          | Some t ↦ sym (first_able_by_key r t k)
        ]
      ]
    ]

entry_by_key : (r : PlainRecording) (e : Entry)
    → option_and_then (λ k. first_under r k (length r.entries)) (event_change_key r (event_of e)) ≡ change_behind_entry r e
entry_by_key r (Sent s stamp b) = refl
entry_by_key r (Received s stamp b) =
    elim (meaning r.setting.exercise b) as (λ o. option_and_then (λ k. first_under r k (length r.entries))
    (option_and_then (λ p. change_key (sender_of r p) p) o) ≡ option_and_then (change_behind_pdu r) o) [
      | None ↦ refl
      | Some p ↦ pdu_by_key r p
    ]
entry_by_key r (Told s e y) = refl

change_by_key : (r : PlainRecording) (i : ℕ) → option_and_then (λ k. first_under r k (length r.entries)) (change_key_at r i) ≡ change_behind r i
unfolding change_key_at change_behind
change_by_key r i =
    elim (slice_get r.entries i) as (λ o. option_and_then (λ k. first_under r k (length r.entries)) (option_and_then (λ e. event_change_key r (event_of e)) o)
    ≡ option_and_then (change_behind_entry r) o) [
      | None ↦ refl
      | Some e ↦ entry_by_key r e
    ]

-- what the first so many that are kept say of an entry, looked up
abbrev pub change_among : PlainRecording → List ℕ → ℕ → Option ℕ
change_among r xs i = option_and_then (λ k. first_under r k (length r.entries)) (listed_behind r xs i)

-- before the first
pub among_none : (r : PlainRecording) (m : ℕ) → IsShortColumn 4294967295 (IsNumberOf (change_among r [])) m []
among_none r m = record { each = λ j l. refl; rest = λ j l. refl }

-- one more is looked up
pub among_more : (r : PlainRecording) (m : ℕ) (xs : List ℕ) (x : ℕ) (k : Key) (number : ℕ) (old new : List ℕ)
    → x < m → length r.entries ≤ 1048576 → Some k ≡ change_key_at r x → number ≡ entry_number (first_under r k (length r.entries))
    → ((j : ℕ) → slice_index_or new j 4294967295 ≡ (if nat_eq j x then number else slice_index_or old j 4294967295))
    → IsShortColumn 4294967295 (IsNumberOf (change_among r xs)) m old → IsShortColumn 4294967295 (IsNumberOf (change_among r (xs ++ x ∷ []))) m new
among_more r m xs x k number old new within few at is written column =
    let look : Option Key → Option ℕ = option_and_then (λ k. first_under r k (length r.entries)) in
    record {
      each = λ j l. ⊎_elim
          (λ (same : j ≡ x). subst (λ i. IsNumberOf (change_among r (xs ++ x ∷ [])) i (slice_index_or new i 4294967295)) (sym same)
          (ap entry_of (written_here 4294967295 x number old new written ∙ is)
          ∙ number_back (first_under r k (length r.entries)) (bounded (first_under r k (length r.entries)) (under_earlier r k (length r.entries)))
          ∙ ap look at ∙ sym (ap look (snoc_here r xs x))))
          (λ apart. ap entry_of (written_apart 4294967295 x number old new written j apart) ∙ column.each j l ∙ sym (ap look (snoc_apart r xs x j apart)))
          (cases_eq j x);
      rest = λ j l. written_apart 4294967295 x number old new written j (λ same. absurd (omega (arith, l, within, same))) ∙ column.rest j l;
    }
  where
    bounded : (o : Option ℕ) → IfSome o (λ e. e < length r.entries) → IfSome o (λ e. e < 4294967295)
    bounded None l = tt
    bounded (Some e) l = omega (arith, l, few)

-- one more has no change behind it
pub among_still : (r : PlainRecording) (m : ℕ) (xs : List ℕ) (x : ℕ) (numbers : List ℕ) → None ≡ change_key_at r x
    → IsShortColumn 4294967295 (IsNumberOf (change_among r xs)) m numbers → IsShortColumn 4294967295 (IsNumberOf (change_among r (xs ++ x ∷ []))) m numbers
among_still r m xs x numbers none column = record {
  rest = column.rest;
  each = λ j l. column.each j l ∙ ap (option_and_then (λ k. first_under r k (length r.entries))) (⊎_elim
      (λ (same : j ≡ x). let at : change_key_at r j ≡ None = ap (change_key_at r) same ∙ sym none in
      kept_nothing r xs j at ∙ sym (kept_nothing r (xs ++ x ∷ []) j at))
      (λ apart. sym (snoc_apart r xs x j apart))
      (cases_eq j x));
}

-- all are looked up
pub among_all : (r : PlainRecording) (xs : List ℕ) (numbers : List ℕ) → AreChangeKeys r (length r.entries) xs
    → IsShortColumn 4294967295 (IsNumberOf (change_among r xs)) (length r.entries) numbers → IsShortColumn 4294967295 (IsNumberOf (change_behind r)) (length r.entries) numbers
among_all r xs numbers tied column = record {
  rest = column.rest;
  each = λ j l. column.each j l ∙ ap (option_and_then (λ k. first_under r k (length r.entries))) (tied.kept j l) ∙ change_by_key r j;
}

-- there is none past the last entry
pub behind_past : (r : PlainRecording) (k : ℕ) → length r.entries ≤ k → change_behind r k ≡ None
unfolding change_behind
behind_past r k past = ap (option_and_then (change_behind_entry r)) (slice_get_past r.entries k past)
