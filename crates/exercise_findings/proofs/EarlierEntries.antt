-- What each entry goes back to, in one column: while the log is passed, and when all sources are found.
use Rattle.std.proofs.Common.{◌≡◌, ℕ, ◌+◌, ◌-◌, ◌<◌, ◌≤◌, List, length, Option, Some, None, true, refl, sym, ap, ◌∙◌, subst, arith}
use Rattle.std.specs.Prelude.{◌≢◌, IfSome, is_some, slice_get, nat_lt, unwrap_or, option_map, if◌then◌else◌}
use Rattle.std.proofs.lemmas.Bool.{lt-ltb, le-ltb, true≢false}
use Rattle.dis_records.specs.declared.entity_state.EntityState.{EntityState}
use Rattle.exercise_model.specs.Entry.{Sent, Received, Told}
use Rattle.exercise_model.specs.Recording.{PlainRecording}
use Rattle.exercise_model.specs.Account.{pair_of}
use Rattle.exercise_findings.specs.Column.{IsShortColumn}
use Rattle.exercise_findings.specs.Number.{entry_number}
use Rattle.exercise_findings.specs.Source.{source_of, first_source}
use Rattle.exercise_findings.specs.Earlier.{request_in, source_in, IsBackReference, IsBackReferenceSoFar}
use Rattle.exercise_findings.proofs.Sources.{source_here, source_whole, source_within, source_stays, source_below}
use Rattle.exercise_findings.proofs.Looks.{below, pair_here, pair_earlier}

-- ---- numbers

-- a request below 2^31 stands for itself, and for no source
pub request_back : (o : Option ℕ) → IfSome o (λ e. e < 2147483648) → request_in (entry_number o) ≡ o
request_back None few = refl
request_back (Some e) few = ap (λ b. if b then Some e else None) (lt-ltb e 2147483648 few)

request_no_source : (o : Option ℕ) → IfSome o (λ e. e < 2147483648) → source_in (entry_number o) ≡ None
request_no_source None few = refl
request_no_source (Some e) few = ap (λ b. if b then None else (if nat_lt e 0xFFFFFFFE then Some (e - 0x80000000) else None)) (lt-ltb e 2147483648 few)

-- a source stands for itself, and for no request
abbrev pub numbered : Option ℕ → ℕ → ℕ
numbered o none = unwrap_or (option_map (λ s. s + 2147483648) o) none

source_back : (e : ℕ) → e < 1048576 → source_in (e + 2147483648) ≡ Some e
source_back e few =
    let same : e + 2147483648 - 2147483648 ≡ e = omega arith in
    ap (λ b. if b then None else (if nat_lt (e + 2147483648) 0xFFFFFFFE then Some (e + 2147483648 - 0x80000000) else None)) (le-ltb (e + 2147483648) 2147483648 (omega arith))
    ∙ ap (λ b. if b then Some (e + 2147483648 - 0x80000000) else None) (lt-ltb (e + 2147483648) 4294967294 (omega (arith, few)))
    ∙ ap Some same

source_no_request : (e : ℕ) → request_in (e + 2147483648) ≡ None
source_no_request e = ap (λ b. if b then Some (e + 2147483648) else None) (le-ltb (e + 2147483648) 2147483648 (omega arith))

-- ---- while the log is passed

pub received_so_far : (r : PlainRecording) (i s stamp n : ℕ) (b : List ℕ) (o : Option ℕ) → slice_get r.entries i ≡ Some (Received s stamp b)
    → n ≤ length r.entries → length r.entries ≤ 1048576 → IfSome o (λ e. first_source r b n ≡ Some e) → IsBackReferenceSoFar r i (numbered o 4294967294)
received_so_far r i s stamp n b None at le few found = record {
  pair = sym (pair_here r i (Received s stamp b) at);
  source = λ apart. absurd (apart refl);
}
received_so_far r i s stamp n b (Some e) at le few found = record {
  pair = source_no_request e ∙ sym (pair_here r i (Received s stamp b) at);
  source = λ _. source_back e (omega (arith, le, few, subst (λ o. IfSome o (λ x. x < n)) found (source_below r b n)))
      ∙ sym (source_here r i (Received s stamp b) at ∙ sym (source_whole r b) ∙ source_stays r b n (length r.entries) e le found);
}

pub found_below : (r : PlainRecording) (b : List ℕ) (n : ℕ) (o : Option ℕ) → n ≤ 1048576 → IfSome o (λ e. first_source r b n ≡ Some e) → IfSome o (λ e. e < 1048576)
found_below r b n None le found = tt
found_below r b n (Some e) le found = omega (arith, le, subst (λ o. IfSome o (λ x. x < n)) found (source_below r b n))

pub source_of_few : (r : PlainRecording) (i : ℕ) → length r.entries ≤ 1048576 → IfSome (source_of r i) (λ e. e < 1048576)
source_of_few r i few = at_most (source_of r i) (source_within r i)
  where
    at_most : (o : Option ℕ) → IfSome o (λ e. e < length r.entries) → IfSome o (λ e. e < 1048576)
    at_most None l = tt
    at_most (Some e) l = omega (arith, l, few)

-- what is known for good is known so far
pub known_so_far : (r : PlainRecording) (i number : ℕ) → IsBackReference r i number → IsBackReferenceSoFar r i number
known_so_far r i number known = record { pair = known.pair; source = λ _. known.source }

pub sent_earlier : (r : PlainRecording) (i s stamp : ℕ) (b : List ℕ) → slice_get r.entries i ≡ Some (Sent s stamp b) → i < 2147483648
    → IsBackReference r i (entry_number (pair_of r i))
sent_earlier r i s stamp b at few = record {
  pair = request_back (pair_of r i) (below (pair_of r i) i 2147483648 few (pair_earlier r i));
  source = request_no_source (pair_of r i) (below (pair_of r i) i 2147483648 few (pair_earlier r i)) ∙ sym (source_here r i (Sent s stamp b) at);
}

pub told_earlier : (r : PlainRecording) (i s x : ℕ) (y : EntityState) → slice_get r.entries i ≡ Some (Told s x y) → IsBackReference r i 4294967295
told_earlier r i s x y at = record { pair = sym (pair_here r i (Told s x y) at); source = sym (source_here r i (Told s x y) at) }

-- a source that was found is not one that is yet to be found
pub numbered_apart : (o : Option ℕ) → is_some o ≡ true → IfSome o (λ e. e < 1048576) → numbered o 4294967294 ≢ 4294967294
numbered_apart None some few = absurd (true≢false (sym some))
numbered_apart (Some e) some few = λ same. absurd (omega (arith, few, same))

-- ---- all sources

-- a source that is looked up
pub looked_up : (r : PlainRecording) (i : ℕ) (o : Option ℕ) → o ≡ source_of r i → IfSome o (λ e. e < 1048576) → None ≡ pair_of r i
    → IsBackReference r i (numbered o 4294967295)
looked_up r i None is few none = record { pair = none; source = is }
looked_up r i (Some e) is few none = record { pair = source_no_request e ∙ none; source = source_back e few ∙ is }

-- one that was found
pub found_so_far : (r : PlainRecording) (i number : ℕ) → number ≢ 4294967294 → IsBackReferenceSoFar r i number → IsBackReference r i number
found_so_far r i number apart kept = record { pair = kept.pair; source = kept.source apart }

pub all_so_far : (r : PlainRecording) (xs : List ℕ) → IsShortColumn 4294967295 (IsBackReference r) (length r.entries) xs → IsShortColumn 4294967295 (IsBackReferenceSoFar r) (length r.entries) xs
all_so_far r xs column = record {
  each = λ j l. record { pair = (column.each j l).pair; source = λ _. (column.each j l).source };
  rest = column.rest;
}

-- ---- the requests alone, and the sources

pub requests_so_far : (r : PlainRecording) (n : ℕ) (xs : List ℕ) → IsShortColumn 4294967295 (IsBackReferenceSoFar r) n xs → IsShortColumn 4294967295 (λ j x. request_in x ≡ pair_of r j) n xs
requests_so_far r n xs column = record { each = λ j l. (column.each j l).pair; rest = column.rest }
