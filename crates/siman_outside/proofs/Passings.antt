-- Texts that are passed on while more is still held.
use Rattle.std.proofs.Common.{◌≡◌, ℕ, zero, suc, ◌+◌, ◌<◌, ◌≤◌, List, [], ◌∷◌, ◌++◌, length, take, OnOk, Option, Result, Ok, Err, refl, sym, ap, ◌∙◌, subst, arith, inr, ⊎_elim, append_assoc, append-nil}
use Rattle.std.specs.Result.{IsErrAnd}
use Rattle.std.specs.Io.KnownBytes.{Appends}
use Rattle.std.proofs.KnownBytes.{Appends-nil, Appends-trans}
use Rattle.std.proofs.Math.Seq.{take-append_seam}
use Rattle.std.proofs.lemmas.Bool.{cases_lt}
use Rattle.byte_files.specs.Writing.{WritesPart}
use Rattle.byte_files.proofs.Offered.{writes_part, writes_later}
use Rattle.siman_outside.specs.declared.fault.Fault.{Fault}
use Rattle.siman_outside.specs.declared.fault.Fault.TheVariants.{Memory}
use Rattle.siman_print.specs.Below.{texts_below}
use Rattle.siman_outside.specs.Passing.{IsPassedOn, PassesOn}
use Rattle.siman_print.proofs.Texts.{texts-none, texts_below-more}

-- what was passed on, and then a prefix of what was held and more
part-then : (old mid new : Option (List ℕ)) (held text more : List ℕ) → IsPassedOn old mid held text → WritesPart mid new (held ++ more)
    → WritesPart old new (text ++ more)
part-then old mid new held text more passed part =
    let whole : passed.0 ++ (held ++ more) ≡ text ++ more = sym (append_assoc passed.0 held more) ∙ ap (λ t. t ++ more) passed.2 in
    subst (WritesPart old new) whole (writes_later old mid new passed.0 (held ++ more) passed.1 part)

-- what was passed on, and then all of what was held and more but what is held now
pub passed-then : (old mid new : Option (List ℕ)) (held text more after : List ℕ) → IsPassedOn old mid held text
    → IsPassedOn mid new after (held ++ more) → IsPassedOn old new after (text ++ more)
passed-then old mid new held text more after first second =
    let whole : (first.0 ++ second.0) ++ after ≡ text ++ more =
    append_assoc first.0 second.0 after ∙ ap (λ t. first.0 ++ t) second.2 ∙ sym (append_assoc first.0 held more) ∙ ap (λ t. t ++ more) first.2 in
    (first.0 ++ second.0, Appends-trans old mid new first.0 second.0 first.1 second.1, whole)

pub passes-then : (result : Result (Unit {0}) Fault) (old mid new : Option (List ℕ)) (held text more after : List ℕ) → IsPassedOn old mid held text
    → PassesOn result mid new after (held ++ more) → PassesOn result old new after (text ++ more)
passes-then (Ok x) old mid new held text more after first second = passed-then old mid new held text more after first second
passes-then (Err fault) old mid new held text more after first second = (second.0, part-then old mid new held text more first second.1)

-- a fault that was passed on, in a longer text
pub fails-longer : (fault : Fault) (result : Result (Unit {0}) Fault) (old new : Option (List ℕ)) (held after text rest : List ℕ)
    → IsErrAnd result (λ e. e ≡ fault) → PassesOn (Err fault) old new held text → PassesOn result old new after (text ++ rest)
fails-longer fault (Ok x) old new held after text rest passed failed = absurd passed
fails-longer fault (Err e) old new held after text rest passed failed = rw passed (failed.0, writes_part old new text rest failed.1)

-- the texts for all numbers begin with those for the numbers so far
texts-split : (text : ℕ → List ℕ) (i n : ℕ) → i ≤ n → (rest : List ℕ) × (texts_below text n ≡ texts_below text i ++ rest)
unfolding texts_below
texts-split text i zero within = let none : i ≡ 0 = omega arith in ([], rw none (sym (append-nil (texts_below text 0))))
texts-split text i (suc n) within =
    ⊎_elim
    (λ (below : i < suc n). let before = texts-split text i n (omega arith) in
    (before.0 ++ text n, ap (λ t. t ++ text n) before.1 ∙ append_assoc (texts_below text i) before.0 (text n)))
    (λ (past : suc n ≤ i). let all : i ≡ suc n = omega arith in ([], ap (texts_below text) (sym all) ∙ sym (append-nil (texts_below text i))))
    (cases_lt i (suc n))

-- a loop begins
pub loop-none : (text : ℕ → List ℕ) (old : Option (List ℕ)) (start : List ℕ) → IsPassedOn old old start (start ++ texts_below text 0)
loop-none text old start = ([], Appends-nil old, texts-none text start)

-- one more text was passed on in a loop
pub loop-passes : (text : ℕ → List ℕ) (i : ℕ) (old mid new : Option (List ℕ)) (start held after : List ℕ)
    → IsPassedOn old mid held (start ++ texts_below text i) → IsPassedOn mid new after (held ++ text i)
    → IsPassedOn old new after (start ++ texts_below text (i + 1))
loop-passes text i old mid new start held after so_far step =
    let more : (start ++ texts_below text i) ++ text i ≡ start ++ texts_below text (i + 1) = append_assoc start (texts_below text i) (text i) ∙ ap
    (λ t. start ++ t) (sym (texts_below-more text i)) in
    subst (IsPassedOn old new after) more (passed-then old mid new held (start ++ texts_below text i) (text i) after so_far step)

-- a loop ended with a fault
pub loop-fails : (text : ℕ → List ℕ) (i n : ℕ) (fault : Fault) (result : Result (Unit {0}) Fault) (old mid new : Option (List ℕ)) (start held after last : List ℕ)
    → i < n → IsErrAnd result (λ e. e ≡ fault)
    → IsPassedOn old mid held (start ++ texts_below text i) → PassesOn (Err fault) mid new after (held ++ text i)
    → PassesOn result old new last (start ++ texts_below text n)
loop-fails text i n fault result old mid new start held after last within passed so_far step =
    let more : (start ++ texts_below text i) ++ text i ≡ start ++ texts_below text (i + 1) = append_assoc start (texts_below text i) (text i) ∙ ap
    (λ t. start ++ t) (sym (texts_below-more text i)) in
    let split = texts-split text (i + 1) n (omega arith) in
    let all : (start ++ texts_below text (i + 1)) ++ split.0 ≡ start ++ texts_below text n = append_assoc start (texts_below text (i + 1)) split.0 ∙ ap
    (λ t. start ++ t) (sym split.1) in
    let failed = passes-then (Err fault) old mid new held (start ++ texts_below text i) (text i) after so_far step in
    subst (PassesOn result old new last) all (fails-longer fault result old new after last (start ++ texts_below text (i + 1)) split.0 passed
    (subst (PassesOn (Err fault) old new after) more failed))

-- a fault that was passed on, in the same text
pub fails-same : (fault : Fault) (result : Result (Unit {0}) Fault) (old new : Option (List ℕ)) (held after text : List ℕ)
    → IsErrAnd result (λ e. e ≡ fault) → PassesOn (Err fault) old new held text → PassesOn result old new after text
fails-same fault (Ok x) old new held after text passed failed = absurd passed
fails-same fault (Err e) old new held after text passed failed = rw passed failed

none_left : (xs : List ℕ) → length xs ≤ 0 → xs ≡ []
none_left [] within = refl
none_left (x ∷ xs) within = absurd (omega arith)

emptied : (result : Result (Unit {0}) Fault) (old new : Option (List ℕ)) (last text : List ℕ) → OnOk result (length last ≤ 0)
    → PassesOn result old new last text → PassesOn result old new [] text
emptied (Ok x) old new last text within passed = subst (λ held. IsPassedOn old new held text) (none_left last within) passed
emptied (Err fault) old new last text within passed = passed

-- more is held
pub held-more : (old new : Option (List ℕ)) (held text more after : List ℕ) → IsPassedOn old new held text → after ≡ held ++ more
    → IsPassedOn old new after (text ++ more)
held-more old new held text more after passed e =
    (passed.0, passed.1, ap (λ t. passed.0 ++ t) e ∙ sym (append_assoc passed.0 held more) ∙ ap (λ t. t ++ more) passed.2)

-- of what is held nothing more is passed on, for want of memory
pub passes-short : (result : Result (Unit {0}) Fault) (old new : Option (List ℕ)) (held text rest : List ℕ) → IsErrAnd result (λ e. e ≡ Memory)
    → IsPassedOn old new held text → PassesOn result old new [] (text ++ rest)
passes-short (Ok x) old new held text rest passed so_far = absurd passed
passes-short (Err e) old new held text rest passed so_far =
    let front : so_far.0 ≡ take (length so_far.0) text = sym (take-append_seam so_far.0 held) ∙ ap (take (length so_far.0)) so_far.2 in
    (inr passed, writes_part old new text rest (length so_far.0, subst (Appends old new) front so_far.1))

-- nothing is held: the text is out whole
pub passed-whole : (old new : Option (List ℕ)) (text : List ℕ) → IsPassedOn old new [] text → Appends old new text
passed-whole old new text passed = subst (Appends old new) (sym (append-nil passed.0) ∙ passed.2) passed.1

-- all that was held is passed on
pub passes-last : (result : Result (Unit {0}) Fault) (old mid new : Option (List ℕ)) (held text last : List ℕ) → IsPassedOn old mid held text
    → PassesOn result mid new last held → OnOk result (length last ≤ 0) → PassesOn result old new [] text
passes-last result old mid new held text last first second within =
    let whole = passes-then result old mid new held text [] last first (subst (PassesOn result mid new last) (sym (append-nil held)) second) in
    emptied result old new last text within (subst (PassesOn result old new last) (append-nil text) whole)
