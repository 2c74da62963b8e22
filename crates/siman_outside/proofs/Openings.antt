-- What is done outside, some calls behind others.
use Rattle.std.proofs.Common.{◌≡◌, ℕ, Bool, List, [], ◌∷◌, ◌++◌, Option, Some, None, refl, sym, ap, ◌∙◌, inl, inr, append-nil, append_assoc, Result, Ok, Err, subst}
use Rattle.std.specs.List.{All}
use Rattle.std.specs.Io.KnownBytes.{Keeps}
use Rattle.std.proofs.lemmas.List.Elements.{All-append, All-cons, All-nil}
use Rattle.siman_outside.specs.declared.fault.Fault.{Fault}
use Rattle.siman_outside.specs.Outside.{Deed, Adds, Did, DidMake, Found, Stream, WasHeld}
use Rattle.siman_outside.specs.Making.{Answered, IsSaved}
use Rattle.siman_outside.specs.Opening.{IfFree, OpensSparing, MakesOf, seen_as}

-- nothing was done
pub adds_none : (a : Option (List Deed)) → Adds a a []
adds_none None = tt
adds_none (Some before) = sym (append-nil before)

-- some calls, and then others
pub adds_then : (a b c : Option (List Deed)) (xs ys : List Deed) → Adds a b xs → Adds b c ys → Adds a c (xs ++ ys)
adds_then None b c xs ys first second = tt
adds_then (Some before) None c xs ys first second = absurd first
adds_then (Some before) (Some mid) None xs ys first second = absurd second
adds_then (Some before) (Some mid) (Some after) xs ys first second = second ∙ ap (λ deeds. deeds ++ ys) first ∙ append_assoc before xs ys

pub all_one : {X : Type 0} (P : X → Type 0) (x : X) → P x → All P (x ∷ [])
all_one P x first = All-cons P x [] first (All-nil P)

pub all_two : {X : Type 0} (P : X → Type 0) (x y : X) → P x → P y → All P (x ∷ y ∷ [])
all_two P x y first second = All-cons P x (y ∷ []) first (all_one P y second)

-- To save a file, or to discard it, asks for nothing that is held.
pub nothing_held : (holds : List ℕ → Option Found) (left : Option (List ℕ)) (put : Answered) (deed : Deed) (answered : Answered) → IsSaved left put deed answered
    → WasHeld holds deed
nothing_held holds left (Ok status) deed answered (saved, is, answers) = subst (WasHeld holds) (sym is) tt
nothing_held holds left (Err fault) deed answered (is, same) = subst (WasHeld holds) (sym is) tt

-- ---- what was done

pub did_nothing : {O : Type 0} (d : O → Option (List Deed)) (h : O → List ℕ → Option Found) (o : O) (Says : List Deed → Type 0) → Says [] → Did d h o o Says
did_nothing d h o Says said = ([], adds_none (d o), All-nil (WasHeld (h o)), said)

pub did_so : {O : Type 0} (d : O → Option (List Deed)) (h : O → List ℕ → Option Found) (old new : O) (Says Also : List Deed → Type 0)
    → ((deeds : List Deed) → Says deeds → Also deeds) → Did d h old new Says → Did d h old new Also
did_so d h old new Says Also follows did = (did.0, did.1, did.2, follows did.0 did.3)

-- some calls, and behind them others that open no file
pub did_then : {O : Type 0} (d : O → Option (List Deed)) (h : O → List ℕ → Option Found) (old mid new : O) (First Last Says : List Deed → Type 0)
    → ((xs ys : List Deed) → First xs → Last ys → Says (xs ++ ys)) → Did d h old mid First → DidMake d mid new Last → Did d h old new Says
did_then d h old mid new First Last Says follows first last = (
  first.0 ++ last.0,
  adds_then _ _ _ first.0 last.0 first.1 last.1,
  All-append (WasHeld (h old)) first.0 last.0 first.2 (last.2 (h old)),
  follows first.0 last.0 first.3 last.3,
)

pub made_then : {O : Type 0} (d : O → Option (List Deed)) (old mid new : O) (First Last Says : List Deed → Type 0)
    → ((xs ys : List Deed) → First xs → Last ys → Says (xs ++ ys)) → DidMake d old mid First → DidMake d mid new Last → DidMake d old new Says
made_then d old mid new First Last Says follows first last = (
  first.0 ++ last.0,
  adds_then _ _ _ first.0 last.0 first.1 last.1,
  (λ holds. All-append (WasHeld holds) first.0 last.0 (first.2 holds) (last.2 holds)),
  follows first.0 last.0 first.3 last.3,
)

-- calls that are known
pub made_known : {O : Type 0} (d : O → Option (List Deed)) (old new : O) (deeds : List Deed) → Adds (d old) (d new) deeds
    → ((holds : List ℕ → Option Found) → All (WasHeld holds) deeds) → DidMake d old new (λ ds. ds ≡ deeds)
made_known d old new deeds added held = (deeds, added, held, refl)

-- ---- one file made of others

-- what is kept of what was opened, as contracts see it
seen_free : {F X : Type 0} (see : F → X) (force : Bool) (made : List ℕ) (opened : Result F Fault) (deeds : List Deed) (result : Result F Fault)
    → IfFree force made opened deeds result → IfFree force made (seen_as see opened) deeds (seen_as see result)
seen_free see force made (Ok b) deeds (Ok kept) free = (ap see free.0, free.1)
seen_free see force made (Ok b) deeds (Err fault) free = free
seen_free see force made (Err why) deeds (Ok kept) free = absurd cc
seen_free see force made (Err why) deeds (Err fault) free = let same : fault ≡ why = cc in (free.0, ap (λ f. Err f) same)

-- inputs that were opened, and then an existing file spared
pub opened_sparing : {O F X : Type 0} (d : O → Option (List Deed)) (h : O → List ℕ → Option Found) (old mid new : O) (see : F → X)
    (Opens : List Deed → Result X Fault → Type 0) (force : Bool) (made : List ℕ) (opened result : Result F Fault)
    → Did d h old mid (λ deeds. Opens deeds (seen_as see opened)) → DidMake d mid new (λ deeds. IfFree force made opened deeds result)
    → Did d h old new (λ deeds. OpensSparing Opens force made deeds (seen_as see result))
opened_sparing d h old mid new see Opens force made opened result =
    did_then d h old mid new _ _ _ (λ xs ys first last. (xs, ys, seen_as see opened, first, seen_free see force made opened ys result last, refl))

-- Nothing was opened.
pub makes_unopened : {O B A : Type 0} (d : O → Option (List Deed)) (h : O → List ℕ → Option Found) (old new : O) (Opens : List Deed → Result B Fault → Type 0)
    (reading : B → List Deed) (Gives : B → Result A Fault → Type 0) (Makes : A → List Deed → Answered → Stream → Type 0) (fault : Fault) (answered : Answered) (out : Stream)
    → answered ≡ Err fault → Keeps out.old out.new → Did d h old new (λ deeds. Opens deeds (Err fault))
    → Did d h old new (λ deeds. MakesOf Opens reading Gives Makes deeds answered out)
makes_unopened d h old new Opens reading Gives Makes fault answered out is keeps = did_so d h old new _ _ (λ deeds opens. inl (fault, opens, is, keeps))

-- Nothing was made of what was opened.
pub makes_none : {O B A : Type 0} (d : O → Option (List Deed)) (h : O → List ℕ → Option Found) (old mid new : O) (Opens : List Deed → Result B Fault → Type 0)
    (reading : B → List Deed) (Gives : B → Result A Fault → Type 0) (Makes : A → List Deed → Answered → Stream → Type 0) (b : B) (fault : Fault) (answered : Answered) (out : Stream)
    → Gives b (Err fault) → answered ≡ Err fault → Keeps out.old out.new → Did d h old mid (λ deeds. Opens deeds (Ok b)) → DidMake d mid new (λ deeds. deeds ≡ reading b)
    → Did d h old new (λ deeds. MakesOf Opens reading Gives Makes deeds answered out)
makes_none d h old mid new Opens reading Gives Makes b fault answered out gives is keeps =
    did_then d h old mid new _ _ _ (λ xs ys opens read. inr (inl (xs, b, fault, opens, gives, ap (λ ds. xs ++ ds) read, is, keeps)))

-- A file was made of it.
pub makes_file : {O B A : Type 0} (d : O → Option (List Deed)) (h : O → List ℕ → Option Found) (old mid read new : O) (Opens : List Deed → Result B Fault → Type 0)
    (reading : B → List Deed) (Gives : B → Result A Fault → Type 0) (Makes : A → List Deed → Answered → Stream → Type 0) (b : B) (a : A) (answered : Answered) (out : Stream)
    → Gives b (Ok a) → Did d h old mid (λ deeds. Opens deeds (Ok b)) → DidMake d mid read (λ deeds. deeds ≡ reading b) → DidMake d read new (λ deeds. Makes a deeds answered out)
    → Did d h old new (λ deeds. MakesOf Opens reading Gives Makes deeds answered out)
makes_file d h old mid read new Opens reading Gives Makes b a answered out gives opens reads makes =
    did_then d h old mid new _ _ _
    (λ xs ys opened rest. inr (inr (xs, rest.0, b, a, opened, gives, ap (λ ds. xs ++ ds) rest.1, rest.2))) opens
    (made_then d mid read new _ _ (λ ys. (rest : List Deed) × (ys ≡ reading b ++ rest) × Makes a rest answered out) (λ xs ys first last. (ys, ap (λ ds. ds ++ ys) first, last)) reads makes)
