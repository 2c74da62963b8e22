-- Moves that stations make at their lines.
use Rattle.std.proofs.Common.{◌≡◌, ℕ, ◌+◌, ◌<◌, ◌≤◌, zero, suc, List, [], ◌∷◌, ◌++◌, length, set, get_or, refl, ap, sym, ◌∙◌, subst, inl, inr, arith}
use Rattle.std.specs.Prelude.{Some, None, Result, Ok, Err, slice_get}
use Rattle.std.specs.Result.{IsErrAnd}
use Rattle.std.proofs.lemmas.List.{length_push}
use Rattle.std.proofs.lemmas.Option.{slice_get-get_or}
use Rattle.exercise_recording.specs.Writer.{WriterState}
use Rattle.siman_scripts.specs.declared.act.Move.{Move}
use Rattle.siman_lines.specs.declared.fault.AtLineFault.{AtLineFault}
use Rattle.siman_lines.specs.declared.station_at_line.StationAtLine.{StationAtLine}
use Rattle.siman_lines.specs.AtLines.{Telling, AtLines, One}
use Rattle.siman_lines.specs.Steps.{Each}
use Rattle.siman_lines.proofs.Offered.{each_as, each_more}
use Rattle.siman_trials.specs.declared.performed.LinkMoveFault.{LinkMoveFault}
use Rattle.siman_trials.specs.declared.performed.LinkMoveFault.TheVariants.{AtLine}
use Rattle.siman_trials.specs.Moves.{ActsAt, ServesFour, IsMade, IsHalted, MakesAt, MovesEnd}

-- what holds of a fault holds of what it was passed on as
pub at_fault : {X E : Type 0} (P : Result X E → Type 0) (fault : E) (result : Result X E) → IsErrAnd result (λ e. e ≡ fault) → P (Err fault) → P result
at_fault P fault (Ok x) passed holds = absurd passed
at_fault P fault (Err e) passed holds = subst (λ e. P (Err e)) (sym passed) holds

-- nothing stands past the end
pub none_past : {X : Type 0} (xs : List X) (i : ℕ) → length xs ≤ i → slice_get xs i ≡ None
none_past [] i past = refl
none_past (x ∷ xs) zero past = absurd (omega arith)
none_past (x ∷ xs) (suc i) past = none_past xs i (omega arith)

-- one station did this
one_at : {L : Type 0} (Does : StationAtLine L → WriterState → StationAtLine L → WriterState → Type 0) (k s : ℕ) (ps : List (StationAtLine L)) (w v : WriterState)
    (p q : StationAtLine L)
    → k ≡ s → slice_get ps k ≡ Some p → Does p w q v
    → One Does s (record { stations = ps; recorder = w }) (record { stations = set ps k q; recorder = v })
one_at Does k s ps w v p q same there does = record {
  before = p;
  after = q;
  there = ap (slice_get ps) (sym same) ∙ there;
  others = ap (λ (i : ℕ). set ps i q) same;
  does = does;
}

-- its station was hindered
pub hindered : {L : Type 0} (told : Telling L) (step : Move) (k : ℕ) (fault : AtLineFault) (ps : List (StationAtLine L)) (w v : WriterState)
    (p q : StationAtLine L)
    → k ≡ step.station → slice_get ps k ≡ Some p → ActsAt told step.now step.act (Err fault) p w q v
    → IsHalted told step (AtLine fault) (record { stations = ps; recorder = w }) (record { stations = set ps k q; recorder = v })
hindered told step k fault ps w v p q same there acts = inl (one_at (ActsAt told step.now step.act (Err fault)) k step.station ps w v p q same there acts)

-- its station did its act, and then all were served,
pub served : {L : Type 0} (told : Telling L) (step : Move) (k : ℕ) (ps : List (StationAtLine L)) (w v : WriterState) (p q : StationAtLine L) (new : AtLines L)
    → k ≡ step.station → slice_get ps k ≡ Some p → ActsAt told step.now step.act (Ok tt) p w q v
    → ServesFour told step.now (record { stations = set ps k q; recorder = v }) new (Ok tt) → IsMade told step (record { stations = ps; recorder = w }) new
served told step k ps w v p q new same there acts serves = record {
  mid = record { stations = set ps k q; recorder = v };
  acts = one_at (ActsAt told step.now step.act (Ok tt)) k step.station ps w v p q same there acts;
  serves = serves;
}

-- or one was not
pub unserved : {L : Type 0} (told : Telling L) (step : Move) (k : ℕ) (fault : AtLineFault) (ps : List (StationAtLine L)) (w v : WriterState)
    (p q : StationAtLine L) (new : AtLines L)
    → k ≡ step.station → slice_get ps k ≡ Some p → ActsAt told step.now step.act (Ok tt) p w q v
    → ServesFour told step.now (record { stations = set ps k q; recorder = v }) new (Err fault)
    → IsHalted told step (AtLine fault) (record { stations = ps; recorder = w }) new
unserved told step k fault ps w v p q new same there acts serves = inr (record {
  mid = record { stations = set ps k q; recorder = v };
  acts = one_at (ActsAt told step.now step.act (Ok tt)) k step.station ps w v p q same there acts;
  serves = serves;
})

-- Of all moves.

-- one more move was made
pub move_made : {L : Type 0} (told : Telling L) (moves ps : List Move) (p : Move) (old mid new : AtLines L)
    → (length ps < length moves) × (p ≡ get_or moves (length ps) p) → Each (MakesAt told moves) (length ps) old mid → IsMade told p mid new
    → Each (MakesAt told moves) (length (ps ++ p ∷ [])) old new
move_made told moves ps p old mid new next made is =
    each_as (MakesAt told moves) (length ps + 1) (length (ps ++ p ∷ [])) old new (sym (length_push ps p))
    (each_more (MakesAt told moves) (length ps) old mid new made
    (record { step = p; there = slice_get-get_or moves (length ps) p next.0 ∙ ap Some (sym next.1); made = is }))

-- a move was not made
pub move_halted : {L : Type 0} (told : Telling L) (moves ps : List Move) (p : Move) (old mid new : AtLines L) (halt : LinkMoveFault)
    → (length ps < length moves) × (p ≡ get_or moves (length ps) p) → Each (MakesAt told moves) (length ps) old mid → IsHalted told p halt mid new
    → MovesEnd told moves old new (Err halt)
move_halted told moves ps p old mid new halt next made is = record {
  number = length ps;
  within = next.0;
  mid = mid;
  made = made;
  fails = record { step = p; there = slice_get-get_or moves (length ps) p next.0 ∙ ap Some (sym next.1); halted = is };
}
