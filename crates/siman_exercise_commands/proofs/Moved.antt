-- Moves that stations make at their lines.
use Rattle.std.proofs.Common.{◌≡◌, ℕ, ◌+◌, ◌<◌, List, [], ◌∷◌, ◌++◌, length, map, set, get_or, refl, ap, sym, ◌∙◌, subst, inl, inr, arith}
use Rattle.std.specs.Prelude.{Some, None, Result, Ok, Err, slice_get}
use Rattle.std.specs.List.{enumerate_from}
use Rattle.std.proofs.lemmas.List.FromFn.{get_or-enumerate_from, length-enumerate_from}
use Rattle.std.proofs.lemmas.List.{map-id, length_push}
use Rattle.std.proofs.lemmas.Option.{slice_get-get_or}
use Rattle.exercise_recording.specs.Writer.{WriterState}
use Rattle.siman_scripts.specs.declared.act.Act.{Act}
use Rattle.siman_scripts.specs.declared.act.Act.TheVariants.{Command, Deliver, Tick, Tell}
use Rattle.siman_scripts.specs.declared.act.Move.{Move}
use Rattle.siman_lines.specs.declared.fault.AtLineFault.{AtLineFault}
use Rattle.siman_lines.specs.declared.station_at_line.StationAtLine.{StationAtLine}
use Rattle.siman_lines.specs.AtLines.{Telling, AtLines, One}
use Rattle.siman_lines.specs.Steps.{Each}
use Rattle.siman_lines.proofs.Offered.{each_as, each_more}
use Rattle.siman_outside.specs.declared.fault.Fault.{Fault}
use Rattle.siman_exercise_commands.specs.declared.live.moves.LiveMoveFault.{LiveMoveFault}
use Rattle.siman_exercise_commands.specs.Live.Moves.{of_line, of_done, at_move, ActsAt, ActEnds, ServesFour, JudgedEnds, MoveEnds, Gives, reason_against, MakesAt, MovesEnd}

err_inside : {X E : Type 0} (r : Result X E) (a b : E) → r ≡ Err a → r ≡ Err b → a ≡ b
err_inside r a b e f = cc

-- one station did this
one_at : {L : Type 0} (Does : StationAtLine L → WriterState → StationAtLine L → WriterState → Type 0) (k s : ℕ) (ps : List (StationAtLine L)) (w v : WriterState)
    (p q : StationAtLine L)
    → k ≡ s → slice_get ps s ≡ Some p → Does p w q v
    → One Does s (record { stations = ps; recorder = w }) (record { stations = set ps k q; recorder = v })
one_at Does k s ps w v p q same there does = record { before = p; after = q; there = there; others = ap (λ (i : ℕ). set ps i q) same; does = does }

-- Of one move.

-- its station was hindered
pub hindered : {L : Type 0} (told : Telling L) (step : Move) (k : ℕ) (halt : LiveMoveFault) (ps : List (StationAtLine L)) (w v : WriterState) (p q : StationAtLine L)
    → k ≡ step.station → slice_get ps step.station ≡ Some p → ActEnds told step.now step.act (Err halt) p w q v
    → JudgedEnds told step (record { stations = ps; recorder = w }) (record { stations = set ps k q; recorder = v }) (Err halt)
hindered told step k halt ps w v p q same there (Ok x, named, acts) = absurd cc
hindered told step k halt ps w v p q same there (Err fault, named, acts) =
    inr (inl (record {
      fault = fault;
      named = err_inside {X = Unit {0}} (Err halt) halt (of_line fault) refl named;
      acts = one_at (ActsAt told step.now step.act (Err fault)) k step.station ps w v p q same there acts;
    }))

-- its station did its act, and then all were served, or one was not
served_from : {L : Type 0} (told : Telling L) (step : Move) (k : ℕ) (ps : List (StationAtLine L)) (w v : WriterState) (p q : StationAtLine L) (new : AtLines L)
    (result : Result (Unit {0}) LiveMoveFault) (rounds : Result (Unit {0}) AtLineFault)
    → One (ActsAt told step.now step.act (Ok tt)) step.station (record { stations = ps; recorder = w }) (record { stations = set ps k q; recorder = v })
    → ServesFour told step.now (record { stations = set ps k q; recorder = v }) new rounds → result ≡ of_done rounds
    → JudgedEnds told step (record { stations = ps; recorder = w }) new result
served_from told step k ps w v p q new result (Ok x) acts serves is =
    subst (JudgedEnds told step (record { stations = ps; recorder = w }) new) (sym is)
    (record { mid = record { stations = set ps k q; recorder = v }; acts = acts; serves = serves })
served_from told step k ps w v p q new result (Err fault) acts serves is =
    subst (JudgedEnds told step (record { stations = ps; recorder = w }) new) (sym is)
    (inr (inr (record { fault = fault; named = refl; mid = record { stations = set ps k q; recorder = v }; acts = acts; serves = serves })))

pub served : {L : Type 0} (told : Telling L) (step : Move) (k : ℕ) (ps : List (StationAtLine L)) (w v : WriterState) (p q : StationAtLine L) (new : AtLines L)
    (result : Result (Unit {0}) LiveMoveFault) (rounds : Result (Unit {0}) AtLineFault)
    → k ≡ step.station → slice_get ps step.station ≡ Some p → ActEnds told step.now step.act (Ok tt) p w q v
    → ServesFour told step.now (record { stations = set ps k q; recorder = v }) new rounds → result ≡ of_done rounds
    → JudgedEnds told step (record { stations = ps; recorder = w }) new result
served told step k ps w v p q new result rounds same there (Ok x, named, acts) serves is =
    served_from told step k ps w v p q new result rounds
    (one_at (ActsAt told step.now step.act (Ok tt)) k step.station ps w v p q same there acts) serves is
served told step k ps w v p q new result rounds same there (Err fault, named, acts) serves is = absurd cc

-- a move that is no delivery
pub no_delivery : {L : Type 0} (told : Telling L) (now station : ℕ) (act : Act) (old new : AtLines L) (result : Result (Unit {0}) LiveMoveFault)
    → ((k : ℕ) → act ≡ Deliver k → ⊥) → JudgedEnds told (record { now = now; station = station; act = act }) old new result
    → MoveEnds told (record { now = now; station = station; act = act }) old new result
no_delivery told now station (Command order) old new (Ok x) not ends = ends
no_delivery told now station (Deliver k) old new (Ok x) not ends = absurd (not k refl)
no_delivery told now station Tick old new (Ok x) not ends = ends
no_delivery told now station (Tell e) old new (Ok x) not ends = ends
no_delivery told now station act old new (Err halt) not ends = ends

-- Of all moves.

-- the move of a number, as they come one after the other
pub record IsNext (moves : List Move) (ps : List (ℕ × Move)) (p : ℕ × Move) : Type 0 where
  pub number : p.0 ≡ length ps
  pub within : length ps < length moves
  pub there : slice_get moves (length ps) ≡ Some p.1

pub is_next : (moves : List Move) (ps : List (ℕ × Move)) (p : ℕ × Move)
    → (length ps < length (enumerate_from 0 moves)) × (p ≡ get_or (enumerate_from 0 moves) (length ps) p) → IsNext moves ps p
is_next moves ps p (below, is) =
    let within : length ps < length moves = omega (arith, below, length-enumerate_from 0 moves) in
    let same = is ∙ get_or-enumerate_from 0 moves (length ps) p within in
    record {
      number = ap (λ (q : ℕ × Move). q.0) same ∙ omega arith;
      within = within;
      there = slice_get-get_or moves (length ps) p.1 within ∙ ap Some (sym (ap (λ (q : ℕ × Move). q.1) same));
    }

pub all_made : (moves : List Move) (ps : List (ℕ × Move)) → map (λ p. (p.0, p.1)) ps ≡ enumerate_from 0 moves → length ps ≡ length moves
all_made moves ps e = ap length (sym (map-id ps) ∙ e) ∙ length-enumerate_from 0 moves

-- one more move was made
pub move_made : {L : Type 0} (told : Telling L) (moves : List Move) (ps : List (ℕ × Move)) (p : ℕ × Move) (old mid new : AtLines L) → IsNext moves ps p
    → Each (MakesAt told moves) (length ps) old mid → reason_against mid p.1 ≡ None → MoveEnds told p.1 mid new (Ok tt)
    → Each (MakesAt told moves) (length (ps ++ p ∷ [])) old new
move_made told moves ps p old mid new next made reason ends =
    each_as (MakesAt told moves) (length ps + 1) (length (ps ++ p ∷ [])) old new (sym (length_push ps p))
    (each_more (MakesAt told moves) (length ps) old mid new made (record { step = p.1; there = next.there; reason = reason; made = ends }))

-- a move was not made
pub move_halted : {L : Type 0} (told : Telling L) (moves : List Move) (ps : List (ℕ × Move)) (p : ℕ × Move) (old mid new : AtLines L) (halt : LiveMoveFault) (fault : Fault)
    → IsNext moves ps p → Each (MakesAt told moves) (length ps) old mid → Gives (reason_against mid p.1) halt → MoveEnds told p.1 mid new (Err halt)
    → fault ≡ at_move p.0 halt → MovesEnd told moves old new (Err fault)
move_halted told moves ps p old mid new halt fault next made reason ends reported_as = record {
  number = length ps;
  within = next.within;
  mid = mid;
  made = made;
  fails = record {
    step = p.1;
    there = next.there;
    halt = halt;
    reported_as = reported_as ∙ ap (λ (n : ℕ). at_move n halt) next.number;
    reason = reason;
    halted = ends;
  };
}
