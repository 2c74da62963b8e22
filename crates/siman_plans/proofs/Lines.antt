-- Lines of a plan.
use Rattle.std.proofs.Common.{◌≡◌, ◌<◌, ◌≤◌, ℕ, suc, List, [], ◌∷◌, ◌++◌, length, map, take, drop, get_or, Option, Some, None, Result, Ok, Err, refl, sym, ap, subst, ◌∙◌, append_assoc}
use Rattle.std.proofs.Math.Seq.{drop-cons}
use Rattle.std.proofs.lemmas.List.{map-id, take-append-drop, append-nil}
use Rattle.exercise_model.specs.declared.recording.TheConstants.{MOST_ENTRIES}
use Rattle.siman_scripts.specs.declared.act.Move.{Move}
use Rattle.siman_stations.specs.declared.world.World.{World}
use Rattle.siman_stations.specs.Holds.{IsAfter}
use Rattle.siman_stations.specs.World.{WorldData}
use Rattle.siman_plans.specs.declared.plan_fault.LineFault.{LineFault}
use Rattle.siman_plans.specs.declared.plan_fault.LineFault.TheVariants as line_faults
use Rattle.siman_plans.specs.declared.plan_fault.Stop.{Stop}
use Rattle.siman_plans.specs.declared.planner.Planner.{Planner}
use Rattle.siman_plans.specs.declared.source.SourceLine.{SourceLine}
use Rattle.siman_plans.specs.declared.source.Which.{Which}
use Rattle.siman_plans.specs.Notes.{named, sent_before, after_loss}
use Rattle.siman_plans.specs.Sent.{meant}
use Rattle.siman_plans.specs.Plan.{PlanData, loses, line_after, lines_after, unless_stopped}
use Rattle.siman_plans.specs.SoFar.{IsSoFar, Leaves, LeavesAll}
use Rattle.siman_plans.proofs.Moves.{length-changed, kept_plan, is_kept}

-- a line that means a loss
lost_kept : (w : WorldData) (ms : List Move) (kept new : Planner) (line column : ℕ) (which : Which) (number k : ℕ) → IsSoFar w (kept_plan ms kept) kept
    → named kept.notes which ≡ Ok number → sent_before kept.notes number ≡ Ok k → new.world ≡ kept.world → new.notes ≡ after_loss line k kept.notes
    → (e : PlanData) × (loses line column which (kept_plan ms kept) ≡ Ok e) × IsSoFar w e new
lost_kept w ms kept new line column which number k so en es ew eo =
    let e : PlanData = record { moves = ms; notes = after_loss line k kept.notes } in
    let all = length-changed meant k kept.notes.sent in
    (e, rw en (rw es refl), record { world = subst (λ (v : World). IsAfter w ms v) (sym ew) so.world; notes = eo; count = so.count; datagrams = all ∙ so.datagrams; few = subst (λ (n : ℕ). n ≤ MOST_ENTRIES) (sym all) so.few })

pub lost_at : (w : WorldData) (d : PlanData) (kept new : Planner) (line column : ℕ) (which : Which) (number k : ℕ) → IsSoFar w d kept
    → named kept.notes which ≡ Ok number → sent_before kept.notes number ≡ Ok k → new.world ≡ kept.world → new.notes ≡ after_loss line k kept.notes
    → (e : PlanData) × (loses line column which d ≡ Ok e) × IsSoFar w e new
lost_at w d kept new line column which number k so en es ew eo =
    let is = is_kept w d kept so in
    subst (λ (p : PlanData). (e : PlanData) × (loses line column which p ≡ Ok e) × IsSoFar w e new) is
    (lost_kept w d.moves kept new line column which number k (subst (λ (p : PlanData). IsSoFar w p kept) (sym is) so) en es ew eo)

-- Lines in their order.

-- the lines so far gave a plan, and the rest goes on from it
abbrev pub GoesOn : WorldData → PlanData → List SourceLine → Planner → Type 0
GoesOn w d ys kept = (e : PlanData) × IsSoFar w e kept × ((ls : List SourceLine) → lines_after w d (ys ++ ls) ≡ lines_after w e ls)

pub goes_on : (w : WorldData) (d : PlanData) (ys : List SourceLine) (y : SourceLine) (kept new : Planner) → (g : GoesOn w d ys kept)
    → (e : PlanData) × (line_after w y g.0 ≡ Ok e) × IsSoFar w e new → GoesOn w d (ys ++ y ∷ []) new
goes_on w d ys y kept new g s = (
  s.0,
  s.2,
  λ ls. ap (lines_after w d) (append_assoc ys (y ∷ []) ls) ∙ (g.2 (y ∷ ls)
      ∙ ap (λ (r : Result PlanData Stop). unless_stopped g.0 r (λ e. lines_after w e ls)) s.1),
)

pub stops_at : (w : WorldData) (d : PlanData) (ys : List SourceLine) (y : SourceLine) (rest : List SourceLine) (kept : Planner) → (g : GoesOn w d ys kept)
    → (stop : Stop) → line_after w y g.0 ≡ Err stop → lines_after w d (ys ++ y ∷ rest) ≡ (g.0, Some stop)
stops_at w d ys y rest kept g stop e = g.2 (y ∷ rest) ∙ ap (λ (r : Result PlanData Stop). unless_stopped g.0 r (λ f. lines_after w f rest)) e

pub begins : (w : WorldData) (d : PlanData) (kept : Planner) → IsSoFar w d kept → GoesOn w d [] kept
begins w d kept so = (d, so, λ ls. refl)

-- the line that stops a plan stops all of them
pub all_stop : (T : Type 0) (w : WorldData) (d : PlanData) (xs ys : List SourceLine) (y : SourceLine) (rest : List SourceLine) (kept new : Planner)
    → (g : GoesOn w d ys kept) → (fault : LineFault) → xs ≡ ys ++ y ∷ rest
    → (let r : Result T LineFault = Err fault in Leaves w g.0 (line_after w y g.0) r new)
    → (let r : Result T LineFault = Err fault in LeavesAll w (lines_after w d xs) r new)
all_stop T w d xs ys y rest kept new g (line_faults.Stop stop) e left =
    let is = ap (lines_after w d) e ∙ stops_at w d ys y rest kept g stop left.0 in
    (ap (λ (p : PlanData × Option Stop). p.1) is, subst (λ (p : PlanData × Option Stop). IsSoFar w p.0 new) (sym is) left.1)
all_stop T w d xs ys y rest kept new g line_faults.Memory e left = tt

-- without a stop all lines gave the plan
pub all_done : (w : WorldData) (d : PlanData) (xs : List SourceLine) (kept : Planner) → GoesOn w d xs kept
    → ((lines_after w d xs).1 ≡ None) × IsSoFar w (lines_after w d xs).0 kept
all_done w d xs kept g =
    let is : lines_after w d xs ≡ (g.0, None) = ap (lines_after w d) (sym (append-nil xs)) ∙ g.2 [] in
    (ap (λ (p : PlanData × Option Stop). p.1) is, subst (λ (p : PlanData × Option Stop). IsSoFar w p.0 kept) (sym is) g.1)

-- where a line stands among all
pub split_at : (xs ys : List SourceLine) (y : SourceLine) → map (λ x. x) ys ≡ take (length ys) xs → (length ys < length xs) × (y ≡ get_or xs (length ys) y)
    → xs ≡ ys ++ y ∷ drop (suc (length ys)) xs
split_at xs ys y before at =
    sym (take-append-drop (length ys) xs)
    ∙ (ap (λ (zs : List SourceLine). zs ++ drop (length ys) xs) (sym before ∙ map-id ys)
    ∙ ap (λ (zs : List SourceLine). ys ++ zs) (drop-cons xs (length ys) y at.0 ∙ ap (λ (z : SourceLine). z ∷ drop (suc (length ys)) xs) (sym at.1)))
