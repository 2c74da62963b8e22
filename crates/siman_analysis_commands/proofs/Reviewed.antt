-- Words that ask for filters, and what holds of each fate.
use Rattle.std.proofs.Common.{◌≡◌, ℕ, zero, suc, ◌<◌, List, [], ◌∷◌, ◌++◌, length, take, drop, get_or, map, None, arith, sym, ap, ◌∙◌}
use Rattle.std.proofs.lemmas.List.{map-append}
use Rattle.exercise_review.specs.declared.fate.Fate.{Fate}
use Rattle.exercise_review.specs.declared.fate.Fate.TheVariants.{Done, Answered, Refused, Pending, Unheard, Unanswered, Lost, Unknown, Nobody}
use Rattle.exercise_review.specs.declared.filter.Filter.{Filter}
use Rattle.siman_outside.specs.declared.commands.ViewWord.{ViewWord}
use Rattle.siman_analysis_commands.specs.FilterWords.{filter_of}
use Rattle.siman_analysis_commands.specs.View.{AskFor, IsFirstBad}

-- a list, taken apart at one of its items
apart_at : {X : Type 0} (xs : List X) (i : ℕ) (x : X) → i < length xs → x ≡ get_or xs i x → xs ≡ take i xs ++ x ∷ drop (suc i) xs
apart_at [] i x within is = absurd (omega (arith, within))
apart_at (y ∷ ys) zero x within is = ap (λ z. z ∷ ys) (sym is)
apart_at (y ∷ ys) (suc i) x within is = ap (λ zs. y ∷ zs) (apart_at ys i x (omega arith) is)

-- a word that asks for no filter, behind words that do
pub first_bad : {W : Type 0} (view : ViewWord) (text : W → List ℕ) (ws : List W) (i : ℕ) (w : W) (filters : List Filter) → i < length ws → w ≡ get_or ws i w
    → AskFor view (map text (take i ws)) filters → filter_of view (text w) ≡ None → IsFirstBad view (map text ws) (text w)
first_bad view text ws i w filters within is ask bad = record {
  before = map text (take i ws);
  behind = map text (drop (suc i) ws);
  stands = ap (map text) (apart_at ws i w within is) ∙ map-append text (take i ws) (w ∷ drop (suc i) ws);
  filters = filters;
  first = ask;
  bad = bad;
}

-- what holds of each fate holds of one
pub each_fate : (P : Fate → Type 0) → P Done → P Answered → P Refused → P Pending → P Unheard → P Unanswered → P Lost → P Unknown → P Nobody → (fate : Fate) → P fate
each_fate P done answered refused pending unheard unanswered lost unknown nobody Done = done
each_fate P done answered refused pending unheard unanswered lost unknown nobody Answered = answered
each_fate P done answered refused pending unheard unanswered lost unknown nobody Refused = refused
each_fate P done answered refused pending unheard unanswered lost unknown nobody Pending = pending
each_fate P done answered refused pending unheard unanswered lost unknown nobody Unheard = unheard
each_fate P done answered refused pending unheard unanswered lost unknown nobody Unanswered = unanswered
each_fate P done answered refused pending unheard unanswered lost unknown nobody Lost = lost
each_fate P done answered refused pending unheard unanswered lost unknown nobody Unknown = unknown
each_fate P done answered refused pending unheard unanswered lost unknown nobody Nobody = nobody
