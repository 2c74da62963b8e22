-- Which step takes each entry, one step more at a time.
use Rattle.std.proofs.Common.{◌≡◌, ℕ, ◌+◌, ◌<◌, List, length, Option, Some, None, sym, ap, ◌∙◌, subst}
use Rattle.std.specs.Prelude.{slice_index_or, ◌==◌, if◌then◌else◌}
use Rattle.std.specs.Option.{option_or}
use Rattle.std.proofs.lemmas.Option.{slice_get-get_or}
use Rattle.exercise_model.specs.Place.{first_below}
use Rattle.exercise_check.specs.declared.certificate.Step.{Step}
use Rattle.exercise_check.specs.Goodness.{no_step}
use Rattle.exercise_check.specs.Links.{step_at}
use Rattle.exercise_chart.specs.Point.{takes, AreTaken}
use Rattle.exercise_chart.proofs.Firsts.{first_more}

pub taken_none : (steps : List Step) (entries : ℕ) (taken : List (Option ℕ)) → length taken ≡ entries → ((i : ℕ) → slice_index_or taken i None ≡ None)
    → AreTaken steps 0 entries taken
unfolding first_below
taken_none steps entries taken count none = record { count = count; each = λ i _. none i }

-- a step read with whatever stands past the end
same_step : (steps : List Step) (n : ℕ) (d : Step) → n < length steps → slice_index_or steps n d ≡ step_at steps n
same_step steps n d within =
    let same : Some (slice_index_or steps n d) ≡ Some (step_at steps n) = sym (slice_get-get_or steps n d within) ∙ slice_get-get_or steps n no_step within in
    cc

pub taken_more : (steps : List Step) (n entries : ℕ) (old new : List (Option ℕ)) (d : Step) → n < length steps → length new ≡ length old
    → ((i : ℕ) → i < length old → slice_index_or new i None ≡ option_or (slice_index_or old i None) (if (slice_index_or steps n d).place == i then Some n else None))
    → AreTaken steps n entries old → AreTaken steps (n + 1) entries new
taken_more steps n entries old new d within count noted so_far = record {
  count = count ∙ so_far.count;
  each = λ i below.
      noted i (subst (λ m. i < m) (sym so_far.count) below)
      ∙ ap (λ o. option_or o (if (slice_index_or steps n d).place == i then Some n else None)) (so_far.each i below)
      ∙ sym (first_more (takes steps i) n ((slice_index_or steps n d).place == i) (ap (λ (x : Step). x.place == i) (sym (same_step steps n d within))));
}
