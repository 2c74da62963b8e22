use Rattle.std.proofs.Common.{◌≡◌, ◌++◌, ◌∷◌, [], ℕ, List, Bool, true, false, not, refl, sym, ap, ◌∙◌}
use Rattle.std.specs.Prelude.{nat_eq, if◌then◌else◌}
use Rattle.std.specs.List.{list_any}
use Rattle.exercise_review.proofs.Registered.{registered_new}
use Rattle.exercise_review.proofs.entry_chains.place_of_key.Goals as goal

none_passes : (b : Bool) → not b ≡ true → b ≡ false
none_passes true h = absurd (cc)
none_passes false h = refl

pub returns-in_ok-push-clause-kept : goal.returns-in_ok-push-clause-kept
returns-in_ok-push-clause-kept c keys n tied =
    let ks : List ℕ = c.args.ways.now.keys.keys in
    let absent : list_any (nat_eq c.args.key) ks ≡ false = none_passes (list_any (nat_eq c.args.key) ks) (sym c.in_ok-place.ensures.added ∙ c.if-is_new.true) in
    registered_new keys n c.args.key c.args.ways.now (record { keys = c.insert_full.new.self; last = c.push.new.self; places = c.args.ways.now.places; before = c.args.ways.now.before })
    absent c.in_ok-place.ensures.unique (c.in_ok-place.ensures.keys ∙ ap (λ b. if b then ks else ks ++ c.args.key ∷ []) absent) c.in_ok-push.ensures.items refl refl tied
