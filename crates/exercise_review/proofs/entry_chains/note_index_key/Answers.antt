use Rattle.std.proofs.Common.{ℕ, sym, ap, ◌∙◌, arith}
use Rattle.std.proofs.lemmas.Option.{slice_get-get_or, slice_get_past, slice_get_within}
use Rattle.exercise_review.specs.Register.{given_key}
use Rattle.exercise_review.proofs.Registered.{registered_still, kept_more}
use Rattle.exercise_review.proofs.entry_chains.note_index_key.Goals as goal

pub returns-in-Nothing-clause-kept : goal.returns-in-Nothing-clause-kept
returns-in-Nothing-clause-kept c keys is tied =
    registered_still keys c.args.entry c.args.ways.now (sym is ∙ ap (given_key c.args.ways.now.keys) c.in-Nothing.is) tied

pub returns-in-At-clause-kept : goal.returns-in-At-clause-kept
returns-in-At-clause-kept c =
    let w = c.args.ways.now in
    let p : ℕ = c.in-At.place in
    let at = slice_get-get_or w.keys.keys p 0 (omega (arith, c.requires.same)) in
    kept_more c.args.entry p _ w w c.note_at.new.ways (given_key w.keys c.args.keyed) c.note_at.result c.requires.few (omega (arith, c.requires.same, c.requires.keys, c.requires.few))
    (ap (given_key w.keys) c.in-At.is ∙ at) at (λ keys so_far. so_far) c.note_at.ensures

pub returns-in-At-2-clause-kept : goal.returns-in-At-2-clause-kept
returns-in-At-2-clause-kept c keys is tied =
    let ks = c.args.ways.now.keys.keys in
    registered_still keys c.args.entry c.args.ways.now
    (sym is ∙ ap (given_key c.args.ways.now.keys) c.in-At.is ∙ slice_get_past ks c.in-At.place (omega (arith, c.requires.same, c.len.ensures, c.if-place-len.false))) tied

pub returns-in_ok-place-in-Key-clause-kept : goal.returns-in_ok-place-in-Key-clause-kept
returns-in_ok-place-in-Key-clause-kept c =
    let w = c.args.ways.now in
    let p : ℕ = c.in_ok-place-in-Key.place in
    let within = slice_get_within c.place_of_key.new.ways.keys.keys p c.in-Key.key c.in_ok-place-in-Key.ensures.at in
    kept_more c.args.entry p c.in-Key.key w c.place_of_key.new.ways c.note_at-in-Key.new.ways (given_key w.keys c.args.keyed) c.note_at-in-Key.result c.requires.few
    (omega (arith, within, c.in_ok-place-in-Key.ensures.few, c.requires.keys, c.requires.few))
    (ap (given_key w.keys) c.in-Key.is) c.in_ok-place-in-Key.ensures.at (λ keys so_far. c.in_ok-place-in-Key.ensures.kept keys c.args.entry so_far) c.note_at-in-Key.ensures
