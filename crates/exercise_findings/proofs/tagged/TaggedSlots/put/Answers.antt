use Rattle.std.proofs.Common.{◌≡◌, set, sym, ap, ◌∙◌}
use Rattle.std.specs.Prelude.{if◌then◌else◌}
use Rattle.std.proofs.lemmas.Bool.{ne_eqb}
use Rattle.std.proofs.lemmas.List.{map-set}
use Rattle.exercise_findings.specs.declared.slots.Slot.{Slot}
use Rattle.exercise_findings.specs.Slots.{tag_of, tag_in}
use Rattle.exercise_findings.proofs.tagged.TaggedSlots.put.Goals as goal

pub invariant_of-self : goal.invariant_of-self
invariant_of-self c =
    let place = c.args.place in
    let s : Slot = record { hash = c.args.hash; entry = c.args.entry } in
    let tag : c.tag_of.result ≡ tag_in s = c.tag_of.ensures ∙ sym (ap (λ b. if b then 0 else tag_of c.args.hash) (ne_eqb c.args.entry 4294967295 c.requires.some)) in
    ap (λ x. set c.self.inside.tags.items place x) tag ∙ ap (λ xs. set xs place (tag_in s)) c.self.invariant ∙ sym (map-set tag_in c.self.inside.slots.items place s)
