use Rattle.std.proofs.Common.{ap, ◌∙◌, ◌≡◌, ◌-◌, ◌*◌, ℕ, List, length, take, arith}
use Rattle.siman_pdus.specs.DatumLists.{IdLists}
use Rattle.siman_application.specs.Holding.{Holding, held_in, stored_in}
use Rattle.siman_application.specs.Records.{found, fitting}
use Rattle.siman_application.proofs.DataThatFits.{same_records, first_few}
use Rattle.siman_application.proofs.held.Held.find.Goals as goal

pub overflow_sub-room : goal.overflow_sub-room
overflow_sub-room c =
    let h : Holding = stored_in (held_in c.args.came.now) (held_in c.args.self.now) in
    let all = found h.fixed c.deref.result.now in
    let is : c.in_ok-fixed.fixed.items ≡ take 1019 all = c.in_ok-fixed.ensures in
    omega (arith, ap length is, first_few 1019 all)

pub returns : goal.returns
returns c =
    let h : Holding = stored_in (held_in c.args.came.now) (held_in c.args.self.now) in
    let all = found h.fixed c.args.ids.now.fixed in
    let rest = found h.variable c.args.ids.now.variable in
    let fixed_ids : c.deref.result.now ≡ c.args.ids.now.fixed = c.deref.ensures.value ∙ ap (λ (ids : IdLists). ids.fixed) c.ids.view_is in
    let variable_ids : c.deref-2.result.now ≡ c.args.ids.now.variable = c.deref-2.ensures.value ∙ ap (λ (ids : IdLists). ids.variable) c.ids.view_is in
    let is : c.in_ok-fixed.fixed.items ≡ take 1019 all = c.in_ok-fixed.ensures ∙ ap (λ (ids : List ℕ). take 1019 (found h.fixed ids)) fixed_ids in
    let count : c.len.result ≡ length (take 1019 all) = omega (arith, ap length is, c.len.ensures) in
    same_records c.in_ok-fixed.fixed.items (take 1019 all) c.in_ok-variable.variable.items (fitting (8152 - 8 * length (take 1019 all)) rest) is
    (c.in_ok-variable.ensures ∙ ap (λ (m : ℕ). fitting (8152 - 8 * m) (found h.variable c.deref-2.result.now)) count
    ∙ ap (λ (ids : List ℕ). fitting (8152 - 8 * length (take 1019 all)) (found h.variable ids)) variable_ids)
