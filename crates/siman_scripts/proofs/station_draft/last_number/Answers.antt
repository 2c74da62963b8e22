use Rattle.std.proofs.Common.{ℕ, ◌<◌, ◌-◌, length, arith, ap, sym, ◌∙◌}
use Rattle.dis_records.specs.declared.entity_state.EntityState.{EntityState}
use Rattle.siman_scripts.proofs.Openings.{last_number-get}
use Rattle.siman_scripts.proofs.station_draft.last_number.Goals as goal

pub returns-in-Some : goal.returns-in-Some
returns-in-Some c =
    let d = c.in-Some.field-0.now in
    let xs = c.args.opening.now in
    let some : 0 < length xs = c.in-Some.ensures.item.3.0 in
    ap (λ (x : ℕ × EntityState). x.0) (c.in-Some.ensures.item.4 (omega arith) d) ∙ sym (last_number-get 0 (length xs - 1) xs d (omega arith))
