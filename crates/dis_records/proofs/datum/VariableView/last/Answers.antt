use Rattle.std.proofs.Common.{sym, ap, ◌∙◌}
use Rattle.std.specs.Prelude.{Some}
use Rattle.dis_records.proofs.Cleared.{cleared_end}
use Rattle.dis_records.proofs.datum.VariableView.last.Goals as goal

pub returns : goal.returns
returns c =
    let v = c.args.self.now in
    let found = rw c.in_ok-last.was at c.last.ensures.value in
    ap (λ n. Some n) c.cleared_last.ensures ∙ sym (cleared_end v.bits c.in_ok-last.last.now v.bytes.now v.whole (sym found))
