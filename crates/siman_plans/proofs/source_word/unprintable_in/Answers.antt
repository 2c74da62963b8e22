use Rattle.std.proofs.Common.{◌≡◌, map, arith}
use Rattle.siman_plans.specs.SourceWords.{without_return, parts_of}
use Rattle.siman_plans.proofs.SourceWidth.{width-parts, length-without_return}
use Rattle.siman_plans.proofs.source_word.unprintable_in.Goals as goal

pub loop-part-init : goal.loop-part-init
loop-part-init c =
    let ws : map (λ w. w.now) c.as_slice-part-items.result.now ≡ parts_of (without_return c.args.line.now) =
    rw c.as_slice-part-items.ensures.value (rw (← c.without_return.ensures) c.in_ok-parts.ensures) in
    record {
      told = rw ws;
      within = rw ws (omega (arith, width-parts (without_return c.args.line.now), length-without_return c.args.line.now));
    }
