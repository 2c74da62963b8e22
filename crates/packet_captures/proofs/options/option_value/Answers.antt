use Rattle.std.proofs.Common.{◌≡◌, ◌+◌, ◌-◌, length, sym, ◌∙◌, arith}
use Rattle.std.specs.Option.{option_map}
use Rattle.packet_captures.proofs.OptionWalks.{option_from-ended, option_from-more}
use Rattle.packet_captures.proofs.options.option_value.Goals as goal

pub returns-then-ends_options-clause-value : goal.returns-then-ends_options-clause-value
returns-then-ends_options-clause-value c =
    sym (option_from-ended (length c.args.options.now - c.loop.counter) c.args.order c.args.code c.args.size (option_map (λ v. v.now) c.loop.found) c.loop.rest.now
    (sym c.ends_options.ensures ∙ c.if-ends_options.true)) ∙ c.loop.invariant.value

pub loop-preserved : goal.loop-preserved
loop-preserved c =
    let k : length c.args.options.now - c.loop.counter ≡ length c.args.options.now - (c.loop.counter + 1) + 1 = omega arith in
    let e = option_from-more _ _ c.args.order c.args.code c.args.size (option_map (λ v. v.now) c.loop.found) c.loop.rest.now k (sym c.ends_options.ensures ∙ c.if-ends_options.false) in
    record {
      value = rw (c.found_at-found.ensures.value, c.behind-rest.ensures, c.padded.ensures, c.from.ensures, c.u16_at.ensures) (sym e ∙ c.loop.invariant.value);
      size = c.found_at-found.ensures.length;
    }
