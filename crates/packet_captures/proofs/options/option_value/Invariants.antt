-- What the options that are left give is what all give.
use Rattle.std.proofs.Common.{◌≡◌, ◌-◌, length}
use Rattle.std.specs.Prelude.{IfSome}
use Rattle.std.specs.Option.{option_map}
use Rattle.packet_captures.specs.Options.{option_from, option_value}
use Rattle.packet_captures.proofs.options.option_value.Given as goal

abbrev pub invariant-loop : goal.invariant-loop
invariant-loop l =
    record {
      value : option_from (l.end - l.counter) l.order l.code l.size (option_map (λ v. v.now) l.found) l.rest ≡ option_value l.order l.code l.size l.options;
      size : IfSome l.found (λ v. IfSome l.size (λ n. length v.now ≡ n));
    }
