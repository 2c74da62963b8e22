-- Numbers that may be missing.
use Rattle.std.specs.Prelude.{ℕ, Option}
use Rattle.siman_print.specs.Line.{Value, Number, Clock}
use Rattle.siman_print.specs.Fields.{option_value}

abbrev pub number_value : Option ℕ → Value
number_value n = option_value Number n

abbrev pub clock_value : Option ℕ → Value
clock_value n = option_value Clock n
