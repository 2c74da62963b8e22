-- The characters so far.
use Rattle.std.proofs.Common.{◌≡◌, ◌++◌, string_bytes}
use Rattle.std.specs.List.{flat_map}
use Rattle.siman_print.specs.Spelled.{escaped_character}
use Rattle.siman_print.proofs.json.put_escaped.Given as goal

abbrev pub invariant-loop-character : goal.invariant-loop-character
invariant-loop-character l = string_bytes l.json ≡ string_bytes l.initial.json ++ flat_map escaped_character l.yielded
