-- The addresses so far.
use Rattle.std.proofs.Common.{◌≡◌, ◌++◌, take, string_bytes}
use Rattle.std.specs.List.{flat_map}
use Rattle.siman_print.specs.Spelled.{further_text}
use Rattle.siman_print.proofs.text.put_further.Given as goal

abbrev pub invariant-loop-address : goal.invariant-loop-address
invariant-loop-address l = string_bytes l.text ≡ string_bytes l.initial.text ++ flat_map further_text (take l.address-index l.ring)
