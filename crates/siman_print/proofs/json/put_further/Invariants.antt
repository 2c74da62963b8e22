-- The addresses so far.
use Rattle.std.proofs.Common.{◌≡◌, ◌++◌, take, string_bytes}
use Rattle.std.specs.List.{flat_map}
use Rattle.siman_print.specs.Spelled.{further_json}
use Rattle.siman_print.proofs.json.put_further.Given as goal

abbrev pub invariant-loop-address : goal.invariant-loop-address
invariant-loop-address l = string_bytes l.json ≡ string_bytes l.initial.json ++ flat_map further_json (take l.address-index l.ring)
