use Rattle.std.proofs.Common.{◌≡◌, ◌≤◌, drop}
use Rattle.byte_files.specs.Text.{digits_after, at_most}
use Rattle.byte_files.proofs.text.number_to.Given as goal

-- what the digits that are left make of the number so far is what all make of 0
abbrev pub invariant-loop-digit : goal.invariant-loop-digit
invariant-loop-digit l = record {
  within : l.value ≤ l.largest;
  rest : at_most l.largest (digits_after l.value (drop l.digit-index l.word)) ≡ at_most l.largest (digits_after 0 l.word);
}
