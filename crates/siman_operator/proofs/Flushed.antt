-- A text that is out, and then flushed or not.
use Rattle.std.proofs.Common.{◌≡◌, ℕ, List}
use Rattle.std.specs.Prelude.{Option, Result, Ok, Err, IfErr}
use Rattle.std.specs.Io.KnownBytes.{Appends, Keeps}
use Rattle.std.proofs.KnownBytes.{Appends-kept}
use Rattle.siman_operator.specs.declared.printing.PrintFault.{PrintFault}
use Rattle.siman_operator.specs.declared.printing.PrintFault.TheVariants as prints
use Rattle.siman_operator.specs.Closing.{PrintsCounts}
use Rattle.siman_operator.proofs.Lines.{all_out, part_kept}

pub flushed : (text : List ℕ) (a b c : Option (List ℕ)) (r : Result (Unit {0}) PrintFault) → Appends a b text → Keeps b c → IfErr r (λ fault. fault ≡ prints.Write)
    → PrintsCounts text a c r
flushed text a b c (Ok u) out kept fault = Appends-kept a b c text out kept
flushed text a b c (Err prints.Write) out kept fault = part_kept a b c text (all_out a b text out) kept
flushed text a b c (Err prints.Memory) out kept fault = absurd cc
