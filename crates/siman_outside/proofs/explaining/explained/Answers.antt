-- The second line of its fault is told, or else what there is to warn of.
use Rattle.std.proofs.Common.{◌≡◌, ℕ, List, Option, Some, ◌++◌, false, sym, ◌∙◌}
use Rattle.std.specs.Prelude.{Ok, Err}
use Rattle.std.specs.Result.{is_err}
use Rattle.byte_files.specs.Writing.{Writes}
use Rattle.siman_outside.specs.declared.fault.Fault.{Fault}
use Rattle.siman_outside.specs.declared.notes.Warning.{Warning}
use Rattle.siman_outside.specs.Reasons.{Wrote, IsReason, second_line, mend_line, Explains}
use Rattle.siman_outside.proofs.explaining.explained.Goals as goal

told_second : (first wrote : Wrote) (told : Option Fault) (fault : Fault) (begun : Option (List ℕ)) (warning further : Option Warning) (old new : Option (List ℕ)) (text : List ℕ)
    → is_err first ≡ false → told ≡ Some fault → IsReason fault text → Writes wrote old new (second_line text ++ mend_line begun) → Explains first told begun warning further old new
told_second (Ok x) wrote told fault begun warning further old new text good is reason writes = rw is (text, wrote, reason, writes)
told_second (Err failed) wrote told fault begun warning further old new text good is reason writes = absurd cc

pub returns-clause-explains : goal.returns-clause-explains
returns-clause-explains g c =
    told_second c.args.ending.ended.written c.put_explained.result c.args.ending.fault c.in-Some.fault _ c.args.ending.warning c.args.ending.further _ _ _
    (sym c.is_err.ensures.value ∙ c.if-is_err.false) c.in-Some.is c.reason_of-reason.ensures c.put_explained.ensures
