-- A change comes back from its number.
use Rattle.std.proofs.Common.{◌≡◌, ℕ, ◌/◌, ◌%◌, Option, Some, None, refl}
use Rattle.std.specs.Prelude.{if◌then◌else◌}
use Rattle.dis_records.specs.declared.entity.Scope.{Scope}
use Rattle.dis_records.specs.declared.kind.Kind.{Kind}
use Rattle.dis_records.specs.declared.kind.Kind.TheVariants as kinds
use Rattle.dis_records.specs.Kind.{kind_code, kind_from, is_kind_code}
use Rattle.exercise_model.specs.declared.state.Change.{Change}
use Rattle.exercise_findings.specs.ChangeNumber.{scope_in, change_in}

abbrev change : Kind → Scope → Option Change
change kind scope = Some (record { kind = kind; scope = scope })

-- each kind is that of its code
kind_again : (kind : Kind) (scope : Scope) → (if is_kind_code (kind_code kind) then change (kind_from (kind_code kind)) scope else None) ≡ change kind scope
unfolding kind_from
kind_again kinds.CreateEntity scope = refl
kind_again kinds.RemoveEntity scope = refl
kind_again kinds.StartResume scope = refl
kind_again kinds.StopFreeze scope = refl
kind_again kinds.Acknowledge scope = refl
kind_again kinds.ActionRequest scope = refl
kind_again kinds.ActionResponse scope = refl
kind_again kinds.DataQuery scope = refl
kind_again kinds.SetData scope = refl
kind_again kinds.DataPdu scope = refl
kind_again kinds.EventReport scope = refl
kind_again kinds.Comment scope = refl

-- the change that a number stands for, by the kind and the scope that its parts stand for
pub change_is : (kind : Kind) (scope : Scope) (number : ℕ) → number / 131072 ≡ kind_code kind → scope_in (number % 131072) ≡ scope → change_in number ≡ change kind scope
change_is kind scope number above below = rw (above, below) (kind_again kind scope)
