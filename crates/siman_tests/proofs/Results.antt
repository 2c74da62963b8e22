-- What is said of a result that is there, or of a fault, and what follows from it.
use Rattle.std.proofs.Common.{Err, IfErr, IfSome, None, Ok, OnOk, Option, Result, Some, refl, ◌≡◌}
use Rattle.std.specs.Prelude.{IfOk}

pub on_then : {X E P Q : Type 0} (r : Result X E) → (P → Q) → OnOk r P → OnOk r Q
on_then (Ok x) more is = more is
on_then (Err e) more is = tt

pub if_then : {X E : Type 0} {P Q : X → Type 0} (r : Result X E) → ((x : X) → P x → Q x) → IfOk r P → IfOk r Q
if_then (Ok x) more is = more x is
if_then (Err e) more is = tt

pub err_then : {X E : Type 0} {P Q : E → Type 0} (r : Result X E) → ((e : E) → P e → Q e) → IfErr r P → IfErr r Q
err_then (Ok x) more is = tt
err_then (Err e) more is = more e is

pub some_then : {X : Type 0} {P Q : X → Type 0} (o : Option X) → ((x : X) → P x → Q x) → IfSome o P → IfSome o Q
some_then None more is = tt
some_then (Some x) more is = more x is

-- what is there holds, of whatever is equal to it
pub some_is : {X : Type 0} (o : Option X) (P : X → Type 0) → ((x : X) → o ≡ Some x → P x) → IfSome o P
some_is None P each = tt
some_is (Some x) P each = each x refl

pub ok_is : {X E : Type 0} (r : Result X E) (P : X → Type 0) → ((x : X) → r ≡ Ok x → P x) → IfOk r P
ok_is (Ok x) P each = each x refl
ok_is (Err e) P each = tt
