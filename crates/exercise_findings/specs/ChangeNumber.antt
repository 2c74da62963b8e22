-- Changes encoded as 32-bit numbers for a column: the lower 17 bits encode the scope, the bits above them the kind, by its PDU type. A number with no valid kind, like 0, encodes no change.
use Rattle.std.specs.Prelude.{ℕ, ◌/◌, ◌%◌, Option, Some, None, nat_lt, if◌then◌else◌}
use Rattle.dis_records.specs.declared.entity.Scope.{Scope}
use Rattle.dis_records.specs.declared.entity.Scope.TheVariants.{One, All}
use Rattle.dis_records.specs.Kind.{kind_from, is_kind_code}
use Rattle.exercise_model.specs.declared.state.Change.{Change}

-- the scope with a number below 2^17: one entity below 2^16, else all
abbrev pub scope_in : ℕ → Scope
scope_in number = if nat_lt number 0x10000 then One number else All

-- the change that a number encodes
abbrev pub change_in : ℕ → Option Change
change_in number =
    if is_kind_code (number / 0x20000)
    then Some (record { kind = kind_from (number / 0x20000); scope = scope_in (number % 0x20000) })
    else None
