-- The datagrams that a link passed over (profile).
use Rattle.std.specs.Prelude.{Bool, ◌==◌, ◌&&◌}
use Rattle.siman_lines.specs.declared.line.PassedOver.{PassedOver}

-- no datagrams
abbrev pub passed_nothing : PassedOver
passed_nothing = record { strangers = 0; others = 0 }

-- the counts are equal
abbrev pub same_counts : (a b : PassedOver) → Bool
same_counts a b = (a.strangers == b.strangers) && (a.others == b.others)
