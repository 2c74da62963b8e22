-- Links in the format of a certificate (profile).
use Rattle.std.specs.Prelude.{ℕ, Option, unwrap_or}

-- a link: the number of its entry, or 0xFFFFFFFF for none
abbrev pub link_number : Option ℕ → ℕ
link_number link = unwrap_or link 0xFFFFFFFF
