-- The short form of a station in a script, which says nothing of its orders (profile).
use Rattle.std.specs.Prelude.{ℕ, Bool, false, ◌&&◌, ◌||◌, ◌==◌, List, [], ◌∷◌, codes, bytes_eq}
use Rattle.std.specs.Option.{option_map_or}
use Rattle.byte_files.specs.Text.{lines_of, cut_at}
use Rattle.dis_records.specs.declared.address.SiteApplication.{SiteApplication}
use Rattle.siman_scripts.specs.Statement.{address_of}

-- a word is this address
abbrev pub is_address : SiteApplication → List ℕ → Bool
is_address a word = option_map_or (λ b. (b.site == a.site) && (b.application == a.application)) (address_of word) false

-- a line is `station S:A` with this address
abbrev pub is_short_line : SiteApplication → List ℕ → Bool
is_short_line a line = option_map_or (λ p. bytes_eq p.0 (codes "station") && is_address a p.1) (cut_at 32 line) false

abbrev pub is_any_short : SiteApplication → List (List ℕ) → Bool
is_any_short a [] = false
is_any_short a (line ∷ lines) = is_short_line a line || is_any_short a lines

-- A TEXT HAS THE STATION AT THIS ADDRESS IN THE SHORT FORM
abbrev pub is_short_form : SiteApplication → List ℕ → Bool
is_short_form a text = is_any_short a (lines_of text)
