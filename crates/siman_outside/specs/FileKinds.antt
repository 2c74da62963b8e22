-- The kind of a file, by its first bytes (profile).
use Rattle.std.specs.Prelude.{ℕ, Bool, ◌==◌, ◌||◌, List, [], ◌∷◌, length, codes, if◌then◌else◌}
use Rattle.std.specs.List.{starts_with}
use Rattle.siman_outside.specs.declared.file_kind.FileKind.{FileKind}
use Rattle.siman_outside.specs.declared.file_kind.FileKind.TheVariants as kinds

abbrev pub begins : List ℕ → List ℕ → Bool
begins bytes front = starts_with (◌==◌) bytes front

-- the start of a capture: pcap, in either byte order, with microseconds or nanoseconds, or pcapng
abbrev pub is_capture : List ℕ → Bool
is_capture bytes =
    begins bytes (161 ∷ 178 ∷ 195 ∷ 212 ∷ []) || (begins bytes (212 ∷ 195 ∷ 178 ∷ 161 ∷ [])
    || (begins bytes (161 ∷ 178 ∷ 60 ∷ 77 ∷ []) || (begins bytes (77 ∷ 60 ∷ 178 ∷ 161 ∷ []) || begins bytes (10 ∷ 13 ∷ 13 ∷ 10 ∷ []))))

-- the start of a script: its exercise line, or a comment
abbrev pub is_script : List ℕ → Bool
is_script bytes = begins bytes (codes "exercise ") || begins bytes (codes "#")

-- THE KIND OF A FILE
abbrev pub file_kind_of : List ℕ → FileKind
file_kind_of bytes =
    if length bytes == 0 then kinds.Empty
    else if begins bytes (codes "DSRC") then kinds.Recording
    else if begins bytes (codes "DSCT") then kinds.Certificate
    else if is_capture bytes then kinds.Capture
    else if is_script bytes then kinds.Script
    else kinds.Unknown
