-- The line of a move in a script (profile).
use Rattle.std.specs.Prelude.{ℕ, ◌+◌, ◌-◌, Bool, true, false, ◌==◌, List, [], ◌∷◌, Option, Some, None, if◌then◌else◌}
use Rattle.siman_scripts.specs.declared.statement.Statement.{Statement}
use Rattle.siman_scripts.specs.declared.statement.Statement.TheVariants as says
use Rattle.byte_files.specs.Text.{lines_of}
use Rattle.siman_scripts.specs.Statement.{statement_of}

-- a line is a move
abbrev pub is_move : Option Statement → Bool
is_move (Some (says.Does a act)) = true
is_move _ = false

-- the number of the line with the move after this many other moves, of lines that follow n other lines
abbrev pub move_line : ℕ → ℕ → List (List ℕ) → Option ℕ
move_line number n [] = None
move_line number n (l ∷ ls) =
    if is_move (statement_of l) then (if number == 0 then Some (n + 1) else move_line (number - 1) (n + 1) ls) else move_line number (n + 1) ls

-- THE NUMBER, FROM 1, OF THE LINE WITH MOVE `number`, from 0, if any
abbrev pub line_of_move : List ℕ → ℕ → Option ℕ
line_of_move text number = move_line number 0 (lines_of text)
