-- Texts of five pieces (profile).
use Rattle.std.specs.Prelude.{ℕ, List, [], ◌++◌, codes, decimal}
use Rattle.byte_files.specs.declared.pieces.TextPiece.{TextPiece}
use Rattle.byte_files.specs.declared.pieces.TextPiece.TheVariants.{Words, Number, Address, Endpoint, Nothing}
use Rattle.byte_files.specs.declared.pieces.TextPieces.{TextPieces}
use Rattle.byte_files.specs.declared.pieces.PlacedText.{PlacedText}

-- a text and a number
abbrev pub behind : List ℕ → ℕ → List ℕ
behind text n = text ++ decimal n

-- an IP version 4 address and a port, N.N.N.N:P
abbrev pub endpoint_text : (first second third last port : ℕ) → List ℕ
endpoint_text first second third last port =
    behind [] first ++ (behind (codes ".") second ++ (behind (codes ".") third ++ (behind (codes ".") last ++ behind (codes ":") port)))

abbrev pub piece_text : TextPiece → List ℕ
piece_text (Words words) = words.now
piece_text (Number n) = decimal n
piece_text (Address site application) = decimal site ++ behind (codes ":") application
piece_text (Endpoint first second third last port) = endpoint_text first second third last port
piece_text Nothing = []

abbrev pub five : List ℕ → List ℕ → List ℕ → List ℕ → List ℕ → List ℕ
five a b c d e = a ++ (b ++ (c ++ (d ++ e)))

-- THE TEXT OF FIVE PIECES: theirs, one after another
abbrev pub pieces_text : TextPieces → List ℕ
pieces_text p = five (piece_text p.first) (piece_text p.second) (piece_text p.third) (piece_text p.fourth) (piece_text p.fifth)

abbrev pub pieces : TextPiece → TextPiece → TextPiece → TextPiece → TextPiece → TextPieces
pieces a b c d e = record { first = a; second = b; third = c; fourth = d; fifth = e }

-- a place, and the text about it
abbrev pub placed_text : PlacedText → List ℕ
placed_text p = pieces_text p.place ++ pieces_text p.text
