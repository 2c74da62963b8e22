-- The sheets of a printed picture: each has the heading, and below it a block of rows with the names
-- above them; of a picture that is wider than a sheet each has up to 4 columns, and the words to the right
-- of them (profile).
use Rattle.std.specs.Prelude.{ℕ, ◌+◌, ◌-◌, ◌*◌, ◌/◌, ◌%◌, List, ◌++◌, codes, decimal, Bool, min, nat_le, if◌then◌else◌}
use Rattle.siman_print.specs.Below.{texts_below}
use Rattle.exercise_chart.specs.declared.frame.TheConstants.{BLOCK}
use Rattle.exercise_chart.specs.declared.sheets.TheConstants.{SHEET, ACROSS}
use Rattle.exercise_chart.specs.Frame.{FrameData, rows_x, width_of, rows_drawn}

-- how many sheets are needed for the rows, one below the other
abbrev pub sheets_down : FrameData → ℕ
sheets_down f = (rows_drawn f - 1) / BLOCK + 1

-- the picture is no wider than a sheet
abbrev pub is_narrow : FrameData → Bool
is_narrow f = nat_le (width_of f) SHEET

-- how many sheets stand side by side: one for each 4 columns, or one for all
unfoldable pub sheets_across : FrameData → ℕ
sheets_across f = if is_narrow f then 1 else (f.kept - 1) / 4 + 1

-- HOW MANY SHEETS there are
abbrev pub sheets_of : FrameData → ℕ
sheets_of f = sheets_down f * sheets_across f

-- the left edge of the columns that the t-th of the sheets that stand side by side shows, and their width
unfoldable pub sheet_x : (t : ℕ) → ℕ
sheet_x t = 4 + ACROSS * t

unfoldable pub sheet_width : FrameData → (t : ℕ) → ℕ
sheet_width f t = min ACROSS (rows_x f - 8 - sheet_x t)

-- the beginning of the n-th sheet, with the heading
abbrev pub sheet_begin : (n : ℕ) → List ℕ
sheet_begin n =
    codes "<svg y=\"" ++ decimal (100 * n)
    ++ codes "vh\" width=\"980\" height=\"716\" viewBox=\"0 0 1195 873\">\n<use href=\"#heading\"/>\n"

-- a part of a sheet: the rows of a block, all lines, of which it shows those that it has, and its names, in
-- the part of the picture from x on that is this wide; it stands at `at`
abbrev pub part_text : (at x width block : ℕ) → List ℕ
part_text at x width block =
    codes "<svg x=\"" ++ decimal at ++ codes "\" y=\"116\" width=\"" ++ decimal width ++ codes "\" height=\"740\" viewBox=\"" ++ decimal x
    ++ codes " " ++ decimal (116 + 740 * block) ++ codes " " ++ decimal width ++ codes " 740\">\n<use href=\"#rows" ++ decimal block
    ++ codes "\"/>\n<path d=\"M0 0h1\" marker-start=\"url(#drawn)\"/>\n<use href=\"#names" ++ decimal block ++ codes "\"/>\n</svg>\n"

-- some columns, and right of them the words
abbrev pub wide_parts : FrameData → (t block : ℕ) → List ℕ
wide_parts f t block = part_text 0 (sheet_x t) (sheet_width f t) block ++ part_text ACROSS (rows_x f - 8) (SHEET - ACROSS) block

-- the parts of the t-th of the sheets that stand side by side
unfoldable pub parts_text : FrameData → (t block : ℕ) → List ℕ
parts_text f t block = if is_narrow f then part_text 0 0 SHEET block else wide_parts f t block

-- THE n-TH SHEET
unfoldable pub sheet_text : FrameData → (n : ℕ) → List ℕ
sheet_text f n = sheet_begin n ++ parts_text f (n % sheets_across f) (n / sheets_across f) ++ codes "</svg>\n"

-- THE SHEETS, which are shown in print alone
unfoldable pub sheets_text : FrameData → List ℕ
sheets_text f = codes "<g id=\"sheets\">\n" ++ texts_below (sheet_text f) (sheets_of f) ++ codes "</g>\n"
