-- Lines and columns of a text.
use Rattle.std.specs.Prelude.{ℕ, ◌+◌, Bool, not, List, ◌++◌, take, count_by, codes, decimal, ◌==◌}
use Rattle.std.specs.List.{prefix_len, suffix_len}
use Rattle.wordtext.specs.declared.Position.{Position}

abbrev pub newline : ℕ → Bool
newline b = b == 10

abbrev pub within_line : ℕ → Bool
within_line b = not (newline b)

-- the line is one more than the newlines before the place, and the column one more than the bytes after the last of them;
-- a place past the end counts as the end
abbrev pub position_of : List ℕ → ℕ → Position
position_of text place =
    record { line = 1 + count_by newline (take place text); column = 1 + suffix_len within_line (take place text) }

-- how many bytes come before the first newline, or all of them
abbrev pub first_line_of : List ℕ → ℕ
first_line_of text = prefix_len within_line text

-- a position as it is printed
abbrev pub position_text : Position → List ℕ
position_text p = codes "line " ++ (decimal p.line ++ (codes ", column " ++ decimal p.column))
