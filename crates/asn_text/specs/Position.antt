-- Lines and columns of a text, both counted from 1, as text editors count them. X.680 gives the places of a text no numbers.
use Rattle.std.specs.Prelude.{ℕ, ◌+◌, ◌==◌, Bool, List, length, take, count_by}
use Rattle.std.specs.List.{after_last}

-- a line feed, U+000A
abbrev pub is_line_feed : ℕ → Bool
is_line_feed byte = byte == 10

-- 1 plus the line feeds before the offset
unfoldable pub line_at : List ℕ → ℕ → ℕ
line_at text offset = 1 + count_by is_line_feed (take offset text)

-- 1 plus the bytes between the last line feed before the offset, or else the start of the text, and the offset
unfoldable pub column_at : List ℕ → ℕ → ℕ
column_at text offset = 1 + length (after_last is_line_feed (take offset text))
