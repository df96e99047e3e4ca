-- The error lines that have numbers in them.
use Rattle.std.specs.Prelude.{ℕ, List, ◌++◌, codes}
use Rattle.std.specs.Fmt.{decimal}

-- where a text stops to match, both counted from 1
abbrev pub matching_line : ℕ → ℕ → List ℕ
matching_line line column = codes "error matching line " ++ decimal line ++ codes " column " ++ decimal column ++ codes "\n"

-- the depth that a text goes past
abbrev pub depth_line : ℕ → List ℕ
depth_line depth = codes "error depth " ++ decimal depth ++ codes "\n"
