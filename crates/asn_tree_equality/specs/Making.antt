-- What constructors of several families do with a part.
use Rattle.std.specs.Prelude.{ℕ, List, [], ◌∷◌, ◌++◌, Option, unwrap_or, Bool, true, false, if◌then◌else◌}
use Rattle.std.specs.Option.{option_map}

-- the items of a list that may be absent: then there are none
abbrev pub listed : {T : Type 0} → Option (List T) → List T
listed list = unwrap_or list []

-- where a marker stands, how many items stand before it
abbrev pub marked : {M : Type 0} → Option M → ℕ → Option ℕ
marked marker count = option_map (λ _. count) marker

-- lines with a line feed between any two; the flag says that none has been written yet
abbrev pub lines_from : Bool → List (List ℕ) → List ℕ
lines_from first [] = []
lines_from first (line ∷ lines) = (if first then [] else (10 ∷ [])) ++ line ++ lines_from false lines

-- lines joined by line feeds
abbrev pub lines_joined : List (List ℕ) → List ℕ
lines_joined = lines_from true
