-- How texts are put together.
use Rattle.std.specs.Prelude.{ℕ, ◌+◌, List, [], ◌∷◌, ◌++◌, Bool, true, false, Option, Some, None, codes, nat_eq, if◌then◌else◌}

abbrev pub Letters : Type 0
Letters = List ℕ

abbrev pub either : Bool → Letters → Letters → Letters
either b one other = if b then one else other

abbrev pub when : Bool → Letters → Letters
when b text = either b text []

-- what stands before and behind a text, where there is one
abbrev pub around : Letters → Option Letters → Letters → Letters
around before None behind = []
around before (Some text) behind = before ++ text ++ behind

-- texts one behind the other
abbrev pub joined : List Letters → Letters
joined [] = []
joined (x ∷ xs) = x ++ joined xs

-- a text behind a word
abbrev pub behind : Letters → Letters → Letters
behind word text = word ++ text

-- a word with constraints behind it
abbrev pub constrained : Letters → List Letters → Letters
constrained word cs = word ++ joined cs

-- the first of the texts behind this, each further one behind that
abbrev pub led : Letters → Letters → Bool → List Letters → Letters
led opening between first [] = []
led opening between first (x ∷ xs) = either first opening between ++ x ++ led opening between false xs

-- whether nothing stands before what stands behind these texts
abbrev pub nothing : Bool → List Letters → Bool
nothing first [] = first
nothing first (x ∷ xs) = false

-- between each two of the texts stands this
abbrev pub parted : Letters → List Letters → Letters
parted between xs = led [] between true xs

-- texts in braces, parted by commas
abbrev pub listed : List Letters → Letters
listed xs = codes "{" ++ parted (codes ", ") xs ++ codes "}"

-- the same with a space inside each brace, and behind a space
abbrev pub closing : Bool → Letters
closing none = either none (codes " {}") (codes " }")

abbrev pub braced : List Letters → Letters
braced xs = led (codes " { ") (codes ", ") true xs ++ closing (nothing true xs)

-- the extension marker, where it stands behind so many
abbrev pub marker_at : Option ℕ → ℕ → List Letters
marker_at None n = []
marker_at (Some m) n = if nat_eq m n then codes "..." ∷ [] else []

-- texts with what stands before each and behind the last, by how many stand before it, where so many stand before these
abbrev pub among : (ℕ → List Letters) → ℕ → List Letters → List Letters
among before n [] = before n
among before n (x ∷ xs) = before n ++ x ∷ among before (n + 1) xs

-- texts with the extension marker at its place, where so many stand before the first of them
abbrev pub with_marker : Option ℕ → ℕ → List Letters → List Letters
with_marker marker n xs = among (marker_at marker) n xs
