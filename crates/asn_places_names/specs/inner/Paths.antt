-- The mark between the names of a path.
use Rattle.std.specs.Prelude.{ℕ, List, [], ◌∷◌, Bool, false}
use Rattle.asn_needs.specs.Occurrences.{begins_field}

-- whether the bytes begin with `.&`
abbrev pub begins_mark : List ℕ → Bool
begins_mark [] = false
begins_mark (c ∷ name) = begins_field c name
