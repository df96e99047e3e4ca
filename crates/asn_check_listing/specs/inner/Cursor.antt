-- The names after COMPONENTS OF, gone through one by one.
use Rattle.std.specs.Prelude.{ℕ, List, [], ◌∷◌, Bool, Option, Some, None, if◌then◌else◌}
use Rattle.asn_check_listing.specs.Parts.{Letters}
use Rattle.asn_check_listing.specs.Types.{Included, stands_here}

-- the first of these names, where it stands behind so many members, among the additions or not
abbrev pub name_here : Bool → ℕ → List Included → Option Letters
name_here additional n [] = None
name_here additional n (c ∷ cs) = if stands_here additional n c.1 then Some c.0 else None
