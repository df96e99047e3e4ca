-- Paths of fields (X.681 14.1).
use Rattle.std.specs.Prelude.{ℕ, List, [], ◌∷◌, ◌++◌, codes}
use Rattle.asn_tree_leaves.specs.declared.objects.ObjectFieldIdentifier.{ObjectFieldIdentifier}
use Rattle.asn_tree_leaves.specs.declared.objects.ObjectFieldIdentifier.TheVariants.{SingleValue, MultipleValue}

-- the name with its `&`
abbrev pub field_name : ObjectFieldIdentifier → List ℕ
field_name (SingleValue name) = name
field_name (MultipleValue name) = name

-- each name with `$` before it
abbrev pub path_behind : List ObjectFieldIdentifier → List ℕ
path_behind [] = []
path_behind (field ∷ fields) = codes "$" ++ field_name field ++ path_behind fields

-- the names with `$` between
abbrev pub path : List ObjectFieldIdentifier → List ℕ
path [] = []
path (field ∷ fields) = field_name field ++ path_behind fields
