-- What a module imports.
use Rattle.std.specs.Prelude.{ℕ, List}
use Rattle.std.specs.List.{flat_map}
use Rattle.asn_tree_headers.specs.declared.headers.Import.{Import}

-- the imported names, over all imports in order (X.680 13.1)
abbrev pub imported : List Import → List (List ℕ)
imported imports = flat_map (λ i. i.types) imports
