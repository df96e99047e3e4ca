-- What is seen of the parts of trees that are compared.
use Rattle.std.specs.Prelude.{ℕ, Bool, true, false, ◌&&◌, ◌||◌, List, [], ◌∷◌, take, Some, None}
use Rattle.asn_tree_headers.specs.declared.headers.ObjectIdentifierArc.{ObjectIdentifierArc}
use Rattle.asn_meaning_shapes.specs.declared.trees.Field.{Field, out-Field}
use Rattle.asn_meaning.specs.ValueTrees.{ValueTree, Fields, field_named, same_tree}

-- whether the lists are of one length, and each two items at one place pass the test
abbrev pub in_pairs : {A B : Type 0} → (A → B → Bool) → List A → List B → Bool
in_pairs test [] [] = true
in_pairs test [] (y ∷ ys) = false
in_pairs test (x ∷ xs) [] = false
in_pairs test (x ∷ xs) (y ∷ ys) = test x y && in_pairs test xs ys

-- the name of an arc without a number
abbrev pub arc_name : ObjectIdentifierArc → List ℕ
arc_name a = elim a.name [ Some name ↦ name | None ↦ [] ]

-- the names of the fields, the last first, before these
abbrev pub names_behind : List (List ℕ) → List Field → List (List ℕ)
names_behind names [] = names
names_behind names (f ∷ fs) = names_behind ((out-Field f).name ∷ names) fs

-- the names of so many fields, the last first
abbrev pub seen : List Field → ℕ → List (List ℕ)
seen fs number = names_behind [] (take number fs)

-- whether a field's name was seen before, or the field is the same there
abbrev pub is_same_field : Bool → List ℕ → ValueTree → Fields → Bool
is_same_field is_again name t gs = is_again || elim (field_named gs name) [ Some u ↦ same_tree t u | None ↦ false ]
