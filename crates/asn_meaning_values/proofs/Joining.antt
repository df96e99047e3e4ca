-- Parts put together, one by one.
use Rattle.std.proofs.Common.{◌≡◌, ℕ, List, [], ◌∷◌, ◌++◌, map, refl, ap, ◌∙◌}
use Rattle.asn_meaning_shapes.specs.declared.trees.Field.{Field}
use Rattle.asn_meaning_shapes.specs.declared.trees.Tree.{Tree}
use Rattle.asn_meaning_shapes.specs.Trees.{Named, fields, shown_field, shown_tree, trees}
use Rattle.asn_meaning_values.proofs.Listing.{together}
use Rattle.asn_meaning_values.specs.inner.Gathering.{elements_of, struct_of, with_element, with_part}
use Rattle.asn_meaning_values.specs.inner.Values.{made_elements, made_parts}
use Rattle.asn_meaning.specs.Answers.{Denotation, Denoted, Nothing, Unsure, made_of, together as both_of}
use Rattle.asn_meaning.specs.ValueTrees.{ValueTree, Struct, Elements, Fields, no_field, field, ValueTrees, no_tree, tree}

-- ---- lists

pub one_field_more : (all fs : List Field) (f : Field) (name : List ℕ) (t : ValueTree) → all ≡ fs ++ f ∷ [] → shown_field f ≡ (name, t) →
    map shown_field all ≡ map shown_field fs ++ (name, t) ∷ []
one_field_more all fs f name t e is = ap (map shown_field) e ∙ together shown_field fs (f ∷ []) ∙ ap (λ (x : Named). map shown_field fs ++ x ∷ []) is

pub one_element_more : (all ts : List Tree) (t : Tree) → all ≡ ts ++ t ∷ [] → map shown_tree all ≡ map shown_tree ts ++ shown_tree t ∷ []
one_element_more all ts t e = ap (map shown_tree) e ∙ together shown_tree ts (t ∷ [])

-- ---- what is denoted of three parts

pub regrouped : {A B C D E F : Type 0} (f : A → B → C) (g : C → D → F) (h : B → D → E) (k : A → E → F) → ((x : A) (y : B) (z : D) → g (f x y) z ≡ k x (h y z)) →
    (a : Denotation A) (b : Denotation B) (d : Denotation D) → both_of g (both_of f a b) d ≡ both_of k a (both_of h b d)
regrouped f g h k e Nothing b d = refl
regrouped f g h k e (Denoted x) Nothing d = refl
regrouped f g h k e (Denoted x) (Denoted y) Nothing = refl
regrouped f g h k e (Denoted x) (Denoted y) (Denoted z) = ap Denoted (e x y z)
regrouped f g h k e (Denoted x) (Denoted y) Unsure = refl
regrouped f g h k e (Denoted x) Unsure Nothing = refl
regrouped f g h k e (Denoted x) Unsure (Denoted z) = refl
regrouped f g h k e (Denoted x) Unsure Unsure = refl
regrouped f g h k e Unsure Nothing d = refl
regrouped f g h k e Unsure (Denoted y) Nothing = refl
regrouped f g h k e Unsure (Denoted y) (Denoted z) = refl
regrouped f g h k e Unsure (Denoted y) Unsure = refl
regrouped f g h k e Unsure Unsure Nothing = refl
regrouped f g h k e Unsure Unsure (Denoted z) = refl
regrouped f g h k e Unsure Unsure Unsure = refl

-- ---- fields

-- these fields before those
abbrev pub ahead : List Named → Fields → Fields
ahead [] fs = fs
ahead (part ∷ parts) fs = field part.0 part.1 (ahead parts fs)

one_ahead : (parts : List Named) (name : List ℕ) (t : ValueTree) (fs : Fields) → ahead (with_part name parts t) fs ≡ ahead parts (field name t fs)
one_ahead [] name t fs = refl
one_ahead (part ∷ parts) name t fs = ap (λ gs. field part.0 part.1 gs) (one_ahead parts name t fs)

none_behind : (parts : List Named) → ahead parts no_field ≡ fields parts
none_behind [] = refl
none_behind (part ∷ parts) = ap (λ gs. field part.0 part.1 gs) (none_behind parts)

pub parts_begin : (d : Denotation Fields) → both_of ahead (Denoted []) d ≡ d
parts_begin (Denoted fs) = refl
parts_begin Nothing = refl
parts_begin Unsure = refl

pub parts_next : (name : List ℕ) (a : Denotation (List Named)) (b : Denotation ValueTree) (d : Denotation Fields) →
    both_of ahead (both_of (with_part name) a b) d ≡ both_of ahead a (both_of (field name) b d)
parts_next name a b d = regrouped (with_part name) ahead (field name) ahead (λ parts t fs. one_ahead parts name t fs) a b d

pub parts_done : (a : Denotation (List Named)) → both_of ahead a (Denoted no_field) ≡ made_parts a
parts_done (Denoted parts) = ap Denoted (none_behind parts)
parts_done Nothing = refl
parts_done Unsure = refl

pub struct_made : (a : Denotation (List Named)) → made_of struct_of a ≡ made_of Struct (made_parts a)
struct_made (Denoted parts) = refl
struct_made Nothing = refl
struct_made Unsure = refl

-- ---- elements

-- these elements before those
abbrev pub in_front : List ValueTree → ValueTrees → ValueTrees
in_front [] ts = ts
in_front (t ∷ us) ts = tree t (in_front us ts)

one_in_front : (us : List ValueTree) (t : ValueTree) (ts : ValueTrees) → in_front (with_element us t) ts ≡ in_front us (tree t ts)
one_in_front [] t ts = refl
one_in_front (u ∷ us) t ts = ap (tree u) (one_in_front us t ts)

no_tree_behind : (us : List ValueTree) → in_front us no_tree ≡ trees us
no_tree_behind [] = refl
no_tree_behind (u ∷ us) = ap (tree u) (no_tree_behind us)

pub trees_begin : (d : Denotation ValueTrees) → both_of in_front (Denoted []) d ≡ d
trees_begin (Denoted ts) = refl
trees_begin Nothing = refl
trees_begin Unsure = refl

pub trees_next : (a : Denotation (List ValueTree)) (b : Denotation ValueTree) (d : Denotation ValueTrees) →
    both_of in_front (both_of with_element a b) d ≡ both_of in_front a (both_of tree b d)
trees_next a b d = regrouped with_element in_front tree in_front (λ us t ts. one_in_front us t ts) a b d

pub trees_done : (a : Denotation (List ValueTree)) → both_of in_front a (Denoted no_tree) ≡ made_elements a
trees_done (Denoted us) = ap Denoted (no_tree_behind us)
trees_done Nothing = refl
trees_done Unsure = refl

pub list_made : (a : Denotation (List ValueTree)) → made_of elements_of a ≡ made_of Elements (made_elements a)
list_made (Denoted us) = refl
list_made Nothing = refl
list_made Unsure = refl
