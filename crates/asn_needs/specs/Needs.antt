-- Needs: the edges between definitions and fields of classes, and what a definition needs.
use Rattle.std.specs.Prelude.{◌≡◌, ◌⊎◌, ℕ, suc, List, [], ◌∷◌, map, Bool, true, false, is_some}
use Rattle.std.specs.List.{Contains}
use Rattle.asn_tree.specs.declared.definitions.ToplevelDefinition.{ToplevelDefinition}
use Rattle.asn_tree.specs.declared.definitions.ToplevelDefinition.TheVariants.{TypeDef, Value, Information}
use Rattle.asn_tree.specs.declared.objects.ASN1Information.{ASN1Information}
use Rattle.asn_tree.specs.declared.objects.ASN1Information.TheVariants.{ObjectClass, ObjectSet, Object}
use Rattle.asn_tree_notation.specs.Paths.{field_name}
use Rattle.asn_meaning.specs.Answers.{once}
use Rattle.asn_meaning.specs.Definitions.{Definitions, class_named}
use Rattle.asn_meaning.specs.Objects.{field_of}
use Rattle.asn_needs.specs.Edges.{edges_at}
use Rattle.asn_needs.specs.Sites.{Eventually, Seen, seen, Site, each_of, Node, ToDefinition, ToField}
use Rattle.asn_needs.specs.Stands.{IsPlaceOf}

-- ---- nodes

abbrev pub fields_in : List ℕ → ASN1Information → List Node
fields_in class (ObjectClass c) = map (λ f. ToField class (field_name f.identifier)) c.fields
fields_in class (ObjectSet set) = []
fields_in class (Object o) = []

abbrev pub nodes_in : ToplevelDefinition → List Node
nodes_in (TypeDef d) = ToDefinition d.name ∷ []
nodes_in (Value d) = ToDefinition d.name ∷ []
nodes_in (Information d) = ToDefinition d.name ∷ fields_in d.name d.value

-- the definitions, and the fields of classes
abbrev pub nodes : Definitions → List Node
nodes defs = each_of nodes_in defs

abbrev pub IsNode : Definitions → Node → Type 0
IsNode defs x = Contains (nodes defs) x

-- ---- edges

-- There is an edge from a definition or class's field to another, at one of its places.
pub record HasEdge (S : Seen) (x y : Node) : Type 0 where
  pub at : Site
  pub stands : IsPlaceOf S x at
  pub leads : Contains (edges_at S at) y
  pub is_node : IsNode S.defs y

-- A definition needs what its edges lead to, in one step or more.
pub data Needs (S : Seen) (x : Node) : Node → Type 0 where
  at_once : {y : Node} → HasEdge S x y → Needs S x y
  further : {y z : Node} → Needs S x y → HasEdge S y z → Needs S x z

abbrev pub NeedsItself : Seen → Node → Type 0
NeedsItself S x = Needs S x x

abbrev pub has_field : Definitions → List ℕ → List ℕ → Bool
has_field defs class name = once false (class_named defs class) (λ c. is_some (field_of c name))

-- A class needs itself where one of its fields does.
pub data IsCyclic (S : Seen) : Node → Type 0 where
  itself : {x : Node} → NeedsItself S x → IsCyclic S x
  by_field : {class name : List ℕ} → has_field S.defs class name ≡ true → NeedsItself S (ToField class name) → IsCyclic S (ToDefinition class)

-- A height in the order of needs: it is above the heights of all to which there is an edge. So it stands in some order behind
-- all that it needs.
pub data HasHeight (S : Seen) : ℕ → Node → Type 0 where
  above : {x : Node} {h : ℕ} → ((y : Node) → HasEdge S x y → HasHeight S h y) → HasHeight S (suc h) x

-- no cycle is needed from it
abbrev pub NeedsNoCycle : Seen → Node → Type 0
NeedsNoCycle S x = (y : Node) → (y ≡ x ⊎ Needs S x y) → NeedsItself S y → ⊥

-- the definition of the name has this height, from some number of steps on
abbrev pub NameHasHeight : Definitions → ℕ → List ℕ → Type 0
NameHasHeight defs h name = Eventually (λ n. HasHeight (seen defs n) h (ToDefinition name))
