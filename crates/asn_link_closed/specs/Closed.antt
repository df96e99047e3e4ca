-- Which definitions are closed: linking made the type of each, and each name that stays in it is that of a closed one or has no
-- definition.
use Rattle.std.specs.Prelude.{◌++◌, ℕ, List, [], ◌∷◌, Bool, true, false, Option, Some, None, is_some, map}
use Rattle.std.specs.List.{list_any}
use Rattle.asn_tree.specs.declared.definitions.ToplevelDefinition.{ToplevelDefinition}
use Rattle.asn_tree.specs.declared.definitions.ToplevelDefinition.TheVariants.{TypeDef, Value, Information}
use Rattle.asn_tree.specs.declared.types.ASN1Type.{ASN1Type}
use Rattle.asn_names_graph.specs.Graphs.{Edges}
use Rattle.asn_names_graph.specs.Reach.{AreFree}
use Rattle.asn_names_index.specs.Definitions.{Definitions, name_of}
use Rattle.asn_names_graph.specs.Drawn.{IsDrawn}
use Rattle.asn_link_closed.specs.StayingNames.{StayingName, staying_names}

-- a name that stands alone
abbrev pub plain_name : StayingName → List (List ℕ)
plain_name x = elim x.0 [ None ↦ x.1 ∷ [] | Some object ↦ [] ]

-- those of these names that stand alone
abbrev pub plain_names : List StayingName → List (List ℕ)
plain_names [] = []
plain_names (x ∷ xs) = plain_name x ++ plain_names xs

abbrev pub is_field : StayingName → Bool
is_field x = is_some x.0

-- whether one of them stands behind the name of an object
abbrev pub has_field : List StayingName → Bool
has_field xs = list_any is_field xs

-- the names that stay in what linking made of a definition
abbrev pub names_left : Option ASN1Type → List StayingName
names_left None = []
names_left (Some ty) = staying_names ty

abbrev pub left_in : Option ASN1Type → List (List ℕ)
left_in made = plain_names (names_left made)

-- no type was made, or a field of an object stays in it
abbrev pub is_left_open : Option ASN1Type → Bool
is_left_open None = true
is_left_open (Some ty) = has_field (staying_names ty)

-- whether a definition is open: it is of a type, and that is left open
abbrev pub is_open : ToplevelDefinition → Option ASN1Type → Bool
is_open (TypeDef d) made = is_left_open made
is_open (Value d) made = false
is_open (Information d) made = false

-- for each definition in its turn
abbrev pub are_open : Definitions → List (Option ASN1Type) → List Bool
are_open [] made = []
are_open (d ∷ ds) [] = []
are_open (d ∷ ds) (m ∷ made) = is_open d m ∷ are_open ds made

-- In the graph of the names that stay in what was made, a definition is closed exactly if it is not open and leads to no open one.
pub record AreClosed (ds : Definitions) (made : List (Option ASN1Type)) (closed : List Bool) : Type 0 where
  pub graph : Edges
  pub drawn : IsDrawn (map name_of ds) (map left_in made) graph
  pub free : AreFree graph (are_open ds made) closed
