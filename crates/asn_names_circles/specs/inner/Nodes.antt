-- What is told of the nodes of graphs of names.
use Rattle.std.specs.Prelude.{◌≡◌, ◌↔◌, ◌<◌, ◌⊎◌, ℕ, Bool, List, [], false, length, Contains, IsTrue, slice_index_or}
use Rattle.asn_names_graph.specs.Graphs.{AreOneComponent, Edges, NeedsItself}
use Rattle.asn_tree.specs.declared.definitions.ToplevelDefinition.{ToplevelDefinition}
use Rattle.asn_names_index.specs.Definitions.{Definitions}
use Rattle.asn_names_references.specs.References.{Names}
use Rattle.asn_names_graph.specs.Drawn.{StandsAt}
use Rattle.asn_meaning_unchanged.specs.Unchanged.{is_unchanged}
use Rattle.asn_names_circles.specs.Circles.{opening}

-- the name stands at a node that is of one component with this one
pub record IsBack (g : Edges) (names : Names) (x : ℕ) (name : List ℕ) : Type 0 where
  pub node : ℕ
  pub stands : StandsAt names name node
  pub one : AreOneComponent g x node

-- so does one of these names
pub record IsAnyBack (g : Edges) (names : Names) (x : ℕ) (several : Names) : Type 0 where
  pub name : List ℕ
  pub among : Contains several name
  pub back : IsBack g names x name

-- linking changes the definition of the node, which is on a cycle of the graph of what leads on, or a name by which one may come from it to
-- any name stands at a node of one component with it
abbrev pub IsCircularAt : Edges → Edges → Names → ℕ → Bool → ToplevelDefinition → Type 0
IsCircularAt on g names x is_gentle d = (is_unchanged d ≡ false) × (NeedsItself on x ⊎ IsAnyBack g names x (opening is_gentle d))

-- for each node, whether its definition is so; it is told of each whether it is gentle
pub record AreCircular (on g : Edges) (names : Names) (definitions : Definitions) (gentle marked : List Bool) : Type 0 where
  pub long : length marked ≡ length definitions
  pub each : (x : ℕ) (d : ToplevelDefinition) → x < length definitions →
      (IsTrue (slice_index_or marked x false) ↔ IsCircularAt on g names x (slice_index_or gentle x false) (slice_index_or definitions x d))

-- for each definition names that are such of it
pub record AreEach (Are : List ℕ → ToplevelDefinition → Names → Type 0) (names : Names) (definitions : Definitions) (lists : List Names) : Type 0 where
  pub long : length lists ≡ length definitions
  pub each : (x : ℕ) (d : ToplevelDefinition) → x < length definitions → Are (slice_index_or names x []) (slice_index_or definitions x d) (slice_index_or lists x [])
