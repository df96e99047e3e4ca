-- How what is told of nodes goes back along edges.
use Rattle.std.specs.Prelude.{◌<◌, ℕ, suc, List, [], ◌∷◌, Bool, true, false, length, slice_index}
use Rattle.asn_names_graph.specs.Graphs.{Edges, HasEdge}
use Rattle.asn_names_graph.specs.Reach.{IsMarked, LeadsToMarked}

-- an edge of the node leads to one that is told
abbrev pub LeadsOn : Edges → List Bool → ℕ → Type 0
LeadsOn g told x = (y : ℕ) × HasEdge g x y × IsMarked told y

-- what was told is, and what is told led to what was
pub record AreSpread (g : Edges) (before told : List Bool) : Type 0 where
  pub stays : (x : ℕ) → IsMarked before x → IsMarked told x
  pub led : (x : ℕ) → IsMarked told x → LeadsToMarked g before x

-- each node of the order that leads to one which is told is told itself
abbrev pub IsClosed : Edges → List ℕ → List Bool → Type 0
IsClosed g order told = (i : ℕ) → i < length order → LeadsOn g told (slice_index order i) → IsMarked told (slice_index order i)

-- how many are not told
abbrev pub missing : List Bool → ℕ
missing [] = 0
missing (true ∷ told) = missing told
missing (false ∷ told) = suc (missing told)
