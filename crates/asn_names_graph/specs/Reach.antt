-- Which nodes of a graph lead to a marked one.
use Rattle.std.specs.Prelude.{◌≡◌, ◌↔◌, ◌⊎◌, ◌+◌, ◌<◌, ℕ, List, Bool, false, length, IsTrue, slice_index_or}
use Rattle.asn_names_graph.specs.Graphs.{Edges, IsNode, Needs}

-- the node is marked
abbrev pub IsMarked : List Bool → ℕ → Type 0
IsMarked marked x = IsTrue (slice_index_or marked x false)

-- the node is marked, or needs a marked one: edges lead to it in one step or more
abbrev pub LeadsToMarked : Edges → List Bool → ℕ → Type 0
LeadsToMarked g marked x = IsMarked marked x ⊎ ((y : ℕ) × Needs g x y × IsMarked marked y)

-- for each node, whether it leads to a marked one
pub record AreLeading (g : Edges) (marked told : List Bool) : Type 0 where
  pub long : length told + 1 ≡ length g.starts
  pub each : (x : ℕ) → IsNode g x → (IsTrue (slice_index_or told x false) ↔ LeadsToMarked g marked x)

-- for each node, whether it leads to no marked one
pub record AreFree (g : Edges) (marked free : List Bool) : Type 0 where
  pub long : length free + 1 ≡ length g.starts
  pub each : (x : ℕ) → x < length free → (IsTrue (slice_index_or free x false) ↔ (LeadsToMarked g marked x → ⊥))
