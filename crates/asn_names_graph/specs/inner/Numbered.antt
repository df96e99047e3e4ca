-- What the numbers of components say of a graph, and what loops over edges find.
use Rattle.std.specs.Prelude.{◌≡◌, ℕ, ◌<◌, ◌≤◌, IsTrue, Bool, false, List, length, slice_index, slice_index_or}
use Rattle.asn_names_graph.specs.Graphs.{Edges, HasEdge, IsNode}
use Rattle.asn_names_graph.specs.declared.mark.Mark.{Mark}
use Rattle.asn_names_graph.specs.declared.mark.Mark.TheVariants.{New, OnPath, Done}
use Rattle.asn_names_graph.specs.inner.Valid.{Leads, StandsIn}

-- the number of a node's component
abbrev pub number_in : Mark → ℕ
number_in New = 0
number_in (OnPath p) = 0
number_in (Done c) = c

-- the numbers and the order that a search gave
pub record Numbered (g : Edges) (numbers order : List ℕ) : Type 0 where
  pub length_is : length numbers ≡ length g.starts
  pub falls : (x y : ℕ) → HasEdge g x y → slice_index numbers y ≤ slice_index numbers x
  pub one : (x y : ℕ) → IsNode g x → IsNode g y → slice_index numbers x ≡ slice_index numbers y → Leads g x y
  pub nodes : (i : ℕ) → i < length order → IsNode g (slice_index order i)
  pub out : (x : ℕ) → IsNode g x → StandsIn order x
  pub rises : (i j : ℕ) → i ≤ j → j < length order → slice_index numbers (slice_index order i) ≤ slice_index numbers (slice_index order j)
  pub once : (i j : ℕ) → i < j → j < length order → slice_index order i ≡ slice_index order j → ⊥

-- an edge leads to a node with the same number
pub record ReturnsTo (g : Edges) (numbers : List ℕ) (x : ℕ) : Type 0 where
  pub target : ℕ
  pub edge : HasEdge g x target
  pub same : slice_index numbers target ≡ slice_index numbers x

-- each edge leads to a free node with another number
pub record LeadsToFree (g : Edges) (numbers : List ℕ) (free : List Bool) (x : ℕ) : Type 0 where
  pub other : (y : ℕ) → HasEdge g x y → slice_index numbers y ≡ slice_index numbers x → ⊥
  pub free_too : (y : ℕ) → HasEdge g x y → IsTrue (slice_index_or free y false)
