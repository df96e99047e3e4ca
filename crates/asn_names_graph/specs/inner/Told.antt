-- What the tables of a graph's components say.
use Rattle.std.specs.Prelude.{◌≡◌, ℕ, ◌+◌, ◌≤◌, ◌↔◌, Bool, false, IsTrue, List, length, slice_index, slice_index_or}
use Rattle.asn_names_graph.specs.Graphs.{AreOneComponent, Edges, HasEdge, IsNode, IsOrder, IsOrderOfFree, NeedsItself, NeedsNoCycle}

pub record IsTold (g : Edges) (numbers order free_order : List ℕ) (cyclic free : List Bool) : Type 0 where
  pub numbers_long : length numbers ≡ length g.starts
  pub cyclic_long : length cyclic + 1 ≡ length g.starts
  pub free_long : length free ≡ length g.starts
  pub itself : (x : ℕ) → IsNode g x → (IsTrue (slice_index_or cyclic x false) ↔ NeedsItself g x)
  pub no_cycle : (x : ℕ) → IsNode g x → (IsTrue (slice_index_or free x false) ↔ NeedsNoCycle g x)
  pub one : (x y : ℕ) → IsNode g x → IsNode g y → ((slice_index numbers x ≡ slice_index numbers y) ↔ AreOneComponent g x y)
  pub falls : (x y : ℕ) → HasEdge g x y → slice_index numbers y ≤ slice_index numbers x
  pub in_order : IsOrder g order
  pub in_free_order : IsOrderOfFree g free_order
