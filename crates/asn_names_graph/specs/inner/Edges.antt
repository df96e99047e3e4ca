-- Edges that are added to the node that was begun last.
use Rattle.std.specs.Prelude.{◌≡◌, ◌↔◌, ◌⊎◌, ◌+◌, ℕ, List, length}
use Rattle.asn_names_graph.specs.Graphs.{Edges, HasEdge}
use Rattle.asn_names_graph.specs.Drawn.{IsMentioned}

-- the node that was begun last has, besides its edges, one to each name that is mentioned
pub record AddsEdges (names references : List (List ℕ)) (old new : Edges) : Type 0 where
  pub same : length new.starts ≡ length old.starts
  pub edges : (x y : ℕ) → HasEdge new x y ↔ (HasEdge old x y ⊎ ((x + 2 ≡ length old.starts) × IsMentioned names references y))
