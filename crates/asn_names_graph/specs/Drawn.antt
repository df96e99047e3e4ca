-- The graph of names: a node for each, and an edge to each of them that it mentions.
use Rattle.std.specs.Prelude.{◌≡◌, ◌↔◌, ◌⊎◌, ◌<◌, ◌+◌, ℕ, List, [], length, Contains, slice_index_or}
use Rattle.std.specs.Cmp.Lexicographic.{slice_cmp}
use Rattle.std.specs.List.Sorted.{IsStrictlySortedBy}
use Rattle.std.specs.Ordering.{nat_cmp}
use Rattle.asn_names_graph.specs.Graphs.{Edges, HasEdge}

-- each name is above those before it, in byte order
abbrev pub Ascend : List (List ℕ) → Type 0
Ascend = IsStrictlySortedBy (slice_cmp nat_cmp)

-- the name stands at the place
pub record StandsAt (names : List (List ℕ)) (name : List ℕ) (place : ℕ) : Type 0 where
  pub within : place < length names
  pub is : slice_index_or names place [] ≡ name

-- the name at the place is among the references
pub record IsMentioned (names references : List (List ℕ)) (place : ℕ) : Type 0 where
  pub within : place < length names
  pub among : Contains references (slice_index_or names place [])

-- there is one node more, with an edge to each name that is mentioned
pub record AddsNode (names references : List (List ℕ)) (old new : Edges) : Type 0 where
  pub more : length new.starts ≡ length old.starts + 1
  pub edges : (x y : ℕ) → HasEdge new x y ↔ (HasEdge old x y ⊎ ((x + 1 ≡ length old.starts) × IsMentioned names references y))

-- a node for each list of references, with an edge to each name that it mentions
pub record IsDrawn (names : List (List ℕ)) (mentions : List (List (List ℕ))) (g : Edges) : Type 0 where
  pub long : length g.starts ≡ length mentions + 1
  pub edges : (x y : ℕ) → HasEdge g x y ↔ IsMentioned names (slice_index_or mentions x []) y
