-- What a graph of numbered nodes says: its edges, and what a node needs.
use Rattle.std.specs.Prelude.{◌≡◌, ℕ, ◌+◌, ◌<◌, ◌≤◌, ◌⊎◌, ◌↔◌, List, [], ◌∷◌, length, slice_index}

-- the targets of all edges, one node behind the other, and where the edges of each node start; one start more than nodes
pub record Edges : Type 0 where
  pub starts : List ℕ
  pub targets : List ℕ

-- the graph of these two lists
abbrev pub edges_of : List ℕ → List ℕ → Edges
edges_of starts targets = record { starts = starts; targets = targets }

-- x is a node of the graph
abbrev pub IsNode : Edges → ℕ → Type 0
IsNode g x = x + 1 < length g.starts

-- there is a first start, starts never fall, the last is at most the number of targets, and each target is a node
pub record IsGraph (g : Edges) : Type 0 where
  pub some_start : 0 < length g.starts
  pub never_falls : (x : ℕ) → IsNode g x → slice_index g.starts x ≤ slice_index g.starts (x + 1)
  pub within : (x : ℕ) → IsNode g x → slice_index g.starts (x + 1) ≤ length g.targets
  pub to_nodes : (k : ℕ) → k < length g.targets → IsNode g (slice_index g.targets k)

-- an edge of x leads to y: a target from the start of x up to the next start
pub record HasEdge (g : Edges) (x y : ℕ) : Type 0 where
  pub place : ℕ
  pub from : slice_index g.starts x ≤ place
  pub before : place < slice_index g.starts (x + 1)
  pub leads : slice_index g.targets place ≡ y

-- x needs y: edges lead from x to y in one step or more
pub data Needs (g : Edges) (x : ℕ) : ℕ → Type 0 where
  at_once : {y : ℕ} → HasEdge g x y → Needs g x y
  further : {y z : ℕ} → Needs g x y → HasEdge g y z → Needs g x z

-- x stands on a cycle
abbrev pub NeedsItself : Edges → ℕ → Type 0
NeedsItself g x = Needs g x x

-- neither x nor what it needs stands on a cycle
pub record NeedsNoCycle (g : Edges) (x : ℕ) : Type 0 where
  pub itself : NeedsItself g x → ⊥
  pub others : (y : ℕ) → Needs g x y → NeedsItself g y → ⊥

-- x and y are one component: one node, or each needs the other
abbrev pub AreOneComponent : Edges → ℕ → ℕ → Type 0
AreOneComponent g x y = (x ≡ y) ⊎ (Needs g x y × Needs g y x)

-- the number is in the list
abbrev pub Has : List ℕ → ℕ → Type 0
Has [] n = ⊥
Has (x ∷ xs) n = (n ≡ x) ⊎ Has xs n

-- no number is twice in the list
abbrev pub HasEachOnce : List ℕ → Type 0
HasEachOnce [] = Unit {0}
HasEachOnce (x ∷ xs) = (Has xs x → ⊥) × HasEachOnce xs

-- x stands in the list, and y behind it
abbrev pub StandsBefore : List ℕ → ℕ → ℕ → Type 0
StandsBefore [] x y = ⊥
StandsBefore (z ∷ zs) x y = ((x ≡ z) × Has zs y) ⊎ StandsBefore zs x y

-- an order of all nodes, needs first
pub record IsOrder (g : Edges) (order : List ℕ) : Type 0 where
  pub nodes : (x : ℕ) → Has order x ↔ IsNode g x
  pub once : HasEachOnce order
  pub needs_first : (x y : ℕ) → HasEdge g x y → (AreOneComponent g x y → ⊥) → StandsBefore order y x

-- an order of the nodes that need no cycle, needs first
pub record IsOrderOfFree (g : Edges) (order : List ℕ) : Type 0 where
  pub nodes : (x : ℕ) → Has order x ↔ (IsNode g x × NeedsNoCycle g x)
  pub once : HasEachOnce order
  pub needs_first : (x y : ℕ) → HasEdge g x y → Has order x → StandsBefore order y x

-- the edges of a graph, and the number of each node's component
pub record Numbering : Type 0 where
  pub edges : Edges
  pub numbers : List ℕ
