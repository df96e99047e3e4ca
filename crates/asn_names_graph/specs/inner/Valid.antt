-- What is true of a search between two steps.
use Rattle.std.specs.Prelude.{◌≡◌, ℕ, ◌+◌, ◌-◌, ◌<◌, ◌≤◌, ◌*◌, List, [], ◌∷◌, length, drop, slice_index}
use Rattle.asn_names_graph.specs.Graphs.{Edges, Has, HasEdge, IsNode}
use Rattle.asn_names_graph.specs.declared.mark.Mark.{Mark}
use Rattle.asn_names_graph.specs.declared.mark.Mark.TheVariants.{New, OnPath, Done}
use Rattle.asn_names_graph.specs.inner.State.{State, mark_of}

-- x is y, or needs it
pub data Leads (g : Edges) (x : ℕ) : ℕ → Type 0 where
  here : Leads g x x
  onward : {y z : ℕ} → Leads g x y → HasEdge g y z → Leads g x z

-- each number is above all that stand behind it
abbrev pub Descends : List ℕ → Type 0
Descends [] = Unit {0}
Descends (x ∷ xs) = ((n : ℕ) → Has xs n → n < x) × Descends xs

-- no part begins between the two places
abbrev pub SamePart : List ℕ → ℕ → ℕ → Type 0
SamePart bounds p q = (b : ℕ) → Has bounds b → (b ≤ p → b ≤ q) × (b ≤ q → b ≤ p)

-- where an edge leads that was passed at a place of the path: to a node that is done, or into the same part
pub data Handled (marks : List Mark) (bounds : List ℕ) (p y : ℕ) : Type 0 where
  to_done : (c : ℕ) → mark_of marks y ≡ Done c → Handled marks bounds p y
  to_part : (q : ℕ) → mark_of marks y ≡ OnPath q → SamePart bounds p q → Handled marks bounds p y

-- y came out with a number that is at most c
pub record DoneBy (marks : List Mark) (y c : ℕ) : Type 0 where
  pub part : ℕ
  pub mark : mark_of marks y ≡ Done part
  pub bounded : part ≤ c

-- y stands in the list
pub record StandsIn (order : List ℕ) (y : ℕ) : Type 0 where
  pub place : ℕ
  pub within : place < length order
  pub stands : slice_index order place ≡ y

-- marks, path and counters agree
pub record Tidy (g : Edges) (marks : List Mark) (next path : List ℕ) : Type 0 where
  pub marks_length : length marks ≡ length g.starts
  pub next_length : length next ≡ length g.starts
  pub nodes : (p : ℕ) → p < length path → IsNode g (slice_index path p)
  pub standing : (p : ℕ) → p < length path → mark_of marks (slice_index path p) ≡ OnPath p
  pub placed : (y p : ℕ) → mark_of marks y ≡ OnPath p → p < length path
  pub stands : (y p : ℕ) → mark_of marks y ≡ OnPath p → slice_index path p ≡ y
  pub fresh : (y : ℕ) → mark_of marks y ≡ New → slice_index next y ≡ slice_index g.starts y
  pub not_before : (y : ℕ) → slice_index g.starts y ≤ slice_index next y
  pub not_past : (y : ℕ) → IsNode g y → slice_index next y ≤ slice_index g.starts (y + 1)

-- calls and bounds are places of the path, from high to low; where no call is, all edges were passed
pub record Stacked (g : Edges) (marks : List Mark) (next path calls bounds : List ℕ) : Type 0 where
  pub finished : (x p : ℕ) → mark_of marks x ≡ OnPath p → (Has calls p → ⊥) → slice_index next x ≡ slice_index g.starts (x + 1)
  pub called : (b : ℕ) → Has bounds b → Has calls b
  pub calls_down : Descends calls
  pub bounds_down : Descends bounds
  pub calls_within : (b : ℕ) → Has calls b → b < length path
  pub bottom : 0 < length path → Has bounds 0

-- what the path says of needs
pub record Linked (g : Edges) (marks : List Mark) (next bounds : List ℕ) : Type 0 where
  pub later : (x y p q : ℕ) → mark_of marks x ≡ OnPath p → mark_of marks y ≡ OnPath q → p ≤ q → Leads g x y
  pub same : (x y p q : ℕ) → mark_of marks x ≡ OnPath p → mark_of marks y ≡ OnPath q → SamePart bounds p q → Leads g x y
  pub handled : (x p k : ℕ) → mark_of marks x ≡ OnPath p → slice_index g.starts x ≤ k → k < slice_index next x → Handled marks bounds p (slice_index g.targets k)

-- what came out
pub record Sorted (g : Edges) (marks : List Mark) (order : List ℕ) : Type 0 where
  pub edges : (x y c : ℕ) → mark_of marks x ≡ Done c → HasEdge g x y → DoneBy marks y c
  pub one_part : (x y c : ℕ) → mark_of marks x ≡ Done c → mark_of marks y ≡ Done c → Leads g x y
  pub out : (y c : ℕ) → mark_of marks y ≡ Done c → StandsIn order y
  pub numbers_below : (y c : ℕ) → mark_of marks y ≡ Done c → c < length order
  pub order_nodes : (i : ℕ) → i < length order → IsNode g (slice_index order i)
  pub order_done : (i : ℕ) → i < length order → DoneBy marks (slice_index order i) i
  pub order_rises : (i j c d : ℕ) → i ≤ j → j < length order → mark_of marks (slice_index order i) ≡ Done c → mark_of marks (slice_index order j) ≡ Done d → c ≤ d
  pub order_once : (i j : ℕ) → i < j → j < length order → slice_index order i ≡ slice_index order j → ⊥

pub record Valid (g : Edges) (s : State) : Type 0 where
  pub tidy : Tidy g s.marks s.next s.path
  pub stacked : Stacked g s.marks s.next s.path s.calls s.bounds
  pub linked : Linked g s.marks s.next s.bounds
  pub sorted : Sorted g s.marks s.order

-- edges that are left
abbrev pub edges_left : List ℕ → List ℕ → ℕ
edges_left [] ks = 0
edges_left (e ∷ es) [] = 0
edges_left (e ∷ es) (k ∷ ks) = (e - k) + edges_left es ks

abbrev pub one_if_new : Mark → ℕ
one_if_new New = 1
one_if_new (OnPath p) = 0
one_if_new (Done c) = 0

-- how many nodes are new
abbrev pub new_count : List Mark → ℕ
new_count [] = 0
new_count (m ∷ ms) = one_if_new m + new_count ms

-- the steps that may be left
abbrev pub work_left : Edges → State → ℕ
work_left g s = 2 * new_count s.marks + edges_left (drop 1 g.starts) s.next + length s.calls

-- a node that was met stays met
abbrev pub Known : State → State → Type 0
Known old new = (y : ℕ) → (mark_of old.marks y ≡ New → ⊥) → mark_of new.marks y ≡ New → ⊥

-- a step keeps what is true of a search, forgets no node, and leaves less to do
pub record StepsOn (g : Edges) (old new : State) : Type 0 where
  pub valid : Valid g new
  pub known : Known old new
  pub less : work_left g new < work_left g old

-- the steps from one node came to their end
pub record Returns (g : Edges) (old new : State) : Type 0 where
  pub valid : Valid g new
  pub known : Known old new
  pub no_call : new.calls ≡ []

-- the node was met, with all that it leads to, and nothing is at work any more
pub record Reaches (g : Edges) (old new : State) (x : ℕ) : Type 0 where
  pub valid : Valid g new
  pub known : Known old new
  pub no_call : new.calls ≡ []
  pub met : mark_of new.marks x ≡ New → ⊥

-- each node came out
pub record AllOut (g : Edges) (s : State) : Type 0 where
  pub marks_length : length s.marks ≡ length g.starts
  pub sorted : Sorted g s.marks s.order
  pub met : (y : ℕ) → IsNode g y → mark_of s.marks y ≡ New → ⊥
  pub off_path : (y p : ℕ) → mark_of s.marks y ≡ OnPath p → ⊥
