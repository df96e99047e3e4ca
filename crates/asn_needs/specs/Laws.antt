-- The laws of needs and faults.
use Rattle.std.specs.Prelude.{◌≡◌, ℕ, length}
use Rattle.asn_meaning.specs.Definitions.{Definitions}
use Rattle.asn_needs.specs.Faults.{Fault, FaultOf}
use Rattle.asn_needs.specs.Needs.{HasHeight, IsNode, NeedsNoCycle, nodes}
use Rattle.asn_needs.specs.Sites.{Seen, Node}

-- A definition or class's field from which no cycle is needed has a height, and one that is bounded by the number of nodes:
-- the bound is the same for every number of steps.
abbrev pub HeightExists : Type 0
HeightExists = (S : Seen) (x : Node) → IsNode S.defs x → NeedsNoCycle S x → HasHeight S (length (nodes S.defs)) x

-- What has a height needs no cycle.
abbrev pub HeightMeansNoCycle : Type 0
HeightMeansNoCycle = (S : Seen) (h : ℕ) (x : Node) → HasHeight S h x → NeedsNoCycle S x

-- A definition has at most one fault.
abbrev pub OneFault : Type 0
OneFault = (defs : Definitions) (x : Node) (k j : Fault) → FaultOf defs x k → FaultOf defs x j → k ≡ j
