-- Names of which it is told whether each leads to no circle.
use Rattle.std.specs.Prelude.{◌↔◌, ℕ, List, Bool, Contains, IsSome, IsTrue}
use Rattle.std.specs.List.{AllZip}
use Rattle.asn_names_index.specs.Definitions.{Definitions, last_named}
use Rattle.asn_names_circles.specs.Circles.{FollowedAreFree, FreeAre, LeadsToNoCircle}
use Rattle.asn_names_graph.specs.Drawn.{Ascend, StandsAt}

-- these names ascend, each that has a definition is among them, and it is told of each whether it leads to no circle
pub record AreTold (defs : Definitions) (names : List (List ℕ)) (free : List Bool) : Type 0 where
  pub ascending : Ascend names
  pub complete : (name : List ℕ) → IsSome (last_named defs name) → (place : ℕ) × StandsAt names name place
  pub told : FreeAre defs names free

-- none of these names leads to a circle
abbrev pub AreAllFree : Definitions → List (List ℕ) → Type 0
AreAllFree defs names = (y : List ℕ) → Contains names y → LeadsToNoCircle defs y

-- for each definition in its turn, whether it follows none that leads to a circle
abbrev pub FollowEach : Definitions → Definitions → List Bool → Type 0
FollowEach defs = AllZip (λ d is_free. IsTrue is_free ↔ FollowedAreFree defs d)
