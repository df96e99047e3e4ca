-- What a sink takes. The bytes that it has taken are an option: where it tells none, nothing is claimed of them.
use Rattle.std.specs.Prelude.{◌≡◌, ◌++◌, List, ℕ, Option, Some, option_map}

-- What is told after is what was told before, and then these bytes. A sink may stop telling, and never begins to.
pub record Takes (before : Option (List ℕ)) (bytes : List ℕ) (after : Option (List ℕ)) : Type 0 where
  pub last : (all : List ℕ) → after ≡ Some all → option_map (λ taken. taken ++ bytes) before ≡ Some all
