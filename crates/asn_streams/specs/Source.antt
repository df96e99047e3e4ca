-- What a source gives. The bytes that it has left are an option: where it tells none, nothing is claimed of them.
use Rattle.std.specs.Prelude.{◌≡◌, ◌++◌, List, ℕ, Option, option_map}

-- The bytes stood first in what was left, and are gone from it. What is left is told after exactly where it was before.
pub record Gives (before : Option (List ℕ)) (bytes : List ℕ) (after : Option (List ℕ)) : Type 0 where
  pub first : before ≡ option_map (λ rest. bytes ++ rest) after
