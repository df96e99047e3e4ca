-- What the reading loop takes of a source.
use Rattle.std.specs.Prelude.{◌≤◌, List, ℕ, Option, length}
use Rattle.asn_streams.specs.Source.{Gives}

-- how many bytes are read at most: one more than a text may have
unfoldable pub limit : ℕ
limit = 2097153

-- some bytes, at most so many, stood first in what was left, and are gone from it
pub record LosesFront (most : ℕ) (before after : Option (List ℕ)) : Type 0 where
  pub taken : List ℕ
  pub given : Gives before taken after
  pub bounded : length taken ≤ most
