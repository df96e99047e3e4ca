-- What is known of a source or a sink at one moment.
use Rattle.std.specs.Prelude.{List, ℕ, Option}

-- The state of a source or a sink: the bytes that a source has left, or that a sink has taken, where it tells them, and
-- how often it has failed. The count of faults never falls.
pub record StreamState : Type 0 where
  pub bytes : Option (List ℕ)
  pub faults : ℕ
