-- Starts that are in order.
use Rattle.std.specs.Prelude.{◌≡◌, ℕ, ◌+◌, ◌-◌, ◌<◌, ◌≤◌, List, length, slice_index}

-- there is a start, none falls, and the last is at most the number of targets
pub record StartsWithin (starts : List ℕ) (count : ℕ) : Type 0 where
  pub some_start : 0 < length starts
  pub never_falls : (x : ℕ) → x + 1 < length starts → slice_index starts x ≤ slice_index starts (x + 1)
  pub within : (x : ℕ) → x + 1 < length starts → slice_index starts (x + 1) ≤ count

-- starts of a graph that is being written down: the first is 0, and the last is where the next edge goes
pub record IsOpen (starts targets : List ℕ) : Type 0 where
  pub within : StartsWithin starts (length targets)
  pub first : slice_index starts 0 ≡ 0
  pub last : slice_index starts (length starts - 1) ≡ length targets
