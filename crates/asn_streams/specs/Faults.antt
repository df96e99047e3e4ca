-- When a source or a sink may fail.
use Rattle.std.specs.Prelude.{◌≡◌, ◌⊎◌, ◌<◌, ◌-◌, ◌^◌, ℕ}

-- A failure has a cause: the count of faults rose in the call, or stands at its last value.
abbrev pub HasCause : ℕ → ℕ → Type 0
HasCause before after = (before < after) ⊎ (after ≡ 2 ^ 64 - 1)
