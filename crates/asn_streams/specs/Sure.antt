-- A sink in memory.
use Rattle.std.specs.Prelude.{◌++◌, List, ℕ, Option, Some, None, length, nat_le, if◌then◌else◌, option_and_then}

-- What a caller sees of the sink: how many bytes fit, and the bytes that it has taken, or None once they did not fit.
pub record SinkView : Type 0 where
  pub capacity : ℕ
  pub told : Option (List ℕ)

-- the bytes, if they fit
abbrev pub fitting : ℕ → List ℕ → Option (List ℕ)
fitting capacity bytes = if nat_le (length bytes) capacity then Some bytes else None

-- what is told after a piece: all bytes so far, if they were told before and fit
abbrev pub told_after : ℕ → Option (List ℕ) → List ℕ → Option (List ℕ)
told_after capacity told piece = option_and_then (λ taken. fitting capacity (taken ++ piece)) told
