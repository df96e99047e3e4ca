-- What the writing loop gives to a sink.
use Rattle.std.specs.Prelude.{◌≤◌, List, ℕ, Option, length, take}
use Rattle.asn_streams.specs.Sink.{Takes}

-- so many of the bytes, from their front, were taken
pub record TakesFront (before : Option (List ℕ)) (bytes : List ℕ) (after : Option (List ℕ)) : Type 0 where
  pub count : ℕ
  pub within : count ≤ length bytes
  pub taken : Takes before (take count bytes) after
