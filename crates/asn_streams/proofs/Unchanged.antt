-- What a failed call leaves as it was.
use Rattle.std.proofs.Common.{◌≡◌, ap, Some, Result, Ok, Err, OnErr}

-- bytes that stay the same are told as the same
pub told_same : {A B E : Type 0} (r : Result A E) (before after : B) → OnErr r (after ≡ before) → OnErr r (Some after ≡ Some before)
told_same (Ok x) before after kept = kept
told_same (Err e) before after kept = ap Some kept
