use Rattle.std.proofs.Common.{◌≡◌, ◌++◌, drop}
use Rattle.asn_link_types.proofs.parts.copied_places.Given as goal

abbrev pub invariant-loop-place : goal.invariant-loop-place
invariant-loop-place l = l.copies ++ drop l.place-index l.places ≡ l.places
