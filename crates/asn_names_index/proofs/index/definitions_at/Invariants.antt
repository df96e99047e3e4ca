use Rattle.std.proofs.Common.{◌≡◌, ◌++◌, map}
use Rattle.asn_names_index.specs.Index.{found_at}
use Rattle.asn_names_index.proofs.index.definitions_at.Given as goal

abbrev pub invariant-loop-place : goal.invariant-loop-place
invariant-loop-place l = map (λ d. d.now) l.found ++ found_at l.definitions l.place-iterator ≡ found_at l.definitions l.index.entries
