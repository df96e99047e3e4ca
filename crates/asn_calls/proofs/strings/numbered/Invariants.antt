use Rattle.std.proofs.Common.{◌≡◌, take}
use Rattle.asn_tree_notation.specs.Strings.{numbered}
use Rattle.asn_calls.proofs.strings.numbered.Given as goal

abbrev pub invariant-loop-place : goal.invariant-loop-place
invariant-loop-place l = l.set.entries ≡ numbered 0 (take l.place l.characters)
