use Rattle.std.proofs.Common.{◌≡◌, nat_eq, length}
use Rattle.std.specs.Cmp.Lexicographic.{pointwise}
use Rattle.asn_rules_guards.specs.Guards.{bare}
use Rattle.asn_rules_guards.specs.inner.Sizes.{part}
use Rattle.asn_rules_guards.proofs.guards.is_word.Given as goal

abbrev pub invariant-loop-byte : goal.invariant-loop-byte
invariant-loop-byte l = pointwise nat_eq (part l.stretch (bare l.taken)) l.word ≡ pointwise nat_eq (part l.stretch (bare l.rest)) l.left

abbrev pub decreases-loop-byte : goal.decreases-loop-byte
decreases-loop-byte l = length l.rest
