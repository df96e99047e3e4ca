use Rattle.std.proofs.Common.{◌≡◌, ◌++◌, drop}
use Rattle.asn_check.proofs.given.add_copies.Given as goal

abbrev pub invariant-loop-definition : goal.invariant-loop-definition
invariant-loop-definition l = l.all ++ drop l.definition-index l.definitions ≡ l.initial.all ++ l.definitions
