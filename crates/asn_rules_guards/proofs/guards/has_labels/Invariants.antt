use Rattle.std.proofs.Common.{◌≡◌, true, drop}
use Rattle.asn_rules_guards.specs.Guards.{has_labels}
use Rattle.asn_rules_guards.proofs.guards.has_labels.Given as goal

abbrev pub invariant-loop-byte : goal.invariant-loop-byte
invariant-loop-byte l = has_labels l.slash (drop l.byte-index l.taken) ≡ has_labels true l.taken
