use Rattle.std.proofs.Common.{◌≡◌, ◌++◌, drop}
use Rattle.asn_check_listing.specs.Definitions.{definition_lines}
use Rattle.asn_check_listing.proofs.definitions.write_definitions.Given as goal

abbrev pub invariant-loop-definition : goal.invariant-loop-definition
invariant-loop-definition l = l.out ++ definition_lines (drop l.definition-index l.definitions) ≡ l.initial.out ++ definition_lines l.definitions
