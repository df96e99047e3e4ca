use Rattle.std.proofs.Common.{◌≡◌, ◌++◌, drop, map}
use Rattle.asn_names_index.specs.Definitions.{name_of}
use Rattle.asn_check.proofs.link.names_of_all.Given as goal

abbrev pub invariant-loop-definition : goal.invariant-loop-definition
invariant-loop-definition l = map (λ n. n.now) l.names ++ map name_of (drop l.definition-index l.definitions) ≡ map name_of l.definitions
