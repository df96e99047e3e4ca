use Rattle.std.proofs.Common.{◌≡◌, ◌++◌, drop, map}
use Rattle.asn_tree.specs.Calls.{name_of}
use Rattle.asn_names_graph.proofs.names.names_of.Given as goal

abbrev pub invariant-loop-definition : goal.invariant-loop-definition
invariant-loop-definition l =
    map (λ n. n.now) l.names ++ map (λ d. name_of d.now) (drop l.definition-index l.definitions) ≡ map (λ d. name_of d.now) l.definitions
