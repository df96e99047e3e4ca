use Rattle.std.proofs.Common.{◌≡◌, ◌++◌, drop, map}
use Rattle.asn_link.specs.Linked.{is_told}
use Rattle.asn_names_index.specs.Definitions.{name_of}
use Rattle.asn_check.proofs.link.withheld_among.Given as goal

abbrev pub invariant-loop-definition : goal.invariant-loop-definition
invariant-loop-definition l =
    l.told ++ map (λ d. is_told (map (λ n. n.now) l.all) l.withheld (name_of d.now)) (drop l.definition-index l.definitions) ≡ map (λ d. is_told (map (λ n. n.now) l.all) l.withheld (name_of d.now)) l.definitions
