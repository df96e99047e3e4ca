use Rattle.std.proofs.Common.{◌≡◌, ◌++◌, drop, map}
use Rattle.asn_names_references.specs.References.{dummy_names, joined}
use Rattle.asn_names_references.proofs.definitions.add_dummies.Given as goal

abbrev pub invariant-loop-dummy : goal.invariant-loop-dummy
invariant-loop-dummy l = map (λ n. n.now) l.out ++ joined (map dummy_names (drop l.dummy-index l.dummies)) l.wanted ≡ map (λ n. n.now) l.initial.out ++ joined (map dummy_names l.dummies) l.wanted
