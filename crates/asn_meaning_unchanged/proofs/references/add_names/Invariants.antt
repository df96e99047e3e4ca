use Rattle.std.proofs.Common.{◌≡◌, ◌++◌, drop, map}
use Rattle.asn_meaning_unchanged.proofs.references.add_names.Given as goal

abbrev pub invariant-loop-name : goal.invariant-loop-name
invariant-loop-name l = map (λ n. n.now) l.out ++ drop l.name-index l.names ≡ map (λ n. n.now) l.initial.out ++ l.names
