use Rattle.std.proofs.Common.{◌≡◌, ◌++◌, drop, false, map}
use Rattle.rows_meaning.proofs.instances.none_withheld.Given as goal

abbrev pub invariant-loop-definition : goal.invariant-loop-definition
invariant-loop-definition l = l.told ++ map (λ d. false) (drop l._definition-index l.standing) ≡ map (λ d. false) l.standing
