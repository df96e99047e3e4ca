use Rattle.std.proofs.Common.{◌≡◌, drop}
use Rattle.asn_meaning_heads.specs.inner.Dummies.{held}
use Rattle.asn_meaning_heads.proofs.scopes.dummy_of.Given as goal

abbrev pub invariant-loop-i : goal.invariant-loop-i
invariant-loop-i l = held (drop l.i l.dummies) (drop l.i l.arguments) l.name ≡ held l.dummies l.arguments l.name
