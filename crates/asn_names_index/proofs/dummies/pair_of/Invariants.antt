use Rattle.std.proofs.Common.{◌≡◌, drop}
use Rattle.asn_names_index.specs.Dummies.{pair_of}
use Rattle.asn_names_index.proofs.dummies.pair_of.Given as goal

abbrev pub invariant-loop-i : goal.invariant-loop-i
invariant-loop-i l = pair_of (drop l.i l.dummies) (drop l.i l.arguments) l.name ≡ pair_of l.dummies l.arguments l.name
