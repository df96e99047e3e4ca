use Rattle.std.proofs.Common.{◌≡◌, ◌++◌, drop}
use Rattle.asn_link_values.proofs.trees.copied_octets.Given as goal

abbrev pub invariant-loop-octet : goal.invariant-loop-octet
invariant-loop-octet l = l.copied ++ drop l.octet-index l.octets ≡ l.octets
