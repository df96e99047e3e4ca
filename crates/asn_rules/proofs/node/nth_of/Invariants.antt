use Rattle.std.proofs.Common.{◌≡◌, drop}
use Rattle.asn_rules.specs.Nodes.{nth_among}
use Rattle.asn_rules.proofs.node.nth_of.Given as goal

abbrev pub invariant-loop-node : goal.invariant-loop-node
invariant-loop-node l = nth_among (drop l.node-index l.nodes) l.rule l.left ≡ nth_among l.nodes l.rule l.before
