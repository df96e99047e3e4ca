use Rattle.std.proofs.Common.{◌≡◌, ◌++◌, drop, map}
use Rattle.asn_rules.specs.Nodes.{all_among}
use Rattle.asn_rules.proofs.node.all_of.Given as goal

abbrev pub invariant-loop-node : goal.invariant-loop-node
invariant-loop-node l = map (λ node. node.now) l.found ++ all_among (drop l.node-index l.nodes) l.rule ≡ all_among l.nodes l.rule
