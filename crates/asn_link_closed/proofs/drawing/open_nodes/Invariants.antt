use Rattle.std.proofs.Common.{◌≡◌, ◌++◌, drop, map}
use Rattle.asn_link_closed.specs.Closed.{are_open}
use Rattle.asn_link_closed.proofs.drawing.open_nodes.Given as goal

abbrev pub invariant-loop-node : goal.invariant-loop-node
invariant-loop-node l = l.open.items ++ are_open (map (λ d. d.now) (drop l.node l.definitions)) (drop l.node l.made) ≡ are_open (map (λ d. d.now) l.definitions) l.made
