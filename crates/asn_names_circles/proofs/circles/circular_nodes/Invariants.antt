use Rattle.std.proofs.Common.{◌≡◌, length}
use Rattle.asn_names_circles.proofs.Circling.{CircularSoFar}
use Rattle.asn_names_circles.proofs.circles.circular_nodes.Given as goal

abbrev pub invariant-loop-node : goal.invariant-loop-node
invariant-loop-node l = record {
  long : length l.marked ≡ l.node;
  each : CircularSoFar (λ d. d.now) (λ n. n.now) l.on.edges l.components.edges l.names l.definitions l.gentle l.marked l.node;
}
