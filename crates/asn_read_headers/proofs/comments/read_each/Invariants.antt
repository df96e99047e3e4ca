use Rattle.std.proofs.Common.{◌≡◌, drop}
use Rattle.asn_read_nodes.proofs.Equations.{behind}
use Rattle.asn_read_headers.specs.Comments.{comments_in}
use Rattle.asn_read_headers.proofs.comments.read_each.Given as goal

abbrev pub invariant-loop-node : goal.invariant-loop-node
invariant-loop-node l = behind l.comments (comments_in l.text (drop l.node-index l.nodes)) ≡ comments_in l.text l.nodes
