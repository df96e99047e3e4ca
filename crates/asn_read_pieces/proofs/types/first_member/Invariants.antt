use Rattle.std.proofs.Common.{◌≡◌, drop}
use Rattle.asn_read_pieces.specs.Types.{first_member}
use Rattle.asn_read_pieces.proofs.types.first_member.Given as goal

abbrev pub invariant-loop-node : goal.invariant-loop-node
invariant-loop-node l = first_member (drop l.node-index l.nodes) ≡ first_member l.nodes
