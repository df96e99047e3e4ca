use Rattle.std.proofs.Common.{rules}
use Rattle.std.specs.Bool.{Decides}
use Rattle.asn_tree_leaves.specs.Errors.{SameFault}
use Rattle.asn_tree_leaves.specs.declared.errors.LinkFault.{LinkFault}
use Rattle.asn_tree_leaves.specs.declared.errors.LinkFault.TheVariants.{Grammar, OutOfMemory}
use Rattle.asn_tree_leaves.specs.contracts.errors.LinkFaultPartialEq.TheImpl as faults
use Rattle.asn_tree_leaves.proofs.fault_equality.equal_faults.Goals as goal

fault_decides : (x y : LinkFault) → Decides (faults.eq-value.it x y) (SameFault x y)
fault_decides (Grammar x) (Grammar y) = search rules
fault_decides (Grammar x) OutOfMemory = search rules
fault_decides OutOfMemory (Grammar y) = search rules
fault_decides OutOfMemory OutOfMemory = search rules

pub returns : goal.returns
returns c = fault_decides c.args.left.now c.args.right.now
