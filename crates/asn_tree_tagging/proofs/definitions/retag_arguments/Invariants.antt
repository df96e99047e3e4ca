use Rattle.asn_tree_tagging.proofs.InPlace.{ChangedUpTo}
use Rattle.asn_tree.specs.Tagging.{retagged_argument}
use Rattle.asn_tree_tagging.proofs.definitions.retag_arguments.Given as goal

abbrev pub invariant-loop-i : goal.invariant-loop-i
invariant-loop-i l = ChangedUpTo l.i (retagged_argument l.environment) l.initial.arguments l.arguments
