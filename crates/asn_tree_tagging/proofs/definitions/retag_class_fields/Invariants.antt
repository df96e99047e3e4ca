use Rattle.asn_tree_tagging.proofs.InPlace.{ChangedUpTo}
use Rattle.asn_tree.specs.Tagging.{retagged_class_field}
use Rattle.asn_tree_tagging.proofs.definitions.retag_class_fields.Given as goal

abbrev pub invariant-loop-i : goal.invariant-loop-i
invariant-loop-i l = ChangedUpTo l.i (retagged_class_field l.environment) l.initial.fields l.fields
