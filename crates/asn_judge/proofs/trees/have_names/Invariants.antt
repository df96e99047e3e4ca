use Rattle.std.proofs.Common.{◌≡◌, drop}
use Rattle.asn_meaning_shapes.specs.Trees.{shown_fields}
use Rattle.asn_meaning.specs.ValueTrees.{are_among, field_names}
use Rattle.asn_judge.proofs.trees.have_names.Given as goal

abbrev pub invariant-loop-field : goal.invariant-loop-field
invariant-loop-field l = are_among (field_names (shown_fields l.fields)) (shown_fields (drop l.field-index l.others)) ≡ are_among (field_names (shown_fields l.fields)) (shown_fields l.others)
