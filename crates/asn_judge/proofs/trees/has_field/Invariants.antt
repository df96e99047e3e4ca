use Rattle.std.proofs.Common.{◌≡◌, drop}
use Rattle.asn_meaning_shapes.specs.Trees.{shown_fields}
use Rattle.asn_meaning.specs.ValueTrees.{field_names, is_among}
use Rattle.asn_judge.proofs.trees.has_field.Given as goal

abbrev pub invariant-loop-field : goal.invariant-loop-field
invariant-loop-field l = is_among (field_names (shown_fields (drop l.field-index l.fields))) l.name ≡ is_among (field_names (shown_fields l.fields)) l.name
