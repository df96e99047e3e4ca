use Rattle.std.proofs.Common.{◌≡◌, drop}
use Rattle.asn_meaning_shapes.specs.Trees.{shown_fields}
use Rattle.asn_meaning.specs.ValueTrees.{field_named}
use Rattle.asn_meaning_shapes.proofs.trees.find_field.Given as goal

abbrev pub invariant-loop-field : goal.invariant-loop-field
invariant-loop-field l = field_named (shown_fields l.fields) l.name ≡ field_named (shown_fields (drop l.field-index l.fields)) l.name
