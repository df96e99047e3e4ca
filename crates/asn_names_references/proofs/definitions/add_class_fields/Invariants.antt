use Rattle.std.proofs.Common.{◌≡◌, ◌++◌, drop, map}
use Rattle.asn_names_references.specs.References.{class_field_names, joined}
use Rattle.asn_names_references.proofs.definitions.add_class_fields.Given as goal

abbrev pub invariant-loop-field : goal.invariant-loop-field
invariant-loop-field l = map (λ n. n.now) l.out ++ joined (map class_field_names (drop l.field-index l.fields)) l.wanted ≡ map (λ n. n.now) l.initial.out ++ joined (map class_field_names l.fields) l.wanted
