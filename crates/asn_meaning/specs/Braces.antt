-- What a written value has between its braces (X.680 25.18, 26.3, 27.7, 28.3).
use Rattle.std.specs.Prelude.{ℕ, ◌^◌, nat_lt, List, [], ◌∷◌, pos, Option, Some, None, if◌then◌else◌}
use Rattle.asn_tree_headers.specs.declared.headers.ObjectIdentifierArc.{ObjectIdentifierArc}
use Rattle.asn_tree.specs.declared.values.ASN1Value.{ASN1Value}
use Rattle.asn_tree.specs.declared.values.ASN1Value.TheVariants as value
use Rattle.asn_meaning.specs.Answers.{once}
use Rattle.asn_meaning.specs.Written.{NamedValues, Items, Written, ArcsWritten, BracesWritten, FieldsWritten, ElementsWritten}

-- ---- items between braces

-- the items, where each has a name
abbrev pub all_named : Items → Option NamedValues
all_named [] = Some []
all_named ((None, v) ∷ items) = None
all_named ((Some name, v) ∷ items) = once None (all_named items) (λ others. Some ((name, v) ∷ others))

-- the values, where none has a name
abbrev pub all_unnamed : Items → Option (List ASN1Value)
all_unnamed [] = Some []
all_unnamed ((None, v) ∷ items) = once None (all_unnamed items) (λ others. Some (v ∷ others))
all_unnamed ((Some name, v) ∷ items) = None

-- the value that an arc with a name alone or a number alone is; a number where it is one of 128 bits with a sign
abbrev pub arc_value : Option (List ℕ) → Option ℕ → Option ASN1Value
arc_value (Some name) None = Some (value.ElsewhereDeclaredValue None name)
arc_value None (Some number) = if nat_lt number (2 ^ 127) then Some (value.Integer (pos number)) else None
arc_value _ _ = None

-- one item that was read as two arcs, a name and what stands behind it
abbrev pub arcs_as_field : List ObjectIdentifierArc → Option NamedValues
arcs_as_field (a ∷ b ∷ []) = elim a.number [
  | Some number ↦ None
  | None ↦ once None a.name (λ name. once None (arc_value b.name b.number) (λ v. Some ((name, v) ∷ [])))
]
arcs_as_field _ = None

-- one item that was read as one arc
abbrev pub arcs_as_element : List ObjectIdentifierArc → Option (List ASN1Value)
arcs_as_element (a ∷ []) = once None (arc_value a.name a.number) (λ v. Some (v ∷ []))
arcs_as_element _ = None

-- the fields of a value under a SEQUENCE or SET (X.680 25.18, 27.7)
abbrev pub fields_written : Written → Option NamedValues
fields_written (BracesWritten items) = all_named items
fields_written (ArcsWritten arcs) = arcs_as_field arcs
fields_written (FieldsWritten fields) = Some fields
fields_written _ = None

-- the elements of a value under a SEQUENCE OF or SET OF (X.680 26.3, 28.3)
abbrev pub elements_written : Written → Option (List ASN1Value)
elements_written (BracesWritten items) = all_unnamed items
elements_written (ArcsWritten arcs) = arcs_as_element arcs
elements_written (ElementsWritten vs) = Some vs
elements_written _ = None
