-- How values are written. Each form of value is met here once, with an arm of its own.
use Rattle.std.specs.Prelude.{ℕ, Bool, ℤ, List, [], ◌∷◌, ◌++◌, Option}
use Rattle.asn_tree_headers.specs.declared.headers.ObjectIdentifierArc.{ObjectIdentifierArc}
use Rattle.asn_tree_leaves.specs.declared.plain.RealValue.{RealValue}
use Rattle.asn_tree.specs.declared.values.ASN1Value.{ASN1Value, ASN1Value-F, out-ASN1Value}
use Rattle.asn_tree.specs.declared.values.LinkedField.{LinkedField, out-LinkedField}
use Rattle.asn_tree_kinds.specs.declared.values.StructLikeFieldValueOver.{StructLikeFieldValueOver}
use Rattle.asn_tree_kinds.specs.declared.values.StructLikeFieldValueOver.TheVariants.{Explicit, Implicit}
use Rattle.asn_meaning.specs.Layers.{LinkedLayer, ValueLayer}

-- values with their names
abbrev pub NamedValues : Type 0
NamedValues = List (List ℕ × ASN1Value)

-- items between braces, with or without names
abbrev pub Items : Type 0
Items = List (Option (List ℕ) × ASN1Value)

-- What is written. What linking made of a value counts as that value.
pub data Written : Type 0 where
  AllWritten : Written
  NullWritten : Written
  TruthWritten : Bool → Written
  NumberWritten : ℤ → Written
  RealWritten : RealValue → Written
  -- a character string, or a time (X.680 41, 46)
  TextWritten : List ℕ → Written
  -- bits, or the names of bits in braces (X.680 22.9)
  BitsWritten : List Bool → Written
  BitNamesWritten : List (List ℕ) → Written
  OctetsWritten : List ℕ → Written
  -- the arcs of an object identifier; one item in braces may have been read so too (X.680 32.3)
  ArcsWritten : List ObjectIdentifierArc → Written
  -- an item of an enumeration, whatever its type is called (X.680 20.8)
  ItemWritten : List ℕ → Written
  -- a name alone, or behind the name of an object
  NameWritten : Option (List ℕ) → List ℕ → Written
  BracesWritten : Items → Written
  -- the fields and the elements of a linked value
  FieldsWritten : NamedValues → Written
  ElementsWritten : List ASN1Value → Written
  -- an alternative and its value (X.680 29.11)
  AlternativeWritten : List ℕ → ASN1Value → Written
  -- a value that linking put under the names of its types
  NestedWritten : ASN1Value → Written

-- the values that are written, without the defaults
abbrev pub if_explicit : List ℕ → StructLikeFieldValueOver ASN1Value → NamedValues
if_explicit name (Explicit v) = (name, v) ∷ []
if_explicit name (Implicit v) = []

abbrev pub explicit_field : LinkedLayer → NamedValues
explicit_field x = if_explicit x.name x.value

abbrev pub explicit_fields : List LinkedField → NamedValues
explicit_fields [] = []
explicit_fields (x ∷ xs) = explicit_field (out-LinkedField x) ++ explicit_fields xs

abbrev pub written_at : ValueLayer → Written
written_at ASN1Value-F.All = AllWritten
written_at ASN1Value-F.ASN1Value::Null = NullWritten
written_at (ASN1Value-F.ASN1Value::Boolean b) = TruthWritten b
written_at (ASN1Value-F.ASN1Value::Choice type name v) = AlternativeWritten name v
written_at (ASN1Value-F.SequenceOrSet items) = BracesWritten items
written_at (ASN1Value-F.ASN1Value::Integer i) = NumberWritten i
written_at (ASN1Value-F.ASN1Value::Real x) = RealWritten x
written_at (ASN1Value-F.String s) = TextWritten s
written_at (ASN1Value-F.ASN1Value::BitString bits) = BitsWritten bits
written_at (ASN1Value-F.BitStringNamedBits names) = BitNamesWritten names
written_at (ASN1Value-F.ASN1Value::OctetString octets) = OctetsWritten octets
written_at (ASN1Value-F.EnumeratedValue type name) = ItemWritten name
written_at (ASN1Value-F.ASN1Value::Time s) = TextWritten s
written_at (ASN1Value-F.ElsewhereDeclaredValue parent name) = NameWritten parent name
written_at (ASN1Value-F.ASN1Value::ObjectIdentifier x) = ArcsWritten x.0
written_at (ASN1Value-F.LinkedNestedValue supertypes v) = NestedWritten v
written_at (ASN1Value-F.LinkedIntValue kind i) = NumberWritten i
written_at (ASN1Value-F.LinkedStructLikeValue fields) = FieldsWritten (explicit_fields fields)
written_at (ASN1Value-F.LinkedArrayLikeValue vs) = ElementsWritten vs
written_at (ASN1Value-F.LinkedCharStringValue kind s) = TextWritten s
written_at (ASN1Value-F.LinkedElsewhereDefinedValue parent name can_be_const) = NameWritten parent name

abbrev pub as_written : ASN1Value → Written
as_written v = written_at (out-ASN1Value v)
