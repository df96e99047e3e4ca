-- The kinds of types. Each form of type is met here once, with an arm of its own: what follows speaks of kinds.
use Rattle.std.specs.Prelude.{List, Option}
use Rattle.asn_tree_leaves.specs.declared.plain.CharacterStringType.{CharacterStringType}
use Rattle.asn_tree.specs.declared.types.ASN1Type.{ASN1Type, ASN1Type-F, out-ASN1Type}
use Rattle.asn_tree.specs.declared.types.Choice.{out-Choice}
use Rattle.asn_tree.specs.declared.types.ChoiceOption.{ChoiceOption}
use Rattle.asn_tree_kinds.specs.declared.types.ChoiceSelectionType.{ChoiceSelectionType}
use Rattle.asn_tree_kinds.specs.declared.types.DistinguishedValue.{DistinguishedValue}
use Rattle.asn_tree_kinds.specs.declared.types.Enumeral.{Enumeral}
use Rattle.asn_tree.specs.declared.types.SequenceOrSet.{out-SequenceOrSet}
use Rattle.asn_tree.specs.declared.types.SequenceOrSetOf.{out-SequenceOrSetOf}
use Rattle.asn_meaning.specs.Layers.{ClassFieldLayer, ReferenceLayer, StructLayer, TypeLayer}
use Rattle.asn_meaning.specs.Scopes.{Place}

-- What the values of a type are made of, its constraints aside.
pub data Kind : Type 0 where
  NullKind : Kind
  BooleanKind : Kind
  -- with the named numbers, where there are braces (X.680 19.1)
  IntegerKind : Option (List DistinguishedValue) → Kind
  RealKind : Kind
  -- with the named bits, where there are braces (X.680 22.1)
  BitStringKind : Option (List DistinguishedValue) → Kind
  OctetStringKind : Kind
  CharacterStringKind : CharacterStringType → Kind
  -- TIME, GeneralizedTime and UTCTime (X.680 38, 46, 47)
  TimeKind : Kind
  EnumeratedKind : List Enumeral → Kind
  ObjectIdentifierKind : Kind
  -- EMBEDDED PDV and EXTERNAL (X.680 36, 37)
  OpaqueKind : Kind
  -- SEQUENCE and SET, as they are written (X.680 25, 27)
  StructKind : StructLayer → Kind
  -- SEQUENCE OF and SET OF, with the type of the elements (X.680 26, 28)
  ListKind : ASN1Type → Kind
  ChoiceKind : List ChoiceOption → Kind
  -- the type of a class's field (X.681 14)
  FieldKind : ClassFieldLayer → Kind
  -- a type reference, with all that stands behind it (X.680 14, X.683 9)
  ReferenceKind : ReferenceLayer → Kind
  -- the type of an alternative (X.680 30)
  SelectionKind : ChoiceSelectionType → Kind

abbrev pub kind_at : TypeLayer → Kind
kind_at ASN1Type-F.ASN1Type::Null = NullKind
kind_at (ASN1Type-F.ASN1Type::Boolean x) = BooleanKind
kind_at (ASN1Type-F.ASN1Type::Integer x) = IntegerKind x.distinguished_values
kind_at (ASN1Type-F.ASN1Type::Real x) = RealKind
kind_at (ASN1Type-F.ASN1Type::BitString x) = BitStringKind x.distinguished_values
kind_at (ASN1Type-F.ASN1Type::OctetString x) = OctetStringKind
kind_at (ASN1Type-F.CharacterString x) = CharacterStringKind x.ty
kind_at (ASN1Type-F.Enumerated x) = EnumeratedKind x.members
kind_at (ASN1Type-F.ASN1Type::Choice x) = ChoiceKind (out-Choice x).options
kind_at (ASN1Type-F.Sequence x) = StructKind (out-SequenceOrSet x)
kind_at (ASN1Type-F.SequenceOf x) = ListKind (out-SequenceOrSetOf x).element_type
kind_at (ASN1Type-F.Set x) = StructKind (out-SequenceOrSet x)
kind_at (ASN1Type-F.SetOf x) = ListKind (out-SequenceOrSetOf x).element_type
kind_at (ASN1Type-F.ASN1Type::Time x) = TimeKind
kind_at (ASN1Type-F.GeneralizedTime x) = TimeKind
kind_at (ASN1Type-F.UTCTime x) = TimeKind
kind_at (ASN1Type-F.ElsewhereDeclaredType x) = ReferenceKind x
kind_at (ASN1Type-F.ChoiceSelectionType x) = SelectionKind x
kind_at (ASN1Type-F.ASN1Type::ObjectIdentifier x) = ObjectIdentifierKind
kind_at (ASN1Type-F.InformationObjectFieldReference x) = FieldKind x
kind_at ASN1Type-F.EmbeddedPdv = OpaqueKind
kind_at ASN1Type-F.External = OpaqueKind

abbrev pub kind_of_type : ASN1Type → Kind
kind_of_type ty = kind_at (out-ASN1Type ty)

abbrev pub kind_of : Place → Kind
kind_of p = kind_of_type p.ty
