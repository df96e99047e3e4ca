-- The types and kinds of meaning that those of the code stand for.
use Rattle.std.specs.Prelude.{[], None}
use Rattle.std.specs.Option.{option_copied}
use Rattle.asn_tree.specs.declared.types.ASN1Type.{ASN1Type}
use Rattle.asn_tree.specs.declared.types.ASN1Type.TheVariants as type_of_kind
use Rattle.asn_tree.specs.declared.types.SequenceOrSet.{out-SequenceOrSet}
use Rattle.asn_meaning_heads.specs.declared.kinds.Kind.{Kind as LentKind}
use Rattle.asn_meaning_heads.specs.declared.kinds.Kind.TheVariants as lent
use Rattle.asn_meaning_heads.specs.declared.kinds.Reference.{Reference}
use Rattle.asn_meaning_heads.specs.declared.kinds.Reference.TheVariants as reference
use Rattle.asn_meaning_heads.specs.declared.kinds.TypeForm.{TypeForm}
use Rattle.asn_meaning_heads.specs.declared.kinds.TypeForm.TheVariants as form
use Rattle.asn_meaning.specs.Definitions.{plain_identifier}
use Rattle.asn_meaning.specs.Everything.{plain_text}
use Rattle.asn_meaning.specs.Kinds.{Kind, NullKind, BooleanKind, IntegerKind, RealKind, BitStringKind, OctetStringKind, CharacterStringKind, TimeKind, EnumeratedKind, ObjectIdentifierKind, OpaqueKind, StructKind, ListKind, ChoiceKind, FieldKind, ReferenceKind, SelectionKind}
use Rattle.asn_meaning.specs.Layers.{ReferenceLayer}
use Rattle.asn_meaning.specs.Ranges.{integer_named}

-- a reference as it is written; a name has nothing before it and nothing behind it
abbrev pub shown_reference : Reference → ReferenceLayer
shown_reference (reference.Written x) = x.now
shown_reference (reference.Named name) = record { parent = None; identifier = name.now; constraints = [] }

abbrev pub shown_type : TypeForm → ASN1Type
shown_type (form.Written ty) = ty.now
shown_type (form.Reference x) = type_of_kind.ElsewhereDeclaredType (shown_reference x)
shown_type form.Null = type_of_kind.Null
shown_type form.Utf8String = plain_text.ty
shown_type form.ObjectIdentifier = plain_identifier
shown_type (form.Integer numbers) = (integer_named (option_copied numbers)).ty

abbrev pub shown_kind : LentKind → Kind
shown_kind lent.Null = NullKind
shown_kind lent.Boolean = BooleanKind
shown_kind (lent.Integer numbers) = IntegerKind (option_copied numbers)
shown_kind lent.Real = RealKind
shown_kind (lent.BitString bits) = BitStringKind (option_copied bits)
shown_kind lent.OctetString = OctetStringKind
shown_kind (lent.CharacterString ty) = CharacterStringKind ty
shown_kind lent.Time = TimeKind
shown_kind (lent.Enumerated items) = EnumeratedKind items.now
shown_kind lent.ObjectIdentifier = ObjectIdentifierKind
shown_kind lent.Opaque = OpaqueKind
shown_kind (lent.Struct x) = StructKind (out-SequenceOrSet x.now)
shown_kind (lent.List ty) = ListKind ty.now
shown_kind (lent.Choice options) = ChoiceKind options.now
shown_kind (lent.Field x) = FieldKind x.now
shown_kind (lent.Reference x) = ReferenceKind (shown_reference x)
shown_kind (lent.Selection x) = SelectionKind x.now
