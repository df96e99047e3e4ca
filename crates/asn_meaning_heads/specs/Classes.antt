-- The fields' types of meaning that those of the code stand for.
use Rattle.std.specs.Prelude.{ℕ, Bool, false, ◌&&◌, is_none, List, [], ◌∷◌, Option, Some, None}
use Rattle.std.specs.Option.{option_map}
use Rattle.asn_tree_leaves.specs.declared.objects.ObjectFieldIdentifier.{ObjectFieldIdentifier}
use Rattle.asn_tree.specs.declared.objects.InformationObjectClass.{InformationObjectClass}
use Rattle.asn_tree.specs.declared.objects.InformationObjectClassField.{InformationObjectClassField}
use Rattle.asn_tree.specs.declared.types.ASN1Type.{ASN1Type}
use Rattle.asn_tree_notation.specs.Paths.{field_name}
use Rattle.asn_meaning_heads.specs.declared.classes.FieldType.{FieldType as LentFieldType}
use Rattle.asn_meaning_heads.specs.declared.classes.FieldType.TheVariants as lent
use Rattle.asn_meaning_heads.specs.Kinds.{shown_type}
use Rattle.asn_meaning.specs.Answers.{once}
use Rattle.asn_meaning.specs.Definitions.{Definitions, is_class}
use Rattle.asn_meaning.specs.Kinds.{Kind, ReferenceKind}
use Rattle.asn_meaning.specs.Names.{FieldType, Open, Fixed, fixed_or_open}
use Rattle.asn_meaning.specs.Objects.{field_of}

abbrev pub shown_field_type : LentFieldType → FieldType
shown_field_type lent.Open = Open
shown_field_type (lent.Fixed ty) = Fixed (shown_type ty)

-- the type of a field, where it has one
abbrev pub field_ty : InformationObjectClassField → Option ASN1Type
field_ty f = f.ty

-- whether a type of the kind is a plain name of a class
abbrev pub kind_names_class : Definitions → Kind → Bool
kind_names_class defs (ReferenceKind x) = is_none x.parent && is_class defs x.identifier
kind_names_class defs _ = false

-- the type of the last field of a path, each of whose names is a field's; before the first name this one
abbrev pub path_type : InformationObjectClass → Option (Option ASN1Type) → List ObjectFieldIdentifier → Option (Option ASN1Type)
path_type c so_far [] = so_far
path_type c so_far (name ∷ names) = once None (option_map field_ty (field_of c (field_name name))) (λ ty. path_type c (Some ty) names)

-- what the type of the class's field of the name is, where it has the field
abbrev pub type_in_class : Definitions → InformationObjectClass → List ℕ → Option FieldType
type_in_class defs c name = once None (field_of c name) (λ f. fixed_or_open defs f.ty)
