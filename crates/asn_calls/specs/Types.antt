-- What types are called, and the same type with other constraints. The words that contracts say are not unfolded where a call is made.
use Rattle.std.specs.Prelude.{ℕ, Bool, true, false, List, [], ◌++◌, Option, Some, None, codes, if◌then◌else◌}
use Rattle.std.specs.Option.{option_map}
use Rattle.std.specs.Str.{bytes_eq}
use Rattle.asn_tree.specs.declared.constraints.Constraint.{Constraint}
use Rattle.asn_tree.specs.declared.types.ASN1Type.{ASN1Type, ASN1Type-F, out-ASN1Type, roll-ASN1Type}
use Rattle.asn_tree.specs.declared.types.ASN1Type.TheVariants as ty
use Rattle.asn_tree.specs.declared.types.Choice.{out-Choice, roll-Choice}
use Rattle.asn_tree_kinds.specs.declared.types.ChoiceSelectionType.{ChoiceSelectionType}
use Rattle.asn_tree_kinds.specs.declared.objects.InformationObjectFieldReferenceOver.{InformationObjectFieldReferenceOver}
use Rattle.asn_tree.specs.declared.types.SequenceOrSet.{out-SequenceOrSet, roll-SequenceOrSet}
use Rattle.asn_tree.specs.declared.types.SequenceOrSetOf.{out-SequenceOrSetOf, roll-SequenceOrSetOf}
use Rattle.asn_tree.specs.Layers.{TypeLayer}
use Rattle.asn_tree_notation.specs.Paths.{path}
use Rattle.asn_tree_notation.specs.Strings.{string_word, string_named}
use Rattle.asn_tree_notation.specs.Types.{constraints_of}

-- The words of a type's own notation. A type reference, a selection and a class's field have none.
abbrev pub words_at : TypeLayer → Option (List ℕ)
words_at ASN1Type-F.ASN1Type::Null = Some (codes "NULL")
words_at (ASN1Type-F.ASN1Type::Boolean t) = Some (codes "BOOLEAN")
words_at (ASN1Type-F.ASN1Type::Integer t) = Some (codes "INTEGER")
words_at (ASN1Type-F.ASN1Type::Real t) = Some (codes "REAL")
words_at (ASN1Type-F.ASN1Type::BitString t) = Some (codes "BIT STRING")
words_at (ASN1Type-F.ASN1Type::OctetString t) = Some (codes "OCTET STRING")
words_at (ASN1Type-F.CharacterString t) = Some (string_word t.ty)
words_at (ASN1Type-F.Enumerated t) = Some (codes "ENUMERATED")
words_at (ASN1Type-F.ASN1Type::Choice t) = Some (codes "CHOICE")
words_at (ASN1Type-F.Sequence t) = Some (codes "SEQUENCE")
words_at (ASN1Type-F.SequenceOf t) = Some (codes "SEQUENCE OF")
words_at (ASN1Type-F.Set t) = Some (codes "SET")
words_at (ASN1Type-F.SetOf t) = Some (codes "SET OF")
words_at (ASN1Type-F.ASN1Type::Time t) = Some (codes "TIME")
words_at (ASN1Type-F.GeneralizedTime t) = Some (codes "GeneralizedTime")
words_at (ASN1Type-F.UTCTime t) = Some (codes "UTCTime")
words_at (ASN1Type-F.ElsewhereDeclaredType t) = None
words_at (ASN1Type-F.ChoiceSelectionType t) = None
words_at (ASN1Type-F.ASN1Type::ObjectIdentifier t) = Some (codes "OBJECT IDENTIFIER")
words_at (ASN1Type-F.InformationObjectFieldReference t) = None
words_at ASN1Type-F.EmbeddedPdv = Some (codes "EMBEDDED PDV")
words_at ASN1Type-F.External = Some (codes "EXTERNAL")

abbrev pub words_of : ASN1Type → Option (List ℕ)
words_of t = words_at (out-ASN1Type t)

abbrev pub selection_name : ChoiceSelectionType → List ℕ
selection_name t = t.selected_option ++ codes " < " ++ t.choice_name

abbrev pub field_type_name : InformationObjectFieldReferenceOver Constraint → List ℕ
field_type_name t = codes "ObjectField$" ++ t.class ++ codes "$" ++ path t.field_path

abbrev pub name_at : TypeLayer → List ℕ
name_at (ASN1Type-F.ElsewhereDeclaredType t) = t.identifier
name_at (ASN1Type-F.ChoiceSelectionType t) = selection_name t
name_at (ASN1Type-F.InformationObjectFieldReference t) = field_type_name t
name_at _ = []

-- what a type without words of its own is called
abbrev pub name_of : ASN1Type → List ℕ
name_of t = name_at (out-ASN1Type t)

abbrev pub either : Option (List ℕ) → List ℕ → List ℕ
either None name = name
either (Some words) name = words

-- what a type is called: the words of its notation, else its name
unfoldable pub type_name : ASN1Type → List ℕ
type_name t = either (words_of t) (name_of t)

-- a type reference, a selection and a class's field are none; all others are built in
abbrev pub is_builtin_at : TypeLayer → Bool
is_builtin_at (ASN1Type-F.ElsewhereDeclaredType t) = false
is_builtin_at (ASN1Type-F.ChoiceSelectionType t) = false
is_builtin_at (ASN1Type-F.InformationObjectFieldReference t) = false
is_builtin_at _ = true

unfoldable pub is_builtin : ASN1Type → Bool
is_builtin t = is_builtin_at (out-ASN1Type t)

-- NULL, BOOLEAN, INTEGER, REAL and ENUMERATED: their values need no memory
abbrev pub is_const_at : TypeLayer → Bool
is_const_at ASN1Type-F.ASN1Type::Null = true
is_const_at (ASN1Type-F.ASN1Type::Boolean t) = true
is_const_at (ASN1Type-F.ASN1Type::Integer t) = true
is_const_at (ASN1Type-F.ASN1Type::Real t) = true
is_const_at (ASN1Type-F.Enumerated t) = true
is_const_at _ = false

unfoldable pub is_const : ASN1Type → Bool
is_const t = is_const_at (out-ASN1Type t)

-- the constraints of a type; NULL, a selection, EMBEDDED PDV and EXTERNAL have no place for any
unfoldable pub constraints_held : ASN1Type → Option (List Constraint)
constraints_held t = constraints_of t

abbrev pub with_constraints_at : TypeLayer → List Constraint → TypeLayer
with_constraints_at ASN1Type-F.ASN1Type::Null cs = ASN1Type-F.ASN1Type::Null
with_constraints_at (ASN1Type-F.ASN1Type::Boolean t) cs = ASN1Type-F.ASN1Type::Boolean (record t { constraints = cs })
with_constraints_at (ASN1Type-F.ASN1Type::Integer t) cs = ASN1Type-F.ASN1Type::Integer (record t { constraints = cs })
with_constraints_at (ASN1Type-F.ASN1Type::Real t) cs = ASN1Type-F.ASN1Type::Real (record t { constraints = cs })
with_constraints_at (ASN1Type-F.ASN1Type::BitString t) cs = ASN1Type-F.ASN1Type::BitString (record t { constraints = cs })
with_constraints_at (ASN1Type-F.ASN1Type::OctetString t) cs = ASN1Type-F.ASN1Type::OctetString (record t { constraints = cs })
with_constraints_at (ASN1Type-F.CharacterString t) cs = ASN1Type-F.CharacterString (record t { constraints = cs })
with_constraints_at (ASN1Type-F.Enumerated t) cs = ASN1Type-F.Enumerated (record t { constraints = cs })
with_constraints_at (ASN1Type-F.ASN1Type::Choice t) cs = ASN1Type-F.ASN1Type::Choice (roll-Choice (record (out-Choice t) { constraints = cs }))
with_constraints_at (ASN1Type-F.Sequence t) cs = ASN1Type-F.Sequence (roll-SequenceOrSet (record (out-SequenceOrSet t) { constraints = cs }))
with_constraints_at (ASN1Type-F.SequenceOf t) cs = ASN1Type-F.SequenceOf (roll-SequenceOrSetOf (record (out-SequenceOrSetOf t) { constraints = cs }))
with_constraints_at (ASN1Type-F.Set t) cs = ASN1Type-F.Set (roll-SequenceOrSet (record (out-SequenceOrSet t) { constraints = cs }))
with_constraints_at (ASN1Type-F.SetOf t) cs = ASN1Type-F.SetOf (roll-SequenceOrSetOf (record (out-SequenceOrSetOf t) { constraints = cs }))
with_constraints_at (ASN1Type-F.ASN1Type::Time t) cs = ASN1Type-F.ASN1Type::Time (record t { constraints = cs })
with_constraints_at (ASN1Type-F.GeneralizedTime t) cs = ASN1Type-F.GeneralizedTime (record t { constraints = cs })
with_constraints_at (ASN1Type-F.UTCTime t) cs = ASN1Type-F.UTCTime (record t { constraints = cs })
with_constraints_at (ASN1Type-F.ElsewhereDeclaredType t) cs = ASN1Type-F.ElsewhereDeclaredType (record t { constraints = cs })
with_constraints_at (ASN1Type-F.ChoiceSelectionType t) cs = ASN1Type-F.ChoiceSelectionType t
with_constraints_at (ASN1Type-F.ASN1Type::ObjectIdentifier t) cs = ASN1Type-F.ASN1Type::ObjectIdentifier (record t { constraints = cs })
with_constraints_at (ASN1Type-F.InformationObjectFieldReference t) cs = ASN1Type-F.InformationObjectFieldReference (record t { constraints = cs })
with_constraints_at ASN1Type-F.EmbeddedPdv cs = ASN1Type-F.EmbeddedPdv
with_constraints_at ASN1Type-F.External cs = ASN1Type-F.External

-- the type with these constraints, all else the same
unfoldable pub with_constraints : ASN1Type → List Constraint → ASN1Type
with_constraints t cs = roll-ASN1Type (with_constraints_at (out-ASN1Type t) cs)

-- The built-in type of that word, with these constraints. NULL has no place for them.
unfoldable pub builtin : List ℕ → List Constraint → Option ASN1Type
builtin word cs =
    if bytes_eq word (codes "NULL") then Some ty.Null
    else if bytes_eq word (codes "BOOLEAN") then Some (ty.Boolean (record { constraints = cs }))
    else if bytes_eq word (codes "REAL") then Some (ty.Real (record { constraints = cs }))
    else if bytes_eq word (codes "INTEGER") then Some (ty.Integer (record { constraints = cs; distinguished_values = None }))
    else if bytes_eq word (codes "BIT STRING") then Some (ty.BitString (record { constraints = cs; distinguished_values = None }))
    else if bytes_eq word (codes "OCTET STRING") then Some (ty.OctetString (record { constraints = cs }))
    else if bytes_eq word (codes "OBJECT IDENTIFIER") then Some (ty.ObjectIdentifier (record { constraints = cs }))
    else if bytes_eq word (codes "GeneralizedTime") then Some (ty.GeneralizedTime (record { constraints = cs }))
    else if bytes_eq word (codes "UTCTime") then Some (ty.UTCTime (record { constraints = cs }))
    else option_map (λ kind. ty.CharacterString (record { constraints = cs; ty = kind })) (string_named word)

-- the built-in type that a name without a parent is
abbrev pub builtin_named : Option (List ℕ) → List ℕ → List Constraint → Option ASN1Type
builtin_named None name cs = builtin name cs
builtin_named (Some parent) name cs = None

-- a type reference
abbrev pub elsewhere : Option (List ℕ) → List ℕ → List Constraint → ASN1Type
elsewhere parent name cs = ty.ElsewhereDeclaredType (record { parent = parent; identifier = name; constraints = cs })
