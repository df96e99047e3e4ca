-- Basic forms: BOOLEAN, INTEGER, SEQUENCE and plain names of types, with ranges of numbers. What stands on them stands on a
-- premise that each form which is added makes weaker, until none is left out.
use Rattle.std.specs.Prelude.{◌≡◌, ℕ, zero, suc, List, [], ◌∷◌, Bool, true, false, ◌&&◌, is_none, Option, Some, None}
use Rattle.std.specs.List.{All, list_all}
use Rattle.asn_tree.specs.declared.constraints.Constraint.{Constraint, Constraint-F, out-Constraint}
use Rattle.asn_tree.specs.declared.constraints.ElementOrSetOperation.{ElementOrSetOperation-F, out-ElementOrSetOperation}
use Rattle.asn_tree.specs.declared.constraints.SubtypeElement.{SubtypeElement-F, out-SubtypeElement}
use Rattle.asn_tree.specs.declared.definitions.ToplevelDefinition.{ToplevelDefinition}
use Rattle.asn_tree.specs.declared.definitions.ToplevelDefinition.TheVariants.{TypeDef, Value, Information}
use Rattle.asn_tree.specs.declared.types.ASN1Type.{ASN1Type, ASN1Type-F, out-ASN1Type}
use Rattle.asn_tree.specs.declared.types.SequenceOrSet.{out-SequenceOrSet}
use Rattle.asn_tree.specs.declared.types.SequenceOrSetMember.{out-SequenceOrSetMember}
use Rattle.asn_tree.specs.declared.values.ASN1Value.{ASN1Value}
use Rattle.asn_tree.specs.Layers.{SetLayer, TypeLayer}
use Rattle.asn_meaning.specs.Definitions.{Definitions}
use Rattle.asn_meaning.specs.Layers.{ConstraintLayer, ElementLayer, MemberLayer, StructLayer}
use Rattle.asn_meaning.specs.Written.{Written, NumberWritten, as_written}

-- ---- constraints: ranges of numbers

abbrev pub is_number : Written → Bool
is_number (NumberWritten i) = true
is_number _ = false

-- MIN and MAX stand for no value
abbrev pub basic_end : Option ASN1Value → Bool
basic_end None = true
basic_end (Some v) = is_number (as_written v)

abbrev pub basic_element : ElementLayer → Bool
basic_element (SubtypeElement-F.SingleValue v extensible) = false
basic_element (SubtypeElement-F.ContainedSubtype ty extensible) = false
basic_element (SubtypeElement-F.ValueRange low high low_open high_open extensible) = basic_end low && basic_end high
basic_element (SubtypeElement-F.PermittedAlphabet set) = false
basic_element (SubtypeElement-F.SizeConstraint set) = false
basic_element (SubtypeElement-F.TypeConstraint ty) = false
basic_element (SubtypeElement-F.SingleTypeConstraint cs) = false
basic_element (SubtypeElement-F.MultipleTypeConstraints inner) = false
basic_element (SubtypeElement-F.PatternConstraint x) = false
basic_element (SubtypeElement-F.UserDefinedConstraint x) = false
basic_element (SubtypeElement-F.PropertySettings x) = false

abbrev pub basic_set : SetLayer → Bool
basic_set (ElementOrSetOperation-F.Element e) = basic_element (out-SubtypeElement e)
basic_set (ElementOrSetOperation-F.SetOperation x) = false

abbrev pub basic_constraint : ConstraintLayer → Bool
basic_constraint (Constraint-F.SubtypeConstraint x) = basic_set (out-ElementOrSetOperation x.set)
basic_constraint (Constraint-F.TableConstraint x) = false
basic_constraint (Constraint-F.Parameter arguments) = false
basic_constraint (Constraint-F.ContentConstraint c) = false

abbrev pub are_basic : List Constraint → Bool
are_basic cs = list_all (λ c. basic_constraint (out-Constraint c)) cs

-- ---- types

-- a member without a default
abbrev pub basic_member : (ASN1Type → Bool) → MemberLayer → Bool
basic_member f m = f m.ty && (is_none m.default_value && are_basic m.constraints)

abbrev pub has_no_names : List (List ℕ) → Bool
has_no_names [] = true
has_no_names (name ∷ names) = false

-- without COMPONENTS OF
abbrev pub basic_struct : (ASN1Type → Bool) → StructLayer → Bool
basic_struct f x = has_no_names x.components_of && (list_all (λ m. basic_member f (out-SequenceOrSetMember m)) x.members && are_basic x.constraints)

-- BOOLEAN, INTEGER, SEQUENCE of such members, and plain names of types
abbrev pub basic_at : (ASN1Type → Bool) → TypeLayer → Bool
basic_at f ASN1Type-F.ASN1Type::Null = false
basic_at f (ASN1Type-F.ASN1Type::Boolean x) = are_basic x.constraints
basic_at f (ASN1Type-F.ASN1Type::Integer x) = are_basic x.constraints
basic_at f (ASN1Type-F.ASN1Type::Real x) = false
basic_at f (ASN1Type-F.ASN1Type::BitString x) = false
basic_at f (ASN1Type-F.ASN1Type::OctetString x) = false
basic_at f (ASN1Type-F.CharacterString x) = false
basic_at f (ASN1Type-F.Enumerated x) = false
basic_at f (ASN1Type-F.ASN1Type::Choice x) = false
basic_at f (ASN1Type-F.Sequence x) = basic_struct f (out-SequenceOrSet x)
basic_at f (ASN1Type-F.SequenceOf x) = false
basic_at f (ASN1Type-F.Set x) = false
basic_at f (ASN1Type-F.SetOf x) = false
basic_at f (ASN1Type-F.ASN1Type::Time x) = false
basic_at f (ASN1Type-F.GeneralizedTime x) = false
basic_at f (ASN1Type-F.UTCTime x) = false
basic_at f (ASN1Type-F.ElsewhereDeclaredType x) = is_none x.parent && are_basic x.constraints
basic_at f (ASN1Type-F.ChoiceSelectionType x) = false
basic_at f (ASN1Type-F.ASN1Type::ObjectIdentifier x) = false
basic_at f (ASN1Type-F.InformationObjectFieldReference x) = false
basic_at f ASN1Type-F.EmbeddedPdv = false
basic_at f ASN1Type-F.External = false

-- of basic forms alone, and at most so many levels deep
abbrev pub is_basic : ℕ → ASN1Type → Bool
is_basic zero ty = false
is_basic (suc n) ty = basic_at (is_basic n) (out-ASN1Type ty)

abbrev pub IsBasic : ASN1Type → Type 0
IsBasic ty = (n : ℕ) × (is_basic n ty ≡ true)

-- ---- definitions

-- the definition of a type of basic forms, and no template
abbrev pub IsBasicDefinition : ToplevelDefinition → Type 0
IsBasicDefinition (TypeDef d) = (d.parameterization ≡ None) × IsBasic d.ty
IsBasicDefinition (Value d) = ⊥
IsBasicDefinition (Information d) = ⊥

abbrev pub AreBasic : Definitions → Type 0
AreBasic defs = All IsBasicDefinition defs
