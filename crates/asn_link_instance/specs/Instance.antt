-- The instance of a type: what linking makes of it, to be read in the empty scope.
use Rattle.std.specs.Prelude.{is_some, ℕ, zero, suc, Bool, true, false, not, ◌&&◌, length, List, [], ◌∷◌, ◌++◌, is_none, Option, Some, None, if◌then◌else◌}
use Rattle.asn_tree.specs.declared.constraints.Constraint.{Constraint, Constraint-F, out-Constraint, roll-Constraint}
use Rattle.asn_tree.specs.declared.constraints.ContentConstraint.{ContentConstraint, ContentConstraint-F, out-ContentConstraint, roll-ContentConstraint}
use Rattle.asn_tree.specs.declared.constraints.ElementOrSetOperation.{ElementOrSetOperation, ElementOrSetOperation-F, out-ElementOrSetOperation, roll-ElementOrSetOperation}
use Rattle.asn_tree.specs.declared.constraints.SetOperation.{out-SetOperation, roll-SetOperation}
use Rattle.asn_tree.specs.declared.constraints.SubtypeElement.{SubtypeElement, SubtypeElement-F, out-SubtypeElement, roll-SubtypeElement}
use Rattle.asn_tree_headers.specs.declared.headers.AsnTag.{AsnTag}
use Rattle.asn_tree.specs.declared.types.ASN1Type.{ASN1Type, ASN1Type-F, out-ASN1Type, roll-ASN1Type}
use Rattle.asn_tree.specs.declared.types.Choice.{out-Choice, roll-Choice}
use Rattle.asn_tree.specs.declared.types.ChoiceOption.{ChoiceOption, out-ChoiceOption, roll-ChoiceOption}
use Rattle.asn_tree.specs.declared.types.SequenceOrSet.{out-SequenceOrSet, roll-SequenceOrSet}
use Rattle.asn_tree.specs.declared.types.SequenceOrSetMember.{SequenceOrSetMember, roll-SequenceOrSetMember}
use Rattle.asn_tree.specs.declared.types.SequenceOrSetOf.{out-SequenceOrSetOf, roll-SequenceOrSetOf}
use Rattle.asn_tree_notation.specs.Types.{constraints_at}
use Rattle.asn_tree.specs.Layers.{ContentLayer}
use Rattle.asn_meaning.specs.Accepts.{place}
use Rattle.asn_meaning.specs.Answers.{once}
use Rattle.asn_meaning.specs.Definitions.{Definitions, type_named}
use Rattle.asn_meaning.specs.Judge.{meaning}
use Rattle.asn_meaning.specs.Kinds.{Kind, ChoiceKind, StructKind, kind_of}
use Rattle.asn_meaning.specs.Layers.{ClassFieldLayer, ConstraintLayer, ElementLayer, InnerLayer, ListedLayer, ListLayer, MemberLayer, OperationLayer, OptionLayer, ReferenceLayer, SetLayer, StructLayer, TypeLayer}
use Rattle.asn_meaning.specs.Meaning.{Meaning, Member}
use Rattle.asn_meaning.specs.Members.{element_place, is_addition_at, member_named, member_place, root_members}
use Rattle.asn_meaning.specs.Names.{FieldType, Open, Fixed, class_field_type, lists_in, head_named, option_named, options_of, reference_target, selection_target}
use Rattle.asn_meaning.specs.Placed.{listed}
use Rattle.asn_meaning.specs.Ranges.{integer_named}
use Rattle.asn_meaning.specs.Scopes.{Scope, Empty, bound_to, Place, Target, bare}
use Rattle.asn_meaning.specs.Shapes.{option_place}
use Rattle.asn_meaning.specs.ValueTrees.{same_truth}
use Rattle.asn_calls.specs.Types.{with_constraints_at}
use Rattle.asn_link_instance.specs.Subjects.{Subject, OnValues, OnCharacters, values_read, ends_read, rules_read, Choices, keeping_all, gathered, traversed, perhaps}

-- What is found of instances within a number of levels. `down` asks for the type down to the head: there a plain name is
-- followed too.
pub record Instances : Type 0 where
  pub of_type : Bool → Scope → ASN1Type → Option ASN1Type
  pub of_set : Scope → Subject → ElementOrSetOperation → Option ElementOrSetOperation
  pub of_element : Scope → Subject → SubtypeElement → Option SubtypeElement
  -- the tag that a type brings to its place where another takes its place
  pub of_tag : Scope → ASN1Type → Option (Option AsnTag)
  -- a type that a content holds: every name in it may stay
  pub of_contained : Scope → ASN1Type → Option ASN1Type

abbrev pub is_empty : {A : Type 0} → List A → Bool
is_empty [] = true
is_empty (x ∷ xs) = false

-- NULL, EXTERNAL and EMBEDDED PDV have no place for constraints.
abbrev pub has_no_place : TypeLayer → Bool
has_no_place ASN1Type-F.ASN1Type::Null = true
has_no_place ASN1Type-F.EmbeddedPdv = true
has_no_place ASN1Type-F.External = true
has_no_place _ = false

-- constraints of a place follow the type's own; no instance is a selection
abbrev pub followed_by : TypeLayer → List Constraint → Option TypeLayer
followed_by (ASN1Type-F.ChoiceSelectionType x) cs = None
followed_by l cs = Some (with_constraints_at l (listed (constraints_at l) ++ cs))

-- Of the names that may stay, a field of an object does, and so does a plain name where it is not followed down to the
-- head.
abbrev pub stays_at : Choices → Bool → Scope → ReferenceLayer → Option (List ℕ) → Bool
stays_at C down scope x (Some object) = C.keeps (Some object) x.identifier && is_none (bound_to scope object)
stays_at C down scope x None = C.keeps None x.identifier && (not down && (is_none (bound_to scope x.identifier) && is_empty (lists_in x.constraints)))

abbrev pub stays : Choices → Bool → Scope → ReferenceLayer → Bool
stays C down scope x = stays_at C down scope x x.parent

module _ (C : Choices) (defs : Definitions) (M : Meaning) (I : Instances) where
  -- ---- contents

  -- the type that is contained, and the encoding rules, each as it is in the scope
  abbrev pub content_bound : Scope → ContentLayer → Option ContentLayer
  content_bound scope (ContentConstraint-F.Containing ty) = once None (I.of_contained scope ty) (λ uy. Some (ContentConstraint-F.Containing uy))
  content_bound scope (ContentConstraint-F.EncodedBy rules) = once None (C.default M scope rules rules_read) (λ r. Some (ContentConstraint-F.EncodedBy r))
  content_bound scope (ContentConstraint-F.ContainingEncodedBy ty rules) =
      once None (I.of_contained scope ty) (λ uy. once None (C.default M scope rules rules_read) (λ r. Some (ContentConstraint-F.ContainingEncodedBy uy r)))

  -- in the empty scope it stays
  abbrev pub content_instance : Scope → ContentConstraint → Option ContentConstraint
  content_instance Empty c = Some c
  content_instance scope c = once None (content_bound scope (out-ContentConstraint c)) (λ l. Some (roll-ContentConstraint l))

  -- ---- constraints

  -- An argument list falls away; the other constraints stay, each with what stands for it.
  abbrev pub constraint_instance : Scope → Subject → ConstraintLayer → Option (List Constraint)
  constraint_instance scope j (Constraint-F.SubtypeConstraint x) = once None (I.of_set scope j x.set) (λ set. Some (roll-Constraint (Constraint-F.SubtypeConstraint (record x { set = set })) ∷ []))
  constraint_instance scope j (Constraint-F.TableConstraint x) = once None (C.table M scope x) (λ y. Some (roll-Constraint (Constraint-F.TableConstraint y) ∷ []))
  constraint_instance scope j (Constraint-F.Parameter arguments) = Some []
  constraint_instance scope j (Constraint-F.ContentConstraint x) = once None (content_instance scope x) (λ y. Some (roll-Constraint (Constraint-F.ContentConstraint y) ∷ []))

  -- constraints, written in a scope, on a type; without any its head is not asked for
  abbrev pub of_constraints : Scope → Place → List Constraint → Option (List Constraint)
  of_constraints scope p cs = gathered (λ c. once None (M.head p) (λ head. constraint_instance scope (OnValues head) (out-Constraint c))) cs

  -- the type of a part that WITH COMPONENTS names, of a head that is read in `inside`
  abbrev pub part_named : Scope → List ℕ → Kind → Option Place
  part_named inside name (ChoiceKind options) = once None (option_named options name) (λ o. Some (option_place inside o))
  part_named inside name (StructKind x) = once None (M.members inside x) (λ ms. once None (member_named ms name) (λ m. Some (member_place m)))
  part_named inside name _ = None

  abbrev pub listed_instance : Scope → Place → ListedLayer → Option ListedLayer
  listed_instance scope head c =
      once None (part_named head.scope c.identifier (kind_of head)) (λ p. once None (of_constraints scope p c.constraints) (λ cs. Some (record c { constraints = cs })))

  -- WITH COMPONENT and WITH COMPONENTS; characters have no parts
  abbrev pub component_instance : Scope → Subject → List Constraint → Option ElementLayer
  component_instance scope (OnValues head) cs =
      once None (element_place head) (λ p. once None (of_constraints scope p cs) (λ ds. Some (SubtypeElement-F.SingleTypeConstraint ds)))
  component_instance scope OnCharacters cs = None

  abbrev pub inner_instance : Scope → Subject → InnerLayer → Option ElementLayer
  inner_instance scope (OnValues head) inner =
      once None (traversed (listed_instance scope head) inner.constraints) (λ cs. Some (SubtypeElement-F.MultipleTypeConstraints (record inner { constraints = cs })))
  inner_instance scope OnCharacters inner = None

  -- A value name becomes a value of the same tree; the head of a contained subtype its type with the constraints on the way.
  abbrev pub element_instance : Scope → Subject → ElementLayer → Option ElementLayer
  element_instance scope j (SubtypeElement-F.SingleValue v extensible) = once None (C.value M scope v (values_read j)) (λ w. Some (SubtypeElement-F.SingleValue w extensible))
  element_instance scope j (SubtypeElement-F.ContainedSubtype ty extensible) = once None (I.of_type true scope ty) (λ uy. Some (SubtypeElement-F.ContainedSubtype uy extensible))
  element_instance scope j (SubtypeElement-F.TypeConstraint ty) = once None (I.of_type true scope ty) (λ uy. Some (SubtypeElement-F.TypeConstraint uy))
  element_instance scope j (SubtypeElement-F.ValueRange low high low_open high_open extensible) =
      once None (perhaps (λ v. C.end M scope v (ends_read j)) low) (λ l. once None (perhaps (λ v. C.end M scope v (ends_read j)) high) (λ h.
      Some (SubtypeElement-F.ValueRange l h low_open high_open extensible)))
  element_instance scope j (SubtypeElement-F.PermittedAlphabet set) = once None (I.of_set scope OnCharacters set) (λ s. Some (SubtypeElement-F.PermittedAlphabet s))
  element_instance scope j (SubtypeElement-F.SizeConstraint set) = once None (I.of_set scope (OnValues (integer_named None)) set) (λ s. Some (SubtypeElement-F.SizeConstraint s))
  element_instance scope j (SubtypeElement-F.SingleTypeConstraint cs) = component_instance scope j cs
  element_instance scope j (SubtypeElement-F.MultipleTypeConstraints inner) = inner_instance scope j inner
  element_instance scope j (SubtypeElement-F.PatternConstraint x) = Some (SubtypeElement-F.PatternConstraint x)
  element_instance scope j (SubtypeElement-F.UserDefinedConstraint x) = Some (SubtypeElement-F.UserDefinedConstraint x)
  element_instance scope j (SubtypeElement-F.PropertySettings x) = Some (SubtypeElement-F.PropertySettings x)

  abbrev pub operation_instance : Scope → Subject → OperationLayer → Option OperationLayer
  operation_instance scope j x = once None (I.of_element scope j x.base) (λ e. once None (I.of_set scope j x.operant) (λ s. Some (record x { base = e; operant = s })))

  abbrev pub set_instance : Scope → Subject → SetLayer → Option SetLayer
  set_instance scope j (ElementOrSetOperation-F.Element e) = once None (I.of_element scope j e) (λ f. Some (ElementOrSetOperation-F.Element f))
  set_instance scope j (ElementOrSetOperation-F.SetOperation x) =
      once None (operation_instance scope j (out-SetOperation x)) (λ y. Some (ElementOrSetOperation-F.SetOperation (roll-SetOperation y)))

  -- ---- tags

  -- the tag of the template or alternative that a name stands for
  abbrev pub own_tag : Scope → TypeLayer → Option AsnTag
  own_tag scope (ASN1Type-F.ElsewhereDeclaredType x) = if is_some (bound_to scope x.identifier) then None else once None (type_named defs x.identifier) (λ d. d.tag)
  own_tag scope (ASN1Type-F.ChoiceSelectionType x) = once None (head_named M scope x.choice_name) (λ h. once None (option_named (options_of h) x.selected_option) (λ o. o.tag))
  own_tag scope _ = None

  abbrev pub first_tag : Option AsnTag → Option (Option AsnTag) → Option (Option AsnTag)
  first_tag (Some tag) later = Some (Some tag)
  first_tag None later = later

  -- of several on the way the first
  abbrev pub brought : Scope → TypeLayer → Option Target → Option (Option AsnTag)
  brought scope l target = once None target (λ x. first_tag (own_tag scope l) (I.of_tag x.place.scope x.place.ty))

  -- A class field has no room for a tag: that of its type falls away.
  abbrev pub tag_instance : Scope → TypeLayer → Option (Option AsnTag)
  tag_instance scope (ASN1Type-F.ElsewhereDeclaredType x) = if stays C false scope x then Some None else brought scope (ASN1Type-F.ElsewhereDeclaredType x) (reference_target defs scope x)
  tag_instance scope (ASN1Type-F.ChoiceSelectionType x) = brought scope (ASN1Type-F.ChoiceSelectionType x) (selection_target M scope x)
  tag_instance scope _ = Some None

  -- a tag that is written stays; else the place takes the one that its type brings
  abbrev pub placed_tag : Scope → Option AsnTag → ASN1Type → Option (Option AsnTag)
  placed_tag scope (Some tag) ty = Some (Some tag)
  placed_tag scope None ty = I.of_tag scope ty

  -- ---- parts

  abbrev pub member_instance : Scope → MemberLayer → Option MemberLayer
  member_instance scope m =
      once None (I.of_type false scope m.ty) (λ ty. once None (of_constraints scope (place scope m.ty) m.constraints) (λ cs.
      once None (perhaps (λ v. C.default M scope v (place scope m.ty)) m.default_value) (λ d.
      once None (placed_tag scope m.tag m.ty) (λ tag. Some (record m { tag = tag; ty = ty; constraints = cs; default_value = d })))))

  -- the members from this number on, where the marker divides them as they were
  abbrev pub of_members : Option ℕ → ℕ → List Member → Option (List SequenceOrSetMember)
  of_members marker number [] = Some []
  of_members marker number (m ∷ ms) =
      if same_truth m.is_addition (is_addition_at marker number)
      then once None (member_instance m.scope m.written) (λ w. once None (of_members marker (suc number) ms) (λ ws. Some (roll-SequenceOrSetMember w ∷ ws)))
      else None

  -- The marker rises by the members that are put in before it; without COMPONENTS OF it stays.
  abbrev pub risen : StructLayer → List Member → Option ℕ
  risen x ms = if is_empty x.components_of then x.extensible else once None x.extensible (λ number. Some (length (root_members ms)))

  -- the places of names after COMPONENTS OF, of which none is left
  abbrev pub places_left : StructLayer → List (ℕ × Bool)
  places_left x = if is_empty x.components_of then x.components_at else []

  -- a SEQUENCE or SET, with the members that COMPONENTS OF puts in at their place, each read in its own scope
  abbrev pub struct_instance : Scope → ASN1Type → StructLayer → Option StructLayer
  struct_instance scope ty x =
      once None (M.members scope x) (λ ms. once None (of_members (risen x ms) 0 ms) (λ ws. once None (of_constraints scope (place scope ty) x.constraints) (λ cs.
      Some (record { components_of = []; components_at = places_left x; extensible = risen x ms; constraints = cs; members = ws }))))

  abbrev pub option_instance : Scope → OptionLayer → Option OptionLayer
  option_instance scope o = once None (I.of_type false scope o.ty) (λ ty. once None (of_constraints scope (place scope o.ty) o.constraints) (λ cs. once None (placed_tag scope o.tag o.ty) (λ tag. Some (record o { tag = tag; ty = ty; constraints = cs }))))

  abbrev pub of_options : Scope → List ChoiceOption → Option (List ChoiceOption)
  of_options scope os = traversed (λ o. once None (option_instance scope (out-ChoiceOption o)) (λ x. Some (roll-ChoiceOption x))) os

  abbrev pub list_instance : Scope → ASN1Type → ListLayer → Option ListLayer
  list_instance scope ty x =
      once None (I.of_type false scope x.element_type) (λ e. once None (of_constraints scope (place scope ty) x.constraints) (λ cs. Some (record x { element_type = e; constraints = cs })))

  -- ---- types

  -- a type whose constraints alone change
  abbrev pub constrained : Scope → ASN1Type → TypeLayer → Option TypeLayer
  constrained scope ty l = once None (of_constraints scope (place scope ty) (listed (constraints_at l))) (λ cs. Some (with_constraints_at l cs))

  -- The constraints that come along and those beside a name follow those of the type that takes its place; where that has no
  -- place for any, they fall away and are not read.
  abbrev pub extended : Scope → ASN1Type → List Constraint → Target → TypeLayer → Bool → Option TypeLayer
  extended scope ty beside x l true = Some l
  extended scope ty beside x l false =
      once None (of_constraints x.place.scope x.place x.constraints) (λ es. once None (of_constraints scope (place scope ty) beside) (λ ds. followed_by l (es ++ ds)))

  -- What a name leads to, as it is in its own scope, with these constraints.
  abbrev pub replaced : Bool → Scope → ASN1Type → List Constraint → Option Target → Option TypeLayer
  replaced down scope ty beside target =
      once None target (λ x. once None (I.of_type down x.place.scope x.place.ty) (λ uy. extended scope ty beside x (out-ASN1Type uy) (has_no_place (out-ASN1Type uy))))

  abbrev pub field_instance : Bool → Scope → ASN1Type → ClassFieldLayer → Option FieldType → Option TypeLayer
  field_instance down scope ty x None = None
  field_instance down scope ty x (Some Open) = if C.keeps None x.class then constrained scope ty (ASN1Type-F.InformationObjectFieldReference x) else None
  field_instance down scope ty x (Some (Fixed uy)) = replaced down scope ty x.constraints (Some (bare Empty uy))

  abbrev pub type_instance : Bool → Scope → ASN1Type → TypeLayer → Option TypeLayer
  type_instance down scope ty (ASN1Type-F.ElsewhereDeclaredType x) =
      if stays C down scope x then constrained scope ty (ASN1Type-F.ElsewhereDeclaredType x) else replaced down scope ty x.constraints (reference_target defs scope x)
  type_instance down scope ty (ASN1Type-F.ChoiceSelectionType x) = replaced down scope ty [] (selection_target M scope x)
  type_instance down scope ty (ASN1Type-F.InformationObjectFieldReference x) = field_instance down scope ty x (class_field_type defs scope x)
  type_instance down scope ty (ASN1Type-F.ASN1Type::Choice x) =
      once None (of_options scope (out-Choice x).options) (λ os. once None (of_constraints scope (place scope ty) (out-Choice x).constraints) (λ cs.
      Some (ASN1Type-F.ASN1Type::Choice (roll-Choice (record (out-Choice x) { options = os; constraints = cs })))))
  type_instance down scope ty (ASN1Type-F.Sequence x) = once None (struct_instance scope ty (out-SequenceOrSet x)) (λ y. Some (ASN1Type-F.Sequence (roll-SequenceOrSet y)))
  type_instance down scope ty (ASN1Type-F.Set x) = once None (struct_instance scope ty (out-SequenceOrSet x)) (λ y. Some (ASN1Type-F.Set (roll-SequenceOrSet y)))
  type_instance down scope ty (ASN1Type-F.SequenceOf x) = once None (list_instance scope ty (out-SequenceOrSetOf x)) (λ y. Some (ASN1Type-F.SequenceOf (roll-SequenceOrSetOf y)))
  type_instance down scope ty (ASN1Type-F.SetOf x) = once None (list_instance scope ty (out-SequenceOrSetOf x)) (λ y. Some (ASN1Type-F.SetOf (roll-SequenceOrSetOf y)))
  type_instance down scope ty l = constrained scope ty l

  -- ---- one level more

  abbrev pub type_at : Bool → Scope → ASN1Type → Option ASN1Type
  type_at down scope ty = once None (type_instance down scope ty (out-ASN1Type ty)) (λ l. Some (roll-ASN1Type l))

  -- with what is found of types that contents hold
  abbrev pub instance_at : (Scope → ASN1Type → Option ASN1Type) → Instances
  instance_at contained = record {
    of_type = type_at;
    of_contained = contained;
    of_set = λ scope j set. once None (set_instance scope j (out-ElementOrSetOperation set)) (λ l. Some (roll-ElementOrSetOperation l));
    of_tag = λ scope ty. tag_instance scope (out-ASN1Type ty);
    of_element = λ scope j e. once None (element_instance scope j (out-SubtypeElement e)) (λ l. Some (roll-SubtypeElement l));
  }

-- nothing is found without levels
unfoldable pub no_instance : Instances
no_instance = record {
  of_type = λ down scope ty. None;
  of_set = λ scope j set. None;
  of_element = λ scope j e. None;
  of_tag = λ scope ty. None;
  of_contained = λ scope ty. None;
}

-- The instances that are found within so many levels, by what `n` steps tell. A content has the instance of its type by which every
-- name may stay, since no reading of names looks at contents.
unfoldable pub instance : Choices → Definitions → ℕ → ℕ → Instances
instance C defs n zero = no_instance
instance C defs n (suc k) =
    instance_at C defs (meaning defs n) (instance C defs n k) (type_at (keeping_all C) defs (meaning defs n) (instance (keeping_all C) defs n k) false)
