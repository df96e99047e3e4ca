-- Trees and their layers, put together from parts that are made or not.
use Rattle.std.specs.Prelude.{ℕ, Bool, List, [], ◌∷◌, ◌++◌, Option, Some, None}
use Rattle.asn_tree.specs.declared.constraints.Constraint.{Constraint, Constraint-F, roll-Constraint}
use Rattle.asn_tree.specs.Layers.{ContentLayer}
use Rattle.asn_tree.specs.declared.constraints.ContentConstraint.{ContentConstraint, ContentConstraint-F}
use Rattle.asn_tree.specs.declared.constraints.ElementOrSetOperation.{ElementOrSetOperation, ElementOrSetOperation-F}
use Rattle.asn_tree.specs.declared.constraints.SetOperation.{roll-SetOperation}
use Rattle.asn_tree.specs.declared.constraints.SubtypeElement.{SubtypeElement, SubtypeElement-F}
use Rattle.asn_tree_kinds.specs.declared.constraints.ElementSetOver.{ElementSetOver}
use Rattle.asn_tree.specs.declared.types.ASN1Type.{ASN1Type, ASN1Type-F}
use Rattle.asn_tree.specs.declared.types.Choice.{Choice, out-Choice, roll-Choice}
use Rattle.asn_tree.specs.declared.types.ChoiceOption.{ChoiceOption}
use Rattle.asn_tree.specs.declared.types.SequenceOrSet.{roll-SequenceOrSet}
use Rattle.asn_tree.specs.declared.types.SequenceOrSetMember.{SequenceOrSetMember}
use Rattle.asn_tree.specs.declared.types.SequenceOrSetOf.{roll-SequenceOrSetOf}
use Rattle.asn_tree.specs.declared.values.ASN1Value.{ASN1Value}
use Rattle.asn_calls.specs.Types.{with_constraints_at}
use Rattle.asn_link_instance.specs.Instance.{followed_by}
use Rattle.asn_link_instance.specs.Subjects.{TableLayer}
use Rattle.asn_meaning.specs.Answers.{once}
use Rattle.asn_meaning.specs.Layers.{ClassFieldLayer, ElementLayer, InnerLayer, ListedLayer, ListLayer, OperationLayer, ReferenceLayer, SetLayer, StructLayer, TypeLayer}

-- ---- types

abbrev pub sequence_made : Option StructLayer → Option TypeLayer
sequence_made y = once None y (λ y. Some (ASN1Type-F.Sequence (roll-SequenceOrSet y)))

abbrev pub set_made : Option StructLayer → Option TypeLayer
set_made y = once None y (λ y. Some (ASN1Type-F.Set (roll-SequenceOrSet y)))

abbrev pub sequence_of_made : Option ListLayer → Option TypeLayer
sequence_of_made y = once None y (λ y. Some (ASN1Type-F.SequenceOf (roll-SequenceOrSetOf y)))

abbrev pub set_of_made : Option ListLayer → Option TypeLayer
set_of_made y = once None y (λ y. Some (ASN1Type-F.SetOf (roll-SequenceOrSetOf y)))

abbrev pub choice_made : Choice → List ChoiceOption → Option (List Constraint) → Option TypeLayer
choice_made x os cs = once None cs (λ cs. Some (ASN1Type-F.ASN1Type::Choice (roll-Choice (record (out-Choice x) { options = os; constraints = cs }))))

abbrev pub choice_layer : Choice → TypeLayer
choice_layer x = ASN1Type-F.ASN1Type::Choice x

abbrev pub field_layer : ClassFieldLayer → TypeLayer
field_layer x = ASN1Type-F.InformationObjectFieldReference x

abbrev pub reference_layer : ReferenceLayer → TypeLayer
reference_layer x = ASN1Type-F.ElsewhereDeclaredType x

abbrev pub reference_with : ReferenceLayer → List Constraint → TypeLayer
reference_with x cs = ASN1Type-F.ElsewhereDeclaredType (record x { constraints = cs })

abbrev pub reference_made : ReferenceLayer → Option (List Constraint) → Option TypeLayer
reference_made x cs = once None cs (λ cs. Some (reference_with x cs))

-- a SEQUENCE or SET of these members
abbrev pub struct_made : List (ℕ × Bool) → Option ℕ → List SequenceOrSetMember → Option (List Constraint) → Option StructLayer
struct_made places marker ws cs = once None cs (λ cs. Some (record { components_of = []; components_at = places; extensible = marker; constraints = cs; members = ws }))

abbrev pub list_made : ListLayer → ASN1Type → Option (List Constraint) → Option ListLayer
list_made x e cs = once None cs (λ cs. Some (record x { element_type = e; constraints = cs }))

-- a type with other constraints, and one whose constraints are followed by these
abbrev pub constrained_made : TypeLayer → Option (List Constraint) → Option TypeLayer
constrained_made l cs = once None cs (λ cs. Some (with_constraints_at l cs))

abbrev pub followed_made : TypeLayer → List Constraint → Option (List Constraint) → Option TypeLayer
followed_made l es ds = once None ds (λ ds. followed_by l (es ++ ds))

-- ---- constraints

abbrev pub subtype_made : ElementSetOver ElementOrSetOperation → Option ElementOrSetOperation → Option (List Constraint)
subtype_made x set = once None set (λ set. Some (roll-Constraint (Constraint-F.SubtypeConstraint (record x { set = set })) ∷ []))

abbrev pub table_made : TableLayer → List Constraint
table_made x = roll-Constraint (Constraint-F.TableConstraint x) ∷ []

abbrev pub content_made : Option ContentConstraint → Option (List Constraint)
content_made y = once None y (λ y. Some (roll-Constraint (Constraint-F.ContentConstraint y) ∷ []))

abbrev pub listed_made : ListedLayer → Option (List Constraint) → Option ListedLayer
listed_made c cs = once None cs (λ cs. Some (record c { constraints = cs }))

-- ---- contents

abbrev pub containing_made : Option ASN1Type → Option ContentLayer
containing_made ty = once None ty (λ uy. Some (ContentConstraint-F.Containing uy))

abbrev pub encoded_made : Option ASN1Value → Option ContentLayer
encoded_made rules = once None rules (λ r. Some (ContentConstraint-F.EncodedBy r))

abbrev pub containing_encoded_made : ASN1Type → Option ASN1Value → Option ContentLayer
containing_encoded_made uy rules = once None rules (λ r. Some (ContentConstraint-F.ContainingEncodedBy uy r))

-- ---- elements

abbrev pub single_made : Bool → Option ASN1Value → Option ElementLayer
single_made extensible v = once None v (λ w. Some (SubtypeElement-F.SingleValue w extensible))

abbrev pub contained_made : Bool → Option ASN1Type → Option ElementLayer
contained_made extensible ty = once None ty (λ uy. Some (SubtypeElement-F.ContainedSubtype uy extensible))

abbrev pub type_constraint_made : Option ASN1Type → Option ElementLayer
type_constraint_made ty = once None ty (λ uy. Some (SubtypeElement-F.TypeConstraint uy))

abbrev pub range_made : Bool → Bool → Bool → Option (Option ASN1Value) → Option (Option ASN1Value) → Option ElementLayer
range_made low_open high_open extensible low high = once None low (λ l. once None high (λ h. Some (SubtypeElement-F.ValueRange l h low_open high_open extensible)))

abbrev pub alphabet_made : Option ElementOrSetOperation → Option ElementLayer
alphabet_made set = once None set (λ s. Some (SubtypeElement-F.PermittedAlphabet s))

abbrev pub size_made : Option ElementOrSetOperation → Option ElementLayer
size_made set = once None set (λ s. Some (SubtypeElement-F.SizeConstraint s))

abbrev pub component_made : Option (List Constraint) → Option ElementLayer
component_made cs = once None cs (λ ds. Some (SubtypeElement-F.SingleTypeConstraint ds))

abbrev pub inner_made : InnerLayer → Option (List ListedLayer) → Option ElementLayer
inner_made inner cs = once None cs (λ cs. Some (SubtypeElement-F.MultipleTypeConstraints (record inner { constraints = cs })))

-- ---- sets

abbrev pub element_set_made : Option SubtypeElement → Option SetLayer
element_set_made e = once None e (λ f. Some (ElementOrSetOperation-F.Element f))

abbrev pub operation_set_made : Option OperationLayer → Option SetLayer
operation_set_made y = once None y (λ y. Some (ElementOrSetOperation-F.SetOperation (roll-SetOperation y)))

abbrev pub joined_made : OperationLayer → SubtypeElement → Option ElementOrSetOperation → Option OperationLayer
joined_made x e set = once None set (λ s. Some (record x { base = e; operant = s }))

-- ---- values

-- one that is there, where it is made
abbrev pub present : Option ASN1Value → Option (Option ASN1Value)
present v = once None v (λ w. Some (Some w))
