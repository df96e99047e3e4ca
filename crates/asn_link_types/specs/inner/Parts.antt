-- What is made of the parts of a type, by what is found within `k` levels and by what `n` steps tell.
use Rattle.std.specs.Prelude.{ℕ, Bool, List, [], Option, Some, None, length, if◌then◌else◌}
use Rattle.asn_tree_headers.specs.declared.headers.AsnTag.{AsnTag}
use Rattle.asn_tree.specs.declared.constraints.Constraint.{Constraint, out-Constraint}
use Rattle.asn_tree.specs.declared.constraints.SubtypeElement.{SubtypeElement}
use Rattle.asn_tree.specs.declared.types.ASN1Type.{ASN1Type}
use Rattle.asn_tree.specs.declared.types.ChoiceOption.{ChoiceOption, out-ChoiceOption, roll-ChoiceOption}
use Rattle.asn_tree.specs.declared.values.ASN1Value.{ASN1Value}
use Rattle.asn_link_instance.specs.Instance.{constraint_instance, is_empty, listed_instance, member_instance, of_constraints, of_members, option_instance, placed_tag}
use Rattle.asn_link_instance.specs.Literals.{default_written, value_written}
use Rattle.asn_link_instance.specs.Subjects.{OnValues, Subject, ends_read, perhaps}
use Rattle.asn_link_types.specs.inner.Made.{followed_made, joined_made, struct_made}
use Rattle.asn_meaning.specs.Answers.{once}
use Rattle.asn_meaning.specs.Definitions.{Definitions}
use Rattle.asn_meaning.specs.Judge.{meaning}
use Rattle.asn_meaning.specs.Layers.{ListedLayer, MemberLayer, OperationLayer, OptionLayer, StructLayer, TypeLayer}
use Rattle.asn_meaning.specs.Meaning.{Meaning, Member}
use Rattle.asn_meaning.specs.Members.{is_addition_at, root_members}
use Rattle.asn_meaning.specs.Scopes.{Place, Scope}
use Rattle.asn_meaning.specs.ValueTrees.{same_truth}
use Rattle.asn_link_values.specs.Choosing.{chosen, instances}

-- ---- constraints

abbrev pub constraints_made : Definitions → ℕ → ℕ → Scope → Place → List Constraint → Option (List Constraint)
constraints_made defs n k scope p cs = of_constraints chosen defs (meaning defs n) (instances defs n k) scope p cs

-- one of the constraints on a head
abbrev pub constraint_on : Definitions → ℕ → ℕ → Scope → Place → Constraint → Option (List Constraint)
constraint_on defs n k scope head c = constraint_instance chosen defs (meaning defs n) (instances defs n k) scope (OnValues head) (out-Constraint c)

-- one of the components of a WITH COMPONENTS on a head
abbrev pub listed_on : Definitions → ℕ → ℕ → Scope → Place → ListedLayer → Option ListedLayer
listed_on defs n k scope head c = listed_instance chosen defs (meaning defs n) (instances defs n k) scope head c

-- an end of a range, where it is written
abbrev pub end_made : Meaning → Scope → Subject → Option ASN1Value → Option (Option ASN1Value)
end_made M scope j v = perhaps (λ v. value_written M scope v (ends_read j)) v

-- ---- what is left to be made once a part of it is

abbrev pub operation_behind : Definitions → ℕ → ℕ → Scope → Subject → OperationLayer → SubtypeElement → Option OperationLayer
operation_behind defs n k scope j x e = joined_made x e ((instances defs n k).of_set scope j x.operant)

abbrev pub default_made : Meaning → Place → Option ASN1Value → Option (Option ASN1Value)
default_made M p v = perhaps (λ v. default_written M p.scope v p) v

abbrev pub tag_made : Definitions → ℕ → ℕ → Place → Option AsnTag → Option (Option AsnTag)
tag_made defs n k p tag = placed_tag chosen defs (meaning defs n) (instances defs n k) p.scope tag p.ty

-- a member whose type is at the place
abbrev pub member_finished : Definitions → ℕ → ℕ → Place → MemberLayer → ASN1Type → List Constraint → Option MemberLayer
member_finished defs n k p m ty cs =
    once None (default_made (meaning defs n) p m.default_value) (λ d. once None (tag_made defs n k p m.tag) (λ tag. Some (record m { tag = tag; ty = ty; constraints = cs; default_value = d })))

abbrev pub member_typed : Definitions → ℕ → ℕ → Place → MemberLayer → ASN1Type → Option MemberLayer
member_typed defs n k p m ty = once None (constraints_made defs n k p.scope p m.constraints) (member_finished defs n k p m ty)

-- a member of this number, where the marker makes it what it was
abbrev pub member_at : Definitions → ℕ → ℕ → Option ℕ → ℕ → Member → Option MemberLayer
member_at defs n k marker number m =
    if same_truth m.is_addition (is_addition_at marker number) then member_instance chosen defs (meaning defs n) (instances defs n k) m.scope m.written else None

-- the marker behind the members of the root; without COMPONENTS OF as it stands
abbrev pub marker_behind : StructLayer → List Member → Option ℕ
marker_behind x ms = if is_empty x.components_of then x.extensible else once None x.extensible (λ number. Some (length (root_members ms)))

-- the places of names after COMPONENTS OF, where there are no such names
abbrev pub places_behind : StructLayer → List (ℕ × Bool)
places_behind x = if is_empty x.components_of then x.components_at else []

abbrev pub struct_with : Definitions → ℕ → ℕ → Place → StructLayer → List Member → Option StructLayer
struct_with defs n k p x ms =
    once None (of_members chosen defs (meaning defs n) (instances defs n k) (marker_behind x ms) 0 ms)
    (λ ws. struct_made (places_behind x) (marker_behind x ms) ws (constraints_made defs n k p.scope p x.constraints))

-- an option whose type is at the place
abbrev pub option_finished : Definitions → ℕ → ℕ → Place → OptionLayer → ASN1Type → List Constraint → Option OptionLayer
option_finished defs n k p o ty cs = once None (tag_made defs n k p o.tag) (λ tag. Some (record o { tag = tag; ty = ty; constraints = cs }))

abbrev pub option_typed : Definitions → ℕ → ℕ → Place → OptionLayer → ASN1Type → Option OptionLayer
option_typed defs n k p o ty = once None (constraints_made defs n k p.scope p o.constraints) (option_finished defs n k p o ty)

abbrev pub option_at : Definitions → ℕ → ℕ → Scope → ChoiceOption → Option ChoiceOption
option_at defs n k scope o = once None (option_instance chosen defs (meaning defs n) (instances defs n k) scope (out-ChoiceOption o)) (λ x. Some (roll-ChoiceOption x))

-- what takes the place of a name, of which the constraints that come along are made
abbrev pub extended_beside : Definitions → ℕ → ℕ → Place → List Constraint → TypeLayer → List Constraint → Option TypeLayer
extended_beside defs n k p beside l es = followed_made l es (constraints_made defs n k p.scope p beside)
