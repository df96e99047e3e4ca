-- The members of SEQUENCE and SET (X.680 25.1, 27.1).
use Rattle.std.specs.Prelude.{ℕ, List, [], ◌∷◌, ◌++◌, nat_eq, if◌then◌else◌, Option, Some, None}
use Rattle.asn_tree_leaves.specs.declared.markers.ExtensionMarker.{ExtensionMarker}
use Rattle.asn_rules.specs.declared.names.TheConstants.{ADDITION_LIST, ASN1_TYPE, ASN1_VALUE, ASN_TAG, COMPONENT_LIST, COMPONENT_PATH, CONSTRAINT, DEFAULT, EXTENSION_GROUP, IDENTIFIER, OPTIONAL_MARKER, SEQUENCE_COMPONENT, SEQUENCE_OR_SET_MEMBER}
use Rattle.asn_rules.specs.declared.node.Node.{Node}
use Rattle.asn_rules.specs.declared.node.Node.TheViews.{out-Node}
use Rattle.asn_rules.specs.Nodes.{Opened, child_of, closed, made, the}
use Rattle.asn_tree.specs.MakingTypes as making
use Rattle.asn_tree.specs.declared.constraints.Constraint.{Constraint}
use Rattle.asn_tree.specs.declared.types.ASN1Type.{ASN1Type, ASN1Type-F, roll-ASN1Type}
use Rattle.asn_tree.specs.declared.types.SequenceComponent.{SequenceComponent}
use Rattle.asn_tree.specs.declared.types.SequenceComponent.TheVariants.{ComponentsOf, Member}
use Rattle.asn_tree.specs.declared.types.SequenceOrSet.{SequenceOrSet}
use Rattle.asn_tree.specs.declared.types.SequenceOrSetMember.{SequenceOrSetMember}
use Rattle.asn_tree.specs.declared.values.ASN1Value.{ASN1Value}
use Rattle.asn_read_nodes.specs.Parts.{if_there, name_of, of_some}
use Rattle.asn_read_pieces.specs.Fields.{component_path_of}
use Rattle.asn_read_pieces.specs.Tags.{tag_of}
use Rattle.asn_read_pieces.specs.Types.{group_name_of}
use Rattle.asn_read_pieces.specs.Words.{extension_of, optional_of}
use Rattle.asn_values.specs.Braces.{value_of}
use Rattle.asn_types.specs.Read.{Read}

-- the value behind the word DEFAULT, where it stands (X.680 25.1)
abbrev pub default_of : List ℕ → Node → Option (Option ASN1Value)
default_of text n = if_there (child_of n ASN1_VALUE) (value_of text)

-- A member: its name, its tag where it stands, its type, the constraints behind the type where they are the member's own, and its default. It is
-- optional where the word OPTIONAL or a default stands.
abbrev pub member_with : List ℕ → Node → Option ASN1Type → Option (List Constraint) → Option SequenceOrSetMember
member_with text n type constraints =
    of_some (the (child_of n IDENTIFIER) (name_of text)) (λ name. of_some (if_there (child_of n ASN_TAG) (tag_of text)) (λ tag.
    of_some type (λ type. of_some constraints (λ cs. the (child_of n OPTIONAL_MARKER) (λ marker. of_some (the (child_of n DEFAULT) (default_of text)) (λ default.
    Some (making.member_of name tag type (Some cs) (optional_of marker) default)))))))

abbrev pub member_step : List ℕ → Opened Read → Option SequenceOrSetMember
member_step text x = member_with text (closed x) (made x.children ASN1_TYPE None (λ c. c.type)) (made x.children CONSTRAINT (Some []) (λ c. c.constraints))

abbrev pub as_member : Option SequenceOrSetMember → Option SequenceComponent
as_member member = of_some member (λ member. Some (Member member))

-- the name behind COMPONENTS OF
abbrev pub taken_over : List ℕ → Node → Option SequenceComponent
taken_over text n = the (child_of n COMPONENT_PATH) (λ path. of_some (component_path_of text path) (λ name. Some (ComponentsOf name)))

-- a component: a member, or COMPONENTS OF and the name of a type
abbrev pub component_step : List ℕ → Opened Read → Option SequenceComponent
component_step text x = made x.children SEQUENCE_OR_SET_MEMBER (taken_over text (closed x)) (λ c. as_member c.member)

-- this component, and behind it those of the nodes that follow
abbrev pub component_before : Option SequenceComponent → Option (List SequenceComponent) → Option (List SequenceComponent)
component_before this those = of_some this (λ this. of_some those (λ those. Some (this ∷ those)))

-- the components among the children, in order; a group is the one member that it is
abbrev pub components_made : List (Node × Read) → Option (List SequenceComponent)
components_made [] = Some []
components_made (c ∷ cs) =
    if nat_eq (out-Node c.0).rule SEQUENCE_COMPONENT then component_before c.1.component (components_made cs)
    else if nat_eq (out-Node c.0).rule EXTENSION_GROUP then component_before (as_member c.1.group) (components_made cs)
    else components_made cs

abbrev pub components_step : List ℕ → Opened Read → Option (List SequenceComponent)
components_step text x = components_made x.children

-- The member that a group of additions is (X.680 25.8): a SEQUENCE of its components, not optional and without tag.
abbrev pub a_group : List ℕ → List SequenceComponent → SequenceOrSetMember
a_group name components =
    making.member_of name None (roll-ASN1Type (ASN1Type-F.Sequence (making.sequence_of components None None None))) None None None

abbrev pub group_with : List ℕ → Node → Option (List SequenceComponent) → Option SequenceOrSetMember
group_with text n components = of_some (group_name_of text n) (λ name. of_some components (λ components. Some (a_group name components)))

abbrev pub group_step : List ℕ → Opened Read → Option SequenceOrSetMember
group_step text x = group_with text (closed x) (components_made x.children)

-- What stands between the braces: the components before the extension marker and the additions behind it. Without a marker nothing is an
-- addition.
abbrev pub a_body : List SequenceComponent → Option ExtensionMarker → List SequenceComponent → SequenceOrSet
a_body components None further = making.sequence_of (components ++ further) None None None
a_body components (Some marker) additions = making.sequence_of components (Some marker) (Some additions) None

abbrev pub body_with : Node → Option (List SequenceComponent) → Option (List SequenceComponent) → Option SequenceOrSet
body_with n components further = of_some components (λ components. of_some further (λ further. Some (a_body components (extension_of n) further)))

abbrev pub body_step : List ℕ → Opened Read → Option SequenceOrSet
body_step text x = body_with (closed x) (made x.children COMPONENT_LIST None (λ c. c.components)) (made x.children ADDITION_LIST None (λ c. c.components))
