-- What types hold beside types: the names in a selection, and the name of a group of members.
use Rattle.std.specs.Prelude.{ℕ, List, [], ◌∷◌, ◌++◌, codes, Option, Some, None}
use Rattle.asn_tree_kinds.specs.declared.types.ChoiceSelectionType.{ChoiceSelectionType}
use Rattle.asn_rules.specs.declared.names.TheConstants.{COMPONENT_PATH, IDENTIFIER, SEQUENCE_COMPONENT, SEQUENCE_OR_SET_MEMBER, TITLE_CASE_IDENTIFIER, VALUE_IDENTIFIER}
use Rattle.asn_rules.specs.declared.node.Node.{Node}
use Rattle.asn_rules.specs.declared.node.Node.TheViews.{out-Node}
use Rattle.asn_rules.specs.Nodes.{at_child, child_of, the}
use Rattle.asn_read_nodes.specs.Parts.{name_of, of_some}
use Rattle.asn_read_pieces.specs.Fields.{component_path_of}

-- the option of a CHOICE that a selection takes, and the name of the CHOICE (X.680 30.1)
abbrev pub selection_of : List ℕ → Node → Option ChoiceSelectionType
selection_of text n =
    of_some (the (child_of n VALUE_IDENTIFIER) (name_of text)) (λ option. of_some (the (child_of n TITLE_CASE_IDENTIFIER) (name_of text)) (λ choice. Some (record { choice_name = choice; selected_option = option })))

-- the first member in the nodes
abbrev pub first_member : List Node → Option Node
first_member [] = None
first_member (n ∷ ns) = at_child (child_of n SEQUENCE_OR_SET_MEMBER) (first_member ns) (λ member. Some member)

-- the type behind the first COMPONENTS OF of a group
abbrev pub taken_over : List ℕ → Node → Option (List ℕ)
taken_over text n = the (child_of n SEQUENCE_COMPONENT) (λ component. the (child_of component COMPONENT_PATH) (component_path_of text))

abbrev pub member_name : List ℕ → Node → Option (List ℕ)
member_name text n = the (child_of n IDENTIFIER) (name_of text)

-- `ext_group_` and the name of the group's first member; where it has none, the type behind its first COMPONENTS OF
abbrev pub group_name_of : List ℕ → Node → Option (List ℕ)
group_name_of text n = of_some (at_child (first_member (out-Node n).children) (taken_over text n) (member_name text)) (λ name. Some (codes "ext_group_" ++ name))
