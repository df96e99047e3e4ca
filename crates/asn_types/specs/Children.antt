-- The options and the components among nodes, in order.
use Rattle.std.specs.Prelude.{ℕ, List, [], ◌∷◌, nat_eq, if◌then◌else◌, Option, Some}
use Rattle.asn_rules.specs.declared.names.TheConstants.{CHOICE_OPTION, EXTENSION_GROUP, OPTION_GROUP, SEQUENCE_COMPONENT}
use Rattle.asn_rules.specs.declared.node.Node.{Node}
use Rattle.asn_rules.specs.declared.node.Node.TheViews.{out-Node}
use Rattle.asn_tree.specs.declared.types.ChoiceOption.{ChoiceOption}
use Rattle.asn_tree.specs.declared.types.SequenceComponent.{SequenceComponent}
use Rattle.asn_types.specs.Choices.{one_option, options_before}
use Rattle.asn_types.specs.Members.{as_member, component_before}
use Rattle.asn_types.specs.Reading.{component_of, group_of, option_of, options_of}

-- the options; those of a group stand flat among them (X.680 29.1)
abbrev pub options_in : List ℕ → List Node → Option (List ChoiceOption)
options_in text [] = Some []
options_in text (n ∷ ns) =
    if nat_eq (out-Node n).rule CHOICE_OPTION then options_before (one_option (option_of text n)) (options_in text ns)
    else if nat_eq (out-Node n).rule OPTION_GROUP then options_before (options_of text n) (options_in text ns)
    else options_in text ns

-- the components; a group is the one member that it is (X.680 25.1)
abbrev pub components_in : List ℕ → List Node → Option (List SequenceComponent)
components_in text [] = Some []
components_in text (n ∷ ns) =
    if nat_eq (out-Node n).rule SEQUENCE_COMPONENT then component_before (component_of text n) (components_in text ns)
    else if nat_eq (out-Node n).rule EXTENSION_GROUP then component_before (as_member (group_of text n)) (components_in text ns)
    else components_in text ns
