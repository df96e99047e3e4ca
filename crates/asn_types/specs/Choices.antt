-- CHOICE and its options (X.680 29.1).
use Rattle.std.specs.Prelude.{ℕ, List, [], ◌∷◌, ◌++◌, nat_eq, if◌then◌else◌, Option, Some, None}
use Rattle.asn_rules.specs.declared.names.TheConstants.{ASN1_TYPE, ASN_TAG, CHOICE_OPTION, CONSTRAINT, IDENTIFIER, OPTION_GROUP}
use Rattle.asn_rules.specs.declared.node.Node.{Node}
use Rattle.asn_rules.specs.declared.node.Node.TheViews.{out-Node}
use Rattle.asn_rules.specs.Nodes.{Opened, child_of, closed, made, the}
use Rattle.asn_tree.specs.MakingTypes as making
use Rattle.asn_tree.specs.declared.constraints.Constraint.{Constraint}
use Rattle.asn_tree.specs.declared.types.ASN1Type.{ASN1Type, ASN1Type-F, roll-ASN1Type}
use Rattle.asn_tree.specs.declared.types.ChoiceOption.{ChoiceOption}
use Rattle.asn_read_nodes.specs.Parts.{if_there, name_of, of_some}
use Rattle.asn_read_pieces.specs.Tags.{tag_of}
use Rattle.asn_read_pieces.specs.Words.{extension_of}
use Rattle.asn_types.specs.Read.{Read}

-- an option: its name, its tag where it stands, its type, and the constraints behind the type, where they are the option's own
abbrev pub option_with : List ℕ → Node → Option ASN1Type → Option (List Constraint) → Option ChoiceOption
option_with text n type constraints =
    of_some (the (child_of n IDENTIFIER) (name_of text)) (λ name. of_some (if_there (child_of n ASN_TAG) (tag_of text)) (λ tag.
    of_some type (λ type. of_some constraints (λ cs. Some (making.option_of name tag type (Some cs))))))

abbrev pub option_step : List ℕ → Opened Read → Option ChoiceOption
option_step text x = option_with text (closed x) (made x.children ASN1_TYPE None (λ c. c.type)) (made x.children CONSTRAINT (Some []) (λ c. c.constraints))

-- these options, and behind them those of the nodes that follow
abbrev pub options_before : Option (List ChoiceOption) → Option (List ChoiceOption) → Option (List ChoiceOption)
options_before these those = of_some these (λ these. of_some those (λ those. Some (these ++ those)))

abbrev pub one_option : Option ChoiceOption → Option (List ChoiceOption)
one_option option = of_some option (λ option. Some (option ∷ []))

-- the options among the children, in order; those of a group stand flat among them
abbrev pub options_made : List (Node × Read) → Option (List ChoiceOption)
options_made [] = Some []
options_made (c ∷ cs) =
    if nat_eq (out-Node c.0).rule CHOICE_OPTION then options_before (one_option c.1.option) (options_made cs)
    else if nat_eq (out-Node c.0).rule OPTION_GROUP then options_before c.1.options (options_made cs)
    else options_made cs

abbrev pub options_step : List ℕ → Opened Read → Option (List ChoiceOption)
options_step text x = options_made x.children

-- A CHOICE: its options before the extension marker and behind it; it is extensible behind the first of these where the marker stands.
abbrev pub choice_with : Node → Option (List ChoiceOption) → Option (List ChoiceOption) → Option ASN1Type
choice_with n options additions =
    of_some options (λ options. of_some additions (λ additions. Some (roll-ASN1Type (ASN1Type-F.ASN1Type::Choice (making.choice_of options (extension_of n) (Some additions))))))
