-- Constraints, and what stands in their parentheses.
use Rattle.std.specs.Prelude.{ℕ, List, [], false, Option, Some, None}
use Rattle.asn_rules.specs.declared.names.TheConstants.{ASN1_TYPE, ASN1_VALUE, CONSTRAINT_ITEM, CONTENT_BODY, CONTENT_CONSTRAINT, ELEMENT_SET, OBJECT_SET, PARAMETERS, RELATIONS, SINGLE_CONSTRAINT, SIZE_CONSTRAINT, TABLE_CONSTRAINT}
use Rattle.asn_rules.specs.declared.node.Node.{Node}
use Rattle.asn_rules.specs.Nodes.{Opened, at_child, child_among, made, made_all, the}
use Rattle.asn_tree_kinds.specs.declared.constraints.ElementSetOver.{ElementSetOver}
use Rattle.asn_tree_kinds.specs.declared.constraints.RelationalConstraint.{RelationalConstraint}
use Rattle.asn_tree_kinds.specs.declared.objects.ObjectSetOver.{ObjectSetOver}
use Rattle.asn_tree.specs.declared.constraints.Constraint.{Constraint}
use Rattle.asn_tree.specs.declared.constraints.Constraint.TheVariants as constraint
use Rattle.asn_tree.specs.declared.constraints.ContentConstraint.{ContentConstraint}
use Rattle.asn_tree.specs.declared.constraints.ContentConstraint.TheVariants.{Containing, ContainingEncodedBy, EncodedBy}
use Rattle.asn_tree.specs.declared.constraints.ElementOrSetOperation.{ElementOrSetOperation}
use Rattle.asn_tree.specs.declared.constraints.ElementOrSetOperation.TheVariants.{Element}
use Rattle.asn_tree.specs.declared.constraints.Parameter.{Parameter}
use Rattle.asn_tree.specs.declared.constraints.SubtypeElement.{SubtypeElement}
use Rattle.asn_tree.specs.declared.objects.InformationObjectFields.{InformationObjectFields}
use Rattle.asn_tree.specs.declared.types.ASN1Type.{ASN1Type}
use Rattle.asn_read_nodes.specs.Parts.{all_some, of_some}
use Rattle.asn_read_pieces.specs.Constraints.{relations_of}
use Rattle.asn_values.specs.Braces.{value_of}
use Rattle.asn_types.specs.Read.{Read, nodes}

-- the constraints behind a type, in order (X.680 49.6)
abbrev pub constraints_step : List ℕ → Opened Read → Option (List Constraint)
constraints_step text x = all_some (made_all x.children CONSTRAINT_ITEM (λ item. item.constraint))

-- a set of one element, with no extension marker behind it (X.680 50.1)
abbrev pub an_element : SubtypeElement → Constraint
an_element element = constraint.SubtypeConstraint (record { set = Element element; extensible = false })

abbrev pub element_with : Option SubtypeElement → Option Constraint
element_with element = of_some element (λ element. Some (an_element element))

abbrev pub arguments_with : Option (List Parameter) → Option Constraint
arguments_with arguments = of_some arguments (λ arguments. Some (constraint.Parameter arguments))

-- a constraint in parentheses; a SIZE without these, which is a set of that element (X.680 51.5); or the arguments of the
-- template before them (X.683 9.1)
abbrev pub constraint_step : List ℕ → Opened Read → Option Constraint
constraint_step text x =
    made x.children SINGLE_CONSTRAINT (made x.children SIZE_CONSTRAINT (made x.children PARAMETERS None (λ c. arguments_with c.parameters)) (λ c. element_with c.element_form)) (λ c. c.single)

abbrev pub contents_with : Option ContentConstraint → Option Constraint
contents_with content = of_some content (λ content. Some (constraint.ContentConstraint content))

abbrev pub subtype_with : Option (ElementSetOver ElementOrSetOperation) → Option Constraint
subtype_with set = of_some set (λ set. Some (constraint.SubtypeConstraint set))

-- what stands in the parentheses: what a string holds (X.682 11.1), a table (X.682 10.3), or a set of values (X.680 50.1)
abbrev pub single_step : List ℕ → Opened Read → Option Constraint
single_step text x =
    made x.children CONTENT_CONSTRAINT (made x.children TABLE_CONSTRAINT (made x.children ELEMENT_SET None (λ c. subtype_with c.set)) (λ c. c.table)) (λ c. contents_with c.content)

-- encodings of a value of this type, by the rules that the value names, where it stands
abbrev pub containing_with : List ℕ → Option Node → Option ASN1Type → Option ContentConstraint
containing_with text rules type =
    of_some type (λ type. at_child rules (Some (Containing type)) (λ rules. of_some (value_of text rules) (λ rules. Some (ContainingEncodedBy type rules))))

-- what the encoding rules give that the value names
abbrev pub encoded_with : List ℕ → Option Node → Option ContentConstraint
encoded_with text rules = of_some (the rules (value_of text)) (λ rules. Some (EncodedBy rules))

-- What a string holds, or how it is encoded (X.682 11.1), perhaps in parentheses.
abbrev pub content_step : List ℕ → Opened Read → Option ContentConstraint
content_step text x =
    let rules = child_among (nodes x.children) ASN1_VALUE in
    made x.children CONTENT_BODY (made x.children ASN1_TYPE (encoded_with text rules) (λ c. containing_with text rules c.type)) (λ c. c.content)

-- the members that choose a row of a table, in order; none where none stand (X.682 10.7)
abbrev pub members_in : List ℕ → Option Node → Option (List RelationalConstraint)
members_in text members = at_child members (Some []) (relations_of text)

-- an object set as a table, with the members that choose its row (X.682 10.3)
abbrev pub table_with : List ℕ → Option Node → Option (ObjectSetOver InformationObjectFields) → Option Constraint
table_with text members set =
    of_some set (λ set. of_some (members_in text members) (λ members. Some (constraint.TableConstraint (record { object_set = set; linked_fields = members }))))

abbrev pub table_step : List ℕ → Opened Read → Option Constraint
table_step text x = table_with text (child_among (nodes x.children) RELATIONS) (made x.children OBJECT_SET None (λ c. c.object_set))
