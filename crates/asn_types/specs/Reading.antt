-- What a node is as each part of a type, a constraint or an object: one step over what its children are, and the names of its fields.
use Rattle.std.specs.Prelude.{ℕ, List, Option}
use Rattle.asn_rules.specs.declared.node.Node.{Node}
use Rattle.asn_rules.specs.Nodes.{Opened, para}
use Rattle.asn_tree_kinds.specs.declared.constraints.ConstrainedComponentOver.{ConstrainedComponentOver}
use Rattle.asn_tree_kinds.specs.declared.constraints.ElementSetOver.{ElementSetOver}
use Rattle.asn_tree_kinds.specs.declared.objects.ObjectSetOver.{ObjectSetOver}
use Rattle.asn_tree_kinds.specs.declared.objects.ObjectSetValueOver.{ObjectSetValueOver}
use Rattle.asn_tree.specs.declared.constraints.Constraint.{Constraint}
use Rattle.asn_tree.specs.declared.constraints.ContentConstraint.{ContentConstraint}
use Rattle.asn_tree.specs.declared.constraints.ElementOrSetOperation.{ElementOrSetOperation}
use Rattle.asn_tree.specs.declared.constraints.Parameter.{Parameter}
use Rattle.asn_tree.specs.declared.constraints.SubtypeElement.{SubtypeElement}
use Rattle.asn_tree.specs.declared.objects.InformationObjectField.{InformationObjectField}
use Rattle.asn_tree.specs.declared.objects.InformationObjectFields.{InformationObjectFields}
use Rattle.asn_tree.specs.declared.objects.SyntaxApplication.{SyntaxApplication}
use Rattle.asn_tree.specs.declared.types.ASN1Type.{ASN1Type}
use Rattle.asn_tree.specs.declared.types.ChoiceOption.{ChoiceOption}
use Rattle.asn_tree.specs.declared.types.SequenceComponent.{SequenceComponent}
use Rattle.asn_tree.specs.declared.types.SequenceOrSet.{SequenceOrSet}
use Rattle.asn_tree.specs.declared.types.SequenceOrSetMember.{SequenceOrSetMember}
use Rattle.asn_types.specs.Choices.{option_step, options_step}
use Rattle.asn_types.specs.Constraints.{constraint_step, constraints_step, content_step, single_step, table_step}
use Rattle.asn_types.specs.Members.{body_step, component_step, components_step, group_step, member_step}
use Rattle.asn_types.specs.Objects.{custom_item_step, custom_syntax_step, default_field_step, default_syntax_step, object_item_step, object_list_step, object_set_step, object_step}
use Rattle.asn_types.specs.Parameters.{parameter_step, parameters_step}
use Rattle.asn_types.specs.Read.{Read}
use Rattle.asn_types.specs.Sets.{element_form_step, listed_one_step, listed_step, operation_step, rest_step, set_step, subtype_step}
use Rattle.asn_types.specs.Types.{element_step, form_step, type_step}

abbrev pub read_step : List ℕ → Opened Read → Read
read_step text x =
    record {
      form = form_step text x;
      type = type_step text x;
      element = element_step text x;
      body = body_step text x;
      components = components_step text x;
      component = component_step text x;
      group = group_step text x;
      member = member_step text x;
      options = options_step text x;
      option = option_step text x;
      constraints = constraints_step text x;
      constraint = constraint_step text x;
      single = single_step text x;
      content = content_step text x;
      table = table_step text x;
      set = set_step text x;
      rest = rest_step text x;
      operation = operation_step text x;
      subtype = subtype_step text x;
      element_form = element_form_step text x;
      listed = listed_step text x;
      listed_one = listed_one_step text x;
      parameters = parameters_step text x;
      parameter = parameter_step text x;
      object = object_step text x;
      default_syntax = default_syntax_step text x;
      default_field = default_field_step text x;
      custom_syntax = custom_syntax_step text x;
      custom_item = custom_item_step text x;
      object_set = object_set_step text x;
      object_list = object_list_step text x;
      object_item = object_item_step text x;
    }

unfoldable pub read : List ℕ → Node → Read
read text = para Read (read_step text)

-- types: a node of one of the forms of types, of a type, of the element of a list
abbrev pub form_of : List ℕ → Node → Option ASN1Type
form_of text n = (read text n).form

abbrev pub type_of : List ℕ → Node → Option ASN1Type
type_of text n = (read text n).type

abbrev pub element_of : List ℕ → Node → Option ASN1Type
element_of text n = (read text n).element

-- members: what stands between the braces (without constraints), a list of components, a component, a group in brackets, a member
abbrev pub body_of : List ℕ → Node → Option SequenceOrSet
body_of text n = (read text n).body

abbrev pub components_of : List ℕ → Node → Option (List SequenceComponent)
components_of text n = (read text n).components

abbrev pub component_of : List ℕ → Node → Option SequenceComponent
component_of text n = (read text n).component

abbrev pub group_of : List ℕ → Node → Option SequenceOrSetMember
group_of text n = (read text n).group

abbrev pub member_of : List ℕ → Node → Option SequenceOrSetMember
member_of text n = (read text n).member

-- options of a CHOICE: a list, groups laid flat; an option
abbrev pub options_of : List ℕ → Node → Option (List ChoiceOption)
options_of text n = (read text n).options

abbrev pub option_of : List ℕ → Node → Option ChoiceOption
option_of text n = (read text n).option

-- constraints: those behind a type, one of them, one in parentheses, contents, a table
abbrev pub constraints_of : List ℕ → Node → Option (List Constraint)
constraints_of text n = (read text n).constraints

abbrev pub constraint_of : List ℕ → Node → Option Constraint
constraint_of text n = (read text n).constraint

abbrev pub single_of : List ℕ → Node → Option Constraint
single_of text n = (read text n).single

abbrev pub content_of : List ℕ → Node → Option ContentConstraint
content_of text n = (read text n).content

abbrev pub table_of : List ℕ → Node → Option Constraint
table_of text n = (read text n).table

-- sets of values: a set with its marker, what is left of one, an operation, an element, a form of element
abbrev pub set_of : List ℕ → Node → Option (ElementSetOver ElementOrSetOperation)
set_of text n = (read text n).set

abbrev pub rest_of : List ℕ → Node → Option ElementOrSetOperation
rest_of text n = (read text n).rest

abbrev pub operation_of : List ℕ → Node → Option ElementOrSetOperation
operation_of text n = (read text n).operation

abbrev pub subtype_of : List ℕ → Node → Option SubtypeElement
subtype_of text n = (read text n).subtype

abbrev pub element_form_of : List ℕ → Node → Option SubtypeElement
element_form_of text n = (read text n).element_form

-- the listed components of WITH COMPONENTS, and one of them
abbrev pub listed_of : List ℕ → Node → Option (List (ConstrainedComponentOver Constraint))
listed_of text n = (read text n).listed

abbrev pub listed_one_of : List ℕ → Node → Option (ConstrainedComponentOver Constraint)
listed_one_of text n = (read text n).listed_one

-- arguments of a template, and one of them
abbrev pub parameters_of : List ℕ → Node → Option (List Parameter)
parameters_of text n = (read text n).parameters

abbrev pub parameter_of : List ℕ → Node → Option Parameter
parameter_of text n = (read text n).parameter

-- objects: what stands between the braces, fields by default, one of them, a class's own syntax, an item of it
abbrev pub object_of : List ℕ → Node → Option InformationObjectFields
object_of text n = (read text n).object

abbrev pub default_syntax_of : List ℕ → Node → Option (List InformationObjectField)
default_syntax_of text n = (read text n).default_syntax

abbrev pub default_field_of : List ℕ → Node → Option InformationObjectField
default_field_of text n = (read text n).default_field

abbrev pub custom_syntax_of : List ℕ → Node → Option (List SyntaxApplication)
custom_syntax_of text n = (read text n).custom_syntax

abbrev pub custom_item_of : List ℕ → Node → Option SyntaxApplication
custom_item_of text n = (read text n).custom_item

-- sets of objects, a list of items, an item
abbrev pub object_set_of : List ℕ → Node → Option (ObjectSetOver InformationObjectFields)
object_set_of text n = (read text n).object_set

abbrev pub object_list_of : List ℕ → Node → Option (List (ObjectSetValueOver InformationObjectFields))
object_list_of text n = (read text n).object_list

abbrev pub object_item_of : List ℕ → Node → Option (ObjectSetValueOver InformationObjectFields)
object_item_of text n = (read text n).object_item
