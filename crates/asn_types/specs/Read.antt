-- What a node is as each part of a type, a constraint or an object. These lead back to each other, so they are told together.
use Rattle.std.specs.Prelude.{List, map, Option}
use Rattle.asn_rules.specs.declared.node.Node.{Node}
use Rattle.asn_tree_kinds.specs.declared.constraints.ConstrainedComponentOver.{ConstrainedComponentOver}
use Rattle.asn_tree_kinds.specs.declared.constraints.ElementSetOver.{ElementSetOver}
use Rattle.asn_tree_kinds.specs.declared.objects.ObjectSetOver.{ObjectSetOver}
use Rattle.asn_tree_kinds.specs.declared.objects.ObjectSetValueOver.{ObjectSetValueOver}
use Rattle.asn_tree.specs.declared.constraints.Constraint.{Constraint}
use Rattle.asn_tree.specs.declared.constraints.ContentConstraint.{ContentConstraint}
use Rattle.asn_tree.specs.declared.constraints.ElementOrSetOperation.{ElementOrSetOperation}
use Rattle.asn_tree.specs.declared.constraints.Parameter.{Parameter}
use Rattle.asn_tree.specs.declared.constraints.SubtypeElement.{SubtypeElement}
use Rattle.asn_tree.specs.declared.objects.InformationObjectField.{InformationObjectField}
use Rattle.asn_tree.specs.declared.objects.InformationObjectFields.{InformationObjectFields}
use Rattle.asn_tree.specs.declared.objects.SyntaxApplication.{SyntaxApplication}
use Rattle.asn_tree.specs.declared.types.ASN1Type.{ASN1Type}
use Rattle.asn_tree.specs.declared.types.ChoiceOption.{ChoiceOption}
use Rattle.asn_tree.specs.declared.types.SequenceComponent.{SequenceComponent}
use Rattle.asn_tree.specs.declared.types.SequenceOrSet.{SequenceOrSet}
use Rattle.asn_tree.specs.declared.types.SequenceOrSetMember.{SequenceOrSetMember}

pub record Read : Type 0 where
  -- types: a node of one of the forms of types, of a type, of the element of a list
  pub form : Option ASN1Type
  pub type : Option ASN1Type
  pub element : Option ASN1Type
  -- members: what stands between the braces (without constraints), a list of components, a component, a group in brackets, a member
  pub body : Option SequenceOrSet
  pub components : Option (List SequenceComponent)
  pub component : Option SequenceComponent
  pub group : Option SequenceOrSetMember
  pub member : Option SequenceOrSetMember
  -- options of a CHOICE: a list, groups laid flat; an option
  pub options : Option (List ChoiceOption)
  pub option : Option ChoiceOption
  -- constraints: those behind a type, one of them, one in parentheses, contents, a table
  pub constraints : Option (List Constraint)
  pub constraint : Option Constraint
  pub single : Option Constraint
  pub content : Option ContentConstraint
  pub table : Option Constraint
  -- sets of values: a set with its marker, what is left of one, an operation, an element, a form of element
  pub set : Option (ElementSetOver ElementOrSetOperation)
  pub rest : Option ElementOrSetOperation
  pub operation : Option ElementOrSetOperation
  pub subtype : Option SubtypeElement
  pub element_form : Option SubtypeElement
  -- the listed components of WITH COMPONENTS, and one of them
  pub listed : Option (List (ConstrainedComponentOver Constraint))
  pub listed_one : Option (ConstrainedComponentOver Constraint)
  -- arguments of a template, and one of them
  pub parameters : Option (List Parameter)
  pub parameter : Option Parameter
  -- objects: what stands between the braces, fields by default, one of them, a class's own syntax, an item of it
  pub object : Option InformationObjectFields
  pub default_syntax : Option (List InformationObjectField)
  pub default_field : Option InformationObjectField
  pub custom_syntax : Option (List SyntaxApplication)
  pub custom_item : Option SyntaxApplication
  -- sets of objects, a list of items, an item
  pub object_set : Option (ObjectSetOver InformationObjectFields)
  pub object_list : Option (List (ObjectSetValueOver InformationObjectFields))
  pub object_item : Option (ObjectSetValueOver InformationObjectFields)

abbrev pub nodes : List (Node × Read) → List Node
nodes cs = map (λ c. c.0) cs
