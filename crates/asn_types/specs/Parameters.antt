-- The arguments of templates (X.683 9.1).
use Rattle.std.specs.Prelude.{ℕ, List, Option, Some, None}
use Rattle.asn_rules.specs.declared.names.TheConstants.{ASN1_TYPE, ASN1_VALUE, INFORMATION_OBJECT, OBJECT_SET, PARAMETER}
use Rattle.asn_rules.specs.declared.node.Node.{Node}
use Rattle.asn_rules.specs.Nodes.{Opened, at_child, child_among, made, made_all}
use Rattle.asn_tree_kinds.specs.declared.objects.ObjectSetOver.{ObjectSetOver}
use Rattle.asn_tree.specs.declared.constraints.Parameter.{Parameter}
use Rattle.asn_tree.specs.declared.constraints.Parameter.TheVariants.{InformationObjectParameter, ObjectSetParameter, TypeParameter, ValueParameter}
use Rattle.asn_tree.specs.declared.objects.InformationObjectFields.{InformationObjectFields}
use Rattle.asn_tree.specs.declared.types.ASN1Type.{ASN1Type}
use Rattle.asn_read_nodes.specs.Parts.{all_some, of_some}
use Rattle.asn_values.specs.Braces.{value_of}
use Rattle.asn_types.specs.Read.{Read, nodes}

-- the arguments in the braces, in order
abbrev pub parameters_step : List ℕ → Opened Read → Option (List Parameter)
parameters_step text x = all_some (made_all x.children PARAMETER (λ argument. argument.parameter))

abbrev pub value_parameter_of : List ℕ → Node → Option Parameter
value_parameter_of text n = of_some (value_of text n) (λ value. Some (ValueParameter value))

abbrev pub type_parameter_with : Option ASN1Type → Option Parameter
type_parameter_with type = of_some type (λ type. Some (TypeParameter type))

abbrev pub set_parameter_with : Option (ObjectSetOver InformationObjectFields) → Option Parameter
set_parameter_with set = of_some set (λ set. Some (ObjectSetParameter set))

abbrev pub object_parameter_with : Option InformationObjectFields → Option Parameter
object_parameter_with object = of_some object (λ object. Some (InformationObjectParameter object))

-- an argument: a value, a type, an object set, or an object (X.683 9.5)
abbrev pub parameter_step : List ℕ → Opened Read → Option Parameter
parameter_step text x =
    at_child (child_among (nodes x.children) ASN1_VALUE) (made x.children ASN1_TYPE (made x.children OBJECT_SET (made x.children INFORMATION_OBJECT None (λ c. object_parameter_with c.object)) (λ c. set_parameter_with c.object_set)) (λ c. type_parameter_with c.type)) (value_parameter_of text)
