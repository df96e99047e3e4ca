-- Classes that are made of parts.
use Rattle.std.specs.Prelude.{List, Option}
use Rattle.std.specs.Option.{option_map}
use Rattle.asn_tree.specs.declared.objects.InformationObjectClass.{InformationObjectClass}
use Rattle.asn_tree.specs.declared.objects.InformationObjectClassField.{InformationObjectClassField}
use Rattle.asn_tree_leaves.specs.declared.objects.SyntaxExpression.{SyntaxExpression}

-- a class of these fields, and of this syntax where one stands (X.681 9.3)
abbrev pub class_of : List InformationObjectClassField → Option (List SyntaxExpression) → InformationObjectClass
class_of fields expressions =
    record {
      fields = fields;
      syntax = option_map (λ es. record { expressions = es }) expressions;
    }
