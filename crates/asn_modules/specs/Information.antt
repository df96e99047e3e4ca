-- Definitions of classes, objects and object sets (X.681 9.1, 11.1, 12.1).
use Rattle.std.specs.Prelude.{ℕ, List, Option, Some, None}
use Rattle.asn_rules.specs.declared.names.TheConstants.{CLASS_NAME, IDENTIFIER, INFORMATION_OBJECT, INFORMATION_OBJECT_CLASS, OBJECT_SET, TOP_LEVEL_INFORMATION_OBJECT_DECLARATION, TOP_LEVEL_OBJECT_CLASS_DECLARATION, TOP_LEVEL_OBJECT_SET_DECLARATION, UPPERCASE_IDENTIFIER}
use Rattle.asn_rules.specs.declared.node.Node.{Node}
use Rattle.asn_rules.specs.Nodes.{at_child, child_of, the}
use Rattle.asn_tree.specs.declared.definitions.ToplevelInformationDefinition.{ToplevelInformationDefinition}
use Rattle.asn_tree.specs.declared.objects.ASN1Information.{ASN1Information}
use Rattle.asn_tree.specs.declared.objects.ASN1Information.TheVariants.{Object, ObjectClass, ObjectSet}
use Rattle.asn_tree.specs.declared.objects.ClassLink.{ClassLink}
use Rattle.asn_tree.specs.declared.objects.ClassLink.TheVariants.{ByName}
use Rattle.asn_tree.specs.declared.objects.InformationObjectClass.{InformationObjectClass}
use Rattle.asn_read_nodes.specs.Parts.{of_some}
use Rattle.asn_read_pieces.specs.Fields.{capitals_of}
use Rattle.asn_types.specs.Classes.{class_of, type_identifier}
use Rattle.asn_types.specs.Reading.{object_of, object_set_of}
use Rattle.asn_modules.specs.Headings.{Heading, heading_of}

-- the definition of these parts
abbrev pub a_definition : Heading → Option ClassLink → ASN1Information → ToplevelInformationDefinition
a_definition heading class value =
    record { comments = heading.0; name = heading.1; parameterization = heading.2; class = class; value = value; index = None }

-- comments, a name, parameters and a class; behind the assignment an object of the class
abbrev pub object_definition_of : List ℕ → Node → Option ToplevelInformationDefinition
object_definition_of text n =
    of_some (the (child_of n IDENTIFIER) (heading_of text n)) (λ heading. of_some (the (child_of n CLASS_NAME) (capitals_of text)) (λ class. of_some (the (child_of n INFORMATION_OBJECT) (object_of text)) (λ fields.
    Some (a_definition heading (Some (ByName class)) (Object (record { class_name = class; fields = fields }))))))

-- the same, and behind the assignment a set of objects of the class
abbrev pub set_definition_of : List ℕ → Node → Option ToplevelInformationDefinition
set_definition_of text n =
    of_some (the (child_of n IDENTIFIER) (heading_of text n)) (λ heading. of_some (the (child_of n CLASS_NAME) (capitals_of text)) (λ class. of_some (the (child_of n OBJECT_SET) (object_set_of text)) (λ set.
    Some (a_definition heading (Some (ByName class)) (ObjectSet set)))))

-- a class of its own, or the built-in one by its name
abbrev pub class_in : List ℕ → Node → Option InformationObjectClass
class_in text n = at_child (child_of n INFORMATION_OBJECT_CLASS) (Some type_identifier) (class_of text)

-- comments, a name in capitals and parameters; behind the assignment a class
abbrev pub class_definition_of : List ℕ → Node → Option ToplevelInformationDefinition
class_definition_of text n =
    of_some (the (child_of n UPPERCASE_IDENTIFIER) (heading_of text n)) (λ heading. of_some (class_in text n) (λ class. Some (a_definition heading None (ObjectClass class))))

-- one of the three
abbrev pub information_of : List ℕ → Node → Option ToplevelInformationDefinition
information_of text n =
    at_child (child_of n TOP_LEVEL_INFORMATION_OBJECT_DECLARATION)
    (at_child (child_of n TOP_LEVEL_OBJECT_SET_DECLARATION) (the (child_of n TOP_LEVEL_OBJECT_CLASS_DECLARATION) (class_definition_of text)) (set_definition_of text))
    (object_definition_of text)
