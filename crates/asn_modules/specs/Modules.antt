-- Modules and whole texts (X.680 13.1).
use Rattle.std.specs.Prelude.{ℕ, List, Option, Some}
use Rattle.asn_tree_headers.specs.declared.headers.ModuleReference.{ModuleReference}
use Rattle.asn_rules.specs.declared.names.TheConstants.{ASN_MODULE, DEFINITION, MODULE_REFERENCE, TOP_LEVEL_INFORMATION_DECLARATION, TOP_LEVEL_TYPE_DECLARATION, TOP_LEVEL_VALUE_DECLARATION}
use Rattle.asn_rules.specs.declared.node.Node.{Node}
use Rattle.asn_rules.specs.declared.node.Node.TheViews.{out-Node}
use Rattle.asn_rules.specs.Nodes.{at_child, at_children, child_of, the}
use Rattle.asn_tree.specs.declared.definitions.ToplevelDefinition.{ToplevelDefinition}
use Rattle.asn_tree.specs.declared.definitions.ToplevelDefinition.TheVariants.{Information, TypeDef, Value}
use Rattle.asn_read_headers.specs.Headers.{header_of}
use Rattle.asn_read_nodes.specs.Parts.{all_some, of_some}
use Rattle.asn_modules.specs.Information.{information_of}
use Rattle.asn_modules.specs.Types.{type_definition_of}
use Rattle.asn_modules.specs.Values.{value_definition_of}

abbrev pub an_information_of : List ℕ → Node → Option ToplevelDefinition
an_information_of text n = of_some (information_of text n) (λ definition. Some (Information definition))

abbrev pub a_type_of : List ℕ → Node → Option ToplevelDefinition
a_type_of text n = of_some (type_definition_of text n) (λ definition. Some (TypeDef definition))

abbrev pub a_value_of : List ℕ → Node → Option ToplevelDefinition
a_value_of text n = of_some (value_definition_of text n) (λ definition. Some (Value definition))

-- a definition: of a class, an object or an object set, of a type, or of a value
abbrev pub definition_of : List ℕ → Node → Option ToplevelDefinition
definition_of text n =
    at_child (child_of n TOP_LEVEL_INFORMATION_DECLARATION)
    (at_child (child_of n TOP_LEVEL_TYPE_DECLARATION) (the (child_of n TOP_LEVEL_VALUE_DECLARATION) (a_value_of text)) (a_type_of text))
    (an_information_of text)

abbrev pub definitions_in : List ℕ → List Node → Option (List ToplevelDefinition)
definitions_in text ns = all_some (at_children ns DEFINITION (definition_of text))

abbrev pub Module : Type 0
Module = ModuleReference × List ToplevelDefinition

-- a module: its header and its definitions in order
abbrev pub module_of : List ℕ → Node → Option Module
module_of text n =
    of_some (the (child_of n MODULE_REFERENCE) (header_of text)) (λ header. of_some (definitions_in text (out-Node n).children) (λ definitions. Some (header, definitions)))

abbrev pub modules_in : List ℕ → List Node → Option (List Module)
modules_in text ns = all_some (at_children ns ASN_MODULE (module_of text))

-- the modules of a whole text, in order
abbrev pub reading_of : List ℕ → Node → Option (List Module)
reading_of text n = modules_in text (out-Node n).children
