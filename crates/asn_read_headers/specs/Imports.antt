-- Imports (X.680 13.1).
use Rattle.std.specs.Prelude.{ℕ, List, [], Option, Some, None}
use Rattle.asn_tree_headers.specs.declared.headers.AssignedIdentifier.{AssignedIdentifier}
use Rattle.asn_tree_headers.specs.declared.headers.AssignedIdentifier.TheVariants as assigned
use Rattle.asn_tree_headers.specs.declared.headers.ExternalValueReference.{ExternalValueReference}
use Rattle.asn_tree_headers.specs.declared.headers.GlobalModuleReference.{GlobalModuleReference}
use Rattle.asn_tree_headers.specs.declared.headers.Import.{Import}
use Rattle.asn_tree_headers.specs.declared.headers.With.{With}
use Rattle.asn_tree_headers.specs.declared.headers.With.TheVariants.{Descendants, Successors}
use Rattle.asn_rules.specs.declared.names.TheConstants.{ASSIGNED_IDENTIFIER, BRACE_GROUP, GLOBAL_MODULE_REFERENCE, IDENTIFIER, IMPORT, IMPORTS, MARK_DESCENDANTS, MARK_SUCCESSORS, OBJECT_IDENTIFIER_VALUE, SYMBOL_LIST, VALUE_IDENTIFIER}
use Rattle.asn_rules.specs.declared.node.Node.{Node}
use Rattle.asn_rules.specs.declared.node.Node.TheViews.{out-Node}
use Rattle.asn_rules.specs.Nodes.{at_child, at_children, child_of, the}
use Rattle.asn_read_nodes.specs.Parts.{all_some, name_of, of_some}
use Rattle.asn_read_headers.specs.Identifiers.{identifier_of, text_of}
use Rattle.asn_read_headers.specs.Symbols.{symbols_of}

-- a value of another module, by the names of both
abbrev pub external_of : List ℕ → Node → Option ExternalValueReference
external_of text n =
    of_some (the (child_of n IDENTIFIER) (name_of text)) (λ home. of_some (the (child_of n VALUE_IDENTIFIER) (name_of text)) (λ value. Some (record { module_reference = home; value_reference = value })))

-- a value by its name, with the arguments in braces where some stand, which are kept as they are written
abbrev pub valued_of : List ℕ → Option Node → Node → Option AssignedIdentifier
valued_of text arguments n =
    of_some (name_of text n) (λ name. at_child arguments (Some (assigned.ValueReference name)) (λ group. of_some (text_of text group) (λ list. Some (assigned.ParameterizedValue name list))))

-- the identifier assigned to an imported module: an object identifier, a value of another module, a value, or none
abbrev pub assigned_of : List ℕ → Node → Option AssignedIdentifier
assigned_of text n =
    at_child (child_of n OBJECT_IDENTIFIER_VALUE)
    (at_child (child_of n IDENTIFIER)
    (at_child (child_of n VALUE_IDENTIFIER) (Some assigned.Empty) (valued_of text (child_of n BRACE_GROUP)))
    (λ home. of_some (external_of text n) (λ value. Some (assigned.ExternalValueReference value))))
    (λ arcs. of_some (identifier_of text arcs) (λ value. Some (assigned.ObjectIdentifierValue value)))

-- the module that an import names
abbrev pub source_of : List ℕ → Node → Option GlobalModuleReference
source_of text n =
    of_some (the (child_of n IDENTIFIER) (name_of text)) (λ name. of_some (the (child_of n ASSIGNED_IDENTIFIER) (assigned_of text)) (λ identifier. Some (record { module_reference = name; assigned_identifier = identifier })))

-- which other versions of that module serve, by the word behind WITH
abbrev pub with_in : Node → Option With
with_in n = at_child (child_of n MARK_SUCCESSORS) (at_child (child_of n MARK_DESCENDANTS) None (λ word. Some Descendants)) (λ word. Some Successors)

-- the symbols from one module
abbrev pub import_of : List ℕ → Node → Option Import
import_of text n =
    of_some (the (child_of n SYMBOL_LIST) (symbols_of text)) (λ names. of_some (the (child_of n GLOBAL_MODULE_REFERENCE) (source_of text)) (λ source. Some (record { types = names; global_module_reference = source; with = with_in n })))

abbrev pub imports_among : List ℕ → List Node → Option (List Import)
imports_among text ns = all_some (at_children ns IMPORT (import_of text))

-- the imports of a header, one for each FROM, in order; none where IMPORTS does not stand
abbrev pub imports_in : List ℕ → Node → Option (List Import)
imports_in text n = at_child (child_of n IMPORTS) (Some []) (λ imports. imports_among text (out-Node imports).children)
