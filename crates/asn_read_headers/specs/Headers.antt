-- The headers of modules (X.680 13.1).
use Rattle.std.specs.Prelude.{ℕ, List, Option, Some}
use Rattle.asn_tree_headers.specs.MakingHeaders.{Environments}
use Rattle.asn_tree_headers.specs.declared.headers.DefinitiveIdentifier.{DefinitiveIdentifier}
use Rattle.asn_tree_headers.specs.declared.headers.Exports.{Exports}
use Rattle.asn_tree_headers.specs.declared.headers.Import.{Import}
use Rattle.asn_tree_headers.specs.declared.headers.ModuleReference.{ModuleReference}
use Rattle.asn_rules.specs.declared.names.TheConstants.{DEFINITIVE, ENVIRONMENTS, EXPORTS, IDENTIFIER}
use Rattle.asn_rules.specs.declared.node.Node.{Node}
use Rattle.asn_rules.specs.Nodes.{child_of, the}
use Rattle.asn_read_nodes.specs.Parts.{if_there, name_of, of_some}
use Rattle.asn_read_headers.specs.Defaults.{environments_of}
use Rattle.asn_read_headers.specs.Identifiers.{definitive_of}
use Rattle.asn_read_headers.specs.Imports.{imports_in}
use Rattle.asn_read_headers.specs.Symbols.{exports_of}

-- a header of these parts
abbrev pub a_header : List ℕ → Option DefinitiveIdentifier → Environments → Option Exports → List Import → ModuleReference
a_header name identifier environments exports imports =
    record {
      name = name;
      module_identifier = identifier;
      encoding_reference_default = environments.0;
      tagging_environment = environments.1;
      extensibility_environment = environments.2;
      imports = imports;
      exports = exports;
    }

-- The header that a node is: its name, its identifier, its defaults, its exports where EXPORTS stands, and its imports.
abbrev pub header_of : List ℕ → Node → Option ModuleReference
header_of text n =
    of_some (the (child_of n IDENTIFIER) (name_of text)) (λ name.
    of_some (if_there (child_of n DEFINITIVE) (definitive_of text)) (λ identifier.
    of_some (the (child_of n ENVIRONMENTS) (environments_of text)) (λ environments.
    of_some (if_there (child_of n EXPORTS) (exports_of text)) (λ exports.
    of_some (imports_in text n) (λ imports. Some (a_header name identifier environments exports imports))))))
