-- The line of a module's header.
use Rattle.std.specs.Prelude.{List, [], ◌∷◌, ◌++◌, Option, Some, None, codes, map}
use Rattle.asn_tree_headers.specs.declared.headers.AssignedIdentifier.{AssignedIdentifier}
use Rattle.asn_tree_headers.specs.declared.headers.AssignedIdentifier.TheVariants as assigned
use Rattle.asn_tree_headers.specs.declared.headers.DefinitiveIdentifier.{DefinitiveIdentifier}
use Rattle.asn_tree_headers.specs.declared.headers.DefinitiveIdentifier.TheVariants.{DefinitiveOID, DefinitiveOIDandIRI}
use Rattle.asn_tree_headers.specs.declared.headers.EncodingReferenceDefault.{EncodingReferenceDefault}
use Rattle.asn_tree_headers.specs.declared.headers.Exports.{Exports}
use Rattle.asn_tree_headers.specs.declared.headers.Exports.TheVariants as exports
use Rattle.asn_tree_headers.specs.declared.headers.ExtensibilityEnvironment.{ExtensibilityEnvironment}
use Rattle.asn_tree_headers.specs.declared.headers.ExtensibilityEnvironment.TheVariants as extensibility
use Rattle.asn_tree_headers.specs.declared.headers.Import.{Import}
use Rattle.asn_tree_headers.specs.declared.headers.ModuleReference.{ModuleReference}
use Rattle.asn_tree_headers.specs.declared.headers.TaggingEnvironment.{TaggingEnvironment}
use Rattle.asn_tree_headers.specs.declared.headers.TaggingEnvironment.TheVariants as tagging
use Rattle.asn_tree_headers.specs.declared.headers.With.{With}
use Rattle.asn_tree_headers.specs.declared.headers.With.TheVariants.{Successors, Descendants}
use Rattle.asn_check_listing.specs.Parts.{Letters, joined, listed}
use Rattle.asn_check_listing.specs.Words.{arcs_text}

abbrev pub identifier_text : Option DefinitiveIdentifier → Letters
identifier_text None = []
identifier_text (Some (DefinitiveOID oid)) = codes " " ++ arcs_text oid.0
identifier_text (Some (DefinitiveOIDandIRI oid iri)) = codes " " ++ arcs_text oid.0 ++ codes " " ++ iri

abbrev pub encoding_text : Option EncodingReferenceDefault → Letters
encoding_text None = []
encoding_text (Some e) = codes " " ++ e.0 ++ codes " INSTRUCTIONS"

abbrev pub tagging_text : TaggingEnvironment → Letters
tagging_text tagging.Automatic = codes " AUTOMATIC TAGS"
tagging_text tagging.Implicit = codes " IMPLICIT TAGS"
tagging_text tagging.Explicit = codes " EXPLICIT TAGS"

abbrev pub extensibility_text : ExtensibilityEnvironment → Letters
extensibility_text extensibility.Implied = codes " EXTENSIBILITY IMPLIED"
extensibility_text extensibility.Explicit = []

abbrev pub exports_text : Option Exports → Letters
exports_text None = []
exports_text (Some exports.All) = codes " EXPORTS ALL"
exports_text (Some (exports.Identifier names)) = codes " EXPORTS " ++ listed names

abbrev pub assigned_text : AssignedIdentifier → Letters
assigned_text (assigned.ObjectIdentifierValue oid) = codes " " ++ arcs_text oid.0
assigned_text (assigned.ExternalValueReference r) = codes " " ++ r.module_reference ++ codes "." ++ r.value_reference
assigned_text (assigned.ValueReference name) = codes " " ++ name
assigned_text (assigned.ParameterizedValue name arguments) = codes " " ++ name ++ arguments
assigned_text assigned.Empty = []

abbrev pub with_text : Option With → Letters
with_text None = []
with_text (Some Successors) = codes " WITH SUCCESSORS"
with_text (Some Descendants) = codes " WITH DESCENDANTS"

abbrev pub import_text : Import → Letters
import_text i =
    codes " IMPORTS " ++ listed i.types ++ codes " FROM " ++ i.global_module_reference.module_reference ++ assigned_text i.global_module_reference.assigned_identifier
    ++ with_text i.with

-- the name, with its object identifier
unfoldable pub named_text : ModuleReference → Letters
named_text h = codes "module " ++ h.name ++ identifier_text h.module_identifier

-- what holds in the whole module
unfoldable pub environments_text : ModuleReference → Letters
environments_text h = encoding_text h.encoding_reference_default ++ tagging_text h.tagging_environment ++ extensibility_text h.extensibility_environment

-- what goes out and what comes in
unfoldable pub symbols_text : ModuleReference → Letters
symbols_text h = exports_text h.exports ++ joined (map import_text h.imports)

abbrev pub header_text : ModuleReference → Letters
header_text h = named_text h ++ environments_text h ++ symbols_text h
