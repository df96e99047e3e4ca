-- Headers and tags that are made of parts.
use Rattle.std.specs.Prelude.{ℕ, List, Option, Some, None, codes, unwrap_or, if◌then◌else◌}
use Rattle.std.specs.Option.{option_map}
use Rattle.std.specs.Str.{bytes_eq}
use Rattle.asn_tree_headers.specs.declared.headers.DefinitiveIdentifier.{DefinitiveIdentifier}
use Rattle.asn_tree_headers.specs.declared.headers.DefinitiveIdentifier.TheVariants.{DefinitiveOID, DefinitiveOIDandIRI}
use Rattle.asn_tree_headers.specs.declared.headers.EncodingReferenceDefault.{EncodingReferenceDefault}
use Rattle.asn_tree_headers.specs.declared.headers.Exports.{Exports}
use Rattle.asn_tree_headers.specs.declared.headers.ExtensibilityEnvironment.{ExtensibilityEnvironment}
use Rattle.asn_tree_headers.specs.declared.headers.ExtensibilityEnvironment.TheVariants as extensibility
use Rattle.asn_tree_headers.specs.declared.headers.GlobalModuleReference.{GlobalModuleReference}
use Rattle.asn_tree_headers.specs.declared.headers.Import.{Import}
use Rattle.asn_tree_headers.specs.declared.headers.ModuleReference.{ModuleReference}
use Rattle.asn_tree_headers.specs.declared.headers.ObjectIdentifierValue.{ObjectIdentifierValue}
use Rattle.asn_tree_headers.specs.declared.headers.TagClass.{TagClass}
use Rattle.asn_tree_headers.specs.declared.headers.TagClass.TheVariants.{Universal, Application, Private, ContextSpecific}
use Rattle.asn_tree_headers.specs.declared.headers.TaggingEnvironment.{TaggingEnvironment}
use Rattle.asn_tree_headers.specs.declared.headers.TaggingEnvironment.TheVariants as tagging
use Rattle.asn_tree_headers.specs.declared.headers.With.{With}
use Rattle.asn_tree_headers.specs.declared.headers.With.TheVariants.{Successors, Descendants}
use Rattle.asn_tree_equality.specs.Making.{listed}

-- the class of the tags that a word stands before (X.680 31.2); a tag without a word is context-specific
abbrev pub class_named : Option (List ℕ) → TagClass
class_named None = ContextSpecific
class_named (Some word) =
    if bytes_eq word (codes "APPLICATION") then Application
    else if bytes_eq word (codes "UNIVERSAL") then Universal
    else if bytes_eq word (codes "PRIVATE") then Private
    else ContextSpecific

-- which other versions of a module serve an import (X.680 13.1)
abbrev pub with_of : List ℕ → With
with_of text = if bytes_eq text (codes "WITH SUCCESSORS") then Successors else Descendants

-- an import of these names from a module
abbrev pub import_of : List (List ℕ) → GlobalModuleReference → Option (List ℕ) → Import
import_of names source text =
    record {
      types = names;
      global_module_reference = source;
      with = option_map with_of text;
    }

-- the identifier of a module, an object identifier with or without an IRI (X.680 13.1)
abbrev pub definitive_of : ObjectIdentifierValue → Option (List ℕ) → DefinitiveIdentifier
definitive_of oid None = DefinitiveOID oid
definitive_of oid (Some iri) = DefinitiveOIDandIRI oid iri

-- the three environments of a module (X.680 13.1)
abbrev pub Environments : Type 0
Environments = Option EncodingReferenceDefault × TaggingEnvironment × ExtensibilityEnvironment

-- a module whose header names no environment has explicit tags and implies no extension marker (X.680 13)
abbrev pub environments_of : Option Environments → Environments
environments_of environments = unwrap_or environments (None, tagging.Explicit, extensibility.Explicit)

abbrev pub header_of : List ℕ → Option DefinitiveIdentifier → Option Environments → Option Exports → Option (List Import) → ModuleReference
header_of name identifier environments exports imports =
    let e = environments_of environments in
    record {
      name = name;
      module_identifier = identifier;
      encoding_reference_default = e.0;
      tagging_environment = e.1;
      extensibility_environment = e.2;
      imports = listed imports;
      exports = exports;
    }
