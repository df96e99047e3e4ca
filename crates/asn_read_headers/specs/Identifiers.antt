-- The object identifiers of modules.
use Rattle.std.specs.Prelude.{ℕ, List, Option, Some}
use Rattle.std.specs.Str.Lossy.{utf8_lossy}
use Rattle.asn_tree_headers.specs.MakingHeaders.{definitive_of as definitive}
use Rattle.asn_tree_headers.specs.declared.headers.DefinitiveIdentifier.{DefinitiveIdentifier}
use Rattle.asn_tree_headers.specs.declared.headers.ObjectIdentifierValue.{ObjectIdentifierValue}
use Rattle.asn_rules.specs.declared.names.TheConstants.{IRI_LABELS, IRI_VALUE, OBJECT_IDENTIFIER_VALUE}
use Rattle.asn_rules.specs.declared.node.Node.{Node}
use Rattle.asn_rules.specs.Nodes.{child_of, the}
use Rattle.asn_read_nodes.specs.Identifiers.{arcs_of}
use Rattle.asn_read_nodes.specs.Parts.{if_there, of_some, taken}

-- the bytes of a node as a text
abbrev pub text_of : List ℕ → Node → Option (List ℕ)
text_of text n = Some (utf8_lossy (taken text n))

abbrev pub identifier_of : List ℕ → Node → Option ObjectIdentifierValue
identifier_of text n = of_some (arcs_of text n) (λ arcs. Some (record { 0 = arcs }))

-- the labels of an IRI with the slashes between them
abbrev pub iri_of : List ℕ → Node → Option (List ℕ)
iri_of text n = the (child_of n IRI_LABELS) (text_of text)

-- the identifier of a module, an object identifier with or without an IRI (X.680 13.1)
abbrev pub definitive_of : List ℕ → Node → Option DefinitiveIdentifier
definitive_of text n =
    of_some (the (child_of n OBJECT_IDENTIFIER_VALUE) (identifier_of text)) (λ identifier. of_some (if_there (child_of n IRI_VALUE) (iri_of text)) (λ iri. Some (definitive identifier iri)))
