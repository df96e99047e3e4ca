-- The children that readers of headers ask for are there.
use Rattle.std.proofs.Common.{◌≡◌, ℕ, List, true, Some}
use Rattle.std.specs.Option.{is_some}
use Rattle.std.specs.Prelude.{IsSome}
use Rattle.asn_rules.specs.Whole.{whole_rules}
use Rattle.asn_rules.specs.Children.{Is}
use Rattle.asn_rules.specs.Nodes.{child_of, first_child_of}
use Rattle.asn_rules.specs.declared.names.TheConstants.{ASSIGNED_IDENTIFIER, DEFINITIVE, ENCODING_REFERENCE, ENVIRONMENTS, GLOBAL_MODULE_REFERENCE, IDENTIFIER, IMPORT, IMPORTED_SYMBOL, IRI_LABELS, IRI_VALUE, MODULE_REFERENCE, OBJECT_IDENTIFIER_VALUE, SYMBOL_LIST, TAG_DEFAULT, VALUE_IDENTIFIER}
use Rattle.asn_rules.specs.declared.node.Node.{Node}
use Rattle.asn_rules.specs.declared.node.Node.TheViews.{out-Node}
use Rattle.asn_rules.proofs.Children.{has_child}
use Rattle.asn_read_pieces.proofs.Firsts.{first_passes, has_first}
use Rattle.asn_read_headers.proofs.Asked as asked
use Rattle.asn_read_headers.proofs.Words.{brings_child}
use Rattle.asn_read_headers.specs.Defaults.{tagging_by}

pub encoding_has_name : (text : List ℕ) (n : Node) → Is whole_rules text ENCODING_REFERENCE n → IsSome (child_of n IDENTIFIER)
encoding_has_name text n is = has_child whole_rules text ENCODING_REFERENCE IDENTIFIER n is asked.encoding_asks_name

pub iri_has_labels : (text : List ℕ) (n : Node) → Is whole_rules text IRI_VALUE n → IsSome (child_of n IRI_LABELS)
iri_has_labels text n is = has_child whole_rules text IRI_VALUE IRI_LABELS n is asked.iri_asks_labels

pub definitive_has_identifier : (text : List ℕ) (n : Node) → Is whole_rules text DEFINITIVE n → IsSome (child_of n OBJECT_IDENTIFIER_VALUE)
definitive_has_identifier text n is = has_child whole_rules text DEFINITIVE OBJECT_IDENTIFIER_VALUE n is asked.definitive_asks_identifier

pub symbol_has_name : (text : List ℕ) (n : Node) → Is whole_rules text IMPORTED_SYMBOL n → IsSome (child_of n IDENTIFIER)
symbol_has_name text n is = has_child whole_rules text IMPORTED_SYMBOL IDENTIFIER n is asked.symbol_asks_name

pub source_has_name : (text : List ℕ) (n : Node) → Is whole_rules text GLOBAL_MODULE_REFERENCE n → IsSome (child_of n IDENTIFIER)
source_has_name text n is = has_child whole_rules text GLOBAL_MODULE_REFERENCE IDENTIFIER n is asked.source_asks_name

pub source_has_identifier : (text : List ℕ) (n : Node) → Is whole_rules text GLOBAL_MODULE_REFERENCE n → IsSome (child_of n ASSIGNED_IDENTIFIER)
source_has_identifier text n is = has_child whole_rules text GLOBAL_MODULE_REFERENCE ASSIGNED_IDENTIFIER n is asked.source_asks_identifier

pub import_has_symbols : (text : List ℕ) (n : Node) → Is whole_rules text IMPORT n → IsSome (child_of n SYMBOL_LIST)
import_has_symbols text n is = has_child whole_rules text IMPORT SYMBOL_LIST n is asked.import_asks_symbols

pub import_has_source : (text : List ℕ) (n : Node) → Is whole_rules text IMPORT n → IsSome (child_of n GLOBAL_MODULE_REFERENCE)
import_has_source text n is = has_child whole_rules text IMPORT GLOBAL_MODULE_REFERENCE n is asked.import_asks_source

pub header_has_name : (text : List ℕ) (n : Node) → Is whole_rules text MODULE_REFERENCE n → IsSome (child_of n IDENTIFIER)
header_has_name text n is = has_child whole_rules text MODULE_REFERENCE IDENTIFIER n is asked.header_asks_name

pub header_has_environments : (text : List ℕ) (n : Node) → Is whole_rules text MODULE_REFERENCE n → IsSome (child_of n ENVIRONMENTS)
header_has_environments text n is = has_child whole_rules text MODULE_REFERENCE ENVIRONMENTS n is asked.header_asks_environments

pub tagging_has_leaf : (text : List ℕ) (n : Node) → Is whole_rules text TAG_DEFAULT n → IsSome (first_child_of n)
tagging_has_leaf text n is = has_first (λ q. is_some (tagging_by q)) text TAG_DEFAULT n is asked.tagging_begins

pub leaf_is_tagging : (text : List ℕ) (n leaf : Node) → Is whole_rules text TAG_DEFAULT n → first_child_of n ≡ Some leaf → is_some (tagging_by (out-Node leaf).rule) ≡ true
leaf_is_tagging text n leaf is e = first_passes (λ q. is_some (tagging_by q)) text TAG_DEFAULT n leaf is asked.tagging_begins e

pub external_has_value : (text : List ℕ) (n m : Node) → Is whole_rules text ASSIGNED_IDENTIFIER n → child_of n IDENTIFIER ≡ Some m → IsSome (child_of n VALUE_IDENTIFIER)
external_has_value text n m is e = brings_child IDENTIFIER VALUE_IDENTIFIER text ASSIGNED_IDENTIFIER n m is asked.external_brings_value e
