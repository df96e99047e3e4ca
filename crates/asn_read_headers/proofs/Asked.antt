-- What the readers of headers ask of the table of the whole of ASN.1: computed from its rows.
use Rattle.std.proofs.Common.{◌≡◌, true, refl}
use Rattle.std.specs.Option.{is_some}
use Rattle.asn_rules.specs.Whole.{whole_rules}
use Rattle.asn_rules.specs.LexicalRules.{lexical_rules_before}
use Rattle.asn_rules.specs.ValueRules.{value_rules_before}
use Rattle.asn_rules.specs.TypeRules.{type_rules_before}
use Rattle.asn_rules.specs.ConstraintRules.{constraint_rules_before}
use Rattle.asn_rules.specs.ObjectRules.{object_rules_before}
use Rattle.asn_rules.specs.HeaderRules.{header_rules_before}
use Rattle.asn_rules.specs.DefinitionRules.{definition_rules_before}
use Rattle.asn_rules.specs.declared.names.TheConstants.{ASSIGNED_IDENTIFIER, DEFINITIVE, ENCODING_REFERENCE, ENVIRONMENTS, GLOBAL_MODULE_REFERENCE, IDENTIFIER, IMPORT, IMPORTED_SYMBOL, IRI_LABELS, IRI_VALUE, MODULE_REFERENCE, OBJECT_IDENTIFIER_VALUE, SYMBOL_LIST, TAG_DEFAULT, VALUE_IDENTIFIER}
use Rattle.asn_rules.proofs.Children.{asks}
use Rattle.asn_read_pieces.proofs.Firsts.{begins}
use Rattle.asn_read_headers.proofs.Words.{brings}
use Rattle.asn_read_headers.specs.Defaults.{tagging_by}

pub encoding_asks_name : asks whole_rules ENCODING_REFERENCE IDENTIFIER ≡ true
unfolding whole_rules lexical_rules_before value_rules_before type_rules_before constraint_rules_before object_rules_before header_rules_before definition_rules_before
encoding_asks_name = refl

pub iri_asks_labels : asks whole_rules IRI_VALUE IRI_LABELS ≡ true
unfolding whole_rules lexical_rules_before value_rules_before type_rules_before constraint_rules_before object_rules_before header_rules_before definition_rules_before
iri_asks_labels = refl

pub definitive_asks_identifier : asks whole_rules DEFINITIVE OBJECT_IDENTIFIER_VALUE ≡ true
unfolding whole_rules lexical_rules_before value_rules_before type_rules_before constraint_rules_before object_rules_before header_rules_before definition_rules_before
definitive_asks_identifier = refl

pub symbol_asks_name : asks whole_rules IMPORTED_SYMBOL IDENTIFIER ≡ true
unfolding whole_rules lexical_rules_before value_rules_before type_rules_before constraint_rules_before object_rules_before header_rules_before definition_rules_before
symbol_asks_name = refl

pub source_asks_name : asks whole_rules GLOBAL_MODULE_REFERENCE IDENTIFIER ≡ true
unfolding whole_rules lexical_rules_before value_rules_before type_rules_before constraint_rules_before object_rules_before header_rules_before definition_rules_before
source_asks_name = refl

pub source_asks_identifier : asks whole_rules GLOBAL_MODULE_REFERENCE ASSIGNED_IDENTIFIER ≡ true
unfolding whole_rules lexical_rules_before value_rules_before type_rules_before constraint_rules_before object_rules_before header_rules_before definition_rules_before
source_asks_identifier = refl

pub import_asks_symbols : asks whole_rules IMPORT SYMBOL_LIST ≡ true
unfolding whole_rules lexical_rules_before value_rules_before type_rules_before constraint_rules_before object_rules_before header_rules_before definition_rules_before
import_asks_symbols = refl

pub import_asks_source : asks whole_rules IMPORT GLOBAL_MODULE_REFERENCE ≡ true
unfolding whole_rules lexical_rules_before value_rules_before type_rules_before constraint_rules_before object_rules_before header_rules_before definition_rules_before
import_asks_source = refl

pub header_asks_name : asks whole_rules MODULE_REFERENCE IDENTIFIER ≡ true
unfolding whole_rules lexical_rules_before value_rules_before type_rules_before constraint_rules_before object_rules_before header_rules_before definition_rules_before
header_asks_name = refl

pub header_asks_environments : asks whole_rules MODULE_REFERENCE ENVIRONMENTS ≡ true
unfolding whole_rules lexical_rules_before value_rules_before type_rules_before constraint_rules_before object_rules_before header_rules_before definition_rules_before
header_asks_environments = refl

-- what stands before TAGS is one of three words
pub tagging_begins : begins (λ q. is_some (tagging_by q)) whole_rules TAG_DEFAULT ≡ true
unfolding whole_rules lexical_rules_before value_rules_before type_rules_before constraint_rules_before object_rules_before header_rules_before definition_rules_before
tagging_begins = refl

-- an assigned identifier with the name of a module has that of a value
pub external_brings_value : brings whole_rules ASSIGNED_IDENTIFIER IDENTIFIER VALUE_IDENTIFIER ≡ true
unfolding whole_rules lexical_rules_before value_rules_before type_rules_before constraint_rules_before object_rules_before header_rules_before definition_rules_before
external_brings_value = refl
