-- What the readers of definitions and modules ask of the table of the whole of ASN.1: computed from its rows.
use Rattle.std.proofs.Common.{◌≡◌, true, None, refl}
use Rattle.std.specs.Prelude.{nat_eq, ◌||◌}
use Rattle.asn_rules.specs.Whole.{whole_rules}
use Rattle.asn_rules.specs.LexicalRules.{lexical_rules_before}
use Rattle.asn_rules.specs.ValueRules.{value_rules_before}
use Rattle.asn_rules.specs.TypeRules.{type_rules_before}
use Rattle.asn_rules.specs.ConstraintRules.{constraint_rules_before}
use Rattle.asn_rules.specs.ObjectRules.{object_rules_before}
use Rattle.asn_rules.specs.HeaderRules.{header_rules_before}
use Rattle.asn_rules.specs.DefinitionRules.{definition_rules_before}
use Rattle.asn_rules.specs.declared.names.TheConstants.{ASN1_TYPE, ASN1_VALUE, ASN_MODULE, CLASS_NAME, COMMENTS, DEFINITION, ENUMERATED_VALUE, IDENTIFIER, INFORMATION_OBJECT, MODULE_REFERENCE, OBJECT_SET, TITLE_CASE_IDENTIFIER, TOP_LEVEL_INFORMATION_DECLARATION, TOP_LEVEL_INFORMATION_OBJECT_DECLARATION, TOP_LEVEL_OBJECT_CLASS_DECLARATION, TOP_LEVEL_OBJECT_SET_DECLARATION, TOP_LEVEL_TYPE_DECLARATION, TOP_LEVEL_VALUE_DECLARATION, UPPERCASE_IDENTIFIER, VALUE_IDENTIFIER}
use Rattle.asn_rules.proofs.Children.{asks, asks_more, counts}

pub type_asks_comments : asks whole_rules TOP_LEVEL_TYPE_DECLARATION COMMENTS ≡ true
unfolding whole_rules lexical_rules_before value_rules_before type_rules_before constraint_rules_before object_rules_before header_rules_before definition_rules_before
type_asks_comments = refl

pub type_asks_name : asks whole_rules TOP_LEVEL_TYPE_DECLARATION TITLE_CASE_IDENTIFIER ≡ true
unfolding whole_rules lexical_rules_before value_rules_before type_rules_before constraint_rules_before object_rules_before header_rules_before definition_rules_before
type_asks_name = refl

pub type_asks_type : asks whole_rules TOP_LEVEL_TYPE_DECLARATION ASN1_TYPE ≡ true
unfolding whole_rules lexical_rules_before value_rules_before type_rules_before constraint_rules_before object_rules_before header_rules_before definition_rules_before
type_asks_type = refl

pub enumerated_asks_comments : asks whole_rules ENUMERATED_VALUE COMMENTS ≡ true
unfolding whole_rules lexical_rules_before value_rules_before type_rules_before constraint_rules_before object_rules_before header_rules_before definition_rules_before
enumerated_asks_comments = refl

pub enumerated_asks_name : asks whole_rules ENUMERATED_VALUE VALUE_IDENTIFIER ≡ true
unfolding whole_rules lexical_rules_before value_rules_before type_rules_before constraint_rules_before object_rules_before header_rules_before definition_rules_before
enumerated_asks_name = refl

pub enumerated_asks_type : asks whole_rules ENUMERATED_VALUE ASN1_TYPE ≡ true
unfolding whole_rules lexical_rules_before value_rules_before type_rules_before constraint_rules_before object_rules_before header_rules_before definition_rules_before
enumerated_asks_type = refl

pub object_asks_comments : asks whole_rules TOP_LEVEL_INFORMATION_OBJECT_DECLARATION COMMENTS ≡ true
unfolding whole_rules lexical_rules_before value_rules_before type_rules_before constraint_rules_before object_rules_before header_rules_before definition_rules_before
object_asks_comments = refl

pub object_asks_name : asks whole_rules TOP_LEVEL_INFORMATION_OBJECT_DECLARATION IDENTIFIER ≡ true
unfolding whole_rules lexical_rules_before value_rules_before type_rules_before constraint_rules_before object_rules_before header_rules_before definition_rules_before
object_asks_name = refl

pub object_asks_class : asks whole_rules TOP_LEVEL_INFORMATION_OBJECT_DECLARATION CLASS_NAME ≡ true
unfolding whole_rules lexical_rules_before value_rules_before type_rules_before constraint_rules_before object_rules_before header_rules_before definition_rules_before
object_asks_class = refl

pub object_asks_object : asks whole_rules TOP_LEVEL_INFORMATION_OBJECT_DECLARATION INFORMATION_OBJECT ≡ true
unfolding whole_rules lexical_rules_before value_rules_before type_rules_before constraint_rules_before object_rules_before header_rules_before definition_rules_before
object_asks_object = refl

pub set_asks_comments : asks whole_rules TOP_LEVEL_OBJECT_SET_DECLARATION COMMENTS ≡ true
unfolding whole_rules lexical_rules_before value_rules_before type_rules_before constraint_rules_before object_rules_before header_rules_before definition_rules_before
set_asks_comments = refl

pub set_asks_name : asks whole_rules TOP_LEVEL_OBJECT_SET_DECLARATION IDENTIFIER ≡ true
unfolding whole_rules lexical_rules_before value_rules_before type_rules_before constraint_rules_before object_rules_before header_rules_before definition_rules_before
set_asks_name = refl

pub set_asks_class : asks whole_rules TOP_LEVEL_OBJECT_SET_DECLARATION CLASS_NAME ≡ true
unfolding whole_rules lexical_rules_before value_rules_before type_rules_before constraint_rules_before object_rules_before header_rules_before definition_rules_before
set_asks_class = refl

pub set_asks_set : asks whole_rules TOP_LEVEL_OBJECT_SET_DECLARATION OBJECT_SET ≡ true
unfolding whole_rules lexical_rules_before value_rules_before type_rules_before constraint_rules_before object_rules_before header_rules_before definition_rules_before
set_asks_set = refl

pub class_asks_comments : asks whole_rules TOP_LEVEL_OBJECT_CLASS_DECLARATION COMMENTS ≡ true
unfolding whole_rules lexical_rules_before value_rules_before type_rules_before constraint_rules_before object_rules_before header_rules_before definition_rules_before
class_asks_comments = refl

pub class_asks_name : asks whole_rules TOP_LEVEL_OBJECT_CLASS_DECLARATION UPPERCASE_IDENTIFIER ≡ true
unfolding whole_rules lexical_rules_before value_rules_before type_rules_before constraint_rules_before object_rules_before header_rules_before definition_rules_before
class_asks_name = refl

pub module_asks_header : asks whole_rules ASN_MODULE MODULE_REFERENCE ≡ true
unfolding whole_rules lexical_rules_before value_rules_before type_rules_before constraint_rules_before object_rules_before header_rules_before definition_rules_before
module_asks_header = refl

pub enumerated_asks_item : asks_more whole_rules ENUMERATED_VALUE VALUE_IDENTIFIER 1 ≡ true
unfolding whole_rules lexical_rules_before value_rules_before type_rules_before constraint_rules_before object_rules_before header_rules_before definition_rules_before
enumerated_asks_item = refl

-- a value definition that is no item's has comments, a name, a type and a value
pub plain_asks_comments : counts whole_rules TOP_LEVEL_VALUE_DECLARATION (λ q. nat_eq q ENUMERATED_VALUE || nat_eq q COMMENTS) 1 None ≡ true
unfolding whole_rules lexical_rules_before value_rules_before type_rules_before constraint_rules_before object_rules_before header_rules_before definition_rules_before
plain_asks_comments = refl

pub plain_asks_name : counts whole_rules TOP_LEVEL_VALUE_DECLARATION (λ q. nat_eq q ENUMERATED_VALUE || nat_eq q VALUE_IDENTIFIER) 1 None ≡ true
unfolding whole_rules lexical_rules_before value_rules_before type_rules_before constraint_rules_before object_rules_before header_rules_before definition_rules_before
plain_asks_name = refl

pub plain_asks_type : counts whole_rules TOP_LEVEL_VALUE_DECLARATION (λ q. nat_eq q ENUMERATED_VALUE || nat_eq q ASN1_TYPE) 1 None ≡ true
unfolding whole_rules lexical_rules_before value_rules_before type_rules_before constraint_rules_before object_rules_before header_rules_before definition_rules_before
plain_asks_type = refl

pub plain_asks_value : counts whole_rules TOP_LEVEL_VALUE_DECLARATION (λ q. nat_eq q ENUMERATED_VALUE || nat_eq q ASN1_VALUE) 1 None ≡ true
unfolding whole_rules lexical_rules_before value_rules_before type_rules_before constraint_rules_before object_rules_before header_rules_before definition_rules_before
plain_asks_value = refl

-- an information definition is of an object, of a set or of a class
pub information_asks_one : counts whole_rules TOP_LEVEL_INFORMATION_DECLARATION (λ q. nat_eq q TOP_LEVEL_INFORMATION_OBJECT_DECLARATION || (nat_eq q TOP_LEVEL_OBJECT_SET_DECLARATION || nat_eq q TOP_LEVEL_OBJECT_CLASS_DECLARATION)) 1 None ≡ true
unfolding whole_rules lexical_rules_before value_rules_before type_rules_before constraint_rules_before object_rules_before header_rules_before definition_rules_before
information_asks_one = refl

-- a definition is of an information, of a type or of a value
pub definition_asks_one : counts whole_rules DEFINITION (λ q. nat_eq q TOP_LEVEL_INFORMATION_DECLARATION || (nat_eq q TOP_LEVEL_TYPE_DECLARATION || nat_eq q TOP_LEVEL_VALUE_DECLARATION)) 1 None ≡ true
unfolding whole_rules lexical_rules_before value_rules_before type_rules_before constraint_rules_before object_rules_before header_rules_before definition_rules_before
definition_asks_one = refl
