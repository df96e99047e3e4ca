-- What the readers of classes and objects ask of the table of the whole of ASN.1: computed from its rows.
use Rattle.std.proofs.Common.{◌≡◌, true, None, refl}
use Rattle.std.specs.Prelude.{nat_eq, ◌||◌}
use Rattle.asn_rules.specs.Whole.{whole_rules}
use Rattle.asn_rules.specs.LexicalRules.{lexical_rules_before}
use Rattle.asn_rules.specs.ValueRules.{value_rules_before}
use Rattle.asn_rules.specs.TypeRules.{type_rules_before}
use Rattle.asn_rules.specs.ConstraintRules.{constraint_rules_before}
use Rattle.asn_rules.specs.ObjectRules.{object_rules_before}
use Rattle.asn_rules.specs.HeaderRules.{header_rules_before}
use Rattle.asn_rules.specs.DefinitionRules.{definition_rules_before}
use Rattle.asn_rules.specs.declared.names.TheConstants.{ASN1_TYPE, ASN1_VALUE, CLASS_FIELD, CUSTOM_ITEM, CUSTOM_SYNTAX, DEFAULT, DEFAULT_FIELD, DEFAULT_SYNTAX, FIELD_LIST, IDENTIFIER, INFORMATION_OBJECT, INFORMATION_OBJECT_CLASS, LITERAL_WORD, MARK_COMMA, MULTIPLE_VALUE_FIELD_ID, OBJECT_FIELD_IDENTIFIER, OBJECT_ITEM, OBJECT_SET, OPTIONAL_MARKER, SINGLE_VALUE_FIELD_ID, SYNTAX_LITERAL}
use Rattle.asn_rules.proofs.Children.{asks, counts}

pub class_field_asks_name : asks whole_rules CLASS_FIELD OBJECT_FIELD_IDENTIFIER ≡ true
unfolding whole_rules lexical_rules_before value_rules_before type_rules_before constraint_rules_before object_rules_before header_rules_before definition_rules_before
class_field_asks_name = refl

pub class_field_asks_marker : asks whole_rules CLASS_FIELD OPTIONAL_MARKER ≡ true
unfolding whole_rules lexical_rules_before value_rules_before type_rules_before constraint_rules_before object_rules_before header_rules_before definition_rules_before
class_field_asks_marker = refl

pub class_field_asks_default : asks whole_rules CLASS_FIELD DEFAULT ≡ true
unfolding whole_rules lexical_rules_before value_rules_before type_rules_before constraint_rules_before object_rules_before header_rules_before definition_rules_before
class_field_asks_default = refl

pub class_asks_fields : asks whole_rules INFORMATION_OBJECT_CLASS FIELD_LIST ≡ true
unfolding whole_rules lexical_rules_before value_rules_before type_rules_before constraint_rules_before object_rules_before header_rules_before definition_rules_before
class_asks_fields = refl

-- an object has fields by their names, or items
pub object_asks_one : counts whole_rules INFORMATION_OBJECT (λ q. nat_eq q DEFAULT_SYNTAX || nat_eq q CUSTOM_SYNTAX) 1 None ≡ true
unfolding whole_rules lexical_rules_before value_rules_before type_rules_before constraint_rules_before object_rules_before header_rules_before definition_rules_before
object_asks_one = refl

-- the name of a field has a small letter or a capital one
pub field_asks_name : counts whole_rules DEFAULT_FIELD (λ q. nat_eq q SINGLE_VALUE_FIELD_ID || nat_eq q MULTIPLE_VALUE_FIELD_ID) 1 None ≡ true
unfolding whole_rules lexical_rules_before value_rules_before type_rules_before constraint_rules_before object_rules_before header_rules_before definition_rules_before
field_asks_name = refl

-- a field is given an object set, a type or a value
pub field_asks_one : counts whole_rules DEFAULT_FIELD (λ q. nat_eq q OBJECT_SET || (nat_eq q ASN1_TYPE || nat_eq q ASN1_VALUE)) 1 None ≡ true
unfolding whole_rules lexical_rules_before value_rules_before type_rules_before constraint_rules_before object_rules_before header_rules_before definition_rules_before
field_asks_one = refl

-- an item is a comma, a word before a brace, a type, a value, an object set, or another word
pub item_asks_one : counts whole_rules CUSTOM_ITEM (λ q. nat_eq q MARK_COMMA || (nat_eq q LITERAL_WORD || (nat_eq q ASN1_TYPE || (nat_eq q ASN1_VALUE || (nat_eq q OBJECT_SET || nat_eq q SYNTAX_LITERAL))))) 1 None ≡ true
unfolding whole_rules lexical_rules_before value_rules_before type_rules_before constraint_rules_before object_rules_before header_rules_before definition_rules_before
item_asks_one = refl

-- an item of a set is an object or a name
pub set_item_asks_one : counts whole_rules OBJECT_ITEM (λ q. nat_eq q INFORMATION_OBJECT || nat_eq q IDENTIFIER) 1 None ≡ true
unfolding whole_rules lexical_rules_before value_rules_before type_rules_before constraint_rules_before object_rules_before header_rules_before definition_rules_before
set_item_asks_one = refl
