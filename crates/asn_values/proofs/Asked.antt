-- What the readers of this crate ask of the table of the whole of ASN.1: computed from its rows.
use Rattle.std.proofs.Common.{◌≡◌, true, Some, None, refl}
use Rattle.std.specs.Prelude.{nat_eq, not, ◌||◌}
use Rattle.asn_rules.specs.Whole.{whole_rules}
use Rattle.asn_rules.specs.LexicalRules.{lexical_rules_before}
use Rattle.asn_rules.specs.ValueRules.{value_rules_before}
use Rattle.asn_rules.specs.TypeRules.{type_rules_before}
use Rattle.asn_rules.specs.ConstraintRules.{constraint_rules_before}
use Rattle.asn_rules.specs.ObjectRules.{object_rules_before}
use Rattle.asn_rules.specs.HeaderRules.{header_rules_before}
use Rattle.asn_rules.specs.DefinitionRules.{definition_rules_before}
use Rattle.asn_rules.specs.declared.names.TheConstants.{ASN1_VALUE, BINARY, BIT_STRING_VALUE, CHARACTER_STRING_VALUE, CHOICE_VALUE, DOT_NOTATION, ELSEWHERE_DECLARED_VALUE, HEXADECIMAL, IDENTIFIER, MBE_NOTATION, NAMED_BITS, QUADRUPLE, QUOTED, REAL_VALUE, STRUCT_ITEM, VALUE_IDENTIFIER, VALUE_PATH}
use Rattle.asn_rules.proofs.Children.{asks, counts}
use Rattle.asn_values.specs.Braces.{is_value}

pub elsewhere_asks_path : asks whole_rules ELSEWHERE_DECLARED_VALUE VALUE_PATH ≡ true
unfolding whole_rules lexical_rules_before value_rules_before type_rules_before constraint_rules_before object_rules_before header_rules_before definition_rules_before
elsewhere_asks_path = refl

pub elsewhere_asks_name : asks whole_rules ELSEWHERE_DECLARED_VALUE VALUE_IDENTIFIER ≡ true
unfolding whole_rules lexical_rules_before value_rules_before type_rules_before constraint_rules_before object_rules_before header_rules_before definition_rules_before
elsewhere_asks_name = refl

pub choice_asks_name : asks whole_rules CHOICE_VALUE IDENTIFIER ≡ true
unfolding whole_rules lexical_rules_before value_rules_before type_rules_before constraint_rules_before object_rules_before header_rules_before definition_rules_before
choice_asks_name = refl

pub choice_asks_value : asks whole_rules CHOICE_VALUE ASN1_VALUE ≡ true
unfolding whole_rules lexical_rules_before value_rules_before type_rules_before constraint_rules_before object_rules_before header_rules_before definition_rules_before
choice_asks_value = refl

pub item_asks_value : asks whole_rules STRUCT_ITEM ASN1_VALUE ≡ true
unfolding whole_rules lexical_rules_before value_rules_before type_rules_before constraint_rules_before object_rules_before header_rules_before definition_rules_before
item_asks_value = refl

-- bits in one of three notations
pub bits_ask_one : counts whole_rules BIT_STRING_VALUE (λ q. nat_eq q BINARY || (nat_eq q HEXADECIMAL || nat_eq q NAMED_BITS)) 1 None ≡ true
unfolding whole_rules lexical_rules_before value_rules_before type_rules_before constraint_rules_before object_rules_before header_rules_before definition_rules_before
bits_ask_one = refl

-- a text in quotes, or a quadruple
pub text_asks_one : counts whole_rules CHARACTER_STRING_VALUE (λ q. nat_eq q QUOTED || nat_eq q QUADRUPLE) 1 None ≡ true
unfolding whole_rules lexical_rules_before value_rules_before type_rules_before constraint_rules_before object_rules_before header_rules_before definition_rules_before
text_asks_one = refl

-- a real with a point, or by its parts
pub real_asks_one : counts whole_rules REAL_VALUE (λ q. nat_eq q DOT_NOTATION || nat_eq q MBE_NOTATION) 1 None ≡ true
unfolding whole_rules lexical_rules_before value_rules_before type_rules_before constraint_rules_before object_rules_before header_rules_before definition_rules_before
real_asks_one = refl

-- a value is one child
pub value_is_one : counts whole_rules ASN1_VALUE (λ q. true) 1 (Some 1) ≡ true
unfolding whole_rules lexical_rules_before value_rules_before type_rules_before constraint_rules_before object_rules_before header_rules_before definition_rules_before
value_is_one = refl

-- of one of the rules of forms
pub value_is_of : counts whole_rules ASN1_VALUE (λ q. not (is_value q)) 0 (Some 0) ≡ true
unfolding whole_rules lexical_rules_before value_rules_before type_rules_before constraint_rules_before object_rules_before header_rules_before definition_rules_before
value_is_of = refl
