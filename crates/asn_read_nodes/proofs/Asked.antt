-- What the readers of this crate ask of the table of the whole of ASN.1: computed from its rows.
use Rattle.std.proofs.Common.{◌≡◌, [], ◌∷◌, true, Some, None, refl}
use Rattle.std.specs.Prelude.{codes, nat_eq, ◌||◌}
use Rattle.asn_rules.specs.Expression.{rule_of, guarded, rule}
use Rattle.asn_rules.specs.Forms.{◌·◌, sp, maybe, literal, symbol}
use Rattle.asn_rules.specs.Whole.{whole_rules}
use Rattle.asn_rules.specs.LexicalRules.{lexical_rules_before}
use Rattle.asn_rules.specs.ValueRules.{value_rules_before}
use Rattle.asn_rules.specs.TypeRules.{type_rules_before}
use Rattle.asn_rules.specs.ConstraintRules.{constraint_rules_before}
use Rattle.asn_rules.specs.ObjectRules.{object_rules_before}
use Rattle.asn_rules.specs.HeaderRules.{header_rules_before}
use Rattle.asn_rules.specs.DefinitionRules.{definition_rules_before}
use Rattle.asn_rules_guards.specs.declared.asked.Guard.TheVariants.{FitsU64, FitsU128, FitsI128, FitsI32, FitsReal, IsBase, IsCharacter}
use Rattle.asn_rules.specs.declared.names.TheConstants.{BINARY, BOOLEAN_VALUE, DOT_NOTATION, HEXADECIMAL, IDENTIFIER, INTEGER_VALUE, MARK_FALSE, MARK_TRUE, MBE_NOTATION, NUMBER_I32, NUMBER_I128, NUMBER_U64, NUMBER_U128, PATH_STEP, QUADRUPLE, QUOTED, QUOTED_BODY, REAL_BASE, SP, TIME_CHARS, TIME_VALUE, VALUE_IDENTIFIER}
use Rattle.asn_rules.proofs.Children.{asks, counts}

pub name_asks_blanks : asks whole_rules VALUE_IDENTIFIER SP ≡ true
unfolding whole_rules lexical_rules_before value_rules_before type_rules_before constraint_rules_before object_rules_before header_rules_before definition_rules_before
name_asks_blanks = refl

pub identifier_asks_blanks : asks whole_rules IDENTIFIER SP ≡ true
unfolding whole_rules lexical_rules_before value_rules_before type_rules_before constraint_rules_before object_rules_before header_rules_before definition_rules_before
identifier_asks_blanks = refl

pub binary_asks_blanks : asks whole_rules BINARY SP ≡ true
unfolding whole_rules lexical_rules_before value_rules_before type_rules_before constraint_rules_before object_rules_before header_rules_before definition_rules_before
binary_asks_blanks = refl

pub hexadecimal_asks_blanks : asks whole_rules HEXADECIMAL SP ≡ true
unfolding whole_rules lexical_rules_before value_rules_before type_rules_before constraint_rules_before object_rules_before header_rules_before definition_rules_before
hexadecimal_asks_blanks = refl

pub quoted_asks_body : asks whole_rules QUOTED QUOTED_BODY ≡ true
unfolding whole_rules lexical_rules_before value_rules_before type_rules_before constraint_rules_before object_rules_before header_rules_before definition_rules_before
quoted_asks_body = refl

pub time_asks_chars : asks whole_rules TIME_VALUE TIME_CHARS ≡ true
unfolding whole_rules lexical_rules_before value_rules_before type_rules_before constraint_rules_before object_rules_before header_rules_before definition_rules_before
time_asks_chars = refl

pub integer_asks_number : asks whole_rules INTEGER_VALUE NUMBER_I128 ≡ true
unfolding whole_rules lexical_rules_before value_rules_before type_rules_before constraint_rules_before object_rules_before header_rules_before definition_rules_before
integer_asks_number = refl

-- TRUE or FALSE
pub truth_asks_one : counts whole_rules BOOLEAN_VALUE (λ q. nat_eq q MARK_TRUE || nat_eq q MARK_FALSE) 1 None ≡ true
unfolding whole_rules lexical_rules_before value_rules_before type_rules_before constraint_rules_before object_rules_before header_rules_before definition_rules_before
truth_asks_one = refl

pub u64_is_guarded : rule_of whole_rules NUMBER_U64 ≡ guarded (sp · rule 14) FitsU64
unfolding whole_rules lexical_rules_before
u64_is_guarded = refl

pub u128_is_guarded : rule_of whole_rules NUMBER_U128 ≡ guarded (sp · rule 14) FitsU128
unfolding whole_rules lexical_rules_before
u128_is_guarded = refl

pub i128_is_guarded : rule_of whole_rules NUMBER_I128 ≡ guarded (sp · maybe (literal (codes "-")) · sp · rule 14) FitsI128
unfolding whole_rules lexical_rules_before
i128_is_guarded = refl

pub i32_is_guarded : rule_of whole_rules NUMBER_I32 ≡ guarded (sp · maybe (literal (codes "-")) · sp · rule 14) FitsI32
unfolding whole_rules lexical_rules_before
i32_is_guarded = refl

pub step_asks_name : asks whole_rules PATH_STEP IDENTIFIER ≡ true
unfolding whole_rules lexical_rules_before value_rules_before type_rules_before constraint_rules_before object_rules_before header_rules_before definition_rules_before
step_asks_name = refl

pub parts_ask_mantissa : asks whole_rules MBE_NOTATION NUMBER_I128 ≡ true
unfolding whole_rules lexical_rules_before value_rules_before type_rules_before constraint_rules_before object_rules_before header_rules_before definition_rules_before
parts_ask_mantissa = refl

pub parts_ask_base : asks whole_rules MBE_NOTATION REAL_BASE ≡ true
unfolding whole_rules lexical_rules_before value_rules_before type_rules_before constraint_rules_before object_rules_before header_rules_before definition_rules_before
parts_ask_base = refl

pub parts_ask_exponent : asks whole_rules MBE_NOTATION NUMBER_I32 ≡ true
unfolding whole_rules lexical_rules_before value_rules_before type_rules_before constraint_rules_before object_rules_before header_rules_before definition_rules_before
parts_ask_exponent = refl

pub base_is_guarded : rule_of whole_rules REAL_BASE ≡ guarded (rule 15) IsBase
unfolding whole_rules lexical_rules_before value_rules_before
base_is_guarded = refl

pub decimal_is_guarded : rule_of whole_rules DOT_NOTATION ≡ guarded (sp · maybe (literal (codes "-")) · sp · rule 14 · literal (codes ".") · rule 14 · maybe (rule 29)) FitsReal
unfolding whole_rules lexical_rules_before value_rules_before
decimal_is_guarded = refl

pub quadruple_is_guarded : rule_of whole_rules QUADRUPLE ≡ guarded (symbol (codes "{") · rule 47 · symbol (codes ",") · rule 47 · symbol (codes ",") · rule 47 · symbol (codes ",") · rule 47 · symbol (codes "}")) IsCharacter
unfolding whole_rules lexical_rules_before value_rules_before
quadruple_is_guarded = refl
