-- What the readers of this crate ask of the table of the whole of ASN.1: computed from its rows.
use Rattle.std.proofs.Common.{◌≡◌, true, None, refl}
use Rattle.std.specs.Option.{is_some}
use Rattle.std.specs.Prelude.{codes, nat_eq, ◌||◌}
use Rattle.asn_rules_guards.specs.declared.asked.Guard.TheVariants.{IsSetting}
use Rattle.asn_rules.specs.Expression.{guarded, rule, rule_of}
use Rattle.asn_rules.specs.Forms.{literal, whole_as, words, ◌¦◌, ◌·◌}
use Rattle.asn_rules.specs.Whole.{whole_rules}
use Rattle.asn_rules.specs.LexicalRules.{lexical_rules_before}
use Rattle.asn_rules.specs.ValueRules.{value_rules_before}
use Rattle.asn_rules.specs.TypeRules.{type_rules_before}
use Rattle.asn_rules.specs.ConstraintRules.{constraint_rules_before}
use Rattle.asn_rules.specs.ObjectRules.{object_rules_before}
use Rattle.asn_rules.specs.HeaderRules.{header_rules_before}
use Rattle.asn_rules.specs.DefinitionRules.{definition_rules_before}
use Rattle.asn_rules.specs.declared.marks.Mark.TheVariants as mark
use Rattle.asn_rules.specs.declared.names.TheConstants.{ASN_TAG, BLOCK_COMMENT, BRACE_GROUP, BRACE_TEXT, CHARACTER_STRING, CLASS_NAME, COMMENT, COMMENT_BODY, COMPONENT_PATH, DISTINGUISHED_VAL, DOTS, ENUMERAL, EXTENSION_GROUP, FIELD_STEP, IDENTIFIER, ITEM_COMMENT, ITEM_NUMBER, LINE_BODY, LINE_COMMENT, LITERAL_WORD, MARK_COMMA, MULTIPLE_VALUE_FIELD_ID, NUMBER_I128, NUMBER_U64, OBJECT_FIELD_IDENTIFIER, PATTERN_CONSTRAINT, QUOTED, RELATIONAL_CONSTRAINT, SELECTION_TYPE_CHOICE, SEQUENCE_COMPONENT, SEQUENCE_OR_SET_MEMBER, SETTING_PAIR, SET_OPERATOR, SINGLE_VALUE_FIELD_ID, SP, SYNTAX_GROUP, SYNTAX_ITEM, SYNTAX_LITERAL, TITLE_CASE_IDENTIFIER, UPPERCASE_IDENTIFIER, USER_DEFINED_CONSTRAINT, VALUE_IDENTIFIER}
use Rattle.asn_rules.proofs.Children.{asks, counts}
use Rattle.asn_read_pieces.proofs.Firsts.{begins}
use Rattle.asn_read_pieces.specs.Words.{operator_by, string_type_by}

pub tag_asks_number : asks whole_rules ASN_TAG NUMBER_U64 ≡ true
unfolding whole_rules lexical_rules_before value_rules_before type_rules_before constraint_rules_before object_rules_before header_rules_before definition_rules_before
tag_asks_number = refl

pub distinguished_asks_name : asks whole_rules DISTINGUISHED_VAL IDENTIFIER ≡ true
unfolding whole_rules lexical_rules_before value_rules_before type_rules_before constraint_rules_before object_rules_before header_rules_before definition_rules_before
distinguished_asks_name = refl

pub distinguished_asks_number : asks whole_rules DISTINGUISHED_VAL NUMBER_I128 ≡ true
unfolding whole_rules lexical_rules_before value_rules_before type_rules_before constraint_rules_before object_rules_before header_rules_before definition_rules_before
distinguished_asks_number = refl

pub capitals_ask_blanks : asks whole_rules UPPERCASE_IDENTIFIER SP ≡ true
unfolding whole_rules lexical_rules_before value_rules_before type_rules_before constraint_rules_before object_rules_before header_rules_before definition_rules_before
capitals_ask_blanks = refl

pub class_asks_name : asks whole_rules CLASS_NAME UPPERCASE_IDENTIFIER ≡ true
unfolding whole_rules lexical_rules_before value_rules_before type_rules_before constraint_rules_before object_rules_before header_rules_before definition_rules_before
class_asks_name = refl

pub literal_asks_name : asks whole_rules SYNTAX_LITERAL UPPERCASE_IDENTIFIER ≡ true
unfolding whole_rules lexical_rules_before value_rules_before type_rules_before constraint_rules_before object_rules_before header_rules_before definition_rules_before
literal_asks_name = refl

pub word_asks_name : asks whole_rules LITERAL_WORD UPPERCASE_IDENTIFIER ≡ true
unfolding whole_rules lexical_rules_before value_rules_before type_rules_before constraint_rules_before object_rules_before header_rules_before definition_rules_before
word_asks_name = refl

pub single_asks_blanks : asks whole_rules SINGLE_VALUE_FIELD_ID SP ≡ true
unfolding whole_rules lexical_rules_before value_rules_before type_rules_before constraint_rules_before object_rules_before header_rules_before definition_rules_before
single_asks_blanks = refl

pub multiple_asks_blanks : asks whole_rules MULTIPLE_VALUE_FIELD_ID SP ≡ true
unfolding whole_rules lexical_rules_before value_rules_before type_rules_before constraint_rules_before object_rules_before header_rules_before definition_rules_before
multiple_asks_blanks = refl

pub step_asks_field : asks whole_rules FIELD_STEP OBJECT_FIELD_IDENTIFIER ≡ true
unfolding whole_rules lexical_rules_before value_rules_before type_rules_before constraint_rules_before object_rules_before header_rules_before definition_rules_before
step_asks_field = refl

pub path_asks_name : asks whole_rules COMPONENT_PATH IDENTIFIER ≡ true
unfolding whole_rules lexical_rules_before value_rules_before type_rules_before constraint_rules_before object_rules_before header_rules_before definition_rules_before
path_asks_name = refl

pub relation_asks_dots : asks whole_rules RELATIONAL_CONSTRAINT DOTS ≡ true
unfolding whole_rules lexical_rules_before value_rules_before type_rules_before constraint_rules_before object_rules_before header_rules_before definition_rules_before
relation_asks_dots = refl

pub relation_asks_name : asks whole_rules RELATIONAL_CONSTRAINT IDENTIFIER ≡ true
unfolding whole_rules lexical_rules_before value_rules_before type_rules_before constraint_rules_before object_rules_before header_rules_before definition_rules_before
relation_asks_name = refl

pub pattern_asks_text : asks whole_rules PATTERN_CONSTRAINT QUOTED ≡ true
unfolding whole_rules lexical_rules_before value_rules_before type_rules_before constraint_rules_before object_rules_before header_rules_before definition_rules_before
pattern_asks_text = refl

pub group_asks_text : asks whole_rules BRACE_GROUP BRACE_TEXT ≡ true
unfolding whole_rules lexical_rules_before value_rules_before type_rules_before constraint_rules_before object_rules_before header_rules_before definition_rules_before
group_asks_text = refl

pub user_defined_asks_group : asks whole_rules USER_DEFINED_CONSTRAINT BRACE_GROUP ≡ true
unfolding whole_rules lexical_rules_before value_rules_before type_rules_before constraint_rules_before object_rules_before header_rules_before definition_rules_before
user_defined_asks_group = refl

-- an operator is one word or mark
pub operator_begins : begins (λ q. is_some (operator_by q)) whole_rules SET_OPERATOR ≡ true
unfolding whole_rules lexical_rules_before value_rules_before type_rules_before constraint_rules_before object_rules_before header_rules_before definition_rules_before
operator_begins = refl

-- a character string type begins with its word
pub string_type_begins : begins (λ q. is_some (string_type_by q)) whole_rules CHARACTER_STRING ≡ true
unfolding whole_rules lexical_rules_before value_rules_before type_rules_before constraint_rules_before object_rules_before header_rules_before definition_rules_before
string_type_begins = refl

-- the name of a field has a small letter or a capital one
pub field_asks_one : counts whole_rules OBJECT_FIELD_IDENTIFIER (λ q. nat_eq q SINGLE_VALUE_FIELD_ID || nat_eq q MULTIPLE_VALUE_FIELD_ID) 1 None ≡ true
unfolding whole_rules lexical_rules_before value_rules_before type_rules_before constraint_rules_before object_rules_before header_rules_before definition_rules_before
field_asks_one = refl

-- a part of a class's own syntax is a group or a token
pub item_asks_one : counts whole_rules SYNTAX_ITEM (λ q. nat_eq q SYNTAX_GROUP || (nat_eq q SYNTAX_LITERAL || (nat_eq q OBJECT_FIELD_IDENTIFIER || nat_eq q MARK_COMMA))) 1 None ≡ true
unfolding whole_rules lexical_rules_before value_rules_before type_rules_before constraint_rules_before object_rules_before header_rules_before definition_rules_before
item_asks_one = refl

pub pair_is_guarded : rule_of whole_rules SETTING_PAIR ≡ guarded (words (whole_as mark.Basic (codes "Basic") ¦ whole_as mark.Date (codes "Date") ¦ whole_as mark.Year (codes "Year") ¦ whole_as mark.Time (codes "Time") ¦ whole_as mark.LocalOrUtc (codes "Local-or-UTC") ¦ whole_as mark.IntervalType (codes "Interval-type") ¦ whole_as mark.SePoint (codes "SE-point") ¦ whole_as mark.Recurrence (codes "Recurrence") ¦ whole_as mark.Midnight (codes "Midnight")) · literal (codes "=") · rule 8) IsSetting
unfolding whole_rules lexical_rules_before value_rules_before type_rules_before constraint_rules_before
pair_is_guarded = refl

pub item_asks_name : asks whole_rules ENUMERAL IDENTIFIER ≡ true
unfolding whole_rules lexical_rules_before value_rules_before type_rules_before constraint_rules_before object_rules_before header_rules_before definition_rules_before
item_asks_name = refl

pub item_number_asks_number : asks whole_rules ITEM_NUMBER NUMBER_I128 ≡ true
unfolding whole_rules lexical_rules_before value_rules_before type_rules_before constraint_rules_before object_rules_before header_rules_before definition_rules_before
item_number_asks_number = refl

pub item_comment_asks_comment : asks whole_rules ITEM_COMMENT COMMENT ≡ true
unfolding whole_rules lexical_rules_before value_rules_before type_rules_before constraint_rules_before object_rules_before header_rules_before definition_rules_before
item_comment_asks_comment = refl

pub block_asks_body : asks whole_rules BLOCK_COMMENT COMMENT_BODY ≡ true
unfolding whole_rules lexical_rules_before value_rules_before type_rules_before constraint_rules_before object_rules_before header_rules_before definition_rules_before
block_asks_body = refl

pub line_asks_body : asks whole_rules LINE_COMMENT LINE_BODY ≡ true
unfolding whole_rules lexical_rules_before value_rules_before type_rules_before constraint_rules_before object_rules_before header_rules_before definition_rules_before
line_asks_body = refl

pub selection_asks_option : asks whole_rules SELECTION_TYPE_CHOICE VALUE_IDENTIFIER ≡ true
unfolding whole_rules lexical_rules_before value_rules_before type_rules_before constraint_rules_before object_rules_before header_rules_before definition_rules_before
selection_asks_option = refl

pub selection_asks_choice : asks whole_rules SELECTION_TYPE_CHOICE TITLE_CASE_IDENTIFIER ≡ true
unfolding whole_rules lexical_rules_before value_rules_before type_rules_before constraint_rules_before object_rules_before header_rules_before definition_rules_before
selection_asks_choice = refl

pub title_asks_blanks : asks whole_rules TITLE_CASE_IDENTIFIER SP ≡ true
unfolding whole_rules lexical_rules_before value_rules_before type_rules_before constraint_rules_before object_rules_before header_rules_before definition_rules_before
title_asks_blanks = refl

pub group_asks_component : asks whole_rules EXTENSION_GROUP SEQUENCE_COMPONENT ≡ true
unfolding whole_rules lexical_rules_before value_rules_before type_rules_before constraint_rules_before object_rules_before header_rules_before definition_rules_before
group_asks_component = refl

pub member_asks_name : asks whole_rules SEQUENCE_OR_SET_MEMBER IDENTIFIER ≡ true
unfolding whole_rules lexical_rules_before value_rules_before type_rules_before constraint_rules_before object_rules_before header_rules_before definition_rules_before
member_asks_name = refl

-- a comment is a block or a line
pub comment_asks_one : counts whole_rules COMMENT (λ q. nat_eq q BLOCK_COMMENT || nat_eq q LINE_COMMENT) 1 None ≡ true
unfolding whole_rules lexical_rules_before value_rules_before type_rules_before constraint_rules_before object_rules_before header_rules_before definition_rules_before
comment_asks_one = refl

-- a component is taken over or a member
pub component_asks_one : counts whole_rules SEQUENCE_COMPONENT (λ q. nat_eq q SEQUENCE_OR_SET_MEMBER || nat_eq q COMPONENT_PATH) 1 None ≡ true
unfolding whole_rules lexical_rules_before value_rules_before type_rules_before constraint_rules_before object_rules_before header_rules_before definition_rules_before
component_asks_one = refl
