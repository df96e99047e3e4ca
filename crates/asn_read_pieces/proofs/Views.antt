-- The children that readers ask for are there.
use Rattle.std.proofs.Common.{◌≡◌, ℕ, List, [], ◌∷◌, Bool, true, false, Option, Some, None, refl, subst, arith}
use Rattle.std.specs.Option.{is_some}
use Rattle.std.specs.Prelude.{codes, cond, fold, nat_eq, ◌||◌, IsSome}
use Rattle.asn_rules_guards.specs.Guards.{bare}
use Rattle.asn_rules_guards.specs.declared.asked.Guard.TheVariants.{IsSetting}
use Rattle.asn_rules.specs.Children.{Is}
use Rattle.asn_rules.specs.Expression.{rule}
use Rattle.asn_rules.specs.Forms.{literal, whole_as, words, ◌¦◌, ◌·◌}
use Rattle.asn_rules.specs.Nodes.{at_child, at_children, child_among, child_of, first_child_of}
use Rattle.asn_rules.specs.Whole.{whole_rules}
use Rattle.asn_rules.specs.declared.marks.Mark.TheVariants as mark
use Rattle.asn_rules.specs.declared.names.TheConstants.{ASN_TAG, BLOCK_COMMENT, BRACE_GROUP, BRACE_TEXT, CHARACTER_STRING, CLASS_NAME, COMMENT, COMMENT_BODY, COMPONENT_PATH, DISTINGUISHED_VAL, DOTS, ENUMERAL, EXTENSION_GROUP, FIELD_STEP, IDENTIFIER, ITEM_COMMENT, ITEM_NUMBER, LINE_BODY, LINE_COMMENT, LITERAL_WORD, MARK_COMMA, MULTIPLE_VALUE_FIELD_ID, NUMBER_I128, NUMBER_U64, OBJECT_FIELD_IDENTIFIER, PATTERN_CONSTRAINT, QUOTED, RELATIONAL_CONSTRAINT, SELECTION_TYPE_CHOICE, SEQUENCE_COMPONENT, SEQUENCE_OR_SET_MEMBER, SETTING_PAIR, SET_OPERATOR, SINGLE_VALUE_FIELD_ID, SP, SYNTAX_GROUP, SYNTAX_ITEM, SYNTAX_LITERAL, TITLE_CASE_IDENTIFIER, UPPERCASE_IDENTIFIER, USER_DEFINED_CONSTRAINT, VALUE_IDENTIFIER}
use Rattle.asn_rules.specs.declared.node.Node.{Node}
use Rattle.asn_rules.specs.declared.node.Node.TheViews.{out-Node}
use Rattle.asn_rules.proofs.Children.{bounds, guard_passed, has_child}
use Rattle.asn_read_nodes.proofs.Views.{some_among, without}
use Rattle.asn_read_nodes.specs.Parts.{all_some, name_of, of_some, taken}
use Rattle.asn_read_nodes.specs.Paths.{joined, with_step}
use Rattle.asn_read_pieces.proofs.Asked as asked
use Rattle.asn_read_pieces.proofs.Firsts.{first_passes, has_first}
use Rattle.asn_read_pieces.specs.Fields.{path_names_in}
use Rattle.asn_read_pieces.specs.Settings.{pair_by}
use Rattle.asn_read_pieces.specs.Types.{first_member}
use Rattle.asn_read_pieces.specs.Words.{operator_by, string_type_by}

pub tag_has_number : (text : List ℕ) (n : Node) → Is whole_rules text ASN_TAG n → IsSome (child_of n NUMBER_U64)
tag_has_number text n is = has_child whole_rules text ASN_TAG NUMBER_U64 n is asked.tag_asks_number

pub distinguished_has_name : (text : List ℕ) (n : Node) → Is whole_rules text DISTINGUISHED_VAL n → IsSome (child_of n IDENTIFIER)
distinguished_has_name text n is = has_child whole_rules text DISTINGUISHED_VAL IDENTIFIER n is asked.distinguished_asks_name

pub distinguished_has_number : (text : List ℕ) (n : Node) → Is whole_rules text DISTINGUISHED_VAL n → IsSome (child_of n NUMBER_I128)
distinguished_has_number text n is = has_child whole_rules text DISTINGUISHED_VAL NUMBER_I128 n is asked.distinguished_asks_number

pub capitals_have_blanks : (text : List ℕ) (n : Node) → Is whole_rules text UPPERCASE_IDENTIFIER n → IsSome (child_of n SP)
capitals_have_blanks text n is = has_child whole_rules text UPPERCASE_IDENTIFIER SP n is asked.capitals_ask_blanks

pub class_has_name : (text : List ℕ) (n : Node) → Is whole_rules text CLASS_NAME n → IsSome (child_of n UPPERCASE_IDENTIFIER)
class_has_name text n is = has_child whole_rules text CLASS_NAME UPPERCASE_IDENTIFIER n is asked.class_asks_name

pub literal_has_name : (text : List ℕ) (n : Node) → Is whole_rules text SYNTAX_LITERAL n → IsSome (child_of n UPPERCASE_IDENTIFIER)
literal_has_name text n is = has_child whole_rules text SYNTAX_LITERAL UPPERCASE_IDENTIFIER n is asked.literal_asks_name

pub word_has_name : (text : List ℕ) (n : Node) → Is whole_rules text LITERAL_WORD n → IsSome (child_of n UPPERCASE_IDENTIFIER)
word_has_name text n is = has_child whole_rules text LITERAL_WORD UPPERCASE_IDENTIFIER n is asked.word_asks_name

pub single_has_blanks : (text : List ℕ) (n : Node) → Is whole_rules text SINGLE_VALUE_FIELD_ID n → IsSome (child_of n SP)
single_has_blanks text n is = has_child whole_rules text SINGLE_VALUE_FIELD_ID SP n is asked.single_asks_blanks

pub multiple_has_blanks : (text : List ℕ) (n : Node) → Is whole_rules text MULTIPLE_VALUE_FIELD_ID n → IsSome (child_of n SP)
multiple_has_blanks text n is = has_child whole_rules text MULTIPLE_VALUE_FIELD_ID SP n is asked.multiple_asks_blanks

pub step_has_field : (text : List ℕ) (n : Node) → Is whole_rules text FIELD_STEP n → IsSome (child_of n OBJECT_FIELD_IDENTIFIER)
step_has_field text n is = has_child whole_rules text FIELD_STEP OBJECT_FIELD_IDENTIFIER n is asked.step_asks_field

pub path_has_name : (text : List ℕ) (n : Node) → Is whole_rules text COMPONENT_PATH n → IsSome (child_of n IDENTIFIER)
path_has_name text n is = has_child whole_rules text COMPONENT_PATH IDENTIFIER n is asked.path_asks_name

pub relation_has_dots : (text : List ℕ) (n : Node) → Is whole_rules text RELATIONAL_CONSTRAINT n → IsSome (child_of n DOTS)
relation_has_dots text n is = has_child whole_rules text RELATIONAL_CONSTRAINT DOTS n is asked.relation_asks_dots

pub relation_has_name : (text : List ℕ) (n : Node) → Is whole_rules text RELATIONAL_CONSTRAINT n → IsSome (child_of n IDENTIFIER)
relation_has_name text n is = has_child whole_rules text RELATIONAL_CONSTRAINT IDENTIFIER n is asked.relation_asks_name

pub pattern_has_text : (text : List ℕ) (n : Node) → Is whole_rules text PATTERN_CONSTRAINT n → IsSome (child_of n QUOTED)
pattern_has_text text n is = has_child whole_rules text PATTERN_CONSTRAINT QUOTED n is asked.pattern_asks_text

pub group_has_text : (text : List ℕ) (n : Node) → Is whole_rules text BRACE_GROUP n → IsSome (child_of n BRACE_TEXT)
group_has_text text n is = has_child whole_rules text BRACE_GROUP BRACE_TEXT n is asked.group_asks_text

pub user_defined_has_group : (text : List ℕ) (n : Node) → Is whole_rules text USER_DEFINED_CONSTRAINT n → IsSome (child_of n BRACE_GROUP)
user_defined_has_group text n is = has_child whole_rules text USER_DEFINED_CONSTRAINT BRACE_GROUP n is asked.user_defined_asks_group

-- a set operator is the word or the mark of one
pub operator_has_leaf : (text : List ℕ) (n : Node) → Is whole_rules text SET_OPERATOR n → IsSome (first_child_of n)
operator_has_leaf text n is = has_first (λ q. is_some (operator_by q)) text SET_OPERATOR n is asked.operator_begins

pub leaf_is_operator : (text : List ℕ) (n t : Node) → Is whole_rules text SET_OPERATOR n → first_child_of n ≡ Some t → is_some (operator_by (out-Node t).rule) ≡ true
leaf_is_operator text n t is e = first_passes (λ q. is_some (operator_by q)) text SET_OPERATOR n t is asked.operator_begins e

-- a character string type begins with the word of one
pub string_type_has_leaf : (text : List ℕ) (n : Node) → Is whole_rules text CHARACTER_STRING n → IsSome (first_child_of n)
string_type_has_leaf text n is = has_first (λ q. is_some (string_type_by q)) text CHARACTER_STRING n is asked.string_type_begins

pub leaf_is_string_type : (text : List ℕ) (n t : Node) → Is whole_rules text CHARACTER_STRING n → first_child_of n ≡ Some t → is_some (string_type_by (out-Node t).rule) ≡ true
leaf_is_string_type text n t is e = first_passes (λ q. is_some (string_type_by q)) text CHARACTER_STRING n t is asked.string_type_begins e

-- the name of a field that has no small letter has a capital one
pub field_has_name : (text : List ℕ) (n : Node) → Is whole_rules text OBJECT_FIELD_IDENTIFIER n → child_of n SINGLE_VALUE_FIELD_ID ≡ None → IsSome (child_of n MULTIPLE_VALUE_FIELD_ID)
field_has_name text n is e =
    let one = (bounds whole_rules text OBJECT_FIELD_IDENTIFIER (λ q. nat_eq q SINGLE_VALUE_FIELD_ID || nat_eq q MULTIPLE_VALUE_FIELD_ID) 1 None n is asked.field_asks_one).0 in
    let first = without SINGLE_VALUE_FIELD_ID (λ q. nat_eq q MULTIPLE_VALUE_FIELD_ID) (out-Node n).children e in
    some_among MULTIPLE_VALUE_FIELD_ID (out-Node n).children (omega (arith, one, first))

gone : (o : Option Node) → IsSome o → o ≡ None → ⊥
gone None s f = absurd cc
gone (Some c) s f = absurd cc

-- a part of a class's own syntax that is no group is a word, a field or a comma
pub token_is_one : (text : List ℕ) (n : Node) → Is whole_rules text SYNTAX_ITEM n → child_of n SYNTAX_GROUP ≡ None → child_of n SYNTAX_LITERAL ≡ None → child_of n OBJECT_FIELD_IDENTIFIER ≡ None → child_of n MARK_COMMA ≡ None → ⊥
token_is_one text n is group literal field comma =
    let one = (bounds whole_rules text SYNTAX_ITEM (λ q. nat_eq q SYNTAX_GROUP || (nat_eq q SYNTAX_LITERAL || (nat_eq q OBJECT_FIELD_IDENTIFIER || nat_eq q MARK_COMMA))) 1 None n is asked.item_asks_one).0 in
    let first = without SYNTAX_GROUP (λ q. nat_eq q SYNTAX_LITERAL || (nat_eq q OBJECT_FIELD_IDENTIFIER || nat_eq q MARK_COMMA)) (out-Node n).children group in
    let second = without SYNTAX_LITERAL (λ q. nat_eq q OBJECT_FIELD_IDENTIFIER || nat_eq q MARK_COMMA) (out-Node n).children literal in
    let third = without OBJECT_FIELD_IDENTIFIER (λ q. nat_eq q MARK_COMMA) (out-Node n).children field in
    gone (child_of n MARK_COMMA) (some_among MARK_COMMA (out-Node n).children (omega (arith, one, first, second, third))) comma

-- what a pair took tells a setting
pub pair_is_setting : (text : List ℕ) (n : Node) → Is whole_rules text SETTING_PAIR n → is_some (pair_by (bare (taken text n))) ≡ true
pair_is_setting text n is = guard_passed whole_rules text SETTING_PAIR (words (whole_as mark.Basic (codes "Basic") ¦ whole_as mark.Date (codes "Date") ¦ whole_as mark.Year (codes "Year") ¦ whole_as mark.Time (codes "Time") ¦ whole_as mark.LocalOrUtc (codes "Local-or-UTC") ¦ whole_as mark.IntervalType (codes "Interval-type") ¦ whole_as mark.SePoint (codes "SE-point") ¦ whole_as mark.Recurrence (codes "Recurrence") ¦ whole_as mark.Midnight (codes "Midnight")) · literal (codes "=") · rule 8) IsSetting n is refl asked.pair_is_guarded

-- names of which there are some are joined
joined_some : (path : List ℕ) (names : List (List ℕ)) → fold with_step (Some path) names ≡ None → ⊥
joined_some path [] e = absurd cc
joined_some path (name ∷ names) e = joined_some _ names e

names_there : (text : List ℕ) (ns : List Node) (found : List (List ℕ)) → IsSome (child_among ns IDENTIFIER) → path_names_in text ns ≡ Some found → joined found ≡ None → ⊥
names_there text [] found some e f = absurd cc
names_there text (n ∷ ns) found some e f = go (nat_eq (out-Node n).rule IDENTIFIER) (λ some e. names_there text ns found some e f) some e
  where
    made : (o : Option (List ℕ)) (rest : Option (List (List ℕ))) → of_some o (λ x. of_some rest (λ xs. Some (x ∷ xs))) ≡ Some found → ⊥
    made None rest e = absurd cc
    made (Some x) None e = absurd cc
    made (Some x) (Some xs) e = let same : found ≡ x ∷ xs = cc in joined_some x xs (subst (λ found. joined found ≡ None) same f)

    go : (t : Bool) → (IsSome (child_among ns IDENTIFIER) → path_names_in text ns ≡ Some found → ⊥) → IsSome (cond t (Some n) (child_among ns IDENTIFIER)) → all_some (cond t (name_of text n ∷ at_children ns IDENTIFIER (name_of text)) (at_children ns IDENTIFIER (name_of text))) ≡ Some found → ⊥
    go true again some e = made (name_of text n) (all_some (at_children ns IDENTIFIER (name_of text))) e
    go false again some e = again some e

pub path_is_joined : (text : List ℕ) (n : Node) (found : List (List ℕ)) → Is whole_rules text COMPONENT_PATH n → path_names_in text (out-Node n).children ≡ Some found → joined found ≡ None → ⊥
path_is_joined text n found is e f = names_there text (out-Node n).children found (path_has_name text n is) e f

pub item_has_name : (text : List ℕ) (n : Node) → Is whole_rules text ENUMERAL n → IsSome (child_of n IDENTIFIER)
item_has_name text n is = has_child whole_rules text ENUMERAL IDENTIFIER n is asked.item_asks_name

pub item_number_has_number : (text : List ℕ) (n : Node) → Is whole_rules text ITEM_NUMBER n → IsSome (child_of n NUMBER_I128)
item_number_has_number text n is = has_child whole_rules text ITEM_NUMBER NUMBER_I128 n is asked.item_number_asks_number

pub item_comment_has_comment : (text : List ℕ) (n : Node) → Is whole_rules text ITEM_COMMENT n → IsSome (child_of n COMMENT)
item_comment_has_comment text n is = has_child whole_rules text ITEM_COMMENT COMMENT n is asked.item_comment_asks_comment

pub block_has_body : (text : List ℕ) (n : Node) → Is whole_rules text BLOCK_COMMENT n → IsSome (child_of n COMMENT_BODY)
block_has_body text n is = has_child whole_rules text BLOCK_COMMENT COMMENT_BODY n is asked.block_asks_body

pub line_has_body : (text : List ℕ) (n : Node) → Is whole_rules text LINE_COMMENT n → IsSome (child_of n LINE_BODY)
line_has_body text n is = has_child whole_rules text LINE_COMMENT LINE_BODY n is asked.line_asks_body

pub selection_has_option : (text : List ℕ) (n : Node) → Is whole_rules text SELECTION_TYPE_CHOICE n → IsSome (child_of n VALUE_IDENTIFIER)
selection_has_option text n is = has_child whole_rules text SELECTION_TYPE_CHOICE VALUE_IDENTIFIER n is asked.selection_asks_option

pub selection_has_choice : (text : List ℕ) (n : Node) → Is whole_rules text SELECTION_TYPE_CHOICE n → IsSome (child_of n TITLE_CASE_IDENTIFIER)
selection_has_choice text n is = has_child whole_rules text SELECTION_TYPE_CHOICE TITLE_CASE_IDENTIFIER n is asked.selection_asks_choice

pub title_has_blanks : (text : List ℕ) (n : Node) → Is whole_rules text TITLE_CASE_IDENTIFIER n → IsSome (child_of n SP)
title_has_blanks text n is = has_child whole_rules text TITLE_CASE_IDENTIFIER SP n is asked.title_asks_blanks

pub group_has_component : (text : List ℕ) (n : Node) → Is whole_rules text EXTENSION_GROUP n → IsSome (child_of n SEQUENCE_COMPONENT)
group_has_component text n is = has_child whole_rules text EXTENSION_GROUP SEQUENCE_COMPONENT n is asked.group_asks_component

pub member_has_name : (text : List ℕ) (n : Node) → Is whole_rules text SEQUENCE_OR_SET_MEMBER n → IsSome (child_of n IDENTIFIER)
member_has_name text n is = has_child whole_rules text SEQUENCE_OR_SET_MEMBER IDENTIFIER n is asked.member_asks_name

-- a comment that is no block is a line
pub comment_has_line : (text : List ℕ) (n : Node) → Is whole_rules text COMMENT n → child_of n BLOCK_COMMENT ≡ None → IsSome (child_of n LINE_COMMENT)
comment_has_line text n is e =
    let one = (bounds whole_rules text COMMENT (λ q. nat_eq q BLOCK_COMMENT || nat_eq q LINE_COMMENT) 1 None n is asked.comment_asks_one).0 in
    let first = without BLOCK_COMMENT (λ q. nat_eq q LINE_COMMENT) (out-Node n).children e in
    some_among LINE_COMMENT (out-Node n).children (omega (arith, one, first))

-- a component that is no member is taken over
path_there : (text : List ℕ) (n : Node) → Is whole_rules text SEQUENCE_COMPONENT n → child_of n SEQUENCE_OR_SET_MEMBER ≡ None → IsSome (child_of n COMPONENT_PATH)
path_there text n is e =
    let one = (bounds whole_rules text SEQUENCE_COMPONENT (λ q. nat_eq q SEQUENCE_OR_SET_MEMBER || nat_eq q COMPONENT_PATH) 1 None n is asked.component_asks_one).0 in
    let first = without SEQUENCE_OR_SET_MEMBER (λ q. nat_eq q COMPONENT_PATH) (out-Node n).children e in
    some_among COMPONENT_PATH (out-Node n).children (omega (arith, one, first))

-- where no node has a member, none that is found has
no_member : (ns : List Node) (c : Node) → first_member ns ≡ None → child_among ns SEQUENCE_COMPONENT ≡ Some c → child_of c SEQUENCE_OR_SET_MEMBER ≡ None
no_member [] c e f = absurd cc
no_member (n ∷ ns) c e f = go (child_of n SEQUENCE_OR_SET_MEMBER) refl (nat_eq (out-Node n).rule SEQUENCE_COMPONENT) (λ e f. no_member ns c e f) e f
  where
    go : (o : Option Node) → child_of n SEQUENCE_OR_SET_MEMBER ≡ o → (t : Bool) → (first_member ns ≡ None → child_among ns SEQUENCE_COMPONENT ≡ Some c → child_of c SEQUENCE_OR_SET_MEMBER ≡ None) → at_child o (first_member ns) (λ member. Some member) ≡ None → cond t (Some n) (child_among ns SEQUENCE_COMPONENT) ≡ Some c → child_of c SEQUENCE_OR_SET_MEMBER ≡ None
    go (Some m) same t again e f = absurd cc
    go None same true again e f = let is : n ≡ c = cc in subst (λ c. child_of c SEQUENCE_OR_SET_MEMBER ≡ None) is same
    go None same false again e f = again e f

pub component_has_path : (text : List ℕ) (n c : Node) → first_member (out-Node n).children ≡ None → child_of n SEQUENCE_COMPONENT ≡ Some c → Is whole_rules text SEQUENCE_COMPONENT c → IsSome (child_of c COMPONENT_PATH)
component_has_path text n c e f is = path_there text c is (no_member (out-Node n).children c e f)
