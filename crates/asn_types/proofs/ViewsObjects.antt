-- The children that the readers of classes and objects ask for are there.
use Rattle.std.proofs.Common.{◌≡◌, ℕ, List, None, arith}
use Rattle.std.specs.Prelude.{nat_eq, ◌||◌, IsSome}
use Rattle.asn_rules.specs.Children.{Is}
use Rattle.asn_rules.specs.Nodes.{child_of}
use Rattle.asn_rules.specs.Whole.{whole_rules}
use Rattle.asn_rules.specs.declared.names.TheConstants.{ASN1_TYPE, ASN1_VALUE, CLASS_FIELD, CUSTOM_ITEM, CUSTOM_SYNTAX, DEFAULT, DEFAULT_FIELD, DEFAULT_SYNTAX, FIELD_LIST, IDENTIFIER, INFORMATION_OBJECT, INFORMATION_OBJECT_CLASS, LITERAL_WORD, MARK_COMMA, MULTIPLE_VALUE_FIELD_ID, OBJECT_FIELD_IDENTIFIER, OBJECT_ITEM, OBJECT_SET, OPTIONAL_MARKER, SINGLE_VALUE_FIELD_ID, SYNTAX_LITERAL}
use Rattle.asn_rules.specs.declared.node.Node.{Node}
use Rattle.asn_rules.specs.declared.node.Node.TheViews.{out-Node}
use Rattle.asn_rules.proofs.Children.{bounds, has_child}
use Rattle.asn_read_nodes.proofs.Views.{some_among, without}
use Rattle.asn_types.proofs.AskedObjects as asked

pub class_field_has_name : (text : List ℕ) (n : Node) → Is whole_rules text CLASS_FIELD n → IsSome (child_of n OBJECT_FIELD_IDENTIFIER)
class_field_has_name text n is = has_child whole_rules text CLASS_FIELD OBJECT_FIELD_IDENTIFIER n is asked.class_field_asks_name

pub class_field_has_marker : (text : List ℕ) (n : Node) → Is whole_rules text CLASS_FIELD n → IsSome (child_of n OPTIONAL_MARKER)
class_field_has_marker text n is = has_child whole_rules text CLASS_FIELD OPTIONAL_MARKER n is asked.class_field_asks_marker

pub class_field_has_default : (text : List ℕ) (n : Node) → Is whole_rules text CLASS_FIELD n → IsSome (child_of n DEFAULT)
class_field_has_default text n is = has_child whole_rules text CLASS_FIELD DEFAULT n is asked.class_field_asks_default

pub class_has_fields : (text : List ℕ) (n : Node) → Is whole_rules text INFORMATION_OBJECT_CLASS n → IsSome (child_of n FIELD_LIST)
class_has_fields text n is = has_child whole_rules text INFORMATION_OBJECT_CLASS FIELD_LIST n is asked.class_asks_fields

-- an object that has no fields by their names has items
pub object_has_items : (text : List ℕ) (n : Node) → Is whole_rules text INFORMATION_OBJECT n → child_of n DEFAULT_SYNTAX ≡ None → IsSome (child_of n CUSTOM_SYNTAX)
object_has_items text n is e =
    let one = (bounds whole_rules text INFORMATION_OBJECT (λ q. nat_eq q DEFAULT_SYNTAX || nat_eq q CUSTOM_SYNTAX) 1 None n is asked.object_asks_one).0 in
    let first = without DEFAULT_SYNTAX (λ q. nat_eq q CUSTOM_SYNTAX) (out-Node n).children e in
    some_among CUSTOM_SYNTAX (out-Node n).children (omega (arith, one, first))

-- the name of a field that has no small letter has a capital one
pub field_has_name : (text : List ℕ) (n : Node) → Is whole_rules text DEFAULT_FIELD n → child_of n SINGLE_VALUE_FIELD_ID ≡ None → IsSome (child_of n MULTIPLE_VALUE_FIELD_ID)
field_has_name text n is e =
    let one = (bounds whole_rules text DEFAULT_FIELD (λ q. nat_eq q SINGLE_VALUE_FIELD_ID || nat_eq q MULTIPLE_VALUE_FIELD_ID) 1 None n is asked.field_asks_name).0 in
    let first = without SINGLE_VALUE_FIELD_ID (λ q. nat_eq q MULTIPLE_VALUE_FIELD_ID) (out-Node n).children e in
    some_among MULTIPLE_VALUE_FIELD_ID (out-Node n).children (omega (arith, one, first))

-- a field that is given no object set and no type is given a value
pub field_has_value : (text : List ℕ) (n : Node) → Is whole_rules text DEFAULT_FIELD n → child_of n OBJECT_SET ≡ None → child_of n ASN1_TYPE ≡ None → IsSome (child_of n ASN1_VALUE)
field_has_value text n is set type =
    let one = (bounds whole_rules text DEFAULT_FIELD (λ q. nat_eq q OBJECT_SET || (nat_eq q ASN1_TYPE || nat_eq q ASN1_VALUE)) 1 None n is asked.field_asks_one).0 in
    let first = without OBJECT_SET (λ q. nat_eq q ASN1_TYPE || nat_eq q ASN1_VALUE) (out-Node n).children set in
    let second = without ASN1_TYPE (λ q. nat_eq q ASN1_VALUE) (out-Node n).children type in
    some_among ASN1_VALUE (out-Node n).children (omega (arith, one, first, second))

-- an item that is none of the others is a word
pub item_has_literal : (text : List ℕ) (n : Node) → Is whole_rules text CUSTOM_ITEM n → child_of n MARK_COMMA ≡ None → child_of n LITERAL_WORD ≡ None → child_of n ASN1_TYPE ≡ None → child_of n ASN1_VALUE ≡ None → child_of n OBJECT_SET ≡ None → IsSome (child_of n SYNTAX_LITERAL)
item_has_literal text n is comma word type value set =
    let one = (bounds whole_rules text CUSTOM_ITEM (λ q. nat_eq q MARK_COMMA || (nat_eq q LITERAL_WORD || (nat_eq q ASN1_TYPE || (nat_eq q ASN1_VALUE || (nat_eq q OBJECT_SET || nat_eq q SYNTAX_LITERAL))))) 1 None n is asked.item_asks_one).0 in
    let first = without MARK_COMMA (λ q. nat_eq q LITERAL_WORD || (nat_eq q ASN1_TYPE || (nat_eq q ASN1_VALUE || (nat_eq q OBJECT_SET || nat_eq q SYNTAX_LITERAL)))) (out-Node n).children comma in
    let second = without LITERAL_WORD (λ q. nat_eq q ASN1_TYPE || (nat_eq q ASN1_VALUE || (nat_eq q OBJECT_SET || nat_eq q SYNTAX_LITERAL))) (out-Node n).children word in
    let third = without ASN1_TYPE (λ q. nat_eq q ASN1_VALUE || (nat_eq q OBJECT_SET || nat_eq q SYNTAX_LITERAL)) (out-Node n).children type in
    let fourth = without ASN1_VALUE (λ q. nat_eq q OBJECT_SET || nat_eq q SYNTAX_LITERAL) (out-Node n).children value in
    let fifth = without OBJECT_SET (λ q. nat_eq q SYNTAX_LITERAL) (out-Node n).children set in
    some_among SYNTAX_LITERAL (out-Node n).children (omega (arith, one, first, second, third, fourth, fifth))

-- an item of a set that is no object is a name
pub set_item_has_name : (text : List ℕ) (n : Node) → Is whole_rules text OBJECT_ITEM n → child_of n INFORMATION_OBJECT ≡ None → IsSome (child_of n IDENTIFIER)
set_item_has_name text n is e =
    let one = (bounds whole_rules text OBJECT_ITEM (λ q. nat_eq q INFORMATION_OBJECT || nat_eq q IDENTIFIER) 1 None n is asked.set_item_asks_one).0 in
    let first = without INFORMATION_OBJECT (λ q. nat_eq q IDENTIFIER) (out-Node n).children e in
    some_among IDENTIFIER (out-Node n).children (omega (arith, one, first))
