-- The children that readers of definitions and modules ask for are there.
use Rattle.std.proofs.Common.{◌≡◌, ℕ, List, true, None, arith}
use Rattle.std.specs.Prelude.{nat_eq, ◌||◌, IsSome}
use Rattle.asn_rules.specs.Whole.{whole_rules}
use Rattle.asn_rules.specs.Children.{Is}
use Rattle.asn_rules.specs.Nodes.{child_of, nth_child_of}
use Rattle.asn_rules.specs.declared.names.TheConstants.{ASN1_TYPE, ASN1_VALUE, ASN_MODULE, CLASS_NAME, COMMENTS, DEFINITION, ENUMERATED_VALUE, IDENTIFIER, INFORMATION_OBJECT, MODULE_REFERENCE, OBJECT_SET, TITLE_CASE_IDENTIFIER, TOP_LEVEL_INFORMATION_DECLARATION, TOP_LEVEL_INFORMATION_OBJECT_DECLARATION, TOP_LEVEL_OBJECT_CLASS_DECLARATION, TOP_LEVEL_OBJECT_SET_DECLARATION, TOP_LEVEL_TYPE_DECLARATION, TOP_LEVEL_VALUE_DECLARATION, UPPERCASE_IDENTIFIER, VALUE_IDENTIFIER}
use Rattle.asn_rules.specs.declared.node.Node.{Node}
use Rattle.asn_rules.specs.declared.node.Node.TheViews.{out-Node}
use Rattle.asn_rules.proofs.Children.{bounds, counts, has_child, has_nth}
use Rattle.asn_read_nodes.proofs.Views.{some_among, without}
use Rattle.asn_modules.proofs.Asked as asked

-- of two rules of which a node always has one, it has the second where it lacks the first
second : (text : List ℕ) (rule r s : ℕ) (n : Node) → Is whole_rules text rule n → counts whole_rules rule (λ q. nat_eq q r || nat_eq q s) 1 None ≡ true → child_of n r ≡ None → IsSome (child_of n s)
second text rule r s n is e lacks =
    let one = (bounds whole_rules text rule (λ q. nat_eq q r || nat_eq q s) 1 None n is e).0 in
    let rest = without r (λ q. nat_eq q s) (out-Node n).children lacks in
    some_among s (out-Node n).children (omega (arith, one, rest))

-- and of three the third where it lacks the first and the second
third : (text : List ℕ) (rule r s t : ℕ) (n : Node) → Is whole_rules text rule n → counts whole_rules rule (λ q. nat_eq q r || (nat_eq q s || nat_eq q t)) 1 None ≡ true → child_of n r ≡ None → child_of n s ≡ None → IsSome (child_of n t)
third text rule r s t n is e lacks lacks_too =
    let one = (bounds whole_rules text rule (λ q. nat_eq q r || (nat_eq q s || nat_eq q t)) 1 None n is e).0 in
    let first = without r (λ q. nat_eq q s || nat_eq q t) (out-Node n).children lacks in
    let rest = without s (λ q. nat_eq q t) (out-Node n).children lacks_too in
    some_among t (out-Node n).children (omega (arith, one, first, rest))

pub type_has_comments : (text : List ℕ) (n : Node) → Is whole_rules text TOP_LEVEL_TYPE_DECLARATION n → IsSome (child_of n COMMENTS)
type_has_comments text n is = has_child whole_rules text TOP_LEVEL_TYPE_DECLARATION COMMENTS n is asked.type_asks_comments

pub type_has_name : (text : List ℕ) (n : Node) → Is whole_rules text TOP_LEVEL_TYPE_DECLARATION n → IsSome (child_of n TITLE_CASE_IDENTIFIER)
type_has_name text n is = has_child whole_rules text TOP_LEVEL_TYPE_DECLARATION TITLE_CASE_IDENTIFIER n is asked.type_asks_name

pub type_has_type : (text : List ℕ) (n : Node) → Is whole_rules text TOP_LEVEL_TYPE_DECLARATION n → IsSome (child_of n ASN1_TYPE)
type_has_type text n is = has_child whole_rules text TOP_LEVEL_TYPE_DECLARATION ASN1_TYPE n is asked.type_asks_type

pub enumerated_has_comments : (text : List ℕ) (n : Node) → Is whole_rules text ENUMERATED_VALUE n → IsSome (child_of n COMMENTS)
enumerated_has_comments text n is = has_child whole_rules text ENUMERATED_VALUE COMMENTS n is asked.enumerated_asks_comments

pub enumerated_has_name : (text : List ℕ) (n : Node) → Is whole_rules text ENUMERATED_VALUE n → IsSome (child_of n VALUE_IDENTIFIER)
enumerated_has_name text n is = has_child whole_rules text ENUMERATED_VALUE VALUE_IDENTIFIER n is asked.enumerated_asks_name

pub enumerated_has_type : (text : List ℕ) (n : Node) → Is whole_rules text ENUMERATED_VALUE n → IsSome (child_of n ASN1_TYPE)
enumerated_has_type text n is = has_child whole_rules text ENUMERATED_VALUE ASN1_TYPE n is asked.enumerated_asks_type

pub object_has_comments : (text : List ℕ) (n : Node) → Is whole_rules text TOP_LEVEL_INFORMATION_OBJECT_DECLARATION n → IsSome (child_of n COMMENTS)
object_has_comments text n is = has_child whole_rules text TOP_LEVEL_INFORMATION_OBJECT_DECLARATION COMMENTS n is asked.object_asks_comments

pub object_has_name : (text : List ℕ) (n : Node) → Is whole_rules text TOP_LEVEL_INFORMATION_OBJECT_DECLARATION n → IsSome (child_of n IDENTIFIER)
object_has_name text n is = has_child whole_rules text TOP_LEVEL_INFORMATION_OBJECT_DECLARATION IDENTIFIER n is asked.object_asks_name

pub object_has_class : (text : List ℕ) (n : Node) → Is whole_rules text TOP_LEVEL_INFORMATION_OBJECT_DECLARATION n → IsSome (child_of n CLASS_NAME)
object_has_class text n is = has_child whole_rules text TOP_LEVEL_INFORMATION_OBJECT_DECLARATION CLASS_NAME n is asked.object_asks_class

pub object_has_object : (text : List ℕ) (n : Node) → Is whole_rules text TOP_LEVEL_INFORMATION_OBJECT_DECLARATION n → IsSome (child_of n INFORMATION_OBJECT)
object_has_object text n is = has_child whole_rules text TOP_LEVEL_INFORMATION_OBJECT_DECLARATION INFORMATION_OBJECT n is asked.object_asks_object

pub set_has_comments : (text : List ℕ) (n : Node) → Is whole_rules text TOP_LEVEL_OBJECT_SET_DECLARATION n → IsSome (child_of n COMMENTS)
set_has_comments text n is = has_child whole_rules text TOP_LEVEL_OBJECT_SET_DECLARATION COMMENTS n is asked.set_asks_comments

pub set_has_name : (text : List ℕ) (n : Node) → Is whole_rules text TOP_LEVEL_OBJECT_SET_DECLARATION n → IsSome (child_of n IDENTIFIER)
set_has_name text n is = has_child whole_rules text TOP_LEVEL_OBJECT_SET_DECLARATION IDENTIFIER n is asked.set_asks_name

pub set_has_class : (text : List ℕ) (n : Node) → Is whole_rules text TOP_LEVEL_OBJECT_SET_DECLARATION n → IsSome (child_of n CLASS_NAME)
set_has_class text n is = has_child whole_rules text TOP_LEVEL_OBJECT_SET_DECLARATION CLASS_NAME n is asked.set_asks_class

pub set_has_set : (text : List ℕ) (n : Node) → Is whole_rules text TOP_LEVEL_OBJECT_SET_DECLARATION n → IsSome (child_of n OBJECT_SET)
set_has_set text n is = has_child whole_rules text TOP_LEVEL_OBJECT_SET_DECLARATION OBJECT_SET n is asked.set_asks_set

pub class_has_comments : (text : List ℕ) (n : Node) → Is whole_rules text TOP_LEVEL_OBJECT_CLASS_DECLARATION n → IsSome (child_of n COMMENTS)
class_has_comments text n is = has_child whole_rules text TOP_LEVEL_OBJECT_CLASS_DECLARATION COMMENTS n is asked.class_asks_comments

pub class_has_name : (text : List ℕ) (n : Node) → Is whole_rules text TOP_LEVEL_OBJECT_CLASS_DECLARATION n → IsSome (child_of n UPPERCASE_IDENTIFIER)
class_has_name text n is = has_child whole_rules text TOP_LEVEL_OBJECT_CLASS_DECLARATION UPPERCASE_IDENTIFIER n is asked.class_asks_name

pub module_has_header : (text : List ℕ) (n : Node) → Is whole_rules text ASN_MODULE n → IsSome (child_of n MODULE_REFERENCE)
module_has_header text n is = has_child whole_rules text ASN_MODULE MODULE_REFERENCE n is asked.module_asks_header

pub enumerated_has_item : (text : List ℕ) (n : Node) → Is whole_rules text ENUMERATED_VALUE n → IsSome (nth_child_of n VALUE_IDENTIFIER 1)
enumerated_has_item text n is = has_nth whole_rules text ENUMERATED_VALUE VALUE_IDENTIFIER 1 n is asked.enumerated_asks_item

pub plain_has_comments : (text : List ℕ) (n : Node) → Is whole_rules text TOP_LEVEL_VALUE_DECLARATION n → child_of n ENUMERATED_VALUE ≡ None → IsSome (child_of n COMMENTS)
plain_has_comments text n is e = second text TOP_LEVEL_VALUE_DECLARATION ENUMERATED_VALUE COMMENTS n is asked.plain_asks_comments e

pub plain_has_name : (text : List ℕ) (n : Node) → Is whole_rules text TOP_LEVEL_VALUE_DECLARATION n → child_of n ENUMERATED_VALUE ≡ None → IsSome (child_of n VALUE_IDENTIFIER)
plain_has_name text n is e = second text TOP_LEVEL_VALUE_DECLARATION ENUMERATED_VALUE VALUE_IDENTIFIER n is asked.plain_asks_name e

pub plain_has_type : (text : List ℕ) (n : Node) → Is whole_rules text TOP_LEVEL_VALUE_DECLARATION n → child_of n ENUMERATED_VALUE ≡ None → IsSome (child_of n ASN1_TYPE)
plain_has_type text n is e = second text TOP_LEVEL_VALUE_DECLARATION ENUMERATED_VALUE ASN1_TYPE n is asked.plain_asks_type e

pub plain_has_value : (text : List ℕ) (n : Node) → Is whole_rules text TOP_LEVEL_VALUE_DECLARATION n → child_of n ENUMERATED_VALUE ≡ None → IsSome (child_of n ASN1_VALUE)
plain_has_value text n is e = second text TOP_LEVEL_VALUE_DECLARATION ENUMERATED_VALUE ASN1_VALUE n is asked.plain_asks_value e

pub information_has_class : (text : List ℕ) (n : Node) → Is whole_rules text TOP_LEVEL_INFORMATION_DECLARATION n → child_of n TOP_LEVEL_INFORMATION_OBJECT_DECLARATION ≡ None → child_of n TOP_LEVEL_OBJECT_SET_DECLARATION ≡ None → IsSome (child_of n TOP_LEVEL_OBJECT_CLASS_DECLARATION)
information_has_class text n is e f = third text TOP_LEVEL_INFORMATION_DECLARATION TOP_LEVEL_INFORMATION_OBJECT_DECLARATION TOP_LEVEL_OBJECT_SET_DECLARATION TOP_LEVEL_OBJECT_CLASS_DECLARATION n is asked.information_asks_one e f

pub definition_has_value : (text : List ℕ) (n : Node) → Is whole_rules text DEFINITION n → child_of n TOP_LEVEL_INFORMATION_DECLARATION ≡ None → child_of n TOP_LEVEL_TYPE_DECLARATION ≡ None → IsSome (child_of n TOP_LEVEL_VALUE_DECLARATION)
definition_has_value text n is e f = third text DEFINITION TOP_LEVEL_INFORMATION_DECLARATION TOP_LEVEL_TYPE_DECLARATION TOP_LEVEL_VALUE_DECLARATION n is asked.definition_asks_one e f
