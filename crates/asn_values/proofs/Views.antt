-- The children that readers ask for are there.
use Rattle.std.proofs.Common.{◌≡◌, ℕ, ◌+◌, ◌≤◌, List, [], ◌∷◌, Bool, true, false, Some, None, refl, subst, arith}
use Rattle.std.specs.Prelude.{nat_eq, not, ◌||◌, IsSome}
use Rattle.asn_rules.specs.Whole.{whole_rules}
use Rattle.asn_rules.specs.Children.{Is}
use Rattle.asn_rules.specs.Nodes.{child_of, first_among, first_child_of}
use Rattle.asn_rules.specs.declared.names.TheConstants.{ASN1_VALUE, BINARY, BIT_STRING_VALUE, CHARACTER_STRING_VALUE, CHOICE_VALUE, DOT_NOTATION, ELSEWHERE_DECLARED_VALUE, HEXADECIMAL, IDENTIFIER, MBE_NOTATION, NAMED_BITS, QUADRUPLE, QUOTED, REAL_VALUE, STRUCT_ITEM, VALUE_IDENTIFIER, VALUE_PATH}
use Rattle.asn_rules.specs.declared.node.Node.{Node}
use Rattle.asn_rules.specs.declared.node.Node.TheViews.{out-Node}
use Rattle.asn_rules.proofs.Children.{AllStand, bounds, has_child, kids_stand, one_if, times}
use Rattle.asn_read_nodes.proofs.Views.{some_among, without}
use Rattle.asn_values.proofs.Asked as asked
use Rattle.asn_values.specs.Braces.{IsValue, is_value}

pub elsewhere_has_path : (text : List ℕ) (n : Node) → Is whole_rules text ELSEWHERE_DECLARED_VALUE n → IsSome (child_of n VALUE_PATH)
elsewhere_has_path text n is = has_child whole_rules text ELSEWHERE_DECLARED_VALUE VALUE_PATH n is asked.elsewhere_asks_path

pub elsewhere_has_name : (text : List ℕ) (n : Node) → Is whole_rules text ELSEWHERE_DECLARED_VALUE n → IsSome (child_of n VALUE_IDENTIFIER)
elsewhere_has_name text n is = has_child whole_rules text ELSEWHERE_DECLARED_VALUE VALUE_IDENTIFIER n is asked.elsewhere_asks_name

pub choice_has_name : (text : List ℕ) (n : Node) → Is whole_rules text CHOICE_VALUE n → IsSome (child_of n IDENTIFIER)
choice_has_name text n is = has_child whole_rules text CHOICE_VALUE IDENTIFIER n is asked.choice_asks_name

pub choice_has_value : (text : List ℕ) (n : Node) → Is whole_rules text CHOICE_VALUE n → IsSome (child_of n ASN1_VALUE)
choice_has_value text n is = has_child whole_rules text CHOICE_VALUE ASN1_VALUE n is asked.choice_asks_value

pub item_has_value : (text : List ℕ) (n : Node) → Is whole_rules text STRUCT_ITEM n → IsSome (child_of n ASN1_VALUE)
item_has_value text n is = has_child whole_rules text STRUCT_ITEM ASN1_VALUE n is asked.item_asks_value

-- bits that are not in digits are told by names
pub bits_have_names : (text : List ℕ) (n : Node) → Is whole_rules text BIT_STRING_VALUE n → child_of n BINARY ≡ None → child_of n HEXADECIMAL ≡ None → IsSome (child_of n NAMED_BITS)
bits_have_names text n is e f =
    let one = (bounds whole_rules text BIT_STRING_VALUE (λ q. nat_eq q BINARY || (nat_eq q HEXADECIMAL || nat_eq q NAMED_BITS)) 1 None n is asked.bits_ask_one).0 in
    let first = without BINARY (λ q. nat_eq q HEXADECIMAL || nat_eq q NAMED_BITS) (out-Node n).children e in
    let second = without HEXADECIMAL (λ q. nat_eq q NAMED_BITS) (out-Node n).children f in
    some_among NAMED_BITS (out-Node n).children (omega (arith, one, first, second))

-- a text that is not in quotes is a quadruple
pub text_has_quadruple : (text : List ℕ) (n : Node) → Is whole_rules text CHARACTER_STRING_VALUE n → child_of n QUOTED ≡ None → IsSome (child_of n QUADRUPLE)
text_has_quadruple text n is e =
    let one = (bounds whole_rules text CHARACTER_STRING_VALUE (λ q. nat_eq q QUOTED || nat_eq q QUADRUPLE) 1 None n is asked.text_asks_one).0 in
    let first = without QUOTED (λ q. nat_eq q QUADRUPLE) (out-Node n).children e in
    some_among QUADRUPLE (out-Node n).children (omega (arith, one, first))

-- a real without a point is told by its parts
pub real_has_parts : (text : List ℕ) (n : Node) → Is whole_rules text REAL_VALUE n → child_of n DOT_NOTATION ≡ None → IsSome (child_of n MBE_NOTATION)
real_has_parts text n is e =
    let one = (bounds whole_rules text REAL_VALUE (λ q. nat_eq q DOT_NOTATION || nat_eq q MBE_NOTATION) 1 None n is asked.real_asks_one).0 in
    let first = without DOT_NOTATION (λ q. nat_eq q MBE_NOTATION) (out-Node n).children e in
    some_among MBE_NOTATION (out-Node n).children (omega (arith, one, first))

-- a value has a first child, which is of one of the rules of forms
pub value_has_first : (text : List ℕ) (n : Node) → Is whole_rules text ASN1_VALUE n → IsSome (first_child_of n)
value_has_first text n is = go (out-Node n).children (bounds whole_rules text ASN1_VALUE (λ q. true) 1 (Some 1) n is asked.value_is_one).0
  where
    go : (ns : List Node) → 1 ≤ times (λ q. true) ns → IsSome (first_among ns)
    go [] h = absurd (omega (arith, h))
    go (c ∷ cs) h = refl

pub first_is_value : (text : List ℕ) (n t : Node) → Is whole_rules text ASN1_VALUE n → first_child_of n ≡ Some t → IsValue text t
first_is_value text n t is e = go (out-Node n).children (kids_stand whole_rules text n is.stands_by) (bounds whole_rules text ASN1_VALUE (λ q. not (is_value q)) 0 (Some 0) n is asked.value_is_of).1 e
  where
    said : (b : Bool) (k : ℕ) → one_if (not b) + k ≤ 0 → b ≡ true
    said true k h = refl
    said false k h = absurd (omega (arith, h))

    go : (ns : List Node) → AllStand whole_rules text ns → times (λ q. not (is_value q)) ns ≤ 0 → first_among ns ≡ Some t → IsValue text t
    go [] all h e = absurd cc
    go (c ∷ cs) all h e =
        let same : c ≡ t = cc in
        subst (IsValue text) same (record { stands_by = all.0; is_one = said (is_value (out-Node c).rule) (times (λ q. not (is_value q)) cs) h })
