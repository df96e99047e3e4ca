-- The values that hold other values, and what each value is.
use Rattle.std.specs.Prelude.{◌≡◌, ℕ, List, [], ◌∷◌, map, nat_eq, if◌then◌else◌, Bool, true, ◌||◌, Option, Some, None}
use Rattle.asn_rules.specs.declared.names.TheConstants.{ALL_VALUE, ASN1_VALUE, BIT_STRING_VALUE, BOOLEAN_VALUE, CHARACTER_STRING_VALUE, CHOICE_VALUE, ELSEWHERE_DECLARED_VALUE, IDENTIFIER, INTEGER_VALUE, NULL_VALUE, OBJECT_IDENTIFIER_VALUE, REAL_VALUE, SEQUENCE_VALUE, STRUCT_ITEM, TIME_VALUE, VALUE_IDENTIFIER, VALUE_LIST}
use Rattle.asn_rules.specs.declared.node.Node.{Node}
use Rattle.asn_rules.specs.declared.node.Node.TheViews.{out-Node}
use Rattle.asn_rules.specs.Children.{StandsBy}
use Rattle.asn_rules.specs.Whole.{whole_rules}
use Rattle.asn_rules.specs.Nodes.{Opened, closed, para, at_child, child_among, child_of, the, made, made_all}
use Rattle.asn_tree.specs.declared.values.ASN1Value.{ASN1Value}
use Rattle.asn_tree.specs.declared.values.ASN1Value.TheVariants.{All, Choice, Null, SequenceOrSet}
use Rattle.asn_read_nodes.specs.Parts.{all_some, if_there, name_of, of_some}
use Rattle.asn_values.specs.Leaves.{bit_string_of, boolean_of, character_string_of, elsewhere_of, identifier_of, integer_of, real_of, time_of}

-- the rules of the forms of values
abbrev pub is_value : ℕ → Bool
is_value r =
    nat_eq r ALL_VALUE || nat_eq r NULL_VALUE || nat_eq r OBJECT_IDENTIFIER_VALUE || nat_eq r CHOICE_VALUE || nat_eq r REAL_VALUE
    || nat_eq r SEQUENCE_VALUE || nat_eq r TIME_VALUE || nat_eq r BIT_STRING_VALUE || nat_eq r BOOLEAN_VALUE || nat_eq r INTEGER_VALUE
    || nat_eq r CHARACTER_STRING_VALUE || nat_eq r ELSEWHERE_DECLARED_VALUE

-- A node of one of them.
pub record IsValue (text : List ℕ) (n : Node) : Type 0 where
  pub stands_by : StandsBy whole_rules text n
  pub is_one : is_value (out-Node n).rule ≡ true

-- an item between braces: its name, if it has one, and its value
abbrev pub Item : Type 0
Item = Option (List ℕ) × ASN1Value

-- an option of a CHOICE with its value (X.680 29.11)
abbrev pub a_choice : List ℕ → ASN1Value → ASN1Value
a_choice name value = Choice None name value

-- what a node is as one of the forms of values, as what a value stands under, as a list of items, and as an item
pub record Valued : Type 0 where
  pub form : Option ASN1Value
  pub value : Option ASN1Value
  pub items : Option (List Item)
  pub item : Option Item

abbrev pub nodes : List (Node × Valued) → List Node
nodes cs = map (λ c. c.0) cs

abbrev pub first_form : List (Node × Valued) → Option ASN1Value
first_form [] = None
first_form (c ∷ cs) = c.1.form

abbrev pub choice_with : List ℕ → Option Node → Option ASN1Value → Option ASN1Value
choice_with text name value = of_some (the name (name_of text)) (λ name. of_some value (λ value. Some (a_choice name value)))

abbrev pub sequence_with : Option (List Item) → Option ASN1Value
sequence_with items = of_some items (λ items. Some (SequenceOrSet items))

abbrev pub item_with : List ℕ → Option Node → Option ASN1Value → Option Item
item_with text name value = of_some (if_there name (name_of text)) (λ name. of_some value (λ value. Some (name, value)))

-- the value of a form that holds no other value
abbrev pub leaf_of : List ℕ → Node → Option ASN1Value
leaf_of text n =
    let r = (out-Node n).rule in
    if nat_eq r ALL_VALUE then Some All
    else if nat_eq r NULL_VALUE then Some Null
    else if nat_eq r OBJECT_IDENTIFIER_VALUE then identifier_of text n
    else if nat_eq r REAL_VALUE then real_of text n
    else if nat_eq r TIME_VALUE then time_of text n
    else if nat_eq r BIT_STRING_VALUE then bit_string_of text n
    else if nat_eq r BOOLEAN_VALUE then boolean_of n
    else if nat_eq r INTEGER_VALUE then integer_of text n
    else if nat_eq r CHARACTER_STRING_VALUE then character_string_of text n
    else if nat_eq r ELSEWHERE_DECLARED_VALUE then elsewhere_of text n
    else None

abbrev pub form_step : List ℕ → Opened Valued → Option ASN1Value
form_step text x =
    if nat_eq x.rule CHOICE_VALUE then choice_with text (child_among (nodes x.children) IDENTIFIER) (made x.children ASN1_VALUE None (λ c. c.value))
    else if nat_eq x.rule SEQUENCE_VALUE then sequence_with (made x.children VALUE_LIST (Some []) (λ c. c.items))
    else leaf_of text (closed x)

abbrev pub valued_step : List ℕ → Opened Valued → Valued
valued_step text x =
    record {
      form = form_step text x;
      value = first_form x.children;
      items = all_some (made_all x.children STRUCT_ITEM (λ c. c.item));
      item = item_with text (child_among (nodes x.children) VALUE_IDENTIFIER) (made x.children ASN1_VALUE None (λ c. c.value));
    }

abbrev pub valued : List ℕ → Node → Valued
valued text = para Valued (valued_step text)

abbrev pub form_of : List ℕ → Node → Option ASN1Value
form_of text n = (valued text n).form

-- What a value is: what the one node under it is as a form of values (X.680 17.7).
abbrev pub value_of : List ℕ → Node → Option ASN1Value
value_of text n = (valued text n).value

abbrev pub items_of : List ℕ → Node → Option (List Item)
items_of text n = (valued text n).items

abbrev pub item_of : List ℕ → Node → Option Item
item_of text n = (valued text n).item

-- an option of a CHOICE: its name and its value
abbrev pub choice_of : List ℕ → Node → Option ASN1Value
choice_of text n = choice_with text (child_of n IDENTIFIER) (the (child_of n ASN1_VALUE) (value_of text))

-- items between braces, with or without names; none where the braces are empty
abbrev pub sequence_of : List ℕ → Node → Option ASN1Value
sequence_of text n = sequence_with (at_child (child_of n VALUE_LIST) (Some []) (items_of text))
