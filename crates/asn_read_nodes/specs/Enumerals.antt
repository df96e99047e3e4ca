-- The items of an enumeration as its nodes tell them (X.680 clause 20).
use Rattle.std.specs.Prelude.{◌≡◌, ℕ, ℤ, List, [], ◌∷◌, Option}
use Rattle.asn_rules.specs.Children.{Is}
use Rattle.asn_rules.specs.Nodes.{at_children, child_of, the}
use Rattle.asn_rules.specs.Whole.{whole_rules}
use Rattle.asn_rules.specs.declared.names.TheConstants.{ENUMERAL, ENUMERAL_LIST, ENUMERATED, ITEM_NUMBER}
use Rattle.asn_rules.specs.declared.node.Node.{Node}
use Rattle.asn_rules.specs.declared.node.Node.TheViews.{out-Node}
use Rattle.asn_tree_numbers.specs.Enumeration.{NumbersPass}
use Rattle.asn_rules_guards.specs.Enumerations.{added_items, root_items}
use Rattle.asn_read_nodes.specs.Parts.{number_of, taken}

-- an item: the number that is written behind its name, if there is one
abbrev pub item_of : List ℕ → Node → Option ℤ
item_of text n = the (child_of n ITEM_NUMBER) (number_of text)

-- those of a list of items
abbrev pub items_of : List ℕ → Node → List (Option ℤ)
items_of text n = at_children (out-Node n).children ENUMERAL (item_of text)

-- and those of an enumeration, before its extension marker and behind it
abbrev pub item_lists : List ℕ → Node → List (List (Option ℤ))
item_lists text n = at_children (out-Node n).children ENUMERAL_LIST (items_of text)

-- They are the items that the bytes tell,
abbrev pub ItemsAreThoseOfBytes : Type 0
ItemsAreThoseOfBytes = (text : List ℕ) (n : Node) → Is whole_rules text ENUMERATED n → item_lists text n ≡ root_items (taken text n) ∷ added_items (taken text n) ∷ []

-- and so their numbers pass 128 bits nowhere.
abbrev pub EnumeratedNumbersFit : Type 0
EnumeratedNumbersFit = (text : List ℕ) (n : Node) (root added : List (Option ℤ)) → Is whole_rules text ENUMERATED n → item_lists text n ≡ root ∷ added ∷ [] → NumbersPass root added → ⊥
