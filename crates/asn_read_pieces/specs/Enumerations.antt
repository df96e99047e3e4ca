-- The items of an enumeration as they are written (X.680 20.1).
use Rattle.std.specs.Prelude.{ℕ, List, Option, Some}
use Rattle.std.specs.Str.Lossy.{utf8_lossy}
use Rattle.asn_rules.specs.declared.names.TheConstants.{BLOCK_COMMENT, COMMENT, COMMENT_BODY, ENUMERAL, IDENTIFIER, ITEM_COMMENT, ITEM_NUMBER, LINE_BODY, LINE_COMMENT, NUMBER_I128}
use Rattle.asn_rules.specs.declared.node.Node.{Node}
use Rattle.asn_rules.specs.declared.node.Node.TheViews.{out-Node}
use Rattle.asn_rules.specs.Nodes.{at_child, at_children, child_of, the}
use Rattle.asn_read_nodes.specs.Parts.{all_some, if_there, integer_of, name_of, of_some, taken}
use Rattle.asn_read_pieces.specs.declared.enumerations.WrittenItem.{WrittenItem}

abbrev pub bytes_in : ℕ → List ℕ → Node → Option (List ℕ)
bytes_in part text n = the (child_of n part) (λ body. Some (utf8_lossy (taken text body)))

-- the text between the marks of a comment (X.680 12.6)
abbrev pub comment_of : List ℕ → Node → Option (List ℕ)
comment_of text n = at_child (child_of n BLOCK_COMMENT) (the (child_of n LINE_COMMENT) (bytes_in LINE_BODY text)) (bytes_in COMMENT_BODY text)

-- that of a comment that belongs to an item or a definition
abbrev pub item_comment_of : List ℕ → Node → Option (List ℕ)
item_comment_of text n = the (child_of n COMMENT) (comment_of text)

-- an item: its name, the number in parentheses and the comment behind it, each of these where it stands
abbrev pub item_of : List ℕ → Node → Option WrittenItem
item_of text n =
    of_some (the (child_of n IDENTIFIER) (name_of text)) (λ name.
    of_some (if_there (child_of n ITEM_NUMBER) (λ number. the (child_of number NUMBER_I128) (integer_of 127 text))) (λ number.
    of_some (if_there (child_of n ITEM_COMMENT) (item_comment_of text)) (λ description. Some (record { name = name; number = number; description = description }))))

abbrev pub items_in : List ℕ → List Node → Option (List WrittenItem)
items_in text ns = all_some (at_children ns ENUMERAL (item_of text))

-- the items on one side of the extension marker, in order
abbrev pub items_of : List ℕ → Node → Option (List WrittenItem)
items_of text n = items_in text (out-Node n).children
