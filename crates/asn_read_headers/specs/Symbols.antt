-- The symbols that a module exports and imports.
use Rattle.std.specs.Prelude.{ℕ, List, [], Option, Some}
use Rattle.asn_tree_headers.specs.declared.headers.Exports.{Exports}
use Rattle.asn_tree_headers.specs.declared.headers.Exports.TheVariants.{All, Identifier}
use Rattle.asn_rules.specs.declared.names.TheConstants.{IDENTIFIER, IMPORTED_SYMBOL, MARK_ALL, SYMBOL_LIST}
use Rattle.asn_rules.specs.declared.node.Node.{Node}
use Rattle.asn_rules.specs.declared.node.Node.TheViews.{out-Node}
use Rattle.asn_rules.specs.Nodes.{at_child, at_children, child_of, the}
use Rattle.asn_read_nodes.specs.Parts.{all_some, name_of, of_some}

-- a symbol by its name; the braces of a parameterized one leave no trace
abbrev pub symbol_of : List ℕ → Node → Option (List ℕ)
symbol_of text n = the (child_of n IDENTIFIER) (name_of text)

abbrev pub symbols_in : List ℕ → List Node → Option (List (List ℕ))
symbols_in text ns = all_some (at_children ns IMPORTED_SYMBOL (symbol_of text))

-- the symbols of a list, in order
abbrev pub symbols_of : List ℕ → Node → Option (List (List ℕ))
symbols_of text n = symbols_in text (out-Node n).children

-- What a module exports: all; or the symbols between EXPORTS and the semicolon, of which there may be none (X.680 13.1).
abbrev pub exports_of : List ℕ → Node → Option Exports
exports_of text n =
    at_child (child_of n MARK_ALL) (at_child (child_of n SYMBOL_LIST) (Some (Identifier [])) (λ list. of_some (symbols_of text list) (λ names. Some (Identifier names)))) (λ word. Some All)
