-- The comments before a definition.
use Rattle.std.specs.Prelude.{ℕ, List, [], ◌++◌, codes, fold, unwrap_or, Option, Some, None}
use Rattle.asn_rules.specs.declared.names.TheConstants.{ITEM_COMMENT}
use Rattle.asn_rules.specs.declared.node.Node.{Node}
use Rattle.asn_rules.specs.declared.node.Node.TheViews.{out-Node}
use Rattle.asn_rules.specs.Nodes.{at_children}
use Rattle.asn_read_nodes.specs.Parts.{all_some, of_some}
use Rattle.asn_read_pieces.specs.Enumerations.{item_comment_of}

abbrev pub comments_in : List ℕ → List Node → Option (List (List ℕ))
comments_in text ns = all_some (at_children ns ITEM_COMMENT (item_comment_of text))

abbrev pub with_line : Option (List ℕ) → List ℕ → Option (List ℕ)
with_line None line = Some line
with_line (Some lines) line = Some ((lines ++ codes "\n") ++ line)

-- the texts, each behind the one before by a line feed; none where there are none
abbrev pub joined_lines : List (List ℕ) → Option (List ℕ)
joined_lines lines = fold with_line None lines

-- The texts of the comments before a definition, joined by line feeds; empty without comments.
abbrev pub comments_of : List ℕ → Node → Option (List ℕ)
comments_of text n = of_some (comments_in text (out-Node n).children) (λ lines. Some (unwrap_or (joined_lines lines) []))
