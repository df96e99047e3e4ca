-- What a node is as a part of a class's own syntax, by what its children are.
use Rattle.std.proofs.Common.{◌≡◌, ℕ, List, [], ◌∷◌, refl, ap, ◌∙◌}
use Rattle.asn_rules.specs.declared.names.TheConstants.{SYNTAX_GROUP, SYNTAX_ITEM}
use Rattle.asn_rules.specs.declared.node.Node.{Node}
use Rattle.asn_rules.specs.declared.node.Node.TheViews.{out-Node}
use Rattle.asn_rules.specs.Nodes.{at_child, at_children, child_of, made}
use Rattle.asn_rules.proofs.Nodes.{made_all_paired, made_paired, paired, para_out}
use Rattle.asn_read_nodes.specs.Parts.{all_some}
use Rattle.asn_read_pieces.specs.Syntax.{Parsed, nodes, optional_with, parsed_step, part_of, parts_of, required_with, token_among}

module _ (text : List ℕ) where
  nodes_paired : (ns : List Node) → nodes (paired Parsed (parsed_step text) ns) ≡ ns
  nodes_paired [] = refl
  nodes_paired (n ∷ ns) = ap (λ ms. n ∷ ms) (nodes_paired ns)

  pub part_is : (n : Node) → part_of text n ≡ at_child (child_of n SYNTAX_GROUP) (required_with (token_among text (out-Node n).children)) (λ group. optional_with (parts_of text group))
  part_is n =
      let ps = paired Parsed (parsed_step text) (out-Node n).children in
      ap (λ t. t.part) (para_out Parsed (parsed_step text) n)
      ∙ ap (λ ns. made ps SYNTAX_GROUP (required_with (token_among text ns)) (λ group. optional_with group.parts)) (nodes_paired (out-Node n).children)
      ∙ made_paired Parsed (parsed_step text) (out-Node n).children SYNTAX_GROUP (required_with (token_among text (out-Node n).children)) (λ group. optional_with group.parts)

  pub parts_is : (n : Node) → parts_of text n ≡ all_some (at_children (out-Node n).children SYNTAX_ITEM (part_of text))
  parts_is n = ap (λ t. t.parts) (para_out Parsed (parsed_step text) n) ∙ ap all_some (made_all_paired Parsed (parsed_step text) (out-Node n).children SYNTAX_ITEM (λ item. item.part))
