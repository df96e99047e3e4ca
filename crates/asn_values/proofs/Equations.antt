-- What a node is as a value, by what its children are.
use Rattle.std.proofs.Common.{◌≡◌, ℕ, List, [], ◌∷◌, Some, None, refl, ap, ◌∙◌}
use Rattle.std.specs.Prelude.{nat_eq, if◌then◌else◌}
use Rattle.asn_rules.specs.declared.names.TheConstants.{ASN1_VALUE, CHOICE_VALUE, IDENTIFIER, SEQUENCE_VALUE, STRUCT_ITEM, VALUE_IDENTIFIER, VALUE_LIST}
use Rattle.asn_rules.specs.declared.node.Node.{Node}
use Rattle.asn_rules.specs.declared.node.Node.TheViews.{out-Node, roll-Node, roll-out-Node}
use Rattle.asn_rules.specs.Nodes.{at_children, child_among, child_of, closed, first_among, first_child_of, made, the}
use Rattle.asn_rules.proofs.Nodes.{made_all_paired, made_paired, opened, paired, para_out}
use Rattle.asn_read_nodes.specs.Parts.{all_some}
use Rattle.asn_values.specs.Braces.{Valued, choice_of, choice_with, first_form, form_of, item_of, item_with, items_of, leaf_of, nodes, sequence_of, sequence_with, value_of, valued_step}

module _ (text : List ℕ) where
  nodes_paired : (ns : List Node) → nodes (paired Valued (valued_step text) ns) ≡ ns
  nodes_paired [] = refl
  nodes_paired (n ∷ ns) = ap (λ ms. n ∷ ms) (nodes_paired ns)

  first_paired : (ns : List Node) → first_form (paired Valued (valued_step text) ns) ≡ the (first_among ns) (form_of text)
  first_paired [] = refl
  first_paired (n ∷ ns) = refl

  -- a node opened and closed again
  closed_again : (n : Node) → closed (opened Valued (valued_step text) n) ≡ n
  closed_again n =
      let x = out-Node n in
      ap (λ ns. roll-Node (record { rule = x.rule; start = x.start; end = x.end; children = ns })) (nodes_paired x.children) ∙ roll-out-Node n

  abbrev pub FormIs : Node → Type 0
  FormIs n =
      form_of text n
      ≡ (if nat_eq (out-Node n).rule CHOICE_VALUE then choice_of text n
      else if nat_eq (out-Node n).rule SEQUENCE_VALUE then sequence_of text n
      else leaf_of text n)

  pub form_is : (n : Node) → FormIs n
  form_is n =
      let ps = paired Valued (valued_step text) (out-Node n).children in
      let r = (out-Node n).rule in
      ap (λ t. t.form) (para_out Valued (valued_step text) n)
      ∙ ap (λ m. if nat_eq r CHOICE_VALUE then choice_with text (child_among (nodes ps) IDENTIFIER) m else if nat_eq r SEQUENCE_VALUE then sequence_with (made ps VALUE_LIST (Some []) (λ c. c.items)) else leaf_of text (closed (opened Valued (valued_step text) n))) (made_paired Valued (valued_step text) (out-Node n).children ASN1_VALUE None (λ c. c.value))
      ∙ ap (λ ms. if nat_eq r CHOICE_VALUE then choice_with text (child_among ms IDENTIFIER) (the (child_of n ASN1_VALUE) (value_of text)) else if nat_eq r SEQUENCE_VALUE then sequence_with (made ps VALUE_LIST (Some []) (λ c. c.items)) else leaf_of text (closed (opened Valued (valued_step text) n))) (nodes_paired (out-Node n).children)
      ∙ ap (λ is. if nat_eq r CHOICE_VALUE then choice_of text n else if nat_eq r SEQUENCE_VALUE then sequence_with is else leaf_of text (closed (opened Valued (valued_step text) n))) (made_paired Valued (valued_step text) (out-Node n).children VALUE_LIST (Some []) (λ c. c.items))
      ∙ ap (λ m. if nat_eq r CHOICE_VALUE then choice_of text n else if nat_eq r SEQUENCE_VALUE then sequence_of text n else leaf_of text m) (closed_again n)

  pub value_is : (n : Node) → value_of text n ≡ the (first_child_of n) (form_of text)
  value_is n = ap (λ t. t.value) (para_out Valued (valued_step text) n) ∙ first_paired (out-Node n).children

  pub items_is : (n : Node) → items_of text n ≡ all_some (at_children (out-Node n).children STRUCT_ITEM (item_of text))
  items_is n = ap (λ t. t.items) (para_out Valued (valued_step text) n) ∙ ap all_some (made_all_paired Valued (valued_step text) (out-Node n).children STRUCT_ITEM (λ c. c.item))

  pub item_is : (n : Node) → item_of text n ≡ item_with text (child_of n VALUE_IDENTIFIER) (the (child_of n ASN1_VALUE) (value_of text))
  item_is n =
      let ps = paired Valued (valued_step text) (out-Node n).children in
      ap (λ t. t.item) (para_out Valued (valued_step text) n)
      ∙ ap (λ ns. item_with text (child_among ns VALUE_IDENTIFIER) (made ps ASN1_VALUE None (λ c. c.value))) (nodes_paired (out-Node n).children)
      ∙ ap (item_with text (child_of n VALUE_IDENTIFIER)) (made_paired Valued (valued_step text) (out-Node n).children ASN1_VALUE None (λ c. c.value))
