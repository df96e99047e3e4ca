-- What a node is as a part of an object or of a set of objects, by what its children are.
use Rattle.std.proofs.Common.{◌≡◌, ℕ, List, [], ◌∷◌, Some, None, refl, ap, ◌∙◌}
use Rattle.asn_rules.specs.declared.names.TheConstants.{ASN1_TYPE, ASN1_VALUE, CUSTOM_ITEM, CUSTOM_SYNTAX, DEFAULT_FIELD, DEFAULT_SYNTAX, IDENTIFIER, INFORMATION_OBJECT, OBJECT_ITEM, OBJECT_LIST, OBJECT_SET, SET_MARK, SET_MORE}
use Rattle.asn_rules.specs.declared.node.Node.{Node}
use Rattle.asn_rules.specs.declared.node.Node.TheViews.{out-Node}
use Rattle.asn_rules.specs.Nodes.{at_child, at_children, child_among, child_of, made, the}
use Rattle.asn_rules.proofs.Nodes.{made_all_paired, made_paired, paired, para_out}
use Rattle.asn_read_nodes.specs.Parts.{all_some, name_of}
use Rattle.asn_values.specs.Braces.{value_of}
use Rattle.asn_types.specs.Objects.{by_name, by_syntax, custom_item_with, field_name, literal_item, named_object, object_set_with, set_given, set_item_with, type_given, type_item_with, value_given, value_item_or, written_object}
use Rattle.asn_types.specs.Read.{Read, nodes}
use Rattle.asn_types.specs.Reading.{custom_item_of, custom_syntax_of, default_field_of, default_syntax_of, object_item_of, object_list_of, object_of, object_set_of, read, read_step, type_of}

module _ (text : List ℕ) where
  nodes_paired : (ns : List Node) → nodes (paired Read (read_step text) ns) ≡ ns
  unfolding read
  nodes_paired [] = refl
  nodes_paired (n ∷ ns) = ap (λ ms. n ∷ ms) (nodes_paired ns)

  pub object_is : (n : Node) → object_of text n ≡ at_child (child_of n DEFAULT_SYNTAX) (by_syntax (the (child_of n CUSTOM_SYNTAX) (custom_syntax_of text))) (λ fields. by_name (default_syntax_of text fields))
  unfolding read
  object_is n =
      let ks = (out-Node n).children in
      let ps = paired Read (read_step text) ks in
      ap (λ t. t.object) (para_out Read (read_step text) n)
      ∙ ap (λ m. made ps DEFAULT_SYNTAX (by_syntax m) (λ c. by_name c.default_syntax)) (made_paired Read (read_step text) ks CUSTOM_SYNTAX None (λ c. c.custom_syntax))
      ∙ made_paired Read (read_step text) ks DEFAULT_SYNTAX (by_syntax (the (child_of n CUSTOM_SYNTAX) (custom_syntax_of text))) (λ c. by_name c.default_syntax)

  pub default_syntax_is : (n : Node) → default_syntax_of text n ≡ all_some (at_children (out-Node n).children DEFAULT_FIELD (default_field_of text))
  unfolding read
  default_syntax_is n = ap (λ t. t.default_syntax) (para_out Read (read_step text) n) ∙ ap all_some (made_all_paired Read (read_step text) (out-Node n).children DEFAULT_FIELD (λ c. c.default_field))

  pub default_field_is : (n : Node) →
      default_field_of text n
      ≡ at_child (child_of n OBJECT_SET) (at_child (child_of n ASN1_TYPE) (value_given (field_name text (out-Node n).children) (the (child_of n ASN1_VALUE) (value_of text))) (λ ty. type_given (field_name text (out-Node n).children) (type_of text ty))) (λ set. set_given (field_name text (out-Node n).children) (object_set_of text set))
  unfolding read
  default_field_is n =
      let ks = (out-Node n).children in
      let ps = paired Read (read_step text) ks in
      let name = field_name text ks in
      let value = value_given name (the (child_among ks ASN1_VALUE) (value_of text)) in
      ap (λ t. t.default_field) (para_out Read (read_step text) n)
      ∙ ap (λ ns. made ps OBJECT_SET (made ps ASN1_TYPE (value_given (field_name text ns) (the (child_among ns ASN1_VALUE) (value_of text))) (λ c. type_given (field_name text ns) c.type)) (λ c. set_given (field_name text ns) c.object_set)) (nodes_paired ks)
      ∙ ap (λ m. made ps OBJECT_SET m (λ c. set_given name c.object_set)) (made_paired Read (read_step text) ks ASN1_TYPE value (λ c. type_given name c.type))
      ∙ made_paired Read (read_step text) ks OBJECT_SET (at_child (child_of n ASN1_TYPE) value (λ ty. type_given name (type_of text ty))) (λ c. set_given name c.object_set)

  pub custom_syntax_is : (n : Node) → custom_syntax_of text n ≡ all_some (at_children (out-Node n).children CUSTOM_ITEM (custom_item_of text))
  unfolding read
  custom_syntax_is n = ap (λ t. t.custom_syntax) (para_out Read (read_step text) n) ∙ ap all_some (made_all_paired Read (read_step text) (out-Node n).children CUSTOM_ITEM (λ c. c.custom_item))

  pub custom_item_is : (n : Node) →
      custom_item_of text n
      ≡ custom_item_with text (out-Node n).children (at_child (child_of n ASN1_TYPE) (value_item_or text (out-Node n).children (at_child (child_of n OBJECT_SET) (literal_item text (out-Node n).children) (λ set. set_item_with (object_set_of text set)))) (λ ty. type_item_with (type_of text ty)))
  unfolding read
  custom_item_is n =
      let ks = (out-Node n).children in
      let ps = paired Read (read_step text) ks in
      let set_or_literal = at_child (child_of n OBJECT_SET) (literal_item text ks) (λ set. set_item_with (object_set_of text set)) in
      ap (λ t. t.custom_item) (para_out Read (read_step text) n)
      ∙ ap (λ ns. custom_item_with text ns (made ps ASN1_TYPE (value_item_or text ns (made ps OBJECT_SET (literal_item text ns) (λ c. set_item_with c.object_set))) (λ c. type_item_with c.type))) (nodes_paired ks)
      ∙ ap (λ m. custom_item_with text ks (made ps ASN1_TYPE (value_item_or text ks m) (λ c. type_item_with c.type))) (made_paired Read (read_step text) ks OBJECT_SET (literal_item text ks) (λ c. set_item_with c.object_set))
      ∙ ap (custom_item_with text ks) (made_paired Read (read_step text) ks ASN1_TYPE (value_item_or text ks set_or_literal) (λ c. type_item_with c.type))

  pub object_item_is : (n : Node) → object_item_of text n ≡ at_child (child_of n INFORMATION_OBJECT) (named_object (the (child_of n IDENTIFIER) (name_of text))) (λ object. written_object (object_of text object))
  unfolding read
  object_item_is n =
      let ks = (out-Node n).children in
      let ps = paired Read (read_step text) ks in
      ap (λ t. t.object_item) (para_out Read (read_step text) n)
      ∙ ap (λ ns. made ps INFORMATION_OBJECT (named_object (the (child_among ns IDENTIFIER) (name_of text))) (λ c. written_object c.object)) (nodes_paired ks)
      ∙ made_paired Read (read_step text) ks INFORMATION_OBJECT (named_object (the (child_of n IDENTIFIER) (name_of text))) (λ c. written_object c.object)

  pub object_list_is : (n : Node) → object_list_of text n ≡ at_child (child_of n OBJECT_LIST) (all_some (at_children (out-Node n).children OBJECT_ITEM (object_item_of text))) (object_list_of text)
  unfolding read
  object_list_is n =
      let ks = (out-Node n).children in
      let ps = paired Read (read_step text) ks in
      ap (λ t. t.object_list) (para_out Read (read_step text) n)
      ∙ ap (λ ms. made ps OBJECT_LIST (all_some ms) (λ c. c.object_list)) (made_all_paired Read (read_step text) ks OBJECT_ITEM (λ c. c.object_item))
      ∙ made_paired Read (read_step text) ks OBJECT_LIST (all_some (at_children ks OBJECT_ITEM (object_item_of text))) (λ c. c.object_list)

  pub object_set_is : (n : Node) → object_set_of text n ≡ object_set_with (child_of n SET_MARK) (at_child (child_of n OBJECT_LIST) (Some []) (object_list_of text)) (at_child (child_of n SET_MORE) (Some []) (object_list_of text))
  unfolding read
  object_set_is n =
      let ks = (out-Node n).children in
      let ps = paired Read (read_step text) ks in
      ap (λ t. t.object_set) (para_out Read (read_step text) n)
      ∙ ap (λ ns. object_set_with (child_among ns SET_MARK) (made ps OBJECT_LIST (Some []) (λ c. c.object_list)) (made ps SET_MORE (Some []) (λ c. c.object_list))) (nodes_paired ks)
      ∙ ap (λ m. object_set_with (child_of n SET_MARK) m (made ps SET_MORE (Some []) (λ c. c.object_list))) (made_paired Read (read_step text) ks OBJECT_LIST (Some []) (λ c. c.object_list))
      ∙ ap (object_set_with (child_of n SET_MARK) (at_child (child_of n OBJECT_LIST) (Some []) (object_list_of text))) (made_paired Read (read_step text) ks SET_MORE (Some []) (λ c. c.object_list))
