-- What a node is as each part of constraints and arguments, by what its children are.
use Rattle.std.proofs.Common.{◌≡◌, ℕ, List, [], ◌∷◌, Option, Some, None, refl, ap, ◌∙◌}
use Rattle.std.specs.Prelude.{nat_eq, if◌then◌else◌}
use Rattle.asn_rules.specs.Children.{Is}
use Rattle.asn_rules.specs.Whole.{whole_rules}
use Rattle.asn_rules.specs.declared.names.TheConstants.{ASN1_TYPE, ASN1_VALUE, CONSTRAINT, CONSTRAINT_ITEM, CONTAINED_SUBTYPE, CONTENT_BODY, CONTENT_CONSTRAINT, ELEMENT_SET, INFORMATION_OBJECT, MEMBER_LIST, MULTIPLE_TYPE_CONSTRAINTS, OBJECT_SET, PARAMETER, PARAMETERS, PERMITTED_ALPHABET_CONSTRAINT, RELATIONS, SET_OPERATION, SET_OPERATOR, SET_REST, SINGLE_CONSTRAINT, SINGLE_TYPE_CONSTRAINT, SIZE_CONSTRAINT, SUBSET_MEMBER, SUBTYPE_ELEMENT, TABLE_CONSTRAINT}
use Rattle.asn_rules.specs.declared.node.Node.{Node}
use Rattle.asn_rules.specs.declared.node.Node.TheViews.{out-Node, roll-Node, roll-out-Node}
use Rattle.asn_rules.specs.Nodes.{at_child, at_children, child_among, child_of, closed, first_among, first_child_of, made, the}
use Rattle.asn_rules.proofs.Nodes.{made_all_paired, made_paired, opened, paired, para_out}
use Rattle.asn_tree_kinds.specs.declared.constraints.ConstrainedComponentOver.{ConstrainedComponentOver}
use Rattle.asn_tree_kinds.specs.declared.constraints.ElementSetOver.{ElementSetOver}
use Rattle.asn_tree.specs.declared.constraints.Constraint.{Constraint}
use Rattle.asn_tree.specs.declared.constraints.ContentConstraint.{ContentConstraint}
use Rattle.asn_tree.specs.declared.constraints.ElementOrSetOperation.{ElementOrSetOperation}
use Rattle.asn_tree.specs.declared.constraints.SubtypeElement.{SubtypeElement}
use Rattle.asn_tree.specs.declared.types.ASN1Type.{ASN1Type}
use Rattle.asn_read_nodes.specs.Parts.{all_some}
use Rattle.asn_types.specs.Read.{Read, nodes}
use Rattle.asn_types.specs.Constraints.{arguments_with, containing_with, contents_with, element_with, encoded_with, subtype_with, table_with}
use Rattle.asn_types.specs.Sets.{alphabet_with, contained_with, first_element, leaf_of, listed_one_with, multiple_types_with, one_with, operation_with, set_with, single_type_with, size_with}
use Rattle.asn_types.specs.Parameters.{object_parameter_with, set_parameter_with, type_parameter_with, value_parameter_of}
use Rattle.asn_types.specs.Elements.{alphabet_of, contained_of, multiple_types_of, single_type_of, size_of}
use Rattle.asn_types.specs.Reading.{constraint_of, constraints_of, content_of, element_form_of, listed_of, listed_one_of, object_of, object_set_of, operation_of, parameter_of, parameters_of, read, read_step, rest_of, set_of, single_of, subtype_of, table_of, type_of}
use Rattle.asn_types.proofs.ViewsConstraints.{body_has_no_body}

module _ (text : List ℕ) where
  nodes_paired : (ns : List Node) → nodes (paired Read (read_step text) ns) ≡ ns
  unfolding read
  nodes_paired [] = refl
  nodes_paired (n ∷ ns) = ap (λ ms. n ∷ ms) (nodes_paired ns)

  -- the children of a node beside what is made of them, and a node opened and closed again
  abbrev kids : Node → List (Node × Read)
  kids n = paired Read (read_step text) (out-Node n).children

  abbrev again : Node → Node
  again n = closed (opened Read (read_step text) n)

  same_again : (n : Node) → again n ≡ n
  unfolding read
  same_again n =
      let x = out-Node n in
      ap (λ ns. roll-Node (record { rule = x.rule; start = x.start; end = x.end; children = ns })) (nodes_paired x.children) ∙ roll-out-Node n

  got : {B : Type 0} (n : Node) (r : ℕ) (z : B) (f : Read → B) → made (kids n) r z f ≡ at_child (child_of n r) z (λ c. f (read text c))
  unfolding read
  got n r z f = made_paired Read (read_step text) (out-Node n).children r z f

  -- ---- constraints

  pub constraints_is : (n : Node) → constraints_of text n ≡ all_some (at_children (out-Node n).children CONSTRAINT_ITEM (constraint_of text))
  unfolding read
  constraints_is n = ap (λ t. t.constraints) (para_out Read (read_step text) n) ∙ ap all_some (made_all_paired Read (read_step text) (out-Node n).children CONSTRAINT_ITEM (λ c. c.constraint))

  abbrev pub ConstraintIs : Node → Type 0
  ConstraintIs n =
      constraint_of text n
      ≡ at_child (child_of n SINGLE_CONSTRAINT) (at_child (child_of n SIZE_CONSTRAINT) (the (child_of n PARAMETERS) (λ c. arguments_with (parameters_of text c))) (λ c. element_with (element_form_of text c))) (single_of text)

  pub constraint_is : (n : Node) → ConstraintIs n
  unfolding read
  constraint_is n =
      ap (λ t. t.constraint) (para_out Read (read_step text) n)
      ∙ got n SINGLE_CONSTRAINT (made (kids n) SIZE_CONSTRAINT (made (kids n) PARAMETERS None (λ c. arguments_with c.parameters)) (λ c. element_with c.element_form)) (λ c. c.single)
      ∙ ap (λ z. at_child (child_of n SINGLE_CONSTRAINT) z (single_of text)) (got n SIZE_CONSTRAINT (made (kids n) PARAMETERS None (λ c. arguments_with c.parameters)) (λ c. element_with c.element_form))
      ∙ ap (λ z. at_child (child_of n SINGLE_CONSTRAINT) (at_child (child_of n SIZE_CONSTRAINT) z (λ c. element_with (element_form_of text c))) (single_of text)) (got n PARAMETERS None (λ c. arguments_with c.parameters))

  abbrev pub SingleIs : Node → Type 0
  SingleIs n =
      single_of text n
      ≡ at_child (child_of n CONTENT_CONSTRAINT) (at_child (child_of n TABLE_CONSTRAINT) (the (child_of n ELEMENT_SET) (λ c. subtype_with (set_of text c))) (table_of text)) (λ c. contents_with (content_of text c))

  pub single_is : (n : Node) → SingleIs n
  unfolding read
  single_is n =
      ap (λ t. t.single) (para_out Read (read_step text) n)
      ∙ got n CONTENT_CONSTRAINT (made (kids n) TABLE_CONSTRAINT (made (kids n) ELEMENT_SET None (λ c. subtype_with c.set)) (λ c. c.table)) (λ c. contents_with c.content)
      ∙ ap (λ z. at_child (child_of n CONTENT_CONSTRAINT) z (λ c. contents_with (content_of text c))) (got n TABLE_CONSTRAINT (made (kids n) ELEMENT_SET None (λ c. subtype_with c.set)) (λ c. c.table))
      ∙ ap (λ z. at_child (child_of n CONTENT_CONSTRAINT) (at_child (child_of n TABLE_CONSTRAINT) z (table_of text)) (λ c. contents_with (content_of text c))) (got n ELEMENT_SET None (λ c. subtype_with c.set))

  abbrev ContentAt : Node → Type 0
  ContentAt n =
      content_of text n
      ≡ at_child (child_of n CONTENT_BODY) (at_child (child_of n ASN1_TYPE) (encoded_with text (child_of n ASN1_VALUE)) (λ c. containing_with text (child_of n ASN1_VALUE) (type_of text c))) (content_of text)

  content_at : (n : Node) → ContentAt n
  unfolding read
  content_at n =
      ap (λ t. t.content) (para_out Read (read_step text) n)
      ∙ ap (λ ms. made (kids n) CONTENT_BODY (made (kids n) ASN1_TYPE (encoded_with text (child_among ms ASN1_VALUE)) (λ c. containing_with text (child_among ms ASN1_VALUE) c.type)) (λ c. c.content)) (nodes_paired (out-Node n).children)
      ∙ got n CONTENT_BODY (made (kids n) ASN1_TYPE (encoded_with text (child_of n ASN1_VALUE)) (λ c. containing_with text (child_of n ASN1_VALUE) c.type)) (λ c. c.content)
      ∙ ap (λ z. at_child (child_of n CONTENT_BODY) z (content_of text)) (got n ASN1_TYPE (encoded_with text (child_of n ASN1_VALUE)) (λ c. containing_with text (child_of n ASN1_VALUE) c.type))

  abbrev told : Node → Option ContentConstraint
  told n = at_child (child_of n ASN1_TYPE) (encoded_with text (child_of n ASN1_VALUE)) (λ c. containing_with text (child_of n ASN1_VALUE) (type_of text c))

  -- what stands in parentheses,
  pub content_is : (n b : Node) → child_of n CONTENT_BODY ≡ Some b → content_of text n ≡ content_of text b
  content_is n b e = content_at n ∙ ap (λ o. at_child o (told n) (content_of text)) e

  -- and what stands in no further ones
  abbrev pub BodyIs : Node → Type 0
  BodyIs n = content_of text n ≡ at_child (child_of n ASN1_TYPE) (encoded_with text (child_of n ASN1_VALUE)) (λ c. containing_with text (child_of n ASN1_VALUE) (type_of text c))

  pub body_is : (n : Node) → Is whole_rules text CONTENT_BODY n → BodyIs n
  body_is n is = content_at n ∙ ap (λ o. at_child o (told n) (content_of text)) (body_has_no_body text n is)

  pub table_is : (n : Node) → table_of text n ≡ table_with text (child_of n RELATIONS) (the (child_of n OBJECT_SET) (object_set_of text))
  unfolding read
  table_is n =
      ap (λ t. t.table) (para_out Read (read_step text) n)
      ∙ ap (λ ms. table_with text (child_among ms RELATIONS) (made (kids n) OBJECT_SET None (λ c. c.object_set))) (nodes_paired (out-Node n).children)
      ∙ ap (table_with text (child_of n RELATIONS)) (got n OBJECT_SET None (λ c. c.object_set))

  -- ---- sets of values

  pub set_is : (n : Node) → set_of text n ≡ set_with n (the (child_of n SET_REST) (rest_of text))
  unfolding read
  set_is n =
      ap (λ t. t.set) (para_out Read (read_step text) n)
      ∙ ap (λ m. set_with m (made (kids n) SET_REST None (λ c. c.rest))) (same_again n)
      ∙ ap (set_with n) (got n SET_REST None (λ c. c.rest))

  pub rest_is : (n : Node) → rest_of text n ≡ at_child (child_of n SET_OPERATION) (the (child_of n SUBTYPE_ELEMENT) (λ c. one_with (subtype_of text c))) (operation_of text)
  unfolding read
  rest_is n =
      ap (λ t. t.rest) (para_out Read (read_step text) n)
      ∙ got n SET_OPERATION (made (kids n) SUBTYPE_ELEMENT None (λ c. one_with c.subtype)) (λ c. c.operation)
      ∙ ap (λ z. at_child (child_of n SET_OPERATION) z (operation_of text)) (got n SUBTYPE_ELEMENT None (λ c. one_with c.subtype))

  pub operation_is : (n : Node) → operation_of text n ≡ operation_with (child_of n SET_OPERATOR) (the (child_of n SUBTYPE_ELEMENT) (subtype_of text)) (the (child_of n SET_REST) (rest_of text))
  unfolding read
  operation_is n =
      ap (λ t. t.operation) (para_out Read (read_step text) n)
      ∙ ap (λ ms. operation_with (child_among ms SET_OPERATOR) (made (kids n) SUBTYPE_ELEMENT None (λ c. c.subtype)) (made (kids n) SET_REST None (λ c. c.rest))) (nodes_paired (out-Node n).children)
      ∙ ap (λ base. operation_with (child_of n SET_OPERATOR) base (made (kids n) SET_REST None (λ c. c.rest))) (got n SUBTYPE_ELEMENT None (λ c. c.subtype))
      ∙ ap (operation_with (child_of n SET_OPERATOR) (the (child_of n SUBTYPE_ELEMENT) (subtype_of text))) (got n SET_REST None (λ c. c.rest))

  -- ---- elements

  first_paired : (ns : List Node) → first_element (paired Read (read_step text) ns) ≡ the (first_among ns) (element_form_of text)
  unfolding read
  first_paired [] = refl
  first_paired (n ∷ ns) = refl

  pub subtype_is : (n : Node) → subtype_of text n ≡ the (first_child_of n) (element_form_of text)
  unfolding read
  subtype_is n = ap (λ t. t.subtype) (para_out Read (read_step text) n) ∙ first_paired (out-Node n).children

  abbrev chosen : ℕ → Node → Option (List Constraint) → Option (List (ConstrainedComponentOver Constraint)) → Option (ElementSetOver ElementOrSetOperation) → Option ElementOrSetOperation → Option ASN1Type → Option SubtypeElement
  chosen r m constraints listed set rest type =
      if nat_eq r SINGLE_TYPE_CONSTRAINT then single_type_with constraints
      else if nat_eq r MULTIPLE_TYPE_CONSTRAINTS then multiple_types_with m listed
      else if nat_eq r SIZE_CONSTRAINT then size_with set
      else if nat_eq r PERMITTED_ALPHABET_CONSTRAINT then alphabet_with rest
      else if nat_eq r CONTAINED_SUBTYPE then contained_with m type
      else leaf_of text m

  abbrev pub ElementIs : Node → Type 0
  ElementIs n =
      element_form_of text n
      ≡ (if nat_eq (out-Node n).rule SINGLE_TYPE_CONSTRAINT then single_type_of text n
      else if nat_eq (out-Node n).rule MULTIPLE_TYPE_CONSTRAINTS then multiple_types_of text n
      else if nat_eq (out-Node n).rule SIZE_CONSTRAINT then size_of text n
      else if nat_eq (out-Node n).rule PERMITTED_ALPHABET_CONSTRAINT then alphabet_of text n
      else if nat_eq (out-Node n).rule CONTAINED_SUBTYPE then contained_of text n
      else leaf_of text n)

  pub element_form_is : (n : Node) → ElementIs n
  unfolding read
  element_form_is n =
      let r = (out-Node n).rule in
      let constraints = the (child_of n CONSTRAINT) (constraints_of text) in
      let listed = the (child_of n MEMBER_LIST) (listed_of text) in
      let set = the (child_of n ELEMENT_SET) (set_of text) in
      let rest = the (child_of n SET_REST) (rest_of text) in
      ap (λ t. t.element_form) (para_out Read (read_step text) n)
      ∙ ap (λ m. chosen r m (made (kids n) CONSTRAINT None (λ c. c.constraints)) (made (kids n) MEMBER_LIST None (λ c. c.listed)) (made (kids n) ELEMENT_SET None (λ c. c.set)) (made (kids n) SET_REST None (λ c. c.rest)) (made (kids n) ASN1_TYPE None (λ c. c.type))) (same_again n)
      ∙ ap (λ z. chosen r n z (made (kids n) MEMBER_LIST None (λ c. c.listed)) (made (kids n) ELEMENT_SET None (λ c. c.set)) (made (kids n) SET_REST None (λ c. c.rest)) (made (kids n) ASN1_TYPE None (λ c. c.type))) (got n CONSTRAINT None (λ c. c.constraints))
      ∙ ap (λ z. chosen r n constraints z (made (kids n) ELEMENT_SET None (λ c. c.set)) (made (kids n) SET_REST None (λ c. c.rest)) (made (kids n) ASN1_TYPE None (λ c. c.type))) (got n MEMBER_LIST None (λ c. c.listed))
      ∙ ap (λ z. chosen r n constraints listed z (made (kids n) SET_REST None (λ c. c.rest)) (made (kids n) ASN1_TYPE None (λ c. c.type))) (got n ELEMENT_SET None (λ c. c.set))
      ∙ ap (λ z. chosen r n constraints listed set z (made (kids n) ASN1_TYPE None (λ c. c.type))) (got n SET_REST None (λ c. c.rest))
      ∙ ap (chosen r n constraints listed set rest) (got n ASN1_TYPE None (λ c. c.type))

  pub listed_is : (n : Node) → listed_of text n ≡ all_some (at_children (out-Node n).children SUBSET_MEMBER (listed_one_of text))
  unfolding read
  listed_is n = ap (λ t. t.listed) (para_out Read (read_step text) n) ∙ ap all_some (made_all_paired Read (read_step text) (out-Node n).children SUBSET_MEMBER (λ c. c.listed_one))

  pub listed_one_is : (n : Node) → listed_one_of text n ≡ listed_one_with text n (at_child (child_of n CONSTRAINT) (Some []) (constraints_of text))
  unfolding read
  listed_one_is n =
      ap (λ t. t.listed_one) (para_out Read (read_step text) n)
      ∙ ap (λ m. listed_one_with text m (made (kids n) CONSTRAINT (Some []) (λ c. c.constraints))) (same_again n)
      ∙ ap (listed_one_with text n) (got n CONSTRAINT (Some []) (λ c. c.constraints))

  -- ---- arguments

  pub parameters_is : (n : Node) → parameters_of text n ≡ all_some (at_children (out-Node n).children PARAMETER (parameter_of text))
  unfolding read
  parameters_is n = ap (λ t. t.parameters) (para_out Read (read_step text) n) ∙ ap all_some (made_all_paired Read (read_step text) (out-Node n).children PARAMETER (λ c. c.parameter))

  abbrev pub ParameterIs : Node → Type 0
  ParameterIs n =
      parameter_of text n
      ≡ at_child (child_of n ASN1_VALUE) (at_child (child_of n ASN1_TYPE) (at_child (child_of n OBJECT_SET) (the (child_of n INFORMATION_OBJECT) (λ c. object_parameter_with (object_of text c))) (λ c. set_parameter_with (object_set_of text c))) (λ c. type_parameter_with (type_of text c))) (value_parameter_of text)

  pub parameter_is : (n : Node) → ParameterIs n
  unfolding read
  parameter_is n =
      let objects = made (kids n) INFORMATION_OBJECT None (λ c. object_parameter_with c.object) in
      let sets = made (kids n) OBJECT_SET objects (λ c. set_parameter_with c.object_set) in
      ap (λ t. t.parameter) (para_out Read (read_step text) n)
      ∙ ap (λ ms. at_child (child_among ms ASN1_VALUE) (made (kids n) ASN1_TYPE sets (λ c. type_parameter_with c.type)) (value_parameter_of text)) (nodes_paired (out-Node n).children)
      ∙ ap (λ z. at_child (child_of n ASN1_VALUE) z (value_parameter_of text)) (got n ASN1_TYPE sets (λ c. type_parameter_with c.type))
      ∙ ap (λ z. at_child (child_of n ASN1_VALUE) (at_child (child_of n ASN1_TYPE) z (λ c. type_parameter_with (type_of text c))) (value_parameter_of text)) (got n OBJECT_SET objects (λ c. set_parameter_with c.object_set))
      ∙ ap (λ z. at_child (child_of n ASN1_VALUE) (at_child (child_of n ASN1_TYPE) (at_child (child_of n OBJECT_SET) z (λ c. set_parameter_with (object_set_of text c))) (λ c. type_parameter_with (type_of text c))) (value_parameter_of text)) (got n INFORMATION_OBJECT None (λ c. object_parameter_with c.object))
