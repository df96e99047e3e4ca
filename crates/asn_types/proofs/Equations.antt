-- What a node is as a type, a member or an option, by what its children are.
use Rattle.std.proofs.Common.{◌≡◌, ℕ, ◌+◌, ◌<◌, List, [], ◌∷◌, ◌++◌, length, get_or, drop, append_assoc, true, false, Option, Some, None, refl, sym, ap, ◌∙◌, subst}
use Rattle.std.proofs.lemmas.Bool.Decides.{Decides-eqb}
use Rattle.std.proofs.lemmas.List.{drop_more}
use Rattle.std.specs.Prelude.{nat_eq, if◌then◌else◌}
use Rattle.asn_rules.specs.declared.names.TheConstants.{ADDITION_LIST, ASN1_TYPE, CHOICE_OPTION, COMPONENT_LIST, CONSTRAINT, ELEMENT, EXTENSION_GROUP, OPTION_ADDITIONS, OPTION_GROUP, OPTION_LIST, SEQUENCE_COMPONENT, SEQUENCE_OR_SET_MEMBER, STRUCT_BODY}
use Rattle.asn_rules.specs.declared.node.Node.{Node}
use Rattle.asn_rules.specs.declared.node.Node.TheViews.{out-Node, roll-Node, roll-out-Node}
use Rattle.asn_rules.specs.Nodes.{at_child, child_of, closed, first_among, first_child_of, made, the}
use Rattle.asn_rules.proofs.Nodes.{made_paired, opened, paired, para_out}
use Rattle.asn_tree.specs.declared.types.ChoiceOption.{ChoiceOption}
use Rattle.asn_tree.specs.declared.types.SequenceComponent.{SequenceComponent}
use Rattle.asn_tree.specs.declared.types.SequenceComponent.TheVariants.{Member}
use Rattle.asn_tree.specs.declared.types.SequenceOrSetMember.{SequenceOrSetMember}
use Rattle.asn_read_nodes.proofs.Equations.{behind}
use Rattle.asn_read_nodes.specs.Parts.{of_some}
use Rattle.asn_types.specs.Children.{components_in, options_in}
use Rattle.asn_types.specs.Choices.{one_option, option_with, options_before, options_made}
use Rattle.asn_types.specs.Forms.{constraints_behind, parts_of}
use Rattle.asn_types.specs.Members.{as_member, body_with, component_before, components_made, group_with, member_with, taken_over}
use Rattle.asn_types.specs.Read.{Read, nodes}
use Rattle.asn_types.specs.Reading.{body_of, component_of, components_of, element_of, form_of, group_of, member_of, option_of, options_of, read, read_step, type_of}
use Rattle.asn_types.specs.Types.{first_form, form_with, parts_made}

module _ (text : List ℕ) where
  pub nodes_paired : (ns : List Node) → nodes (paired Read (read_step text) ns) ≡ ns
  unfolding read
  nodes_paired [] = refl
  nodes_paired (n ∷ ns) = ap (λ ms. n ∷ ms) (nodes_paired ns)

  -- a node opened and closed again
  pub closed_again : (n : Node) → closed (opened Read (read_step text) n) ≡ n
  unfolding read
  closed_again n =
      let x = out-Node n in
      ap (λ ns. roll-Node (record { rule = x.rule; start = x.start; end = x.end; children = ns })) (nodes_paired x.children) ∙ roll-out-Node n

  -- what is made of the children
  abbrev kids : Node → List (Node × Read)
  kids n = paired Read (read_step text) (out-Node n).children

  first_paired : (ns : List Node) → first_form (paired Read (read_step text) ns) ≡ the (first_among ns) (form_of text)
  unfolding read
  first_paired [] = refl
  first_paired (n ∷ ns) = refl

  constraints_paired : (n : Node) → made (kids n) CONSTRAINT (Some []) (λ c. c.constraints) ≡ constraints_behind text n
  unfolding read
  constraints_paired n = made_paired Read (read_step text) (out-Node n).children CONSTRAINT (Some []) (λ c. c.constraints)

  type_paired : (n : Node) → made (kids n) ASN1_TYPE None (λ c. c.type) ≡ the (child_of n ASN1_TYPE) (type_of text)
  unfolding read
  type_paired n = made_paired Read (read_step text) (out-Node n).children ASN1_TYPE None (λ c. c.type)

  parts_paired : (n : Node) → parts_made (kids n) ≡ parts_of text n
  unfolding read
  parts_paired n =
      let ns = (out-Node n).children in
      let constraints = constraints_paired n in
      let element = made_paired Read (read_step text) ns ELEMENT None (λ c. c.element) in
      let body = made_paired Read (read_step text) ns STRUCT_BODY None (λ c. c.body) in
      let options = made_paired Read (read_step text) ns OPTION_LIST None (λ c. c.options) in
      let additions = made_paired Read (read_step text) ns OPTION_ADDITIONS None (λ c. c.options) in
      λ i. record { constraints = constraints i; element = element i; body = body i; options = options i; additions = additions i }

  components_paired : (ns : List Node) → components_made (paired Read (read_step text) ns) ≡ components_in text ns
  unfolding read
  components_paired [] = refl
  components_paired (n ∷ ns) =
      ap (λ those. if nat_eq (out-Node n).rule SEQUENCE_COMPONENT then component_before (component_of text n) those else if nat_eq (out-Node n).rule EXTENSION_GROUP then component_before (as_member (group_of text n)) those else those) (components_paired ns)

  options_paired : (ns : List Node) → options_made (paired Read (read_step text) ns) ≡ options_in text ns
  unfolding read
  options_paired [] = refl
  options_paired (n ∷ ns) =
      ap (λ those. if nat_eq (out-Node n).rule CHOICE_OPTION then options_before (one_option (option_of text n)) those else if nat_eq (out-Node n).rule OPTION_GROUP then options_before (options_of text n) those else those) (options_paired ns)

  pub form_is : (n : Node) → form_of text n ≡ form_with text n (parts_of text n)
  unfolding read
  form_is n =
      ap (λ t. t.form) (para_out Read (read_step text) n)
      ∙ ap (λ m. form_with text m (parts_made (kids n))) (closed_again n)
      ∙ ap (form_with text n) (parts_paired n)

  pub type_is : (n : Node) → type_of text n ≡ the (first_child_of n) (form_of text)
  unfolding read
  type_is n = ap (λ t. t.type) (para_out Read (read_step text) n) ∙ first_paired (out-Node n).children

  pub element_is : (n : Node) → element_of text n ≡ the (child_of n ASN1_TYPE) (type_of text)
  unfolding read
  element_is n = ap (λ t. t.element) (para_out Read (read_step text) n) ∙ type_paired n

  pub body_is : (n : Node) → body_of text n ≡ body_with n (the (child_of n COMPONENT_LIST) (components_of text)) (the (child_of n ADDITION_LIST) (components_of text))
  unfolding read
  body_is n =
      let ns = (out-Node n).children in
      let root = made_paired Read (read_step text) ns COMPONENT_LIST None (λ c. c.components) in
      let further = made_paired Read (read_step text) ns ADDITION_LIST None (λ c. c.components) in
      ap (λ t. t.body) (para_out Read (read_step text) n)
      ∙ ap (λ m. body_with m (made (kids n) COMPONENT_LIST None (λ c. c.components)) (made (kids n) ADDITION_LIST None (λ c. c.components))) (closed_again n)
      ∙ (λ i. body_with n (root i) (further i))

  pub components_is : (n : Node) → components_of text n ≡ components_in text (out-Node n).children
  unfolding read
  components_is n = ap (λ t. t.components) (para_out Read (read_step text) n) ∙ components_paired (out-Node n).children

  pub component_is : (n : Node) → component_of text n ≡ at_child (child_of n SEQUENCE_OR_SET_MEMBER) (taken_over text n) (λ m. as_member (member_of text m))
  unfolding read
  component_is n =
      ap (λ t. t.component) (para_out Read (read_step text) n)
      ∙ ap (λ m. made (kids n) SEQUENCE_OR_SET_MEMBER (taken_over text m) (λ c. as_member c.member)) (closed_again n)
      ∙ made_paired Read (read_step text) (out-Node n).children SEQUENCE_OR_SET_MEMBER (taken_over text n) (λ c. as_member c.member)

  pub group_is : (n : Node) → group_of text n ≡ group_with text n (components_of text n)
  unfolding read
  group_is n =
      ap (λ t. t.group) (para_out Read (read_step text) n)
      ∙ ap (λ m. group_with text m (components_made (kids n))) (closed_again n)
      ∙ ap (group_with text n) (components_paired (out-Node n).children ∙ sym (components_is n))

  pub member_is : (n : Node) → member_of text n ≡ member_with text n (the (child_of n ASN1_TYPE) (type_of text)) (constraints_behind text n)
  unfolding read
  member_is n =
      let type = type_paired n in
      let constraints = constraints_paired n in
      ap (λ t. t.member) (para_out Read (read_step text) n)
      ∙ ap (λ m. member_with text m (made (kids n) ASN1_TYPE None (λ c. c.type)) (made (kids n) CONSTRAINT (Some []) (λ c. c.constraints))) (closed_again n)
      ∙ (λ i. member_with text n (type i) (constraints i))

  pub option_is : (n : Node) → option_of text n ≡ option_with text n (the (child_of n ASN1_TYPE) (type_of text)) (constraints_behind text n)
  unfolding read
  option_is n =
      let type = type_paired n in
      let constraints = constraints_paired n in
      ap (λ t. t.option) (para_out Read (read_step text) n)
      ∙ ap (λ m. option_with text m (made (kids n) ASN1_TYPE None (λ c. c.type)) (made (kids n) CONSTRAINT (Some []) (λ c. c.constraints))) (closed_again n)
      ∙ (λ i. option_with text n (type i) (constraints i))

  pub options_is : (n : Node) → options_of text n ≡ options_in text (out-Node n).children
  unfolding read
  options_is n = ap (λ t. t.options) (para_out Read (read_step text) n) ∙ options_paired (out-Node n).children

-- What a loop over nodes has made, and what is to be made of the nodes behind its place.

grown : {A : Type 0} (xs these : List A) (those : Option (List A)) → behind (xs ++ these) those ≡ behind xs (of_some those (λ those. Some (these ++ those)))
grown xs these None = refl
grown xs these (Some those) = ap Some (append_assoc xs these those)

module _ {A : Type 0} (made_of : List Node → Option (List A)) (ns : List Node) (i : ℕ) (n : Node) (lt : i < length ns) (at : n ≡ get_or ns i n) where
  at_place : made_of (drop i ns) ≡ made_of (n ∷ drop (i + 1) ns)
  at_place = ap made_of (drop_more ns i n lt ∙ ap (λ m. m ∷ drop (i + 1) ns) (sym at))

  -- what the node at the place makes is taken
  takes : (xs these ys : List A) (o : Option (List A)) → made_of (n ∷ drop (i + 1) ns) ≡ of_some (made_of (drop (i + 1) ns)) (λ those. Some (these ++ those)) → ys ≡ xs ++ these → behind xs (made_of (drop i ns)) ≡ o → behind ys (made_of (drop (i + 1) ns)) ≡ o
  takes xs these ys o step is before =
      ap (λ ys. behind ys (made_of (drop (i + 1) ns))) is ∙ grown xs these (made_of (drop (i + 1) ns)) ∙ ap (behind xs) (sym (at_place ∙ step)) ∙ before

  -- or it makes nothing
  passes : (xs ys : List A) (o : Option (List A)) → made_of (n ∷ drop (i + 1) ns) ≡ made_of (drop (i + 1) ns) → ys ≡ xs → behind xs (made_of (drop i ns)) ≡ o → behind ys (made_of (drop (i + 1) ns)) ≡ o
  passes xs ys o step is before = ap (λ ys. behind ys (made_of (drop (i + 1) ns))) is ∙ ap (behind xs) (sym (at_place ∙ step)) ∙ before

-- a node of one rule is of no other
not_of : (q r : ℕ) (n : Node) → nat_eq q r ≡ false → nat_eq (out-Node n).rule q ≡ true → nat_eq (out-Node n).rule r ≡ false
not_of q r n differ e = subst (λ k. nat_eq k r ≡ false) (sym ((Decides-eqb (out-Node n).rule q).0 e)) differ

pub takes_component : (text : List ℕ) (ns : List Node) (i : ℕ) (n : Node) (c : SequenceComponent) (xs ys : List SequenceComponent) (o : Option (List SequenceComponent)) → i < length ns → n ≡ get_or ns i n → nat_eq (out-Node n).rule SEQUENCE_COMPONENT ≡ true → component_of text n ≡ Some c → ys ≡ xs ++ c ∷ [] → behind xs (components_in text (drop i ns)) ≡ o → behind ys (components_in text (drop (i + 1) ns)) ≡ o
takes_component text ns i n c xs ys o lt at is made grown_by before =
    let those = components_in text (drop (i + 1) ns) in
    takes (components_in text) ns i n lt at xs (c ∷ []) ys o
    (ap (λ t. if t then component_before (component_of text n) those else if nat_eq (out-Node n).rule EXTENSION_GROUP then component_before (as_member (group_of text n)) those else those) is ∙ ap (λ this. component_before this those) made) grown_by before

pub takes_group : (text : List ℕ) (ns : List Node) (i : ℕ) (n : Node) (m : SequenceOrSetMember) (xs ys : List SequenceComponent) (o : Option (List SequenceComponent)) → i < length ns → n ≡ get_or ns i n → nat_eq (out-Node n).rule EXTENSION_GROUP ≡ true → group_of text n ≡ Some m → ys ≡ xs ++ Member m ∷ [] → behind xs (components_in text (drop i ns)) ≡ o → behind ys (components_in text (drop (i + 1) ns)) ≡ o
takes_group text ns i n m xs ys o lt at is made grown_by before =
    let those = components_in text (drop (i + 1) ns) in
    takes (components_in text) ns i n lt at xs (Member m ∷ []) ys o
    (ap (λ t. if t then component_before (component_of text n) those else if nat_eq (out-Node n).rule EXTENSION_GROUP then component_before (as_member (group_of text n)) those else those) (not_of EXTENSION_GROUP SEQUENCE_COMPONENT n refl is)
    ∙ ap (λ t. if t then component_before (as_member (group_of text n)) those else those) is ∙ ap (λ this. component_before (as_member this) those) made) grown_by before

pub passes_component : (text : List ℕ) (ns : List Node) (i : ℕ) (n : Node) (xs ys : List SequenceComponent) (o : Option (List SequenceComponent)) → i < length ns → n ≡ get_or ns i n → nat_eq (out-Node n).rule SEQUENCE_COMPONENT ≡ false → nat_eq (out-Node n).rule EXTENSION_GROUP ≡ false → ys ≡ xs → behind xs (components_in text (drop i ns)) ≡ o → behind ys (components_in text (drop (i + 1) ns)) ≡ o
passes_component text ns i n xs ys o lt at first second kept before =
    let those = components_in text (drop (i + 1) ns) in
    passes (components_in text) ns i n lt at xs ys o
    (ap (λ t. if t then component_before (component_of text n) those else if nat_eq (out-Node n).rule EXTENSION_GROUP then component_before (as_member (group_of text n)) those else those) first
    ∙ ap (λ t. if t then component_before (as_member (group_of text n)) those else those) second) kept before

pub takes_option : (text : List ℕ) (ns : List Node) (i : ℕ) (n : Node) (c : ChoiceOption) (xs ys : List ChoiceOption) (o : Option (List ChoiceOption)) → i < length ns → n ≡ get_or ns i n → nat_eq (out-Node n).rule CHOICE_OPTION ≡ true → option_of text n ≡ Some c → ys ≡ xs ++ c ∷ [] → behind xs (options_in text (drop i ns)) ≡ o → behind ys (options_in text (drop (i + 1) ns)) ≡ o
takes_option text ns i n c xs ys o lt at is made grown_by before =
    let those = options_in text (drop (i + 1) ns) in
    takes (options_in text) ns i n lt at xs (c ∷ []) ys o
    (ap (λ t. if t then options_before (one_option (option_of text n)) those else if nat_eq (out-Node n).rule OPTION_GROUP then options_before (options_of text n) those else those) is ∙ ap (λ this. options_before (one_option this) those) made) grown_by before

pub takes_options : (text : List ℕ) (ns : List Node) (i : ℕ) (n : Node) (cs : List ChoiceOption) (xs ys : List ChoiceOption) (o : Option (List ChoiceOption)) → i < length ns → n ≡ get_or ns i n → nat_eq (out-Node n).rule OPTION_GROUP ≡ true → options_of text n ≡ Some cs → ys ≡ xs ++ cs → behind xs (options_in text (drop i ns)) ≡ o → behind ys (options_in text (drop (i + 1) ns)) ≡ o
takes_options text ns i n cs xs ys o lt at is made grown_by before =
    let those = options_in text (drop (i + 1) ns) in
    takes (options_in text) ns i n lt at xs cs ys o
    (ap (λ t. if t then options_before (one_option (option_of text n)) those else if nat_eq (out-Node n).rule OPTION_GROUP then options_before (options_of text n) those else those) (not_of OPTION_GROUP CHOICE_OPTION n refl is)
    ∙ ap (λ t. if t then options_before (options_of text n) those else those) is ∙ ap (λ these. options_before these those) made) grown_by before

pub passes_option : (text : List ℕ) (ns : List Node) (i : ℕ) (n : Node) (xs ys : List ChoiceOption) (o : Option (List ChoiceOption)) → i < length ns → n ≡ get_or ns i n → nat_eq (out-Node n).rule CHOICE_OPTION ≡ false → nat_eq (out-Node n).rule OPTION_GROUP ≡ false → ys ≡ xs → behind xs (options_in text (drop i ns)) ≡ o → behind ys (options_in text (drop (i + 1) ns)) ≡ o
passes_option text ns i n xs ys o lt at first second kept before =
    let those = options_in text (drop (i + 1) ns) in
    passes (options_in text) ns i n lt at xs ys o
    (ap (λ t. if t then options_before (one_option (option_of text n)) those else if nat_eq (out-Node n).rule OPTION_GROUP then options_before (options_of text n) those else those) first
    ∙ ap (λ t. if t then options_before (options_of text n) those else those) second) kept before
