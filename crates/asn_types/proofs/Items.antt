-- The items of an enumeration with their names and comments have the numbers that its nodes tell, so no number passes 128 bits.
use Rattle.std.proofs.Common.{◌≡◌, ℕ, ℤ, List, [], ◌∷◌, Bool, true, false, Option, Some, None, refl, sym, subst, ap, ◌∙◌}
use Rattle.std.specs.Prelude.{cond, nat_eq}
use Rattle.asn_rules.specs.Children.{Is}
use Rattle.asn_rules.specs.Nodes.{at_children, child_of, nth_among, nth_child_of, the}
use Rattle.asn_rules.specs.Whole.{whole_rules}
use Rattle.asn_rules.specs.declared.names.TheConstants.{ENUMERAL, ENUMERAL_LIST, ENUMERATED, IDENTIFIER, ITEM_COMMENT, ITEM_NUMBER, NUMBER_I128}
use Rattle.asn_rules.specs.declared.node.Node.{Node}
use Rattle.asn_rules.specs.declared.node.Node.TheViews.{out-Node}
use Rattle.asn_rules_guards.specs.Enumerations.{added_items, root_items}
use Rattle.asn_tree_numbers.specs.Enumeration.{AreNumbers, NumbersPass}
use Rattle.asn_read_nodes.proofs.EnumeratedItems.{items_are, numbers_fit_here}
use Rattle.asn_read_nodes.specs.Enumerals as enumerals
use Rattle.asn_read_nodes.specs.Parts.{all_some, if_there, integer_of, name_of, number_of, of_some, taken}
use Rattle.asn_read_pieces.specs.Enumerations.{item_comment_of, item_of, items_in, items_of}
use Rattle.asn_read_pieces.specs.declared.enumerations.WrittenItem.{WrittenItem}
use Rattle.asn_types.specs.Enumerations.{numbers_of, numbers_written}
use Rattle.asn_types.proofs.Numbers.{numbers_are}

there : (o : Option Node) (f : Node → Option ℤ) (number : Option ℤ) → if_there o f ≡ Some number → number ≡ the o f
there None f number e = cc
there (Some n) f number e = go (f n) e
  where
    go : (r : Option ℤ) → of_some r (λ x. Some (Some x)) ≡ Some number → number ≡ r
    go None e = absurd cc
    go (Some x) e = cc

item_number : (text : List ℕ) (n : Node) (item : WrittenItem) → item_of text n ≡ Some item → item.number ≡ enumerals.item_of text n
item_number text n item e =
    named (the (child_of n IDENTIFIER) (name_of text)) e
  where
    described : (name : List ℕ) (number : Option ℤ) (o : Option (Option (List ℕ))) → of_some o (λ description. Some (record { name = name; number = number; description = description })) ≡ Some item → item.number ≡ number
    described name number None e = absurd cc
    described name number (Some description) e = let same : item ≡ record { name = name; number = number; description = description } = cc in ap (λ i. i.number) same

    numbered : (name : List ℕ) (o : Option (Option ℤ)) → ((number : Option ℤ) → o ≡ Some number → number ≡ enumerals.item_of text n) → of_some o (λ number. of_some (if_there (child_of n ITEM_COMMENT) (item_comment_of text)) (λ description. Some (record { name = name; number = number; description = description }))) ≡ Some item → item.number ≡ enumerals.item_of text n
    numbered name None is e = absurd cc
    numbered name (Some number) is e = described name number (if_there (child_of n ITEM_COMMENT) (item_comment_of text)) e ∙ is number refl

    named : (o : Option (List ℕ)) → of_some o (λ name. of_some (if_there (child_of n ITEM_NUMBER) (λ number. the (child_of number NUMBER_I128) (integer_of 127 text))) (λ number. of_some (if_there (child_of n ITEM_COMMENT) (item_comment_of text)) (λ description. Some (record { name = name; number = number; description = description })))) ≡ Some item → item.number ≡ enumerals.item_of text n
    named None e = absurd cc
    named (Some name) e = numbered name (if_there (child_of n ITEM_NUMBER) (λ number. the (child_of number NUMBER_I128) (integer_of 127 text))) (λ number e. there (child_of n ITEM_NUMBER) (number_of text) number e) e

-- Each item that is written has the number that its node tells.
pub item_numbers : (text : List ℕ) (ns : List Node) (items : List WrittenItem) → items_in text ns ≡ Some items → numbers_written items ≡ at_children ns ENUMERAL (enumerals.item_of text)
item_numbers text [] items e = let none : items ≡ [] = cc in ap numbers_written none
item_numbers text (n ∷ ns) items e = go (nat_eq (out-Node n).rule ENUMERAL) (λ items e. item_numbers text ns items e) e
  where
    more : (item : WrittenItem) (o : Option (List WrittenItem)) → item.number ≡ enumerals.item_of text n → ((items : List WrittenItem) → o ≡ Some items → numbers_written items ≡ at_children ns ENUMERAL (enumerals.item_of text)) → of_some o (λ items. Some (item ∷ items)) ≡ Some items → numbers_written items ≡ enumerals.item_of text n ∷ at_children ns ENUMERAL (enumerals.item_of text)
    more item None is again e = absurd cc
    more item (Some rest) is again e = let same : items ≡ item ∷ rest = cc in ap numbers_written same ∙ ap (λ k. k ∷ numbers_written rest) is ∙ ap (λ ks. enumerals.item_of text n ∷ ks) (again rest refl)

    one : (o : Option WrittenItem) → item_of text n ≡ o → ((items : List WrittenItem) → items_in text ns ≡ Some items → numbers_written items ≡ at_children ns ENUMERAL (enumerals.item_of text)) → of_some o (λ item. of_some (items_in text ns) (λ items. Some (item ∷ items))) ≡ Some items → numbers_written items ≡ enumerals.item_of text n ∷ at_children ns ENUMERAL (enumerals.item_of text)
    one None is again e = absurd cc
    one (Some item) is again e = more item (items_in text ns) (item_number text n item is) again e

    go : (t : Bool) → ((items : List WrittenItem) → items_in text ns ≡ Some items → numbers_written items ≡ at_children ns ENUMERAL (enumerals.item_of text)) → all_some (cond t (item_of text n ∷ at_children ns ENUMERAL (item_of text)) (at_children ns ENUMERAL (item_of text))) ≡ Some items → numbers_written items ≡ cond t (enumerals.item_of text n ∷ at_children ns ENUMERAL (enumerals.item_of text)) (at_children ns ENUMERAL (enumerals.item_of text))
    go true again e = one (item_of text n) refl again e
    go false again e = again items e

-- Where a rule has two nodes among those, they are the first and the second.

module _ {B : Type 0} (r : ℕ) (f : Node → B) where
  last_is : (ns : List Node) (b : Node) (y : B) → at_children ns r f ≡ y ∷ [] → nth_among ns r 0 ≡ Some b → y ≡ f b
  last_is [] b y e g = absurd cc
  last_is (n ∷ ns) b y e g = go (nat_eq (out-Node n).rule r) (λ e g. last_is ns b y e g) e g
    where
      go : (t : Bool) → (at_children ns r f ≡ y ∷ [] → nth_among ns r 0 ≡ Some b → y ≡ f b) → cond t (f n ∷ at_children ns r f) (at_children ns r f) ≡ y ∷ [] → cond t (Some n) (nth_among ns r 0) ≡ Some b → y ≡ f b
      go true again e g = let here : n ≡ b = cc in let is : y ≡ f n = cc in is ∙ ap f here
      go false again e g = again e g

  two_are : (ns : List Node) (a b : Node) (x y : B) → at_children ns r f ≡ x ∷ y ∷ [] → nth_among ns r 0 ≡ Some a → nth_among ns r 1 ≡ Some b → (x ≡ f a) × (y ≡ f b)
  two_are [] a b x y e g h = absurd cc
  two_are (n ∷ ns) a b x y e g h = go (nat_eq (out-Node n).rule r) (λ e g h. two_are ns a b x y e g h) e g h
    where
      go : (t : Bool) → (at_children ns r f ≡ x ∷ y ∷ [] → nth_among ns r 0 ≡ Some a → nth_among ns r 1 ≡ Some b → (x ≡ f a) × (y ≡ f b)) → cond t (f n ∷ at_children ns r f) (at_children ns r f) ≡ x ∷ y ∷ [] → cond t (Some n) (nth_among ns r 0) ≡ Some a → cond t (nth_among ns r 0) (nth_among ns r 1) ≡ Some b → (x ≡ f a) × (y ≡ f b)
      go true again e g h = let here : n ≡ a = cc in let is : x ≡ f n = cc in let rest : at_children ns r f ≡ y ∷ [] = cc in (is ∙ ap f here, last_is ns b y rest h)
      go false again e g h = again e g h

fit_by : (text : List ℕ) (n a b : Node) (root additions : List WrittenItem) (x y : List (Option ℤ)) → Is whole_rules text ENUMERATED n → enumerals.item_lists text n ≡ x ∷ y ∷ [] → nth_child_of n ENUMERAL_LIST 0 ≡ Some a → nth_child_of n ENUMERAL_LIST 1 ≡ Some b → items_of text a ≡ Some root → items_of text b ≡ Some additions → NumbersPass (numbers_written root) (numbers_written additions) → ⊥
fit_by text n a b root additions x y is told first second of_root of_additions pass =
    let both = two_are ENUMERAL_LIST (enumerals.items_of text) (out-Node n).children a b x y told first second in
    let root_is : x ≡ numbers_written root = both.0 ∙ sym (item_numbers text (out-Node a).children root of_root) in
    let additions_are : y ≡ numbers_written additions = both.1 ∙ sym (item_numbers text (out-Node b).children additions of_additions) in
    numbers_fit_here text n (numbers_written root) (numbers_written additions) is (told ∙ (λ i. root_is i ∷ additions_are i ∷ [])) pass

-- So the numbers of the items of an enumeration pass 128 bits nowhere.
pub numbers_fit : (text : List ℕ) (n a b : Node) (root additions : List WrittenItem) → Is whole_rules text ENUMERATED n → nth_child_of n ENUMERAL_LIST 0 ≡ Some a → nth_child_of n ENUMERAL_LIST 1 ≡ Some b → items_of text a ≡ Some root → items_of text b ≡ Some additions → NumbersPass (numbers_written root) (numbers_written additions) → ⊥
numbers_fit text n a b root additions is first second of_root of_additions pass =
    fit_by text n a b root additions (root_items (taken text n)) (added_items (taken text n)) is (items_are text n is) first second of_root of_additions pass

-- a child that is asked for, and what is read of it
found_by : {B : Type 0} (o : Option Node) (f : Node → Option B) (y : B) → the o f ≡ Some y → (a : Node) × (o ≡ Some a) × (f a ≡ Some y)
found_by None f y e = absurd cc
found_by (Some a) f y e = (a, refl, e)

-- The same of numbers that were copied, as the call that gives numbers is asked of them.
pub numbers_never_pass : (text : List ℕ) (n : Node) (root additions : List WrittenItem) (x y : List (Option ℤ)) → Is whole_rules text ENUMERATED n → the (nth_child_of n ENUMERAL_LIST 0) (items_of text) ≡ Some root → the (nth_child_of n ENUMERAL_LIST 1) (items_of text) ≡ Some additions → x ≡ numbers_written root → y ≡ numbers_written additions → NumbersPass x y → ⊥
numbers_never_pass text n root additions x y is of_root of_additions e f pass =
    let first = found_by (nth_child_of n ENUMERAL_LIST 0) (items_of text) root of_root in
    let second = found_by (nth_child_of n ENUMERAL_LIST 1) (items_of text) additions of_additions in
    numbers_fit text n first.0 second.0 root additions is first.1 second.1 first.2 second.2 (subst (λ z. NumbersPass (numbers_written root) z) f (subst (λ z. NumbersPass z y) e pass))

-- So the numbers that it gives are those of the items.
pub numbers_come : (text : List ℕ) (n : Node) (root additions : List WrittenItem) (x y : List (Option ℤ)) (ns : List ℤ) → Is whole_rules text ENUMERATED n → the (nth_child_of n ENUMERAL_LIST 0) (items_of text) ≡ Some root → the (nth_child_of n ENUMERAL_LIST 1) (items_of text) ≡ Some additions → x ≡ numbers_written root → y ≡ numbers_written additions → AreNumbers x y ns → numbers_of (numbers_written root) (numbers_written additions) ≡ Some ns
numbers_come text n root additions x y ns is of_root of_additions e f a =
    ap (λ z. numbers_of z (numbers_written additions)) (sym e) ∙ ap (numbers_of x) (sym f) ∙ numbers_are x y ns a (numbers_never_pass text n root additions x y is of_root of_additions e f)
