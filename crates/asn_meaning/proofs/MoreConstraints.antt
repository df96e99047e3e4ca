-- Constraints, where more is known.
use Rattle.std.proofs.Common.{◌≡◌, ℕ, ℤ, Bool, List, [], ◌∷◌, Option, Some, None, refl, sym, subst, ap}
use Rattle.asn_tree.specs.declared.constraints.Constraint.{Constraint, Constraint-F, out-Constraint}
use Rattle.asn_tree.specs.declared.constraints.ElementOrSetOperation.{ElementOrSetOperation, ElementOrSetOperation-F}
use Rattle.asn_tree.specs.declared.constraints.SubtypeElement.{SubtypeElement-F}
use Rattle.asn_tree.specs.declared.types.ChoiceOption.{ChoiceOption}
use Rattle.asn_tree.specs.declared.values.ASN1Value.{ASN1Value}
use Rattle.asn_meaning.specs.Answers.{Answer, Yes, No, Unknown, Denotation, Denoted, Nothing, Unsure, Refines, Within, Settles}
use Rattle.asn_meaning.specs.Constraints.{chain_at, set_holds, constraint_at, constraint_holds, all_hold, part_holds, compared, single_holds, number_asked, side_holds, range_holds, sizes, size_holds, alphabet_holds, component_holds, option_holds, listed_option_holds, choice_holds, member_holds, listed_member_holds, members_hold, struct_holds, inner_at, inner_holds, holds_at}
use Rattle.asn_meaning.specs.Kinds.{Kind, ChoiceKind, StructKind, kind_of}
use Rattle.asn_meaning.specs.Layers.{ConstraintLayer, ElementLayer, InnerLayer, ListedLayer, OptionLayer, SetLayer}
use Rattle.asn_meaning.specs.Meaning.{Meaning, Member, Parent, ValuesOf, CharactersOf}
use Rattle.asn_meaning.specs.Members.{element_place, member_named}
use Rattle.asn_meaning.specs.Names.{option_named}
use Rattle.asn_meaning.specs.Numbers.{Numbers, answers}
use Rattle.asn_meaning.specs.Ranges.{codes_of, is_free, narrowed}
use Rattle.asn_meaning.specs.Scopes.{Scope, Place}
use Rattle.asn_meaning.specs.ValueTrees.{ValueTree, Characters, Struct, Alternative, Fields, field_named, counted}
use Rattle.asn_meaning.proofs.Answering.{same_refines, both_refines, each_refines, once_refines, once_within, given_refines, if_refines, unless_refines}
use Rattle.asn_meaning.proofs.Chains.{ranked_kept}
use Rattle.asn_meaning.proofs.More.{More, KnownBetter}
use Rattle.asn_meaning.proofs.MoreMembers.{list_judged_more}
use Rattle.asn_meaning.proofs.MoreRanges.{answers_keep, by_parent, same_parent, codes_same, from_low_more, up_to_high_more, narrowed_more}

side_holds_more : (x y : Option Numbers) (i : ℤ) → Within x y → Refines (side_holds x i) (side_holds y i)
side_holds_more x y i p = once_refines x y _ _ p (λ s. same_refines _)

range_holds_more : (l m h k : Option Numbers) (i : Option ℤ) → Within l m → Within h k → Refines (range_holds l h i) (range_holds m k i)
range_holds_more l m h k None p q = refl
range_holds_more l m h k (Some i) p q = both_refines _ _ _ _ (side_holds_more l m i p) (side_holds_more h k i q)

compared_same : (parent : Parent) (t : ValueTree) (x y : Denotation ValueTree) → Settles x y → Refines (compared parent t x) (compared parent t y)
compared_same parent t (Denoted u) y p = subst (λ z. Refines (compared parent t (Denoted u)) (compared parent t z)) (sym p) (same_refines _)
compared_same parent t Nothing y p = ap (compared parent t) p
compared_same parent t Unsure y p = tt

compared_values : (head : Place) (n k : Option Numbers) (t : ValueTree) (x : Denotation ValueTree) → compared (ValuesOf head n) t x ≡ compared (ValuesOf head k) t x
compared_values head n k t (Denoted u) = refl
compared_values head n k t Nothing = refl
compared_values head n k t Unsure = refl

module _ (M N : Meaning) (m : More M N) where
  pub chain_at_more : (l : SetLayer) → Within (chain_at M l) (chain_at N l)
  chain_at_more (ElementOrSetOperation-F.Element e) = refl
  chain_at_more (ElementOrSetOperation-F.SetOperation x) = once_within _ _ _ _ (m.chain _) (λ c. refl)

  set_more : (scope : Scope) (a b : Parent) → KnownBetter a b → (set : ElementOrSetOperation) (t : ValueTree) → Refines (set_holds M scope a set t) (set_holds N scope b set t)
  set_more scope a b k set t = once_refines _ _ _ _ (m.chain set) (ranked_kept Answer Answer answers answers Refines answers_keep _ _ (λ e. m.holds scope a b e t k))

  constraint_at_more : (scope : Scope) (a b : Parent) → KnownBetter a b → (t : ValueTree) (l : ConstraintLayer) → Refines (constraint_at M scope a t l) (constraint_at N scope b t l)
  constraint_at_more scope a b k t (Constraint-F.SubtypeConstraint s) = set_more scope a b k s.set t
  constraint_at_more scope a b k t _ = refl

  constraint_more : (scope : Scope) (head : Place) (x y : Option Numbers) (c : Constraint) (t : ValueTree) → Within x y → Refines (constraint_holds M scope head x c t) (constraint_holds N scope head y c t)
  constraint_more scope head x y c t p = if_refines (is_free head) Yes Yes _ _ refl (constraint_at_more scope (ValuesOf head x) (ValuesOf head y) (y, p, refl) t (out-Constraint c))

  pub all_hold_more : (scope : Scope) (head : Place) (x y : Option Numbers) (cs : List Constraint) (t : ValueTree) → Within x y → Refines (all_hold M scope head x cs t) (all_hold N scope head y cs t)
  all_hold_more scope head x y [] t p = refl
  all_hold_more scope head x y (c ∷ cs) t p =
      both_refines _ _ _ _ (constraint_more scope head x y c t p) (all_hold_more scope head (narrowed M scope head x c) (narrowed N scope head y c) cs t (narrowed_more M N m scope head x y c p))

  part_more : (scope : Scope) (p : Place) (cs : List Constraint) (t : ValueTree) → Refines (part_holds M scope p cs t) (part_holds N scope p cs t)
  part_more scope p cs t = once_refines _ _ _ _ (m.head p) (λ head. all_hold_more scope head _ _ cs t (m.numbers p []))

  single_more : (scope : Scope) (a b : Parent) → KnownBetter a b → (v : ASN1Value) (t : ValueTree) → Refines (single_holds M scope a v t) (single_holds N scope b v t)
  single_more scope a b k v t =
      by_parent (λ x y. Refines (single_holds M scope x v t) (single_holds N scope y v t))
      (λ head x y p. unless_refines _ _ _ _ (m.is_all scope v head)
      (subst (λ z. Refines (compared (ValuesOf head x) t (M.denotes scope v head)) z) (compared_values head x y t (N.denotes scope v head)) (compared_same (ValuesOf head x) t _ _ (m.denotes scope v head))))
      (λ codes. unless_refines _ _ _ _ (m.is_all scope v _) (compared_same (CharactersOf codes) t _ _ (m.denotes scope v _))) a b k

  asked_more : (a b : Parent) → KnownBetter a b → (l n h r : Option Numbers) (t : ValueTree) → Within l n → Within h r → Refines (range_holds l h (number_asked a t)) (range_holds n r (number_asked b t))
  asked_more a b k l n h r t p q =
      by_parent (λ x y. Refines (range_holds l h (number_asked x t)) (range_holds n r (number_asked y t)))
      (λ head x y z. range_holds_more l n h r (number_asked (ValuesOf head x) t) p q) (λ codes. range_holds_more l n h r (number_asked (CharactersOf codes) t) p q) a b k

  size_more : (scope : Scope) (set : ElementOrSetOperation) (t : ValueTree) → Refines (size_holds M scope set t) (size_holds N scope set t)
  size_more scope set t = given_refines No (counted t) _ _ (λ n. set_more scope sizes sizes (same_parent sizes) set _)

  alphabet_more : (scope : Scope) (a b : Parent) → KnownBetter a b → (set : ElementOrSetOperation) (t : ValueTree) → Refines (alphabet_holds M scope a set t) (alphabet_holds N scope b set t)
  alphabet_more scope a b k set (Characters cs) = each_refines _ _ (λ c. set_more scope (CharactersOf (codes_of a)) (CharactersOf (codes_of b)) (ap CharactersOf (codes_same a b k)) set _) cs
  alphabet_more scope a b k set _ = refl

  component_values : (scope : Scope) (head : Place) (x y : Option Numbers) (cs : List Constraint) (t : ValueTree) → Refines (component_holds M scope (ValuesOf head x) cs t) (component_holds N scope (ValuesOf head y) cs t)
  component_values scope head x y cs t = given_refines No (element_place head) _ _ (λ p. list_judged_more M N m _ _ (λ u. part_more scope p cs u) t)

  component_more : (scope : Scope) (a b : Parent) → KnownBetter a b → (cs : List Constraint) (t : ValueTree) → Refines (component_holds M scope a cs t) (component_holds N scope b cs t)
  component_more scope a b k cs t =
      by_parent (λ x y. Refines (component_holds M scope x cs t) (component_holds N scope y cs t)) (λ head x y p. component_values scope head x y cs t) (λ codes. refl) a b k

  -- ---- WITH COMPONENTS

  option_more : (scope inside : Scope) (chosen : Bool) (t : ValueTree) (c : ListedLayer) (o : OptionLayer) → Refines (option_holds M scope inside chosen t c o) (option_holds N scope inside chosen t c o)
  option_more scope inside chosen t c o = both_refines _ _ _ _ (same_refines _) (if_refines chosen _ _ Yes Yes (part_more scope _ c.constraints t) refl)

  listed_option_more : (scope inside : Scope) (options : List ChoiceOption) (name : List ℕ) (t : ValueTree) (c : ListedLayer) → Refines (listed_option_holds M scope inside options name t c) (listed_option_holds N scope inside options name t c)
  listed_option_more scope inside options name t c = given_refines Unknown (option_named options c.identifier) _ _ (option_more scope inside _ t c)

  choice_more : (scope inside : Scope) (options : List ChoiceOption) (inner : InnerLayer) (t : ValueTree) → Refines (choice_holds M scope inside options inner t) (choice_holds N scope inside options inner t)
  choice_more scope inside options inner (Alternative name t) = both_refines _ _ _ _ (each_refines _ _ (listed_option_more scope inside options name t) inner.constraints) (same_refines _)
  choice_more scope inside options inner _ = refl

  member_more : (scope : Scope) (is_partial : Bool) (c : ListedLayer) (t : Option ValueTree) (s : Member) → Refines (member_holds M scope is_partial c t s) (member_holds N scope is_partial c t s)
  member_more scope is_partial c None s = same_refines _
  member_more scope is_partial c (Some t) s = both_refines _ _ _ _ (same_refines _) (part_more scope _ c.constraints t)

  listed_member_more : (scope : Scope) (is_partial : Bool) (ms : List Member) (fs : Fields) (c : ListedLayer) → Refines (listed_member_holds M scope is_partial ms fs c) (listed_member_holds N scope is_partial ms fs c)
  listed_member_more scope is_partial ms fs c = given_refines Unknown (member_named ms c.identifier) _ _ (member_more scope is_partial c (field_named fs c.identifier))

  members_more : (scope : Scope) (inner : InnerLayer) (fs : Fields) (ms : List Member) → Refines (members_hold M scope inner fs ms) (members_hold N scope inner fs ms)
  members_more scope inner fs ms = both_refines _ _ _ _ (each_refines _ _ (listed_member_more scope inner.is_partial ms fs) inner.constraints) (same_refines _)

  struct_more : (scope : Scope) (a b : Option (List Member)) → Within a b → (inner : InnerLayer) (t : ValueTree) → Refines (struct_holds M scope a inner t) (struct_holds N scope b inner t)
  struct_more scope a b p inner (Struct fs) = once_refines a b _ _ p (members_more scope inner fs)
  struct_more scope a b p inner _ = refl

  inner_at_more : (scope : Scope) (inner : InnerLayer) (t : ValueTree) (inside : Scope) (k : Kind) → Refines (inner_at M scope inner t inside k) (inner_at N scope inner t inside k)
  inner_at_more scope inner t inside (StructKind x) = struct_more scope _ _ (m.members inside x) inner t
  inner_at_more scope inner t inside (ChoiceKind options) = choice_more scope inside options inner t
  inner_at_more scope inner t inside _ = refl

  inner_more : (scope : Scope) (a b : Parent) → KnownBetter a b → (inner : InnerLayer) (t : ValueTree) → Refines (inner_holds M scope a inner t) (inner_holds N scope b inner t)
  inner_more scope a b k inner t =
      by_parent (λ x y. Refines (inner_holds M scope x inner t) (inner_holds N scope y inner t)) (λ head x y p. inner_at_more scope inner t head.scope (kind_of head)) (λ codes. refl) a b k

  pub holds_at_more : (scope : Scope) (a b : Parent) → KnownBetter a b → (t : ValueTree) (l : ElementLayer) → Refines (holds_at M scope a t l) (holds_at N scope b t l)
  holds_at_more scope a b k t (SubtypeElement-F.SingleValue v e) = single_more scope a b k v t
  holds_at_more scope a b k t (SubtypeElement-F.ContainedSubtype ty e) = m.accepts _ [] t
  holds_at_more scope a b k t (SubtypeElement-F.TypeConstraint ty) = m.accepts _ [] t
  holds_at_more scope a b k t (SubtypeElement-F.ValueRange low high low_open high_open e) = asked_more a b k _ _ _ _ t (from_low_more M N m scope a b k low_open low) (up_to_high_more M N m scope a b k high_open high)
  holds_at_more scope a b k t (SubtypeElement-F.PermittedAlphabet set) = alphabet_more scope a b k set t
  holds_at_more scope a b k t (SubtypeElement-F.SizeConstraint set) = size_more scope set t
  holds_at_more scope a b k t (SubtypeElement-F.SingleTypeConstraint cs) = component_more scope a b k cs t
  holds_at_more scope a b k t (SubtypeElement-F.MultipleTypeConstraints inner) = inner_more scope a b k inner t
  holds_at_more scope a b k t _ = refl
