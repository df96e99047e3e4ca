-- Ranges and the numbers that constraints leave, where more is known.
use Rattle.std.proofs.Common.{◌≡◌, ℤ, Bool, true, false, List, [], ◌∷◌, Option, Some, None, refl, sym, subst, ap}
use Rattle.asn_tree.specs.declared.constraints.Constraint.{Constraint, Constraint-F, out-Constraint}
use Rattle.asn_tree.specs.declared.constraints.ElementOrSetOperation.{ElementOrSetOperation}
use Rattle.asn_tree.specs.declared.constraints.SubtypeElement.{SubtypeElement-F, out-SubtypeElement}
use Rattle.asn_tree.specs.declared.values.ASN1Value.{ASN1Value}
use Rattle.asn_meaning.specs.Answers.{Answer, Denotation, Denoted, Nothing, Unsure, Refines, Within, Settles}
use Rattle.asn_meaning.specs.Definitions.{Definitions}
use Rattle.asn_meaning.specs.Layers.{ConstraintLayer, ElementLayer}
use Rattle.asn_meaning.specs.Meaning.{Meaning, Parent, ValuesOf, CharactersOf}
use Rattle.asn_meaning.specs.Names.{Lead, IsHead, LeadsTo, IsLost}
use Rattle.asn_meaning.specs.Numbers.{Numbers, every_number, lifted, number_sets, answers}
use Rattle.asn_meaning.specs.Ranges.{codes_of, value_place, numbers_of, whole_number, one_character, end_denoted, beside, parent_end, from_low, up_to_high, range, number_denoted, number_of_single, numbers_at_element, numbers_in_set, is_free, narrowed_at, narrowed, narrowed_by_all, all_constraints, numbers_from_lead, numbers_before, numbers_at}
use Rattle.asn_meaning.specs.Scopes.{Scope, Place}
use Rattle.asn_meaning.specs.ValueTrees.{ValueTree}
use Rattle.asn_meaning.proofs.Answering.{same_within, same_settles, once_within, both_refines, either_refines, denied_refines, if_within, unless_within}
use Rattle.asn_meaning.proofs.Chains.{Keeps, ranked_kept}
use Rattle.asn_meaning.proofs.More.{More, KnownBetter, Leads, lead_more}

pub answers_keep : Keeps Answer Answer answers answers Refines
answers_keep = record {
  common = both_refines;
  joined = either_refines;
  without = λ a c b d p q. both_refines a c _ _ p (denied_refines b d q);
  empty = refl;
  everything = refl;
}

pub lifted_within : (f : Numbers → Numbers → Numbers) (a c b d : Option Numbers) → Within a c → Within b d → Within (lifted f a b) (lifted f c d)
lifted_within f a c b d p q = once_within a c _ _ p (λ x. once_within b d _ _ q (λ y. refl))

pub number_sets_keep : Keeps (Option Numbers) (Option Numbers) number_sets number_sets Within
number_sets_keep = record {
  common = lifted_within _;
  joined = lifted_within _;
  without = lifted_within _;
  empty = refl;
  everything = refl;
}

-- ---- parents

pub by_parent : (P : Parent → Parent → Type 0) → ((head : Place) (x y : Option Numbers) → Within x y → P (ValuesOf head x) (ValuesOf head y)) → ((codes : Numbers) → P (CharactersOf codes) (CharactersOf codes)) → (a b : Parent) → KnownBetter a b → P a b
by_parent P f g (ValuesOf head x) b (y, p, e) = subst (P (ValuesOf head x)) (sym e) (f head x y p)
by_parent P f g (CharactersOf codes) b e = subst (P (CharactersOf codes)) (sym e) (g codes)

pub same_parent : (a : Parent) → KnownBetter a a
same_parent (ValuesOf head x) = (x, same_within x, refl)
same_parent (CharactersOf codes) = refl

numbers_of_more : (a b : Parent) → KnownBetter a b → Within (numbers_of a) (numbers_of b)
numbers_of_more a b k = by_parent (λ x y. Within (numbers_of x) (numbers_of y)) (λ head x y p. p) (λ codes. refl) a b k

pub codes_same : (a b : Parent) → KnownBetter a b → codes_of b ≡ codes_of a
codes_same a b k = by_parent (λ x y. codes_of y ≡ codes_of x) (λ head x y p. refl) (λ codes. refl) a b k

pub whole_settles : (a b : Denotation ValueTree) → Settles a b → Settles (whole_number a) (whole_number b)
whole_settles (Denoted t) b p = subst (λ z. Settles (whole_number (Denoted t)) (whole_number z)) (sym p) (same_settles (whole_number (Denoted t)))
whole_settles Nothing b p = ap whole_number p
whole_settles Unsure b p = tt

pub character_settles : (a b : Denotation ValueTree) → Settles a b → Settles (one_character a) (one_character b)
character_settles (Denoted t) b p = subst (λ z. Settles (one_character (Denoted t)) (one_character z)) (sym p) (same_settles (one_character (Denoted t)))
character_settles Nothing b p = ap one_character p
character_settles Unsure b p = tt

pub beside_within : (f : ℤ → Numbers) (a b : Denotation ℤ) → Settles a b → Within (beside f a) (beside f b)
beside_within f (Denoted i) b p = ap (beside f) p
beside_within f Nothing b p = ap (beside f) p
beside_within f Unsure b p = tt

pub parent_end_within : (f : Numbers → Numbers) (is_open : Bool) (x y : Option Numbers) → Within x y → Within (parent_end f is_open x) (parent_end f is_open y)
parent_end_within f false x y p = refl
parent_end_within f true x y p = once_within x y _ _ p (λ s. refl)

pub number_denoted_within : (a b : Denotation ValueTree) → Settles a b → Within (number_denoted a) (number_denoted b)
number_denoted_within (Denoted t) b p = ap number_denoted p
number_denoted_within Nothing b p = ap number_denoted p
number_denoted_within Unsure b p = tt

module _ (M N : Meaning) (m : More M N) where
  end_more : (scope : Scope) (v : ASN1Value) (a b : Parent) → KnownBetter a b → Settles (end_denoted M scope a v) (end_denoted N scope b v)
  end_more scope v a b k =
      by_parent (λ x y. Settles (end_denoted M scope x v) (end_denoted N scope y v)) (λ head x y p. whole_settles _ _ (m.denotes scope v _)) (λ codes. character_settles _ _ (m.denotes scope v _)) a b k

  pub from_low_more : (scope : Scope) (a b : Parent) → KnownBetter a b → (is_open : Bool) (v : Option ASN1Value) → Within (from_low M scope a is_open v) (from_low N scope b is_open v)
  from_low_more scope a b k is_open None = parent_end_within _ is_open _ _ (numbers_of_more a b k)
  from_low_more scope a b k is_open (Some v) = beside_within _ _ _ (end_more scope v a b k)

  pub up_to_high_more : (scope : Scope) (a b : Parent) → KnownBetter a b → (is_open : Bool) (v : Option ASN1Value) → Within (up_to_high M scope a is_open v) (up_to_high N scope b is_open v)
  up_to_high_more scope a b k is_open None = parent_end_within _ is_open _ _ (numbers_of_more a b k)
  up_to_high_more scope a b k is_open (Some v) = beside_within _ _ _ (end_more scope v a b k)

  range_more : (scope : Scope) (a b : Parent) → KnownBetter a b → (low high : Option ASN1Value) (low_open high_open : Bool) → Within (range M scope a low high low_open high_open) (range N scope b low high low_open high_open)
  range_more scope a b k low high low_open high_open = lifted_within _ _ _ _ _ (from_low_more scope a b k low_open low) (up_to_high_more scope a b k high_open high)

  single_numbers_more : (scope : Scope) (p : Place) (v : ASN1Value) → Within (number_of_single M scope p v) (number_of_single N scope p v)
  single_numbers_more scope p v = unless_within every_number _ _ _ _ (m.is_all scope v p) (number_denoted_within _ _ (m.denotes scope v p))

  element_numbers_more : (scope : Scope) (a b : Parent) → KnownBetter a b → (l : ElementLayer) → Within (numbers_at_element M scope a l) (numbers_at_element N scope b l)
  element_numbers_more scope a b k (SubtypeElement-F.SingleValue v e) =
      by_parent (λ x y. Within (number_of_single M scope (value_place x) v) (number_of_single N scope (value_place y) v))
      (λ head x y p. single_numbers_more scope head v) (λ codes. single_numbers_more scope _ v) a b k
  element_numbers_more scope a b k (SubtypeElement-F.ContainedSubtype ty e) = m.numbers _ []
  element_numbers_more scope a b k (SubtypeElement-F.TypeConstraint ty) = m.numbers _ []
  element_numbers_more scope a b k (SubtypeElement-F.ValueRange low high low_open high_open e) = range_more scope a b k low high low_open high_open
  element_numbers_more scope a b k _ = refl

  set_numbers_more : (scope : Scope) (a b : Parent) → KnownBetter a b → (set : ElementOrSetOperation) → Within (numbers_in_set M scope a set) (numbers_in_set N scope b set)
  set_numbers_more scope a b k set =
      once_within _ _ _ _ (m.chain set) (ranked_kept (Option Numbers) (Option Numbers) number_sets number_sets Within number_sets_keep _ _ (λ e. element_numbers_more scope a b k (out-SubtypeElement e)))

  narrowed_at_more : (scope : Scope) (head : Place) (x y : Option Numbers) (l : ConstraintLayer) → Within x y → Within (narrowed_at M scope head x l) (narrowed_at N scope head y l)
  narrowed_at_more scope head x y (Constraint-F.SubtypeConstraint s) p = lifted_within _ x y _ _ p (set_numbers_more scope (ValuesOf head x) (ValuesOf head y) (y, p, refl) s.set)
  narrowed_at_more scope head x y _ p = p

  pub narrowed_more : (scope : Scope) (head : Place) (x y : Option Numbers) (c : Constraint) → Within x y → Within (narrowed M scope head x c) (narrowed N scope head y c)
  narrowed_more scope head x y c p = if_within (is_free head) x y _ _ p (narrowed_at_more scope head x y (out-Constraint c) p)

  pub narrowed_by_all_more : (scope : Scope) (head : Place) (x y : Option Numbers) (cs : List Constraint) → Within x y → Within (narrowed_by_all M scope head x cs) (narrowed_by_all N scope head y cs)
  narrowed_by_all_more scope head x y [] p = p
  narrowed_by_all_more scope head x y (c ∷ cs) p = narrowed_by_all_more scope head (narrowed M scope head x c) (narrowed N scope head y c) cs (narrowed_more scope head x y c p)

  from_lead_more : (p : Place) (a b : Lead) → Leads a b → Within (numbers_from_lead M p a) (numbers_from_lead N p b)
  from_lead_more p IsHead b e = ap (numbers_from_lead N p) e
  from_lead_more p (LeadsTo x) b e = subst (λ z. Within (M.numbers x.place x.constraints) (numbers_from_lead N p z)) (sym e) (m.numbers x.place x.constraints)
  from_lead_more p IsLost b e = tt

  pub numbers_before_more : (defs : Definitions) (p : Place) → Within (numbers_before defs M p) (numbers_before defs N p)
  numbers_before_more defs p = from_lead_more p _ _ (lead_more M N m defs p)

  pub numbers_at_more : (defs : Definitions) (p : Place) (cs : List Constraint) → Within (numbers_at defs M p cs) (numbers_at defs N p cs)
  numbers_at_more defs p cs = once_within _ _ _ _ (m.head p) (λ head. narrowed_by_all_more p.scope head _ _ (all_constraints p cs) (numbers_before_more defs p))
