-- Constraints in a row are kept.
use Rattle.std.proofs.Common.{Bool, List, None, Option, Some, [], ap, false, inl, inr, refl, subst, sym, true, ℕ, ◌++◌, ◌+◌, ◌∙◌, ◌∷◌, ◌≡◌}
use Rattle.std.specs.Prelude.{if◌then◌else◌}
use Rattle.asn_tree.specs.declared.constraints.Constraint.{Constraint, Constraint-F, out-Constraint, out-roll-Constraint, roll-Constraint}
use Rattle.asn_meaning.specs.Answers.{Unknown, Yes, both, once}
use Rattle.asn_meaning.specs.Constraints.{all_hold, constraint_at}
use Rattle.asn_meaning.specs.Definitions.{Definitions}
use Rattle.asn_meaning.specs.Judge.{meaning}
use Rattle.asn_meaning.specs.Layers.{ConstraintLayer}
use Rattle.asn_meaning.specs.Meaning.{Meaning, ValuesOf}
use Rattle.asn_meaning.specs.Names.{list_at, lists_in}
use Rattle.asn_meaning.specs.Numbers.{Numbers, in_both}
use Rattle.asn_meaning.specs.Ranges.{is_free, narrowed, narrowed_at, narrowed_by_all}
use Rattle.asn_meaning.specs.Scopes.{Empty, Place, Scope}
use Rattle.asn_meaning.specs.ValueTrees.{ValueTree}
use Rattle.asn_meaning.proofs.Ways.{all_hold_append, narrowed_append}
use Rattle.asn_link_instance.specs.Heads.{Alike, Before, constraints_made}
use Rattle.asn_link_instance.specs.Instance.{constraint_instance, instance, content_instance}
use Rattle.asn_link_instance.specs.Subjects.{Choices, OnValues, Subject}
use Rattle.asn_link_instance.specs.Ways.{Known, Refined, Way}
use Rattle.asn_link_instance.proofs.Below.{Below, Constrained, floor_before}
use Rattle.asn_link_instance.proofs.Forms.{alike_blind, free_blind, lists_append}
use Rattle.asn_link_instance.proofs.Holding.{Holds, once_holds, result_holds, then_holds}
use Rattle.asn_link_instance.proofs.KeptSets.{numbers_in_set_kept, set_kept}
use Rattle.asn_link_instance.proofs.Pairs.{Paired, both_refined, equal_refined, if_known, if_refined, lifted_known, paired_found, paired_known, paired_refined, refined_yes, same_refined}

-- ---- free heads

pub free_all : (M : Meaning) (scope : Scope) (h : Place) (x : Option Numbers) (cs : List Constraint) (t : ValueTree) → is_free h ≡ true → all_hold M scope h x cs t ≡ Yes
free_all M scope h x [] t e = refl
free_all M scope h x (c ∷ cs) t e =
    ap (λ z. both (if z then Yes else constraint_at M scope (ValuesOf h x) t (out-Constraint c)) (all_hold M scope h (narrowed M scope h x c) cs t)) e ∙ free_all M scope h (narrowed M scope h x c) cs t e

pub free_numbers : (M : Meaning) (scope : Scope) (h : Place) (x : Option Numbers) (cs : List Constraint) → is_free h ≡ true → narrowed_by_all M scope h x cs ≡ x
free_numbers M scope h x [] e = refl
free_numbers M scope h x (c ∷ cs) e = free_numbers M scope h (narrowed M scope h x c) cs e ∙ ap (λ z. if z then x else narrowed_at M scope h x (out-Constraint c)) e

-- ---- one constraint

if_same : {A : Type 0} (a : Bool) (x : A) → (if a then x else x) ≡ x
if_same true x = refl
if_same false x = refl

module _ (C : Choices) (defs : Definitions) where
  -- no argument list is left
  unlisted_one : (floor i : ℕ) (scope : Scope) (s : Subject) (l : ConstraintLayer) → Holds (constraint_instance C defs (meaning defs floor) (instance C defs floor i) scope s l) (λ ys. lists_in ys ≡ [])
  unlisted_one floor i scope s (Constraint-F.SubtypeConstraint x) = once_holds ((instance C defs floor i).of_set scope s x.set) _ _ (λ set e. ap (λ z. list_at z []) (out-roll-Constraint _))
  unlisted_one floor i scope s (Constraint-F.TableConstraint x) = once_holds (C.table (meaning defs floor) scope x) _ _ (λ set e. ap (λ z. list_at z []) (out-roll-Constraint _))
  unlisted_one floor i scope s (Constraint-F.ContentConstraint x) = once_holds (content_instance C defs (meaning defs floor) (instance C defs floor i) scope x) _ _ (λ set e. ap (λ z. list_at z []) (out-roll-Constraint _))
  unlisted_one floor i scope s (Constraint-F.Parameter ps) = refl

  pub unlisted : (floor i : ℕ) (scope : Scope) (p : Place) (cs : List Constraint) → Holds (constraints_made C defs floor i scope p cs) (λ ds. lists_in ds ≡ [])
  unlisted floor i scope p [] = refl
  unlisted floor i scope p (c ∷ cs) =
      then_holds (once None ((meaning defs floor).head p) (λ head. constraint_instance C defs (meaning defs floor) (instance C defs floor i) scope (OnValues head) (out-Constraint c))) _ (λ ys. lists_in ys ≡ []) _
      (once_holds ((meaning defs floor).head p) _ _ (λ g e. unlisted_one floor i scope (OnValues g) (out-Constraint c))) (λ ys e u.
      then_holds (constraints_made C defs floor i scope p cs) _ (λ zs. lists_in zs ≡ []) _ (unlisted floor i scope p cs) (λ zs f v. lists_append ys zs v ∙ u))

module _ (C : Choices) (defs others : Definitions) (j : ℕ) (way : Way) (M L : Meaning) (b : Below C defs others j way M L) where
  -- a constraint, read by its layer, and the constraints that are made of it
  record KeptOne (scope : Scope) (h k : Place) (l : ConstraintLayer) (ys : List Constraint) : Type 0 where
    answers : (x y : Option Numbers) (t : ValueTree) → Known way x y → Refined way (if is_free h then Yes else constraint_at M scope (ValuesOf h x) t l) (all_hold L Empty k y ys t)
    numbers : (x y : Option Numbers) → Known way x y → Known way (if is_free h then x else narrowed_at M scope h x l) (narrowed_by_all L Empty k y ys)

  module _ (scope : Scope) (h k : Place) (a : Alike C defs others j h k) where
    same_free : is_free k ≡ is_free h
    same_free = alike_blind C defs others _ free_blind j h k a

    -- a constraint that stays one
    single_kept : (l r : ConstraintLayer) → ((x y : Option Numbers) (t : ValueTree) → Known way x y → Refined way (constraint_at M scope (ValuesOf h x) t l) (constraint_at L Empty (ValuesOf k y) t r)) →
        ((x y : Option Numbers) → Known way x y → Known way (narrowed_at M scope h x l) (narrowed_at L Empty k y r)) → KeptOne scope h k l (roll-Constraint r ∷ [])
    single_kept l r f g = record {
      answers = λ x y t w. subst (λ z. Refined way (if is_free h then Yes else constraint_at M scope (ValuesOf h x) t l) (both (if is_free k then Yes else constraint_at L Empty (ValuesOf k y) t z) Yes)) (sym (out-roll-Constraint r))
          (refined_yes way _ _ (if_refined way (is_free h) (is_free k) Yes Yes _ _ same_free (same_refined way Yes) (f x y t w)));
      numbers = λ x y w. subst (λ z. Known way (if is_free h then x else narrowed_at M scope h x l) (if is_free k then y else narrowed_at L Empty k y z)) (sym (out-roll-Constraint r))
          (if_known way (is_free h) (is_free k) x y _ _ same_free w (g x y w));
    }

    one_kept : (floor i : ℕ) → Before C defs j (floor + i) → (l : ConstraintLayer) → Holds (constraint_instance C defs (meaning defs floor) (instance C defs floor i) scope (OnValues h) l) (KeptOne scope h k l)
    one_kept floor i n (Constraint-F.SubtypeConstraint x) = once_holds ((instance C defs floor i).of_set scope (OnValues h) x.set) _ _ (λ set e.
        single_kept (Constraint-F.SubtypeConstraint x) (Constraint-F.SubtypeConstraint (record x { set = set }))
        (λ u y t w. set_kept C defs others j way M L b scope (OnValues h) (ValuesOf h u) (ValuesOf k y) x.set set t (floor, i, n, e) (refl, (k, y, refl, a, w)))
        (λ u y w. lifted_known way in_both u y _ _ w (numbers_in_set_kept C defs others j way M L b scope (OnValues h) (ValuesOf h u) (ValuesOf k y) x.set set (floor, i, n, e) (refl, (k, y, refl, a, w)))))
    one_kept floor i n (Constraint-F.TableConstraint x) = once_holds (C.table (meaning defs floor) scope x) _ _ (λ y e.
        single_kept (Constraint-F.TableConstraint x) (Constraint-F.TableConstraint y) (λ u v t w. same_refined way Yes) (λ u v w. w))
    one_kept floor i n (Constraint-F.ContentConstraint x) = once_holds (content_instance C defs (meaning defs floor) (instance C defs floor i) scope x) _ _ (λ y e.
        single_kept (Constraint-F.ContentConstraint x) (Constraint-F.ContentConstraint y) (λ u v t w. same_refined way Yes) (λ u v w. w))
    one_kept floor i n (Constraint-F.Parameter ps) = record {
      answers = λ x y t w. equal_refined way _ Yes (sym (if_same (is_free h) Yes));
      numbers = λ x y w. subst (λ z. Known way z y) (sym (if_same (is_free h) x)) w;
    }

  -- ---- constraints in a row

  pub record KeptAll (scope : Scope) (h k : Place) (cs ds : List Constraint) : Type 0 where
    pub answers : (x y : Option Numbers) (t : ValueTree) → Known way x y → Refined way (all_hold M scope h x cs t) (all_hold L Empty k y ds t)
    pub numbers : (x y : Option Numbers) → Known way x y → Known way (narrowed_by_all M scope h x cs) (narrowed_by_all L Empty k y ds)

  module _ (scope : Scope) (p h k : Place) (floor i : ℕ) (n : Before C defs j (floor + i)) (found : M.head p ≡ Some h) (a : Alike C defs others j h k) where
    joined_kept : (c : Constraint) (cs ys zs : List Constraint) → KeptOne scope h k (out-Constraint c) ys → KeptAll scope h k cs zs → KeptAll scope h k (c ∷ cs) (ys ++ zs)
    joined_kept c cs ys zs p q = record {
      answers = λ x y t w. subst (λ z. Refined way (all_hold M scope h x (c ∷ cs) t) z) (sym (all_hold_append L Empty k y ys zs t)) (both_refined way _ _ _ _ (p.answers x y t w) (q.answers _ _ t (p.numbers x y w)));
      numbers = λ x y w. subst (λ z. Known way (narrowed_by_all M scope h x (c ∷ cs)) z) (sym (narrowed_append L Empty k y ys zs)) (q.numbers _ _ (p.numbers x y w));
    }

    pub all_kept : (cs : List Constraint) → Holds (constraints_made C defs floor i scope p cs) (KeptAll scope h k cs)
    all_kept [] = record { answers = λ x y t w. same_refined way Yes; numbers = λ x y w. w }
    all_kept (c ∷ cs) =
        then_holds (once None ((meaning defs floor).head p) (λ head. constraint_instance C defs (meaning defs floor) (instance C defs floor i) scope (OnValues head) (out-Constraint c))) _ (KeptOne scope h k (out-Constraint c)) _
        (once_holds ((meaning defs floor).head p) _ _ (λ g e.
        subst (λ z. Holds (constraint_instance C defs (meaning defs floor) (instance C defs floor i) scope (OnValues z) (out-Constraint c)) (KeptOne scope h k (out-Constraint c))) (sym (b.same_head floor (floor_before C defs j floor i n) p g h e found)) (one_kept scope h k a floor i n (out-Constraint c)))) (λ ys e u.
        then_holds (constraints_made C defs floor i scope p cs) _ (KeptAll scope h k cs) _ (all_kept cs) (λ zs f v. joined_kept c cs ys zs u v))

  -- ---- under heads that are found

  append_kept : (scope : Scope) (h k : Place) (cs es ds fs : List Constraint) → KeptAll scope h k cs ds → KeptAll scope h k es fs → KeptAll scope h k (cs ++ es) (ds ++ fs)
  append_kept scope h k cs es ds fs p q = record {
    answers = λ x y t w.
        subst (λ z. Refined way z (all_hold L Empty k y (ds ++ fs) t)) (sym (all_hold_append M scope h x cs es t))
        (subst (λ z. Refined way (both (all_hold M scope h x cs t) (all_hold M scope h (narrowed_by_all M scope h x cs) es t)) z) (sym (all_hold_append L Empty k y ds fs t))
        (both_refined way _ _ _ _ (p.answers x y t w) (q.answers _ _ t (p.numbers x y w))));
    numbers = λ x y w.
        subst (λ z. Known way z (narrowed_by_all L Empty k y (ds ++ fs))) (sym (narrowed_append M scope h x cs es))
        (subst (λ z. Known way (narrowed_by_all M scope h (narrowed_by_all M scope h x cs) es) z) (sym (narrowed_append L Empty k y ds fs)) (q.numbers _ _ (p.numbers x y w)));
  }

  -- on a free head all say yes, as none does
  all_fallen : (scope : Scope) (h k : Place) (cs : List Constraint) → is_free h ≡ true → KeptAll scope h k cs []
  all_fallen scope h k cs e = record {
    answers = λ x y t w. subst (λ z. Refined way z Yes) (sym (free_all M scope h x cs t e)) (same_refined way Yes);
    numbers = λ x y w. subst (λ z. Known way z y) (sym (free_numbers M scope h x cs e)) w;
  }

  all_kept_at : (scope : Scope) (p h k : Place) (cs ds : List Constraint) → M.head p ≡ Some h → Alike C defs others j h k → Constrained C defs j scope p cs ds → KeptAll scope h k cs ds
  all_kept_at scope p h k cs ds f a (inl (floor, i, n, e)) = result_holds (constraints_made C defs floor i scope p cs) (KeptAll scope h k cs) ds (all_kept scope p h k floor i n f a cs) e
  all_kept_at scope p h k cs ds f a (inr (none, free)) =
      subst (λ z. KeptAll scope h k cs z) (sym none) (all_fallen scope h k cs (free b.known.0 h (subst (λ z. z.head p ≡ Some h) b.known.1 f)))

  abbrev FoundBoth : Place → Place → Place → Place → Type 0
  FoundBoth p r h k = (M.head p ≡ Some h) × (L.head r ≡ Some k) × Alike C defs others j h k

  -- the constraints of a type and those of its place; the numbers of the instance may depend on its head
  module _ (scope : Scope) (p r : Place) (cs ds es fs : List Constraint) (x : Option Numbers) (y : Place → Option Numbers) (found : Paired way (λ h k. Alike C defs others j h k) (M.head p) (L.head r))
      (m : Constrained C defs j scope p cs ds) (n : Constrained C defs j scope p es fs) (w : (k : Place) → L.head r ≡ Some k → Known way x (y k)) where
    pub both_kept : (t : ValueTree) → Refined way (once Unknown (M.head p) (λ h. all_hold M scope h x (cs ++ es) t)) (once Unknown (L.head r) (λ k. all_hold L Empty k (y k) (ds ++ fs) t))
    both_kept t =
        paired_refined way (λ h k. FoundBoth p r h k) (M.head p) (L.head r) (λ h. all_hold M scope h x (cs ++ es) t) (λ k. all_hold L Empty k (y k) (ds ++ fs) t) (paired_found way (λ h k. Alike C defs others j h k) (M.head p) (L.head r) found) (λ h k q.
        (append_kept scope h k cs es ds fs (all_kept_at scope p h k cs ds q.0 q.2 m) (all_kept_at scope p h k es fs q.0 q.2 n)).answers x (y k) t (w k q.1))

    pub both_numbers : Known way (once None (M.head p) (λ h. narrowed_by_all M scope h x (cs ++ es))) (once None (L.head r) (λ k. narrowed_by_all L Empty k (y k) (ds ++ fs)))
    both_numbers =
        paired_known way (λ h k. FoundBoth p r h k) (M.head p) (L.head r) (λ h. narrowed_by_all M scope h x (cs ++ es)) (λ k. narrowed_by_all L Empty k (y k) (ds ++ fs)) (paired_found way (λ h k. Alike C defs others j h k) (M.head p) (L.head r) found) (λ h k q.
        (append_kept scope h k cs es ds fs (all_kept_at scope p h k cs ds q.0 q.2 m) (all_kept_at scope p h k es fs q.0 q.2 n)).numbers x (y k) (w k q.1))

  pub placed_kept : (scope : Scope) (p r : Place) (cs ds : List Constraint) (x y : Option Numbers) (t : ValueTree) → Paired way (λ h k. Alike C defs others j h k) (M.head p) (L.head r) → Constrained C defs j scope p cs ds → Known way x y →
      Refined way (once Unknown (M.head p) (λ h. all_hold M scope h x cs t)) (once Unknown (L.head r) (λ k. all_hold L Empty k y ds t))
  placed_kept scope p r cs ds x y t found c w =
      paired_refined way (λ h k. FoundBoth p r h k) (M.head p) (L.head r) (λ h. all_hold M scope h x cs t) (λ k. all_hold L Empty k y ds t) (paired_found way (λ h k. Alike C defs others j h k) (M.head p) (L.head r) found) (λ h k q.
      (all_kept_at scope p h k cs ds q.0 q.2 c).answers x y t w)
