-- What elements hold of is kept.
use Rattle.std.proofs.Common.{List, None, Option, Some, [], ap, inl, refl, subst, sym, true, ℕ, ◌+◌, ◌∙◌, ◌≡◌}
use Rattle.asn_tree.specs.declared.constraints.Constraint.{Constraint}
use Rattle.asn_tree.specs.declared.constraints.ElementOrSetOperation.{ElementOrSetOperation}
use Rattle.asn_tree.specs.declared.constraints.SubtypeElement.{SubtypeElement, SubtypeElement-F, out-SubtypeElement}
use Rattle.asn_meaning.specs.Answers.{Denotation, No, Yes}
use Rattle.asn_meaning.specs.Constraints.{alphabet_holds, compared, component_holds, holds_at, inner_holds, number_asked, part_holds, range_holds, size_holds, sizes}
use Rattle.asn_meaning.specs.Definitions.{Definitions}
use Rattle.asn_meaning.specs.Judge.{meaning}
use Rattle.asn_meaning.specs.Layers.{ElementLayer}
use Rattle.asn_meaning.specs.Meaning.{CharactersOf, Meaning, Parent, ValuesOf}
use Rattle.asn_meaning.specs.Members.{element_place}
use Rattle.asn_meaning.specs.Numbers.{Numbers}
use Rattle.asn_meaning.specs.Ranges.{codes_of, integer_named}
use Rattle.asn_meaning.specs.Scopes.{Empty, Place, Scope}
use Rattle.asn_meaning.specs.Shapes.{list_judged}
use Rattle.asn_meaning.specs.ValueTrees.{Characters, Elements, ValueTree, counted}
use Rattle.asn_link_instance.specs.Heads.{Alike, Before, constraints_made}
use Rattle.asn_link_instance.specs.Instance.{component_instance, element_instance, inner_instance, instance, listed_instance, of_constraints}
use Rattle.asn_link_instance.specs.Subjects.{Choices, OnCharacters, OnValues, Subject, traversed, values_read}
use Rattle.asn_link_instance.specs.Ways.{Known, Refined, Settled, Way}
use Rattle.asn_link_instance.proofs.Below.{Below, IsOf, MadeElement, MadeSet, by_subject}
use Rattle.asn_link_instance.proofs.Holding.{Holds, once_holds, result_holds, some_same}
use Rattle.asn_link_instance.proofs.KeptInner.{inner_kept, listed_made, part_kept}
use Rattle.asn_link_instance.proofs.KeptParts.{Stands, element_both}
use Rattle.asn_link_instance.proofs.KeptSets.{all_kept, asked_same, codes_same, element_made, range_kept, set_kept, sizes_are, value_kept}
use Rattle.asn_link_instance.proofs.Pairs.{compared_characters, compared_values, each_refined, given_refined, matched_found, matched_refined, range_refined, same_refined, trees_refined, unless_refined}

module _ (C : Choices) (defs others : Definitions) (j : ℕ) (way : Way) (M L : Meaning) (b : Below C defs others j way M L) where
  compared_kept : (s : Subject) (p q : Parent) (t : ValueTree) (c d : Denotation ValueTree) → IsOf C defs others j way s p q → Settled way c d → Refined way (compared p t c) (compared q t d)
  compared_kept s p q t c d o w = by_subject C defs others j way (λ s p q. Refined way (compared p t c) (compared q t d)) (λ h k x y a u. compared_values way h k x y t c d w) (λ codes. compared_characters way codes t c d w) s p q o

  asked_kept : (s : Subject) (p q : Parent) (t : ValueTree) (x y u v : Option Numbers) → IsOf C defs others j way s p q → Known way x y → Known way u v →
      Refined way (range_holds x u (number_asked p t)) (range_holds y v (number_asked q t))
  asked_kept s p q t x y u v o w z = by_subject C defs others j way (λ s p q. Refined way (range_holds x u (number_asked p t)) (range_holds y v (number_asked q t)))
      (λ h k c d a e. subst (λ n. Refined way (range_holds x u (number_asked (ValuesOf h c) t)) (range_holds y v n)) (sym (asked_same h k c d t)) (range_refined way x y u v _ w z))
      (λ codes. range_refined way x y u v (number_asked (CharactersOf codes) t) w z) s p q o

  module _ (floor i : ℕ) (n : Before C defs j (floor + i)) (scope : Scope) where
    alphabet_kept : (s : Subject) (p q : Parent) → IsOf C defs others j way s p q → (x y : ElementOrSetOperation) → MadeSet C defs j scope OnCharacters x y → (t : ValueTree) → Refined way (alphabet_holds M scope p x t) (alphabet_holds L Empty q y t)
    alphabet_kept s p q o x y m (Characters cs) = each_refined way _ _ (λ c. set_kept C defs others j way M L b scope OnCharacters (CharactersOf (codes_of p)) (CharactersOf (codes_of q)) x y _ m (ap CharactersOf (codes_same C defs others j way M L b s p q o))) cs
    alphabet_kept s p q o x y m _ = same_refined way No

    size_kept : (x y : ElementOrSetOperation) → MadeSet C defs j scope (OnValues (integer_named None)) x y → (t : ValueTree) → Refined way (size_holds M scope x t) (size_holds L Empty y t)
    size_kept x y m t = given_refined way No (counted t) _ _ (λ k. set_kept C defs others j way M L b scope (OnValues (integer_named None)) sizes sizes x y _ m (sizes_are C defs others j way M L b))

    component_values : (h k : Place) (x y : Option Numbers) → Alike C defs others j h k → (cs : List Constraint) → Holds (component_instance C defs (meaning defs floor) (instance C defs floor i) scope (OnValues h) cs)
        (λ r. (t : ValueTree) → Refined way (component_holds M scope (ValuesOf h x) cs t) (holds_at L Empty (ValuesOf k y) t r))
    component_values h k x y a cs =
        once_holds (element_place h) _ _ (λ p e. once_holds (of_constraints C defs (meaning defs floor) (instance C defs floor i) scope p cs) _ _ (λ ds f. elements_kept p e ds f))
      where
        elements_kept : (p : Place) → element_place h ≡ Some p → (ds : List Constraint) → of_constraints C defs (meaning defs floor) (instance C defs floor i) scope p cs ≡ Some ds → (t : ValueTree) → Refined way (component_holds M scope (ValuesOf h x) cs t) (component_holds L Empty (ValuesOf k y) ds t)
        elements_kept p e ds f t =
            matched_refined way No (λ p q. (element_place h ≡ Some p) × Stands C defs others j p q) (element_place h) (element_place k) (λ p. list_judged (part_holds M scope p cs) t) (λ q. list_judged (part_holds L Empty q ds) t)
            (matched_found (λ p q. Stands C defs others j p q) (element_place h) (element_place k) (element_both C defs others j way M L b h k a)) (λ u q s. listed_parts p u q (some_same _ _ (sym e ∙ s.0)) s.1 ds f t)
          where
            listed_parts : (p u q : Place) → p ≡ u → Stands C defs others j u q → (ds : List Constraint) → of_constraints C defs (meaning defs floor) (instance C defs floor i) scope p cs ≡ Some ds → (t : ValueTree) → Refined way (list_judged (part_holds M scope u cs) t) (list_judged (part_holds L Empty q ds) t)
            listed_parts p u q same s ds f (Elements ts) = trees_refined way (part_holds M scope u cs) (part_holds L Empty q ds) (λ t. part_kept C defs others j way M L b scope u q cs ds t s (inl (floor, i, n, subst (λ z. constraints_made C defs floor i scope z cs ≡ Some ds) same f))) ts
            listed_parts p u q same s ds f _ = same_refined way No

    holds_kept : (s : Subject) (p q : Parent) → IsOf C defs others j way s p q → (l : ElementLayer) → Holds (element_instance C defs (meaning defs floor) (instance C defs floor i) scope s l) (λ r. (t : ValueTree) → Refined way (holds_at M scope p t l) (holds_at L Empty q t r))
    holds_kept s p q o (SubtypeElement-F.SingleValue v e) = once_holds (C.value (meaning defs floor) scope v (values_read s)) _ _ (λ w u t.
        unless_refined way _ _ _ _ (all_kept C defs others j way M L b floor i n scope v w s p q o u) (λ e f. compared_kept s p q t _ _ o (value_kept C defs others j way M L b floor i n scope v w s p q o u e f)))
    holds_kept s p q o (SubtypeElement-F.ContainedSubtype ty e) = once_holds ((instance C defs floor i).of_type true scope ty) _ _ (λ uy u t. b.accepts true scope ty uy [] [] t (floor, i, n, u) (inl (floor, i, n, refl)))
    holds_kept s p q o (SubtypeElement-F.TypeConstraint ty) = once_holds ((instance C defs floor i).of_type true scope ty) _ _ (λ uy u t. b.accepts true scope ty uy [] [] t (floor, i, n, u) (inl (floor, i, n, refl)))
    holds_kept s p q o (SubtypeElement-F.ValueRange low high low_open high_open e) = range_kept C defs others j way M L b floor i n scope s p q o low high low_open high_open _ e (λ l h w u t. asked_kept s p q t _ _ _ _ o w u)
    holds_kept s p q o (SubtypeElement-F.PermittedAlphabet set) = once_holds ((instance C defs floor i).of_set scope OnCharacters set) _ _ (λ x u t. alphabet_kept s p q o set x (floor, i, n, u) t)
    holds_kept s p q o (SubtypeElement-F.SizeConstraint set) = once_holds ((instance C defs floor i).of_set scope (OnValues (integer_named None)) set) _ _ (λ x u t. size_kept set x (floor, i, n, u) t)
    holds_kept s p q o (SubtypeElement-F.SingleTypeConstraint cs) = by_subject C defs others j way (λ s p q. Holds (component_instance C defs (meaning defs floor) (instance C defs floor i) scope s cs) (λ r. (t : ValueTree) → Refined way (component_holds M scope p cs t) (holds_at L Empty q t r)))
        (λ h k x y a w. component_values h k x y a cs) (λ c. tt) s p q o
    holds_kept s p q o (SubtypeElement-F.MultipleTypeConstraints inner) = by_subject C defs others j way (λ s p q. Holds (inner_instance C defs (meaning defs floor) (instance C defs floor i) scope s inner) (λ r. (t : ValueTree) → Refined way (inner_holds M scope p inner t) (holds_at L Empty q t r)))
        (λ h k x y a w. once_holds (traversed (listed_instance C defs (meaning defs floor) (instance C defs floor i) scope h) inner.constraints) _ _ (λ cs e t.
        inner_kept C defs others j way M L b floor i n scope h k a inner cs (result_holds (traversed (listed_instance C defs (meaning defs floor) (instance C defs floor i) scope h) inner.constraints) _ cs (listed_made C defs floor i scope h inner.constraints) e) t)) (λ c. tt) s p q o
    holds_kept s p q o (SubtypeElement-F.PatternConstraint x) = λ t. same_refined way Yes
    holds_kept s p q o (SubtypeElement-F.UserDefinedConstraint x) = λ t. same_refined way Yes
    holds_kept s p q o (SubtypeElement-F.PropertySettings x) = λ t. same_refined way Yes

  pub element_holds : (scope : Scope) (s : Subject) (p q : Parent) (e f : SubtypeElement) (t : ValueTree) → MadeElement C defs j scope s e f → IsOf C defs others j way s p q → Refined way (holds_at M scope p t (out-SubtypeElement e)) (holds_at L Empty q t (out-SubtypeElement f))
  element_holds scope s p q e f t m o = element_made C defs j scope s e f (λ r. (t : ValueTree) → Refined way (holds_at M scope p t (out-SubtypeElement e)) (holds_at L Empty q t r)) m (λ floor i n. holds_kept floor i n scope s p q o (out-SubtypeElement e)) t
