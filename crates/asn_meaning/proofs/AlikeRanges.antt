-- Ranges and the numbers that constraints leave, where tags differ.
use Rattle.std.specs.Prelude.{if◌then◌else◌}
use Rattle.std.specs.Option.{option_map}
use Rattle.std.proofs.Common.{◌≡◌, Bool, List, [], ◌∷◌, map, Option, Some, None, refl, sym, subst, ap, ◌∙◌}
use Rattle.asn_tree.specs.Passes.{constraint_parts, element_parts, type_parts, rewritten_element, rewritten_set}
use Rattle.asn_tree.specs.declared.constraints.Constraint.{Constraint, Constraint-F, out-Constraint}
use Rattle.asn_tree.specs.declared.constraints.ElementOrSetOperation.{ElementOrSetOperation}
use Rattle.asn_tree_kinds.specs.declared.constraints.SetOperator.{SetOperator}
use Rattle.asn_tree_kinds.specs.declared.constraints.SetOperator.TheVariants.{Intersection, Union, Except}
use Rattle.asn_tree.specs.declared.constraints.SubtypeElement.{SubtypeElement, SubtypeElement-F, out-SubtypeElement}
use Rattle.asn_tree.specs.declared.types.ASN1Type.TheVariants as type_of_kind
use Rattle.asn_tree_kinds.specs.declared.types.DistinguishedValue.{DistinguishedValue}
use Rattle.asn_tree.specs.declared.values.ASN1Value.{ASN1Value}
use Rattle.asn_tree_notation.specs.Types.{constraints_of}
use Rattle.asn_meaning.specs.Placed.{listed}
use Rattle.asn_meaning.specs.Answers.{once, unless_all}
use Rattle.asn_meaning.specs.Definitions.{Definitions}
use Rattle.asn_meaning.specs.Kinds.{Kind, StructKind, kind_of}
use Rattle.asn_meaning.specs.Layers.{ConstraintLayer, ElementLayer}
use Rattle.asn_meaning.specs.Meaning.{Meaning, Parent, ValuesOf, CharactersOf}
use Rattle.asn_meaning.specs.Names.{Lead, IsHead, LeadsTo, IsLost}
use Rattle.asn_meaning.specs.Numbers.{Chain, Joining, Numbers, every_number, above_least, below_greatest, in_both, lifted, number_sets, numbers_from, numbers_to, ranked, ranked_from}
use Rattle.asn_meaning.specs.Ranges.{beside, codes_at, codes_of, end_denoted, from_low, integer_named, integer_of, is_free, is_free_kind, named_numbers_in, narrowed, narrowed_at, narrowed_by_all, number_denoted, number_of_single, numbers_at_element, numbers_at_head, numbers_before, numbers_from_lead, numbers_in_set, numbers_of, one_character, parent_end, range, up_to_high, value_place, whole_number}
use Rattle.asn_meaning.specs.Everything.{plain_text}
use Rattle.asn_meaning.specs.Scopes.{Scope, Empty, Place}
use Rattle.asn_meaning.specs.Tags.{TagChange, DifferInTags, PlacesAlike, ScopesAlike, tagged_constraint, tagged_value, tagging}
use Rattle.asn_meaning.proofs.Alike.{kind_alike, once_mapped}
use Rattle.asn_meaning.proofs.AlikeDenotes.{text_place}
use Rattle.asn_meaning.proofs.AlikeMembers.{AlikeKnown, LeadsAlike, ParentsAlike, chain_kept, lead_alike}
use Rattle.asn_meaning.proofs.AlikeNames.{untagged_place}
use Rattle.asn_meaning.proofs.TagLayers.{constraint_out, constraints_kept, each_constraint, element_out, kind_kept, type_by_level}

-- ---- chains

ranked_from_same : {A : Type 0} (j : Joining A) (g : SubtypeElement → A) (h : SubtypeElement → A) (f : TagChange) → ((e : SubtypeElement) → h (rewritten_element (tagging f) e) ≡ g e) → (united met last : A) (others : List (SetOperator × SubtypeElement)) →
    ranked_from j h united met last (map (λ o. (o.0, rewritten_element (tagging f) o.1)) others) ≡ ranked_from j g united met last others
ranked_from_same j g h f k united met last [] = refl
ranked_from_same j g h f k united met last ((Except, e) ∷ others) =
    ap (λ z. ranked_from j h united met (j.without last z) (map (λ o. (o.0, rewritten_element (tagging f) o.1)) others)) (k e) ∙ ranked_from_same j g h f k united met (j.without last (g e)) others
ranked_from_same j g h f k united met last ((Intersection, e) ∷ others) =
    ap (λ z. ranked_from j h united (j.common met last) z (map (λ o. (o.0, rewritten_element (tagging f) o.1)) others)) (k e) ∙ ranked_from_same j g h f k united (j.common met last) (g e) others
ranked_from_same j g h f k united met last ((Union, e) ∷ others) =
    ap (λ z. ranked_from j h (j.joined united (j.common met last)) j.everything z (map (λ o. (o.0, rewritten_element (tagging f) o.1)) others)) (k e) ∙ ranked_from_same j g h f k (j.joined united (j.common met last)) j.everything (g e) others

pub ranked_same : {A : Type 0} (j : Joining A) (g h : SubtypeElement → A) (f : TagChange) → ((e : SubtypeElement) → h (rewritten_element (tagging f) e) ≡ g e) → (c : Chain) → ranked j h (chain_kept f c) ≡ ranked j g c
ranked_same j g h f k c =
    ap (λ z. ranked_from j h j.empty j.everything z (map (λ o. (o.0, rewritten_element (tagging f) o.1)) c.others)) (k c.first) ∙ ranked_from_same j g h f k j.empty j.everything (g c.first) c.others

-- ---- parents

pub integer_place : (names : Option (List DistinguishedValue)) → PlacesAlike (integer_named names) (integer_named names)
integer_place names =
    untagged_place Empty Empty refl (type_of_kind.Integer (record { constraints = []; distinguished_values = names }))
    (type_by_level (λ t. t) _ (type_of_kind.Integer (record { constraints = []; distinguished_values = names })) (type_of_kind.outs-Integer (record { constraints = []; distinguished_values = names }) ∙ ap (type_parts (tagging (λ t. t))) (sym (type_of_kind.outs-Integer (record { constraints = []; distinguished_values = names })))))

named_kept : (f : TagChange) (k : Kind) → named_numbers_in (kind_kept f k) ≡ named_numbers_in k
named_kept f (StructKind x) = refl
named_kept f _ = refl

pub integer_alike : (p q : Place) → PlacesAlike p q → PlacesAlike (integer_of p) (integer_of q)
integer_alike p q k = subst (λ z. PlacesAlike (integer_of p) (integer_named z)) (sym (ap named_numbers_in (kind_alike p q k) ∙ named_kept k.0 (kind_of p))) (integer_place (named_numbers_in (kind_of p)))

codes_kept : (f : TagChange) (k : Kind) → codes_at (kind_kept f k) ≡ codes_at k
codes_kept f (StructKind x) = refl
codes_kept f _ = refl

pub codes_alike : (a b : Parent) → ParentsAlike a b → codes_of b ≡ codes_of a
codes_alike (ValuesOf h n) b (g, r, e) = ap codes_of e ∙ ap codes_at (kind_alike h g r) ∙ codes_kept r.0 (kind_of h)
codes_alike (CharactersOf codes) b e = ap codes_of e

pub value_place_alike : (a b : Parent) → ParentsAlike a b → PlacesAlike (value_place a) (value_place b)
value_place_alike (ValuesOf h n) b (g, r, e) = subst (λ z. PlacesAlike h (value_place z)) (sym e) r
value_place_alike (CharactersOf codes) b e = subst (λ z. PlacesAlike plain_text (value_place z)) (sym e) text_place

numbers_of_alike : (a b : Parent) → ParentsAlike a b → numbers_of b ≡ numbers_of a
numbers_of_alike (ValuesOf h n) b (g, r, e) = ap numbers_of e
numbers_of_alike (CharactersOf codes) b e = ap numbers_of e

free_kept : (f : TagChange) (k : Kind) → is_free_kind (kind_kept f k) ≡ is_free_kind k
free_kept f (StructKind x) = refl
free_kept f _ = refl

pub free_alike : (p q : Place) → PlacesAlike p q → is_free q ≡ is_free p
free_alike p q k = ap is_free_kind (kind_alike p q k) ∙ free_kept k.0 (kind_of p)

numbers_kept : (f : TagChange) (k : Kind) → numbers_at_head (kind_kept f k) ≡ numbers_at_head k
numbers_kept f (StructKind x) = refl
numbers_kept f _ = refl

module _ (M N : Meaning) (a : AlikeKnown M N) where
  end_alike : (s q : Scope) → ScopesAlike s q → (x y : Parent) → ParentsAlike x y → (f : TagChange) (v : ASN1Value) → end_denoted N q y (tagged_value f v) ≡ end_denoted M s x v
  end_alike s q k (ValuesOf h n) y (g, r, e) f v = ap (λ z. end_denoted N q z (tagged_value f v)) e ∙ ap whole_number (a.denotes s q k f v _ _ (integer_alike h g r))
  end_alike s q k (CharactersOf codes) y e f v = ap (λ z. end_denoted N q z (tagged_value f v)) e ∙ ap one_character (a.denotes s q k f v _ _ text_place)

  pub low_alike : (s q : Scope) → ScopesAlike s q → (x y : Parent) → ParentsAlike x y → (f : TagChange) (is_open : Bool) (v : Option ASN1Value) → from_low N q y is_open (option_map (tagged_value f) v) ≡ from_low M s x is_open v
  low_alike s q k x y p f is_open None = ap (parent_end above_least is_open) (numbers_of_alike x y p)
  low_alike s q k x y p f is_open (Some v) = ap (beside (numbers_from is_open)) (end_alike s q k x y p f v)

  pub high_alike : (s q : Scope) → ScopesAlike s q → (x y : Parent) → ParentsAlike x y → (f : TagChange) (is_open : Bool) (v : Option ASN1Value) → up_to_high N q y is_open (option_map (tagged_value f) v) ≡ up_to_high M s x is_open v
  high_alike s q k x y p f is_open None = ap (parent_end below_greatest is_open) (numbers_of_alike x y p)
  high_alike s q k x y p f is_open (Some v) = ap (beside (numbers_to is_open)) (end_alike s q k x y p f v)

  range_alike : (s q : Scope) → ScopesAlike s q → (x y : Parent) → ParentsAlike x y → (f : TagChange) (low high : Option ASN1Value) (low_open high_open : Bool) →
      range N q y (option_map (tagged_value f) low) (option_map (tagged_value f) high) low_open high_open ≡ range M s x low high low_open high_open
  range_alike s q k x y p f low high low_open high_open =
      ap (λ z. lifted in_both z (up_to_high N q y high_open (option_map (tagged_value f) high))) (low_alike s q k x y p f low_open low)
      ∙ ap (lifted in_both (from_low M s x low_open low)) (high_alike s q k x y p f high_open high)

  single_numbers_alike : (s q : Scope) → ScopesAlike s q → (p r : Place) → PlacesAlike p r → (f : TagChange) (v : ASN1Value) → number_of_single N q r (tagged_value f v) ≡ number_of_single M s p v
  single_numbers_alike s q k p r h f v =
      ap (λ z. unless_all (Some every_number) None z (number_denoted (N.denotes q (tagged_value f v) r))) (a.is_all s q k f v p r h)
      ∙ ap (λ z. unless_all (Some every_number) None (M.is_all s v p) (number_denoted z)) (a.denotes s q k f v p r h)

  element_numbers_at : (s q : Scope) → ScopesAlike s q → (x y : Parent) → ParentsAlike x y → (f : TagChange) (l : ElementLayer) → numbers_at_element N q y (element_parts (tagging f) l) ≡ numbers_at_element M s x l
  element_numbers_at s q k x y p f (SubtypeElement-F.SingleValue v e) = single_numbers_alike s q k _ _ (value_place_alike x y p) f v
  element_numbers_at s q k x y p f (SubtypeElement-F.ContainedSubtype ty e) = a.numbers _ _ (f, q, k, refl) f []
  element_numbers_at s q k x y p f (SubtypeElement-F.TypeConstraint ty) = a.numbers _ _ (f, q, k, refl) f []
  element_numbers_at s q k x y p f (SubtypeElement-F.ValueRange None None low_open high_open e) = range_alike s q k x y p f None None low_open high_open
  element_numbers_at s q k x y p f (SubtypeElement-F.ValueRange None (Some v) low_open high_open e) = range_alike s q k x y p f None (Some v) low_open high_open
  element_numbers_at s q k x y p f (SubtypeElement-F.ValueRange (Some u) None low_open high_open e) = range_alike s q k x y p f (Some u) None low_open high_open
  element_numbers_at s q k x y p f (SubtypeElement-F.ValueRange (Some u) (Some v) low_open high_open e) = range_alike s q k x y p f (Some u) (Some v) low_open high_open
  element_numbers_at s q k x y p f _ = refl

  set_numbers_alike : (s q : Scope) → ScopesAlike s q → (x y : Parent) → ParentsAlike x y → (f : TagChange) (set : ElementOrSetOperation) → numbers_in_set N q y (rewritten_set (tagging f) set) ≡ numbers_in_set M s x set
  set_numbers_alike s q k x y p f set =
      ap (λ o. once None o (ranked number_sets (λ e. numbers_at_element N q y (out-SubtypeElement e)))) (a.chain f set)
      ∙ once_mapped (chain_kept f) None (M.chain set) _ _ (ranked_same number_sets _ _ f (λ e. ap (numbers_at_element N q y) (element_out f e) ∙ element_numbers_at s q k x y p f (out-SubtypeElement e)))

  narrowed_at_alike : (s q : Scope) → ScopesAlike s q → (p r : Place) → PlacesAlike p r → (f : TagChange) (n : Option Numbers) (l : ConstraintLayer) → narrowed_at N q r n (constraint_parts (tagging f) l) ≡ narrowed_at M s p n l
  narrowed_at_alike s q k p r h f n (Constraint-F.SubtypeConstraint x) = ap (lifted in_both n) (set_numbers_alike s q k (ValuesOf p n) (ValuesOf r n) (r, h, refl) f x.set)
  narrowed_at_alike s q k p r h f n _ = refl

  pub narrowed_alike : (s q : Scope) → ScopesAlike s q → (p r : Place) → PlacesAlike p r → (f : TagChange) (n : Option Numbers) (c : Constraint) → narrowed N q r n (tagged_constraint f c) ≡ narrowed M s p n c
  narrowed_alike s q k p r h f n c =
      ap (λ z. if z then n else narrowed_at N q r n (out-Constraint (tagged_constraint f c))) (free_alike p r h)
      ∙ ap (λ z. if is_free p then n else narrowed_at N q r n z) (constraint_out f c)
      ∙ ap (λ z. if is_free p then n else z) (narrowed_at_alike s q k p r h f n (out-Constraint c))

  pub narrowed_by_all_alike : (s q : Scope) → ScopesAlike s q → (p r : Place) → PlacesAlike p r → (f : TagChange) (n : Option Numbers) (cs : List Constraint) → narrowed_by_all N q r n (each_constraint f cs) ≡ narrowed_by_all M s p n cs
  narrowed_by_all_alike s q k p r h f n [] = refl
  narrowed_by_all_alike s q k p r h f n (c ∷ cs) =
      ap (λ z. narrowed_by_all N q r z (each_constraint f cs)) (narrowed_alike s q k p r h f n c) ∙ narrowed_by_all_alike s q k p r h f (narrowed M s p n c) cs

  module _ (defs others : Definitions) (seen : DifferInTags defs others) where
    from_lead_alike : (p q : Place) → PlacesAlike p q → (l m : Lead) → LeadsAlike l m → numbers_from_lead N q m ≡ numbers_from_lead M p l
    from_lead_alike p q k IsHead m e = ap (numbers_from_lead N q) e ∙ ap Some (ap numbers_at_head (kind_alike p q k) ∙ numbers_kept k.0 (kind_of p))
    from_lead_alike p q k (LeadsTo x) m (y, r, e) = ap (numbers_from_lead N q) e ∙ ap (λ z. N.numbers z.place z.constraints) r.3 ∙ a.numbers x.place r.0 r.1 r.2 x.constraints
    from_lead_alike p q k IsLost m e = ap (numbers_from_lead N q) e

    pub numbers_before_alike : (p q : Place) → PlacesAlike p q → numbers_before others N q ≡ numbers_before defs M p
    numbers_before_alike p q k = from_lead_alike p q k _ _ (lead_alike M N a defs others seen p q k)

-- a type's constraints and those of its place may have changes of their own: what holds of the first goes on with the second
pub constraints_alike : (p q : Place) (k : PlacesAlike p q) → listed (constraints_of q.ty) ≡ each_constraint k.0 (listed (constraints_of p.ty))
constraints_alike p q (f, s, c, e) = ap (λ z. listed (constraints_of z.ty)) e ∙ constraints_kept f p.ty
