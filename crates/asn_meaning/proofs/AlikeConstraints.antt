-- Whether constraints hold, where tags differ.
use Rattle.std.specs.Prelude.{is_none, is_some, not, pos, if◌then◌else◌}
use Rattle.std.specs.Option.{option_map}
use Rattle.std.specs.Str.{bytes_eq}
use Rattle.std.proofs.Common.{◌≡◌, ℕ, Bool, true, false, ◌&&◌, ◌||◌, List, [], ◌∷◌, map, Option, Some, None, refl, sym, subst, ap, ◌∙◌}
use Rattle.asn_tree.specs.Passes.{constraint_parts, element_parts, operation_parts, set_parts, rewritten_option, rewritten_set}
use Rattle.asn_tree_kinds.specs.declared.constraints.ComponentPresence.{ComponentPresence}
use Rattle.asn_tree_kinds.specs.declared.constraints.ComponentPresence.TheVariants.{Absent, Present, Optional, Unspecified}
use Rattle.asn_tree.specs.declared.constraints.Constraint.{Constraint, Constraint-F, out-Constraint}
use Rattle.asn_tree.specs.declared.constraints.ElementOrSetOperation.{ElementOrSetOperation, ElementOrSetOperation-F}
use Rattle.asn_tree.specs.declared.constraints.SetOperation.{out-SetOperation}
use Rattle.asn_tree.specs.declared.constraints.SubtypeElement.{SubtypeElement-F}
use Rattle.asn_tree.specs.declared.types.ChoiceOption.{ChoiceOption}
use Rattle.asn_tree.specs.declared.values.ASN1Value.{ASN1Value}
use Rattle.asn_meaning.specs.Answers.{Answer, Yes, No, Unknown, answer_of, both, each, once, unless_all, Denotation, Denoted, Nothing, Unsure}
use Rattle.asn_meaning.specs.Constraints.{all_hold, alphabet_holds, chain_at, chain_behind, choice_holds, compared, component_holds, constraint_at, constraint_holds, holds_at, inner_at, inner_holds, is_absent_word, is_choice_allowed, is_left_out, is_listed, listed_member_holds, listed_option_holds, member_holds, members_hold, must_be_present, number_asked, option_holds, part_holds, range_holds, set_holds, single_holds, size_holds, sizes, struct_holds}
use Rattle.asn_meaning.specs.Kinds.{Kind, ChoiceKind, ListKind, StructKind, kind_of}
use Rattle.asn_meaning.specs.Layers.{ConstraintLayer, ElementLayer, InnerLayer, ListedLayer, OptionLayer, SetLayer}
use Rattle.asn_meaning.specs.Meaning.{Meaning, Member, Parent, ValuesOf, CharactersOf}
use Rattle.asn_meaning.specs.Members.{element_in, element_place}
use Rattle.asn_meaning.specs.Numbers.{Numbers, answers, ranked}
use Rattle.asn_meaning.specs.Ranges.{codes_of, from_low, integer_named, is_free, narrowed, up_to_high, value_place}
use Rattle.asn_meaning.specs.Scopes.{Scope, Place}
use Rattle.asn_meaning.specs.Shapes.{list_judged}
use Rattle.asn_meaning.specs.Tags.{TagChange, BothAlike, PlacesAlike, ScopesAlike, tagged, tagged_constraint, tagged_value, tagging}
use Rattle.asn_meaning.specs.ValueTrees.{ValueTree, WholeNumber, Characters, Struct, Alternative, Fields, field_named, counted}
use Rattle.asn_meaning.proofs.Alike.{AllAlike, each_alike, kind_alike, once_alike, once_mapped, once_same, once_through, scope_alike}
use Rattle.asn_meaning.proofs.AlikeMembers.{AlikeKnown, MembersAlike, OptionLayersAlike, ParentsAlike, chain_kept, default_alike, list_judged_alike, member_place_alike, name_alike, named_alike, option_alike, option_place_alike, optional_alike}
use Rattle.asn_meaning.proofs.AlikeRanges.{codes_alike, free_alike, high_alike, integer_place, low_alike, narrowed_alike, ranked_same, value_place_alike}
use Rattle.asn_meaning.proofs.TagLayers.{constraint_out, each_constraint, kind_kept, operation_out}

-- ---- what is asked of a tree

compared_alike : (a b : Parent) → ParentsAlike a b → (t : ValueTree) (d : Denotation ValueTree) → compared b t d ≡ compared a t d
compared_alike (ValuesOf h n) b (g, r, e) t d = ap (λ z. compared z t d) e ∙ go d
  where
    go : (d : Denotation ValueTree) → compared (ValuesOf g n) t d ≡ compared (ValuesOf h n) t d
    go (Denoted u) = refl
    go Nothing = refl
    go Unsure = refl
compared_alike (CharactersOf codes) b e t d = ap (λ z. compared z t d) e

asked_alike : (a b : Parent) → ParentsAlike a b → (t : ValueTree) → number_asked b t ≡ number_asked a t
asked_alike (ValuesOf h n) b (g, r, e) t = ap (λ z. number_asked z t) e ∙ go t
  where
    go : (t : ValueTree) → number_asked (ValuesOf g n) t ≡ number_asked (ValuesOf h n) t
    go (WholeNumber i) = refl
    go _ = refl
asked_alike (CharactersOf codes) b e t = ap (λ z. number_asked z t) e

pub each_mapped : {A : Type 0} (s : A → A) (g h : A → Answer) → ((x : A) → h (s x) ≡ g x) → (xs : List A) → each h (map s xs) ≡ each g xs
each_mapped s g h k [] = refl
each_mapped s g h k (x ∷ xs) = ap (λ z. both z (each h (map s xs))) (k x) ∙ ap (both (g x)) (each_mapped s g h k xs)

abbrev pub listed_kept : TagChange → ListedLayer → ListedLayer
listed_kept f c = record c { constraints = each_constraint f c.constraints }

abbrev pub inner_kept : TagChange → InnerLayer → InnerLayer
inner_kept f x = record x { constraints = map (listed_kept f) x.constraints }

is_listed_kept : (f : TagChange) (cs : List ListedLayer) (name : List ℕ) → is_listed (map (listed_kept f) cs) name ≡ is_listed cs name
is_listed_kept f [] name = refl
is_listed_kept f (c ∷ cs) name = ap (λ z. bytes_eq c.identifier name || z) (is_listed_kept f cs name)

pub element_alike : (p q : Place) → PlacesAlike p q → BothAlike PlacesAlike (element_place p) (element_place q)
element_alike p q k = subst (λ z. BothAlike PlacesAlike (element_place p) (element_in q.scope z)) (sym (kind_alike p q k)) (go (kind_of p))
  where
    go : (z : Kind) → BothAlike PlacesAlike (element_in p.scope z) (element_in q.scope (kind_kept k.0 z))
    go (ListKind ty) = (record { scope = q.scope; ty = tagged k.0 ty }, (k.0, q.scope, scope_alike p q k, refl), refl)
    go (StructKind x) = refl
    go _ = refl

required_alike : (m n : Member) → MembersAlike m n → (is_partial : Bool) (p : ComponentPresence) → must_be_present is_partial p n ≡ must_be_present is_partial p m
required_alike m n r is_partial Present = refl
required_alike m n r is_partial Absent = refl
required_alike m n r is_partial Optional = refl
required_alike m n r is_partial Unspecified =
    ap (λ z. not is_partial && (z && is_none n.written.default_value)) (optional_alike m n r)
    ∙ ap (λ z. not is_partial && (m.written.is_optional && z)) (is_none_by n.written.default_value m.written.default_value (default_alike m n r))
  where
    is_none_by : (o u : Option ASN1Value) → is_some o ≡ is_some u → is_none o ≡ is_none u
    is_none_by None None e = refl
    is_none_by (Some v) (Some w) e = refl
    is_none_by None (Some w) e = absurd cc
    is_none_by (Some v) None e = absurd cc

module _ (M N : Meaning) (a : AlikeKnown M N) where
  pub chain_at_alike : (f : TagChange) (l : SetLayer) → chain_at N (set_parts (tagging f) l) ≡ option_map (chain_kept f) (chain_at M l)
  chain_at_alike f (ElementOrSetOperation-F.Element e) = refl
  chain_at_alike f (ElementOrSetOperation-F.SetOperation x) =
      ap (λ z. once None (N.chain z.operant) (λ c. Some (chain_behind z c))) (operation_out f x)
      ∙ ap (λ o. once None o (λ c. Some (chain_behind (operation_parts (tagging f) (out-SetOperation x)) c))) (a.chain f (out-SetOperation x).operant)
      ∙ once_through (chain_kept f) (chain_kept f) (M.chain (out-SetOperation x).operant) _ _ (λ c. refl)

  set_alike : (s q : Scope) → ScopesAlike s q → (x y : Parent) → ParentsAlike x y → (f : TagChange) (set : ElementOrSetOperation) (t : ValueTree) → set_holds N q y (rewritten_set (tagging f) set) t ≡ set_holds M s x set t
  set_alike s q k x y p f set t =
      ap (λ o. once Unknown o (ranked answers (λ e. N.holds q y e t))) (a.chain f set)
      ∙ once_mapped (chain_kept f) Unknown (M.chain set) _ _ (ranked_same answers _ _ f (λ e. a.holds s q k x y p f e t))

  constraint_at_alike : (s q : Scope) → ScopesAlike s q → (x y : Parent) → ParentsAlike x y → (f : TagChange) (t : ValueTree) (l : ConstraintLayer) → constraint_at N q y t (constraint_parts (tagging f) l) ≡ constraint_at M s x t l
  constraint_at_alike s q k x y p f t (Constraint-F.SubtypeConstraint z) = set_alike s q k x y p f z.set t
  constraint_at_alike s q k x y p f t _ = refl

  constraint_alike : (s q : Scope) → ScopesAlike s q → (p r : Place) → PlacesAlike p r → (f : TagChange) (n : Option Numbers) (c : Constraint) (t : ValueTree) → constraint_holds N q r n (tagged_constraint f c) t ≡ constraint_holds M s p n c t
  constraint_alike s q k p r h f n c t =
      ap (λ z. if z then Yes else constraint_at N q (ValuesOf r n) t (out-Constraint (tagged_constraint f c))) (free_alike p r h)
      ∙ ap (λ z. if is_free p then Yes else constraint_at N q (ValuesOf r n) t z) (constraint_out f c)
      ∙ ap (λ z. if is_free p then Yes else z) (constraint_at_alike s q k (ValuesOf p n) (ValuesOf r n) (r, h, refl) f t (out-Constraint c))

  pub all_hold_alike : (s q : Scope) → ScopesAlike s q → (p r : Place) → PlacesAlike p r → (f : TagChange) (n : Option Numbers) (cs : List Constraint) (t : ValueTree) → all_hold N q r n (each_constraint f cs) t ≡ all_hold M s p n cs t
  all_hold_alike s q k p r h f n [] t = refl
  all_hold_alike s q k p r h f n (c ∷ cs) t =
      ap (λ z. both z (all_hold N q r (narrowed N q r n (tagged_constraint f c)) (each_constraint f cs) t)) (constraint_alike s q k p r h f n c t)
      ∙ ap (λ z. both (constraint_holds M s p n c t) (all_hold N q r z (each_constraint f cs) t)) (narrowed_alike M N a s q k p r h f n c)
      ∙ ap (both (constraint_holds M s p n c t)) (all_hold_alike s q k p r h f (narrowed M s p n c) cs t)

  part_alike : (s q : Scope) → ScopesAlike s q → (p r : Place) → PlacesAlike p r → (f : TagChange) (cs : List Constraint) (t : ValueTree) → part_holds N q r (each_constraint f cs) t ≡ part_holds M s p cs t
  part_alike s q k p r h f cs t =
      once_alike PlacesAlike Unknown _ _ (λ head. all_hold M s head (M.numbers p []) cs t) (λ head. all_hold N q head (N.numbers r []) (each_constraint f cs) t) (a.head p r h)
      (λ x y e. ap (λ z. all_hold N q y z (each_constraint f cs) t) (a.numbers p r h f []) ∙ all_hold_alike s q k x y e f (M.numbers p []) cs t)

  single_alike : (s q : Scope) → ScopesAlike s q → (x y : Parent) → ParentsAlike x y → (f : TagChange) (v : ASN1Value) (t : ValueTree) → single_holds N q y (tagged_value f v) t ≡ single_holds M s x v t
  single_alike s q k x y p f v t =
      ap (λ z. unless_all Yes Unknown z (compared y t (N.denotes q (tagged_value f v) (value_place y)))) (a.is_all s q k f v _ _ (value_place_alike x y p))
      ∙ ap (λ z. unless_all Yes Unknown (M.is_all s v (value_place x)) (compared y t z)) (a.denotes s q k f v _ _ (value_place_alike x y p))
      ∙ ap (unless_all Yes Unknown (M.is_all s v (value_place x))) (compared_alike x y p t (M.denotes s v (value_place x)))

  range_by : (s q : Scope) → ScopesAlike s q → (x y : Parent) → ParentsAlike x y → (f : TagChange) (low high : Option ASN1Value) (low_open high_open : Bool) (t : ValueTree) →
      range_holds (from_low N q y low_open (option_map (tagged_value f) low)) (up_to_high N q y high_open (option_map (tagged_value f) high)) (number_asked y t) ≡ range_holds (from_low M s x low_open low) (up_to_high M s x high_open high) (number_asked x t)
  range_by s q k x y p f low high low_open high_open t =
      ap (λ z. range_holds z (up_to_high N q y high_open (option_map (tagged_value f) high)) (number_asked y t)) (low_alike M N a s q k x y p f low_open low)
      ∙ ap (λ z. range_holds (from_low M s x low_open low) z (number_asked y t)) (high_alike M N a s q k x y p f high_open high)
      ∙ ap (range_holds (from_low M s x low_open low) (up_to_high M s x high_open high)) (asked_alike x y p t)

  size_alike : (s q : Scope) → ScopesAlike s q → (f : TagChange) (set : ElementOrSetOperation) (t : ValueTree) → size_holds N q (rewritten_set (tagging f) set) t ≡ size_holds M s set t
  size_alike s q k f set t = once_same No (counted t) _ _ (λ n. set_alike s q k sizes sizes (integer_named None, integer_place None, refl) f set (WholeNumber (pos n)))

  alphabet_alike : (s q : Scope) → ScopesAlike s q → (x y : Parent) → ParentsAlike x y → (f : TagChange) (set : ElementOrSetOperation) (t : ValueTree) → alphabet_holds N q y (rewritten_set (tagging f) set) t ≡ alphabet_holds M s x set t
  alphabet_alike s q k x y p f set (Characters cs) =
      ap (λ z. each (λ c. set_holds N q (CharactersOf z) (rewritten_set (tagging f) set) (Characters (c ∷ []))) cs) (codes_alike x y p) ∙ go cs
    where
      go : (cs : List ℕ) → each (λ c. set_holds N q (CharactersOf (codes_of x)) (rewritten_set (tagging f) set) (Characters (c ∷ []))) cs ≡ each (λ c. set_holds M s (CharactersOf (codes_of x)) set (Characters (c ∷ []))) cs
      go [] = refl
      go (c ∷ cs) =
          ap (λ z. both z (each (λ c. set_holds N q (CharactersOf (codes_of x)) (rewritten_set (tagging f) set) (Characters (c ∷ []))) cs)) (set_alike s q k (CharactersOf (codes_of x)) (CharactersOf (codes_of x)) refl f set (Characters (c ∷ [])))
          ∙ ap (both (set_holds M s (CharactersOf (codes_of x)) set (Characters (c ∷ [])))) (go cs)
  alphabet_alike s q k x y p f set _ = refl

  component_alike : (s q : Scope) → ScopesAlike s q → (x y : Parent) → ParentsAlike x y → (f : TagChange) (cs : List Constraint) (t : ValueTree) → component_holds N q y (each_constraint f cs) t ≡ component_holds M s x cs t
  component_alike s q k (ValuesOf h n) y (g, r, e) f cs t =
      ap (λ z. component_holds N q z (each_constraint f cs) t) e
      ∙ once_alike PlacesAlike No _ _ (λ p. list_judged (part_holds M s p cs) t) (λ p. list_judged (part_holds N q p (each_constraint f cs)) t) (element_alike h g r) (λ p u c. list_judged_alike _ _ (λ w. part_alike s q k p u c f cs w) t)
  component_alike s q k (CharactersOf codes) y e f cs t = ap (λ z. component_holds N q z (each_constraint f cs) t) e

  -- ---- WITH COMPONENTS

  option_holds_alike : (s q : Scope) → ScopesAlike s q → (f : TagChange) (inside outside : Scope) → ScopesAlike inside outside → (g : TagChange) (chosen : Bool) (t : ValueTree) (c : ListedLayer) (o u : OptionLayer) → OptionLayersAlike g o u →
      option_holds N q outside chosen t (listed_kept f c) u ≡ option_holds M s inside chosen t c o
  option_holds_alike s q k f inside outside i g true t c o u e = ap (both (answer_of (is_choice_allowed c.presence true))) (part_alike s q k _ _ (option_place_alike inside outside i g o u e) f c.constraints t)
  option_holds_alike s q k f inside outside i g false t c o u e = refl

  choice_holds_alike : (s q : Scope) → ScopesAlike s q → (f : TagChange) (inside outside : Scope) → ScopesAlike inside outside → (g : TagChange) (options : List ChoiceOption) (inner : InnerLayer) (t : ValueTree) →
      choice_holds N q outside (map (rewritten_option (tagging g)) options) (inner_kept f inner) t ≡ choice_holds M s inside options inner t
  choice_holds_alike s q k f inside outside i g options inner (Alternative name t) =
      ap (λ z. both z (answer_of (inner.is_partial || is_listed (map (listed_kept f) inner.constraints) name)))
      (each_mapped (listed_kept f) (listed_option_holds M s inside options name t) (listed_option_holds N q outside (map (rewritten_option (tagging g)) options) name t)
      (λ c. once_alike (OptionLayersAlike g) Unknown _ _ _ _ (option_alike g options c.identifier) (option_holds_alike s q k f inside outside i g (bytes_eq name c.identifier) t c)) inner.constraints)
      ∙ ap (λ z. both (each (listed_option_holds M s inside options name t) inner.constraints) (answer_of (inner.is_partial || z))) (is_listed_kept f inner.constraints name)
  choice_holds_alike s q k f inside outside i g options inner _ = refl

  member_holds_alike : (s q : Scope) → ScopesAlike s q → (f : TagChange) (is_partial : Bool) (c : ListedLayer) (t : Option ValueTree) (m n : Member) → MembersAlike m n →
      member_holds N q is_partial (listed_kept f c) t n ≡ member_holds M s is_partial c t m
  member_holds_alike s q k f is_partial c None m n r = ap (λ z. answer_of (not z)) (required_alike m n r is_partial c.presence)
  member_holds_alike s q k f is_partial c (Some t) m n r = ap (both (answer_of (not (is_absent_word c.presence)))) (part_alike s q k _ _ (member_place_alike m n r) f c.constraints t)

  left_out_alike : (f : TagChange) (inner : InnerLayer) (fs : Fields) (m n : Member) → MembersAlike m n → is_left_out (inner_kept f inner) fs n ≡ is_left_out inner fs m
  left_out_alike f inner fs m n r =
      ap (λ z. inner.is_partial || (z || (not (n.written.is_optional || is_some n.written.default_value) || is_none (field_named fs n.written.name)))) (is_listed_kept f inner.constraints n.written.name)
      ∙ ap (λ z. inner.is_partial || (is_listed inner.constraints z || (not (n.written.is_optional || is_some n.written.default_value) || is_none (field_named fs z)))) (name_alike m n r)
      ∙ ap (λ z. inner.is_partial || (is_listed inner.constraints m.written.name || (not (z || is_some n.written.default_value) || is_none (field_named fs m.written.name)))) (optional_alike m n r)
      ∙ ap (λ z. inner.is_partial || (is_listed inner.constraints m.written.name || (not (m.written.is_optional || z) || is_none (field_named fs m.written.name)))) (default_alike m n r)

  struct_holds_alike : (s q : Scope) → ScopesAlike s q → (f : TagChange) (x y : Option (List Member)) → BothAlike (AllAlike MembersAlike) x y → (inner : InnerLayer) (t : ValueTree) → struct_holds N q y (inner_kept f inner) t ≡ struct_holds M s x inner t
  struct_holds_alike s q k f x y p inner (Struct fs) =
      once_alike (AllAlike MembersAlike) Unknown x y (members_hold M s inner fs) (members_hold N q (inner_kept f inner) fs) p (λ ms ns e.
      ap (λ z. both z (each (λ m. answer_of (is_left_out (inner_kept f inner) fs m)) ns))
      (each_mapped (listed_kept f) (listed_member_holds M s inner.is_partial ms fs) (listed_member_holds N q inner.is_partial ns fs)
      (λ c. once_alike MembersAlike Unknown _ _ _ _ (named_alike c.identifier ms ns e) (member_holds_alike s q k f inner.is_partial c (field_named fs c.identifier))) inner.constraints)
      ∙ ap (both (each (listed_member_holds M s inner.is_partial ms fs) inner.constraints)) (each_alike MembersAlike _ _ (λ m n r. ap answer_of (left_out_alike f inner fs m n r)) ms ns e))
  struct_holds_alike s q k f x y p inner _ = refl

  inner_at_alike : (s q : Scope) → ScopesAlike s q → (f : TagChange) (inner : InnerLayer) (t : ValueTree) (inside outside : Scope) → ScopesAlike inside outside → (g : TagChange) (z : Kind) →
      inner_at N q (inner_kept f inner) t outside (kind_kept g z) ≡ inner_at M s inner t inside z
  inner_at_alike s q k f inner t inside outside i g (StructKind x) = struct_holds_alike s q k f _ _ (a.members inside outside i g x) inner t
  inner_at_alike s q k f inner t inside outside i g (ChoiceKind options) = choice_holds_alike s q k f inside outside i g options inner t
  inner_at_alike s q k f inner t inside outside i g _ = refl

  inner_alike : (s q : Scope) → ScopesAlike s q → (x y : Parent) → ParentsAlike x y → (f : TagChange) (inner : InnerLayer) (t : ValueTree) → inner_holds N q y (inner_kept f inner) t ≡ inner_holds M s x inner t
  inner_alike s q k (ValuesOf h n) y (g, r, e) f inner t =
      ap (λ z. inner_holds N q z (inner_kept f inner) t) e
      ∙ ap (inner_at N q (inner_kept f inner) t g.scope) (kind_alike h g r)
      ∙ inner_at_alike s q k f inner t h.scope g.scope (scope_alike h g r) r.0 (kind_of h)
  inner_alike s q k (CharactersOf codes) y e f inner t = ap (λ z. inner_holds N q z (inner_kept f inner) t) e

  -- ---- elements

  pub holds_at_alike : (s q : Scope) → ScopesAlike s q → (x y : Parent) → ParentsAlike x y → (f : TagChange) (t : ValueTree) (l : ElementLayer) → holds_at N q y t (element_parts (tagging f) l) ≡ holds_at M s x t l
  holds_at_alike s q k x y p f t (SubtypeElement-F.SingleValue v e) = single_alike s q k x y p f v t
  holds_at_alike s q k x y p f t (SubtypeElement-F.ContainedSubtype ty e) = a.accepts _ _ (f, q, k, refl) f [] t
  holds_at_alike s q k x y p f t (SubtypeElement-F.ValueRange None None low_open high_open e) = range_by s q k x y p f None None low_open high_open t
  holds_at_alike s q k x y p f t (SubtypeElement-F.ValueRange None (Some v) low_open high_open e) = range_by s q k x y p f None (Some v) low_open high_open t
  holds_at_alike s q k x y p f t (SubtypeElement-F.ValueRange (Some u) None low_open high_open e) = range_by s q k x y p f (Some u) None low_open high_open t
  holds_at_alike s q k x y p f t (SubtypeElement-F.ValueRange (Some u) (Some v) low_open high_open e) = range_by s q k x y p f (Some u) (Some v) low_open high_open t
  holds_at_alike s q k x y p f t (SubtypeElement-F.PermittedAlphabet set) = alphabet_alike s q k x y p f set t
  holds_at_alike s q k x y p f t (SubtypeElement-F.SizeConstraint set) = size_alike s q k f set t
  holds_at_alike s q k x y p f t (SubtypeElement-F.TypeConstraint ty) = a.accepts _ _ (f, q, k, refl) f [] t
  holds_at_alike s q k x y p f t (SubtypeElement-F.SingleTypeConstraint cs) = component_alike s q k x y p f cs t
  holds_at_alike s q k x y p f t (SubtypeElement-F.MultipleTypeConstraints inner) = inner_alike s q k x y p f inner t
  holds_at_alike s q k x y p f t (SubtypeElement-F.PatternConstraint e) = refl
  holds_at_alike s q k x y p f t (SubtypeElement-F.UserDefinedConstraint e) = refl
  holds_at_alike s q k x y p f t (SubtypeElement-F.PropertySettings e) = refl
