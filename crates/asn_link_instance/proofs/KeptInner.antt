-- WITH COMPONENTS is kept.
use Rattle.std.proofs.Common.{Bool, List, None, Option, Some, [], ap, false, inl, not, refl, subst, sym, true, ℕ, ◌&&◌, ◌+◌, ◌||◌, ◌∙◌, ◌∷◌, ◌≡◌}
use Rattle.std.specs.Prelude.{cond, is_none, is_some}
use Rattle.std.specs.Str.{bytes_eq}
use Rattle.asn_tree_kinds.specs.declared.constraints.ComponentPresence.{ComponentPresence}
use Rattle.asn_tree_kinds.specs.declared.constraints.ComponentPresence.TheVariants.{Absent, Optional, Present, Unspecified}
use Rattle.asn_tree.specs.declared.constraints.Constraint.{Constraint}
use Rattle.asn_tree.specs.declared.types.ChoiceOption.{ChoiceOption}
use Rattle.asn_tree.specs.declared.values.ASN1Value.{ASN1Value}
use Rattle.asn_meaning.specs.Answers.{Answer, No, Unknown, Yes, answer_of, each, once}
use Rattle.asn_meaning.specs.Constraints.{choice_holds, inner_at, is_absent_word, is_choice_allowed, is_left_out, is_listed, listed_member_holds, listed_option_holds, member_holds, members_hold, must_be_present, option_holds, part_holds, struct_holds}
use Rattle.asn_meaning.specs.Definitions.{Definitions}
use Rattle.asn_meaning.specs.Judge.{meaning}
use Rattle.asn_meaning.specs.Kinds.{ChoiceKind, FieldKind, Kind, ListKind, StructKind, kind_of}
use Rattle.asn_meaning.specs.Layers.{InnerLayer, ListedLayer, OptionLayer, StructLayer}
use Rattle.asn_meaning.specs.Meaning.{Meaning, Member}
use Rattle.asn_meaning.specs.Members.{member_named, member_place}
use Rattle.asn_meaning.specs.Names.{option_named}
use Rattle.asn_meaning.specs.Scopes.{Empty, Place, Scope}
use Rattle.asn_meaning.specs.Shapes.{option_place}
use Rattle.asn_meaning.specs.ValueTrees.{Alternative, Fields, Struct, ValueTree, field_named}
use Rattle.asn_link_instance.specs.Heads.{Alike, Before, constraints_made}
use Rattle.asn_link_instance.specs.Instance.{instance, listed_instance, part_named}
use Rattle.asn_link_instance.specs.Subjects.{Choices, traversed}
use Rattle.asn_link_instance.specs.Ways.{Refined, Way}
use Rattle.asn_link_instance.proofs.Below.{Below, Constrained, floor_before}
use Rattle.asn_link_instance.proofs.Holding.{Holds, once_holds, some_same, then_holds}
use Rattle.asn_link_instance.proofs.KeptConstraints.{placed_kept}
use Rattle.asn_link_instance.proofs.KeptParts.{KindKept, MemberKept, MembersKept, OptionKept, Stands, kinds_kept, stands_head, stands_numbers}
use Rattle.asn_link_instance.proofs.Pairs.{Matched, Paired, both_refined, equal_refined, if_refined, matched_found, matched_refined, paired_found, paired_refined, same_refined}

module _ (C : Choices) (defs : Definitions) where
  -- ---- components, and what is made of them, of a head of this kind that is read in `hs`

  pub record ListedMade (floor i : ℕ) (scope hs : Scope) (kind : Kind) (c d : ListedLayer) : Type 0 where
    pub identifier : d.identifier ≡ c.identifier
    pub presence : d.presence ≡ c.presence
    pub part : Place
    pub part_is : part_named C defs (meaning defs floor) (instance C defs floor i) hs c.identifier kind ≡ Some part
    pub constraints_are : constraints_made C defs floor i scope part c.constraints ≡ Some d.constraints

  abbrev pub AllMade : ℕ → ℕ → Scope → Scope → Kind → List ListedLayer → List ListedLayer → Type 0
  AllMade floor i scope hs kind [] [] = Unit {0}
  AllMade floor i scope hs kind (c ∷ cs) (d ∷ ds) = ListedMade floor i scope hs kind c d × AllMade floor i scope hs kind cs ds
  AllMade floor i scope hs kind _ _ = ⊥

  pub listed_made : (floor i : ℕ) (scope : Scope) (h : Place) (cs : List ListedLayer) → Holds (traversed (listed_instance C defs (meaning defs floor) (instance C defs floor i) scope h) cs) (AllMade floor i scope h.scope (kind_of h) cs)
  listed_made floor i scope h [] = tt
  listed_made floor i scope h (c ∷ cs) =
      then_holds (listed_instance C defs (meaning defs floor) (instance C defs floor i) scope h c) _ (ListedMade floor i scope h.scope (kind_of h) c) _
      (once_holds (part_named C defs (meaning defs floor) (instance C defs floor i) h.scope c.identifier (kind_of h)) _ _ (λ p e. once_holds (constraints_made C defs floor i scope p c.constraints) _ _ (λ ds f.
      record { identifier = refl; presence = refl; part = p; part_is = e; constraints_are = f }))) (λ d u m.
      then_holds (traversed (listed_instance C defs (meaning defs floor) (instance C defs floor i) scope h) cs) _ (AllMade floor i scope h.scope (kind_of h) cs) _ (listed_made floor i scope h cs) (λ ds v ms. (m, ms)))

  listed_same : (floor i : ℕ) (scope hs : Scope) (kind : Kind) (cs ds : List ListedLayer) (name : List ℕ) → AllMade floor i scope hs kind cs ds → is_listed ds name ≡ is_listed cs name
  listed_same floor i scope hs kind [] [] name m = refl
  listed_same floor i scope hs kind [] (d ∷ ds) name m = absurd m
  listed_same floor i scope hs kind (c ∷ cs) [] name m = absurd m
  listed_same floor i scope hs kind (c ∷ cs) (d ∷ ds) name (m, ms) = ap (λ z. bytes_eq z name || is_listed ds name) m.identifier ∙ ap (λ z. bytes_eq c.identifier name || z) (listed_same floor i scope hs kind cs ds name ms)

  each_made : (way : Way) (floor i : ℕ) (scope hs : Scope) (kind : Kind) (f g : ListedLayer → Answer) → ((c d : ListedLayer) → ListedMade floor i scope hs kind c d → Refined way (f c) (g d)) → (cs ds : List ListedLayer) → AllMade floor i scope hs kind cs ds → Refined way (each f cs) (each g ds)
  each_made way floor i scope hs kind f g r [] [] m = same_refined way Yes
  each_made way floor i scope hs kind f g r [] (d ∷ ds) m = absurd m
  each_made way floor i scope hs kind f g r (c ∷ cs) [] m = absurd m
  each_made way floor i scope hs kind f g r (c ∷ cs) (d ∷ ds) (m, ms) = both_refined way _ _ _ _ (r c d m) (each_made way floor i scope hs kind f g r cs ds ms)

none_same : (x y : Option ASN1Value) → is_some y ≡ is_some x → is_none y ≡ is_none x
none_same None None e = refl
none_same (Some x) (Some y) e = refl
none_same None (Some y) e = absurd cc
none_same (Some x) None e = absurd cc

nothing_some : {A : Type 0} (x : A) → None ≡ Some x → ⊥
nothing_some x e = cc

module _ (C : Choices) (defs others : Definitions) (j : ℕ) (way : Way) (M L : Meaning) (b : Below C defs others j way M L) where
  pub part_kept : (scope : Scope) (p q : Place) (cs ds : List Constraint) (t : ValueTree) → Stands C defs others j p q → Constrained C defs j scope p cs ds → Refined way (part_holds M scope p cs t) (part_holds L Empty q ds t)
  part_kept scope p q cs ds t s c = placed_kept C defs others j way M L b scope p q cs ds (M.numbers p []) (L.numbers q []) t (stands_head C defs others j way M L b p q s) c (stands_numbers C defs others j way M L b p q s)

  module _ (floor i : ℕ) (n : Before C defs j (floor + i)) (scope hs ks : Scope) where
    -- ---- alternatives

    module _ (os ps : List ChoiceOption) (kept : (name : List ℕ) → Matched (λ o p. OptionKept C defs others j way M L hs ks o p) (option_named os name) (option_named ps name)) (name : List ℕ) (t : ValueTree) where
      option_made : (c d : ListedLayer) → ListedMade C defs floor i scope hs (ChoiceKind os) c d → (o p : OptionLayer) → option_named os c.identifier ≡ Some o → OptionKept C defs others j way M L hs ks o p →
          Refined way (option_holds M scope hs (bytes_eq name c.identifier) t c o) (option_holds L Empty ks (bytes_eq name d.identifier) t d p)
      option_made c d m o p e k =
          let same : option_place hs o ≡ m.part = some_same _ _ (sym (ap (λ z. once None z (λ o. Some (option_place hs o))) e) ∙ m.part_is) in
          both_refined way _ _ _ _
          (equal_refined way _ _ (ap (λ z. answer_of (is_choice_allowed z (bytes_eq name d.identifier))) m.presence ∙ ap (λ z. answer_of (is_choice_allowed c.presence (bytes_eq name z))) m.identifier))
          (if_refined way (bytes_eq name c.identifier) (bytes_eq name d.identifier) _ _ Yes Yes (ap (bytes_eq name) m.identifier)
          (part_kept scope (option_place hs o) (option_place ks p) c.constraints d.constraints t k.stands (inl (floor, i, n, subst (λ z. constraints_made C defs floor i scope z c.constraints ≡ Some d.constraints) (sym same) m.constraints_are)))
          (same_refined way Yes))

      listed_option : (c d : ListedLayer) → ListedMade C defs floor i scope hs (ChoiceKind os) c d → Refined way (listed_option_holds M scope hs os name t c) (listed_option_holds L Empty ks ps name t d)
      listed_option c d m =
          subst (λ z. Refined way (listed_option_holds M scope hs os name t c) (once Unknown (option_named ps z) (option_holds L Empty ks (bytes_eq name d.identifier) t d))) (sym m.identifier)
          (matched_refined way Unknown (λ o p. (option_named os c.identifier ≡ Some o) × OptionKept C defs others j way M L hs ks o p) (option_named os c.identifier) (option_named ps c.identifier) (option_holds M scope hs (bytes_eq name c.identifier) t c) (option_holds L Empty ks (bytes_eq name d.identifier) t d)
          (matched_found (λ o p. OptionKept C defs others j way M L hs ks o p) (option_named os c.identifier) (option_named ps c.identifier) (kept c.identifier)) (λ o p q. option_made c d m o p q.0 q.1))

    choice_kept : (os ps : List ChoiceOption) → ((name : List ℕ) → Matched (λ o p. OptionKept C defs others j way M L hs ks o p) (option_named os name) (option_named ps name)) → (inner : InnerLayer) (ds : List ListedLayer) → AllMade C defs floor i scope hs (ChoiceKind os) inner.constraints ds → (t : ValueTree) →
        Refined way (choice_holds M scope hs os inner t) (choice_holds L Empty ks ps (record inner { constraints = ds }) t)
    choice_kept os ps kept inner ds m (Alternative name t) =
        both_refined way _ _ _ _ (each_made C defs way floor i scope hs (ChoiceKind os) (listed_option_holds M scope hs os name t) (listed_option_holds L Empty ks ps name t) (listed_option os ps kept name t) inner.constraints ds m)
        (equal_refined way _ _ (ap (λ z. answer_of (inner.is_partial || z)) (listed_same C defs floor i scope hs (ChoiceKind os) inner.constraints ds name m)))
    choice_kept os ps kept inner ds m _ = same_refined way No

    -- ---- members

    abbrev BothNamed : Option Member → Option Member → Type 0
    BothNamed c d = Matched (λ m w. MemberKept C defs others j way M L m w) c d

    cond_named : (c d : Bool) (x u y v : Option Member) → d ≡ c → BothNamed x y → BothNamed u v → BothNamed (cond c x u) (cond d y v)
    cond_named c d x u y v e p q = subst (λ z. BothNamed (cond c x u) (cond z y v)) (sym e) (at c)
      where
        at : (c : Bool) → BothNamed (cond c x u) (cond c y v)
        at true = p
        at false = q

    pub named_both : (ms ws : List Member) (name : List ℕ) → MembersKept C defs others j way M L ms ws → BothNamed (member_named ms name) (member_named ws name)
    named_both [] [] name p = refl
    named_both [] (w ∷ ws) name p = absurd p
    named_both (m ∷ ms) [] name p = absurd p
    named_both (m ∷ ms) (w ∷ ws) name (p, q) =
        cond_named (bytes_eq m.written.name name) (bytes_eq w.written.name name) (Some m) (member_named ms name) (Some w) (member_named ws name) (ap (λ z. bytes_eq z name) p.name) (w, refl, p) (named_both ms ws name q)

    present_same : (is_partial : Bool) (w : ComponentPresence) (m u : Member) → MemberKept C defs others j way M L m u → must_be_present is_partial w u ≡ must_be_present is_partial w m
    present_same is_partial Present m u p = refl
    present_same is_partial Absent m u p = refl
    present_same is_partial Optional m u p = refl
    present_same is_partial Unspecified m u p =
        ap (λ z. not is_partial && (z && is_none u.written.default_value)) p.optional ∙ ap (λ z. not is_partial && (m.written.is_optional && z)) (none_same m.written.default_value u.written.default_value p.default)

    module _ (x : StructLayer) (ms ws : List Member) (known : M.members hs x ≡ Some ms) (kept : MembersKept C defs others j way M L ms ws) (is_partial : Bool) (fs : Fields) where
      same_part : (c d : ListedLayer) (m : ListedMade C defs floor i scope hs (StructKind x) c d) (u : Member) → member_named ms c.identifier ≡ Some u → member_place u ≡ m.part
      same_part c d m u e = at ((meaning defs floor).members hs x) refl
        where
          at : (o : Option (List Member)) → (meaning defs floor).members hs x ≡ o → member_place u ≡ m.part
          at None f = absurd (nothing_some m.part (sym (ap (λ z. once None z (λ ms. once None (member_named ms c.identifier) (λ m. Some (member_place m)))) f) ∙ m.part_is))
          at (Some ns) f =
              let same : ns ≡ ms = b.same_members floor (floor_before C defs j floor i n) hs x ns ms f known in
              some_same _ _ (sym (ap (λ z. once None (member_named z c.identifier) (λ m. Some (member_place m))) same ∙ ap (λ z. once None z (λ m. Some (member_place m))) e)
              ∙ sym (ap (λ z. once None z (λ ms. once None (member_named ms c.identifier) (λ m. Some (member_place m)))) f) ∙ m.part_is)

      present_kept : (c d : ListedLayer) (m : ListedMade C defs floor i scope hs (StructKind x) c d) (u w : Member) → member_named ms c.identifier ≡ Some u → MemberKept C defs others j way M L u w → (t : Option ValueTree) → Refined way (member_holds M scope is_partial c t u) (member_holds L Empty is_partial d t w)
      present_kept c d m u w e p None =
          equal_refined way _ _ (ap (λ z. answer_of (not (must_be_present is_partial z w))) m.presence ∙ ap (λ z. answer_of (not z)) (present_same is_partial c.presence u w p))
      present_kept c d m u w e p (Some t) =
          both_refined way _ _ _ _ (equal_refined way _ _ (ap (λ z. answer_of (not (is_absent_word z))) m.presence))
          (part_kept scope (member_place u) (member_place w) c.constraints d.constraints t p.stands (inl (floor, i, n, subst (λ z. constraints_made C defs floor i scope z c.constraints ≡ Some d.constraints) (sym (same_part c d m u e)) m.constraints_are)))

      listed_member : (c d : ListedLayer) → ListedMade C defs floor i scope hs (StructKind x) c d → Refined way (listed_member_holds M scope is_partial ms fs c) (listed_member_holds L Empty is_partial ws fs d)
      listed_member c d m =
          subst (λ z. Refined way (listed_member_holds M scope is_partial ms fs c) (once Unknown (member_named ws z) (member_holds L Empty is_partial d (field_named fs z)))) (sym m.identifier)
          (matched_refined way Unknown (λ u w. (member_named ms c.identifier ≡ Some u) × MemberKept C defs others j way M L u w) (member_named ms c.identifier) (member_named ws c.identifier) (member_holds M scope is_partial c (field_named fs c.identifier)) (member_holds L Empty is_partial d (field_named fs c.identifier))
          (matched_found (λ m w. MemberKept C defs others j way M L m w) (member_named ms c.identifier) (member_named ws c.identifier) (named_both ms ws c.identifier kept)) (λ u w q. present_kept c d m u w q.0 q.1 (field_named fs c.identifier)))

    left_same : (kind : Kind) (inner : InnerLayer) (ds : List ListedLayer) → AllMade C defs floor i scope hs kind inner.constraints ds → (fs : Fields) (m w : Member) → MemberKept C defs others j way M L m w → is_left_out (record inner { constraints = ds }) fs w ≡ is_left_out inner fs m
    left_same kind inner ds made fs m w p =
        ap (λ z. inner.is_partial || (is_listed ds z || (not (w.written.is_optional || is_some w.written.default_value) || is_none (field_named fs z)))) p.name
        ∙ ap (λ z. inner.is_partial || (z || (not (w.written.is_optional || is_some w.written.default_value) || is_none (field_named fs m.written.name)))) (listed_same C defs floor i scope hs kind inner.constraints ds m.written.name made)
        ∙ ap (λ z. inner.is_partial || (is_listed inner.constraints m.written.name || (not (z || is_some w.written.default_value) || is_none (field_named fs m.written.name)))) p.optional
        ∙ ap (λ z. inner.is_partial || (is_listed inner.constraints m.written.name || (not (m.written.is_optional || z) || is_none (field_named fs m.written.name)))) p.default

    left_kept : (kind : Kind) (inner : InnerLayer) (ds : List ListedLayer) → AllMade C defs floor i scope hs kind inner.constraints ds → (fs : Fields) (ms ws : List Member) → MembersKept C defs others j way M L ms ws →
        Refined way (each (λ m. answer_of (is_left_out inner fs m)) ms) (each (λ m. answer_of (is_left_out (record inner { constraints = ds }) fs m)) ws)
    left_kept kind inner ds made fs [] [] p = same_refined way Yes
    left_kept kind inner ds made fs [] (w ∷ ws) p = absurd p
    left_kept kind inner ds made fs (m ∷ ms) [] p = absurd p
    left_kept kind inner ds made fs (m ∷ ms) (w ∷ ws) (p, q) =
        both_refined way _ _ _ _ (equal_refined way _ _ (ap answer_of (left_same kind inner ds made fs m w p))) (left_kept kind inner ds made fs ms ws q)

    struct_kept : (x y : StructLayer) → Paired way (λ ms ns. MembersKept C defs others j way M L ms ns) (M.members hs x) (L.members ks y) → (inner : InnerLayer) (ds : List ListedLayer) → AllMade C defs floor i scope hs (StructKind x) inner.constraints ds → (t : ValueTree) →
        Refined way (struct_holds M scope (M.members hs x) inner t) (struct_holds L Empty (L.members ks y) (record inner { constraints = ds }) t)
    struct_kept x y p inner ds made (Struct fs) =
        paired_refined way (λ ms ws. (M.members hs x ≡ Some ms) × (L.members ks y ≡ Some ws) × MembersKept C defs others j way M L ms ws) (M.members hs x) (L.members ks y) (members_hold M scope inner fs) (members_hold L Empty (record inner { constraints = ds }) fs)
        (paired_found way (λ ms ns. MembersKept C defs others j way M L ms ns) (M.members hs x) (L.members ks y) p) (λ ms ws q.
        both_refined way _ _ _ _ (each_made C defs way floor i scope hs (StructKind x) (listed_member_holds M scope inner.is_partial ms fs) (listed_member_holds L Empty inner.is_partial ws fs) (listed_member x ms ws q.0 q.2 inner.is_partial fs) inner.constraints ds made) (left_kept (StructKind x) inner ds made fs ms ws q.2))
    struct_kept x y p inner ds made _ = same_refined way No

    kinds_hold : (a c : Kind) → KindKept C defs others j way M L hs ks a c → (inner : InnerLayer) (ds : List ListedLayer) → AllMade C defs floor i scope hs a inner.constraints ds → (t : ValueTree) →
        Refined way (inner_at M scope inner t hs a) (inner_at L Empty (record inner { constraints = ds }) t ks c)
    kinds_hold (StructKind x) c (y, e, p) inner ds m t = subst (λ z. Refined way (struct_holds M scope (M.members hs x) inner t) (inner_at L Empty (record inner { constraints = ds }) t ks z)) (sym e) (struct_kept x y p inner ds m t)
    kinds_hold (ListKind ty) c (uy, e, p) inner ds m t = subst (λ z. Refined way No (inner_at L Empty (record inner { constraints = ds }) t ks z)) (sym e) (same_refined way No)
    kinds_hold (ChoiceKind os) c (ps, e, p) inner ds m t = subst (λ z. Refined way (choice_holds M scope hs os inner t) (inner_at L Empty (record inner { constraints = ds }) t ks z)) (sym e) (choice_kept os ps p inner ds m t)
    kinds_hold (FieldKind x) c (y, e) inner ds m t = subst (λ z. Refined way No (inner_at L Empty (record inner { constraints = ds }) t ks z)) (sym e) (same_refined way No)
    kinds_hold _ c e inner ds m t = subst (λ z. Refined way No (inner_at L Empty (record inner { constraints = ds }) t ks z)) (sym e) (same_refined way No)

  pub inner_kept : (floor i : ℕ) (n : Before C defs j (floor + i)) (scope : Scope) (h k : Place) → Alike C defs others j h k → (inner : InnerLayer) (ds : List ListedLayer) → AllMade C defs floor i scope h.scope (kind_of h) inner.constraints ds → (t : ValueTree) →
      Refined way (inner_at M scope inner t h.scope (kind_of h)) (inner_at L Empty (record inner { constraints = ds }) t k.scope (kind_of k))
  inner_kept floor i n scope h k a inner ds m t = kinds_hold floor i n scope h.scope k.scope (kind_of h) (kind_of k) (kinds_kept C defs others j way M L b h k a) inner ds m t
