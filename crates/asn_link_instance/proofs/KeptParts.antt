-- The parts of heads that are alike: options, members and elements.
use Rattle.std.proofs.Common.{Bool, List, None, Option, Some, [], ap, false, inl, inr, refl, subst, suc, sym, true, ℕ, ◌+◌, ◌∷◌, ◌≡◌, ◌⊎◌}
use Rattle.std.specs.Prelude.{is_some}
use Rattle.std.specs.Str.{bytes_eq}
use Rattle.asn_tree.specs.declared.types.ASN1Type.{ASN1Type, out-ASN1Type}
use Rattle.asn_tree.specs.declared.types.ChoiceOption.{ChoiceOption, out-ChoiceOption}
use Rattle.asn_tree.specs.declared.types.SequenceOrSetMember.{SequenceOrSetMember, out-SequenceOrSetMember}
use Rattle.asn_meaning.specs.Accepts.{place}
use Rattle.asn_meaning.specs.Definitions.{Definitions}
use Rattle.asn_meaning.specs.Judge.{meaning, member_accepts, option_accepts}
use Rattle.asn_meaning.specs.Kinds.{CharacterStringKind, ChoiceKind, FieldKind, IntegerKind, Kind, ListKind, ReferenceKind, SelectionKind, StructKind, kind_of}
use Rattle.asn_meaning.specs.Layers.{ClassFieldLayer, OptionLayer, StructLayer}
use Rattle.asn_meaning.specs.Meaning.{Meaning, Member}
use Rattle.asn_meaning.specs.Members.{element_in, element_place, is_addition_at, member_place}
use Rattle.asn_meaning.specs.Names.{option_named}
use Rattle.asn_meaning.specs.Scopes.{Empty, Place, Scope}
use Rattle.asn_meaning.specs.ValueTrees.{ValueTree, same_truth}
use Rattle.asn_link_instance.specs.Heads.{Alike, Before, KindForm, MadeMembers, MadeOptions, MadeStruct, is_simple}
use Rattle.asn_link_instance.specs.Instance.{instance, member_instance, of_constraints, option_instance, placed_tag}
use Rattle.asn_link_instance.specs.Subjects.{Choices, perhaps}
use Rattle.asn_link_instance.specs.Ways.{Known, Refined, Way}
use Rattle.asn_link_instance.proofs.Below.{Below, Instanced, floor_before, plain_members}
use Rattle.asn_link_instance.proofs.Forms.{same_beside}
use Rattle.asn_link_instance.proofs.Holding.{Holds, once_holds, result_holds}
use Rattle.asn_link_instance.proofs.Pairs.{Matched, Paired, if_matched, known_paired, paired_weaker, same_matched}

truths_same : (a c : Bool) → same_truth a c ≡ true → c ≡ a
truths_same true c e = e
truths_same false true e = absurd cc
truths_same false false e = refl

perhaps_made : {A B : Type 0} (f : A → Option B) (x : Option A) → Holds (perhaps f x) (λ z. is_some z ≡ is_some x)
perhaps_made f None = refl
perhaps_made f (Some v) = once_holds (f v) _ _ (λ w u. refl)

perhaps_some : {A B : Type 0} (f : A → Option B) (x : Option A) (y : Option B) → perhaps f x ≡ Some y → is_some y ≡ is_some x
perhaps_some f x y e = result_holds (perhaps f x) (λ z. is_some z ≡ is_some x) y (perhaps_made f x) e

module _ (C : Choices) (defs others : Definitions) (j : ℕ) where
  -- one place by the same definitions, or a type and its instance
  abbrev pub Stands : Place → Place → Type 0
  Stands p q = ((p ≡ q) × (others ≡ defs)) ⊎ ((q.scope ≡ Empty) × ((down : Bool) × Instanced C defs j down p.scope p.ty q.ty))

  pub record OptionKept (way : Way) (M L : Meaning) (hs ks : Scope) (o p : OptionLayer) : Type 0 where
    pub name : p.name ≡ o.name
    pub stands : Stands (place hs o.ty) (place ks p.ty)
    pub accepts : (t : ValueTree) → Refined way (option_accepts M hs o t) (option_accepts L ks p t)

  pub record MemberKept (way : Way) (M L : Meaning) (m n : Member) : Type 0 where
    pub name : n.written.name ≡ m.written.name
    pub optional : n.written.is_optional ≡ m.written.is_optional
    pub default : is_some n.written.default_value ≡ is_some m.written.default_value
    pub addition : n.is_addition ≡ m.is_addition
    pub stands : Stands (member_place m) (member_place n)
    pub accepts : (t : ValueTree) → Refined way (member_accepts M m t) (member_accepts L n t)

  abbrev pub MembersKept : Way → Meaning → Meaning → List Member → List Member → Type 0
  MembersKept way M L [] [] = Unit {0}
  MembersKept way M L (m ∷ ms) (n ∷ ns) = MemberKept way M L m n × MembersKept way M L ms ns
  MembersKept way M L _ _ = ⊥

  -- the kinds of heads that are alike, each read in its scope
  abbrev pub KindKept : Way → Meaning → Meaning → Scope → Scope → Kind → Kind → Type 0
  KindKept way M L hs ks (StructKind x) c = (y : StructLayer) × (c ≡ StructKind y) × Paired way (λ ms ns. MembersKept way M L ms ns) (M.members hs x) (L.members ks y)
  KindKept way M L hs ks (ListKind ty) c = (uy : ASN1Type) × (c ≡ ListKind uy) × Stands (place hs ty) (place ks uy)
  KindKept way M L hs ks (ChoiceKind os) c = (ps : List ChoiceOption) × (c ≡ ChoiceKind ps) × ((name : List ℕ) → Matched (λ o p. OptionKept way M L hs ks o p) (option_named os name) (option_named ps name))
  KindKept way M L hs ks (FieldKind x) c = (y : ClassFieldLayer) × (c ≡ FieldKind y)
  KindKept way M L hs ks a c = c ≡ a

module _ (C : Choices) (defs others : Definitions) (j : ℕ) (way : Way) (M L : Meaning) (b : Below C defs others j way M L) where
  -- ---- places

  pub stands_head : (p q : Place) → Stands C defs others j p q → Paired way (λ h k. Alike C defs others j h k) (M.head p) (L.head q)
  stands_head p q (inl (e, same)) = subst (λ z. Paired way (λ h k. Alike C defs others j h k) (M.head p) (L.head z)) e (known_paired way (λ h k. Alike C defs others j h k) _ _ (λ h. inl (refl, inl same)) ((b.more same).head p))
  stands_head p q (inr (e, (down, n))) = subst (λ z. Paired way (λ h k. Alike C defs others j h k) (M.head p) (L.head (record { scope = z; ty = q.ty }))) (sym e) (b.head down p.scope p.ty q.ty q.ty n (same_beside (out-ASN1Type q.ty)))

  pub stands_numbers : (p q : Place) → Stands C defs others j p q → Known way (M.numbers p []) (L.numbers q [])
  stands_numbers p q (inl (e, same)) = subst (λ z. Known way (M.numbers p []) (L.numbers z [])) e ((b.more same).numbers p [])
  stands_numbers p q (inr (e, (down, (floor, i, n, u)))) = subst (λ z. Known way (M.numbers p []) (L.numbers (record { scope = z; ty = q.ty }) [])) (sym e) (b.numbers down p.scope p.ty q.ty [] [] (floor, i, n, u) (inl (floor, i, n, refl)))

  pub stands_accepts : (p q : Place) (t : ValueTree) → Stands C defs others j p q → Refined way (M.accepts p [] t) (L.accepts q [] t)
  stands_accepts p q t (inl (e, same)) = subst (λ z. Refined way (M.accepts p [] t) (L.accepts z [] t)) e ((b.more same).accepts p [] t)
  stands_accepts p q t (inr (e, (down, (floor, i, n, u)))) = subst (λ z. Refined way (M.accepts p [] t) (L.accepts (record { scope = z; ty = q.ty }) [] t)) (sym e) (b.accepts down p.scope p.ty q.ty [] [] t (floor, i, n, u) (inl (floor, i, n, refl)))

  module _ (floor i : ℕ) (n : Before C defs j (floor + i)) where
    -- ---- options

    option_kept : (hs : Scope) (o : OptionLayer) → Holds (option_instance C defs (meaning defs floor) (instance C defs floor i) hs o) (λ p. OptionKept C defs others j way M L hs Empty o p)
    option_kept hs o =
        once_holds ((instance C defs floor i).of_type false hs o.ty) _ _ (λ ty e. once_holds (of_constraints C defs (meaning defs floor) (instance C defs floor i) hs (place hs o.ty) o.constraints) _ _ (λ cs f.
        once_holds (placed_tag C defs (meaning defs floor) (instance C defs floor i) hs o.tag o.ty) _ _ (λ tag g.
        record { name = refl; stands = inr (refl, (false, (floor, i, n, e))); accepts = λ t. b.accepts false hs o.ty ty o.constraints cs t (floor, i, n, e) (inl (floor, i, n, f)) })))

    made_options : (hs : Scope) (os ps : List ChoiceOption) → MadeOptions C defs floor i hs os ps → (name : List ℕ) → Matched (λ o p. OptionKept C defs others j way M L hs Empty o p) (option_named os name) (option_named ps name)
    made_options hs [] [] m name = refl
    made_options hs [] (p ∷ ps) m name = absurd m
    made_options hs (o ∷ os) [] m name = absurd m
    made_options hs (o ∷ os) (p ∷ ps) (e, m) name =
        let k = result_holds (option_instance C defs (meaning defs floor) (instance C defs floor i) hs (out-ChoiceOption o)) (λ p. OptionKept C defs others j way M L hs Empty (out-ChoiceOption o) p) (out-ChoiceOption p) (option_kept hs (out-ChoiceOption o)) e in
        if_matched (λ o p. OptionKept C defs others j way M L hs Empty o p) (bytes_eq (out-ChoiceOption o).name name) (bytes_eq (out-ChoiceOption p).name name) (Some (out-ChoiceOption o)) (option_named os name) (Some (out-ChoiceOption p)) (option_named ps name)
        (ap (λ z. bytes_eq z name) k.name) (out-ChoiceOption p, refl, k) (made_options hs os ps m name)

    -- ---- members

    member_kept : (m : Member) (c : Bool) → c ≡ m.is_addition → Holds (member_instance C defs (meaning defs floor) (instance C defs floor i) m.scope m.written) (λ w. MemberKept C defs others j way M L m (record { scope = Empty; written = w; is_addition = c }))
    member_kept m c same =
        once_holds ((instance C defs floor i).of_type false m.scope m.written.ty) _ _ (λ ty e. once_holds (of_constraints C defs (meaning defs floor) (instance C defs floor i) m.scope (place m.scope m.written.ty) m.written.constraints) _ _ (λ cs f.
        once_holds (perhaps (λ v. C.default (meaning defs floor) m.scope v (place m.scope m.written.ty)) m.written.default_value) _ _ (λ d g.
        once_holds (placed_tag C defs (meaning defs floor) (instance C defs floor i) m.scope m.written.tag m.written.ty) _ _ (λ tag h.
        record {
          name = refl;
          optional = refl;
          default = perhaps_some _ m.written.default_value d g;
          addition = same;
          stands = inr (refl, (false, (floor, i, n, e)));
          accepts = λ t. b.accepts false m.scope m.written.ty ty m.written.constraints cs t (floor, i, n, e) (inl (floor, i, n, f));
        }))))

    made_members : (marker : Option ℕ) (number : ℕ) (ms : List Member) (ws : List SequenceOrSetMember) → MadeMembers C defs floor i marker number ms ws → MembersKept C defs others j way M L ms (plain_members Empty marker number ws)
    made_members marker number [] [] p = tt
    made_members marker number [] (w ∷ ws) p = absurd p
    made_members marker number (m ∷ ms) [] p = absurd p
    made_members marker number (m ∷ ms) (w ∷ ws) (a, e, p) = (
      result_holds (member_instance C defs (meaning defs floor) (instance C defs floor i) m.scope m.written) (λ w. MemberKept C defs others j way M L m (record { scope = Empty; written = w; is_addition = is_addition_at marker number })) (out-SequenceOrSetMember w)
          (member_kept m (is_addition_at marker number) (truths_same _ _ a)) e,
      made_members marker (suc number) ms ws p,
    )

    struct_both : (hs : Scope) (x y : StructLayer) → MadeStruct C defs floor i hs x y → Paired way (λ ms ns. MembersKept C defs others j way M L ms ns) (M.members hs x) (L.members Empty y)
    struct_both hs x y (e, (ms, f, p)) =
        paired_weaker way (λ ns ws. (ms ≡ ns) × (plain_members Empty y.extensible 0 y.members ≡ ws)) (λ ms ns. MembersKept C defs others j way M L ms ns) (M.members hs x) (L.members Empty y) (λ ns ws q.
        subst (λ z. MembersKept C defs others j way M L ns z) q.1 (subst (λ z. MembersKept C defs others j way M L z (plain_members Empty y.extensible 0 y.members)) q.0 (made_members y.extensible 0 ms y.members p)))
        (b.members_own floor (floor_before C defs j floor i n) hs x y ms f e)

    form_kept : (hs : Scope) (a c : Kind) → KindForm C defs floor i hs a c → KindKept C defs others j way M L hs Empty a c
    form_kept hs (StructKind x) c (y, e, p) = (y, e, struct_both hs x y p)
    form_kept hs (ListKind ty) c (uy, e, p) = (uy, e, inr (refl, (false, (floor, i, n, p))))
    form_kept hs (ChoiceKind os) c (ps, e, p) = (ps, e, made_options hs os ps p)
    form_kept hs (FieldKind x) c q = q
    form_kept hs (ReferenceKind x) c p = absurd p
    form_kept hs (SelectionKind x) c p = absurd p
    form_kept hs _ c e = e

  -- ---- heads that are alike

  module _ (same : others ≡ defs) where
    same_member : (m : Member) → MemberKept C defs others j way M L m m
    same_member m = record { name = refl; optional = refl; default = refl; addition = refl; stands = inl (refl, same); accepts = λ t. (b.more same).accepts _ m.written.constraints t }

    same_members : (ms : List Member) → MembersKept C defs others j way M L ms ms
    same_members [] = tt
    same_members (m ∷ ms) = (same_member m, same_members ms)

    same_option : (s : Scope) (o : OptionLayer) → OptionKept C defs others j way M L s s o o
    same_option s o = record { name = refl; stands = inl (refl, same); accepts = λ t. (b.more same).accepts _ o.constraints t }

    kind_kept : (s : Scope) (a : Kind) → KindKept C defs others j way M L s s a a
    kind_kept s (StructKind x) = (x, refl, known_paired way (λ ms ns. MembersKept C defs others j way M L ms ns) _ _ same_members ((b.more same).members s x))
    kind_kept s (ListKind ty) = (ty, refl, inl (refl, same))
    kind_kept s (ChoiceKind os) = (os, refl, λ name. same_matched (λ o p. OptionKept C defs others j way M L s s o p) (same_option s) (option_named os name))
    kind_kept s (FieldKind x) = (x, refl)
    kind_kept s _ = refl

  simple_kept : (s : Scope) (a : Kind) → is_simple a ≡ true → KindKept C defs others j way M L s s a a
  simple_kept s (IntegerKind numbers) e = refl
  simple_kept s (CharacterStringKind ty) e = refl
  simple_kept s _ e = absurd cc

  pub kinds_kept : (h k : Place) → Alike C defs others j h k → KindKept C defs others j way M L h.scope k.scope (kind_of h) (kind_of k)
  kinds_kept h k (inl (e, inl same)) = subst (λ z. KindKept C defs others j way M L h.scope z.scope (kind_of h) (kind_of z)) e (kind_kept same h.scope (kind_of h))
  kinds_kept h k (inl (e, inr simple)) = subst (λ z. KindKept C defs others j way M L h.scope z.scope (kind_of h) (kind_of z)) e (simple_kept h.scope (kind_of h) simple)
  kinds_kept h k (inr (s, (floor, i, n, p))) = subst (λ z. KindKept C defs others j way M L h.scope z (kind_of h) (kind_of k)) (sym s) (form_kept floor i n h.scope (kind_of h) (kind_of k) p)

  elements_kept : (hs ks : Scope) (a c : Kind) → KindKept C defs others j way M L hs ks a c → Matched (λ p q. Stands C defs others j p q) (element_in hs a) (element_in ks c)
  elements_kept hs ks (StructKind x) c (y, e, p) = ap (element_in ks) e
  elements_kept hs ks (ListKind ty) c (uy, e, p) = (place ks uy, ap (element_in ks) e, p)
  elements_kept hs ks (ChoiceKind os) c (ps, e, p) = ap (element_in ks) e
  elements_kept hs ks (FieldKind x) c (y, e) = ap (element_in ks) e
  elements_kept hs ks _ c e = ap (element_in ks) e

  pub element_both : (h k : Place) → Alike C defs others j h k → Matched (λ p q. Stands C defs others j p q) (element_place h) (element_place k)
  element_both h k a = elements_kept h.scope k.scope (kind_of h) (kind_of k) (kinds_kept h k a)
