-- Elements and sets of instances are plain where the levels below are.
use Rattle.std.proofs.Common.{List, None, Option, Some, [], ap, false, inl, inr, refl, subst, suc, sym, true, ℕ, ◌+◌, ◌∙◌, ◌∷◌, ◌≡◌}
use Rattle.std.specs.List.{list_all}
use Rattle.std.specs.Prelude.{if◌then◌else◌}
use Rattle.asn_tree.specs.declared.constraints.Constraint.{Constraint}
use Rattle.asn_tree.specs.declared.constraints.ElementOrSetOperation.{ElementOrSetOperation, ElementOrSetOperation-F, out-ElementOrSetOperation, out-roll-ElementOrSetOperation, roll-ElementOrSetOperation}
use Rattle.asn_tree.specs.declared.constraints.SetOperation.{out-SetOperation, out-roll-SetOperation, roll-SetOperation}
use Rattle.asn_tree.specs.declared.constraints.SubtypeElement.{SubtypeElement, SubtypeElement-F, out-SubtypeElement, out-roll-SubtypeElement, roll-SubtypeElement}
use Rattle.asn_tree.specs.declared.types.ASN1Type.{ASN1Type}
use Rattle.asn_tree.specs.declared.types.ASN1Type.TheVariants as type_of_kind
use Rattle.asn_tree.specs.declared.types.ChoiceOption.{ChoiceOption}
use Rattle.asn_tree.specs.declared.values.ASN1Value.{ASN1Value}
use Rattle.asn_meaning.specs.Answers.{once}
use Rattle.asn_meaning.specs.Constraints.{chain_at, chain_behind}
use Rattle.asn_meaning.specs.Definitions.{Definitions}
use Rattle.asn_meaning.specs.Everything.{plain_text}
use Rattle.asn_meaning.specs.Judge.{meaning, step}
use Rattle.asn_meaning.specs.Kinds.{ChoiceKind, Kind, StructKind, kind_at, kind_of}
use Rattle.asn_meaning.specs.Layers.{ElementLayer, InnerLayer, ListedLayer, OperationLayer, OptionLayer, SetLayer, StructLayer}
use Rattle.asn_meaning.specs.Meaning.{Member}
use Rattle.asn_meaning.specs.Members.{element_place, member_named, member_place}
use Rattle.asn_meaning.specs.Names.{lead_at, option_named}
use Rattle.asn_meaning.specs.Numbers.{Chain}
use Rattle.asn_meaning.specs.Plain.{constraints_plain, contained_plain, element_plain, end_plain, inner_plain, listed_place, plainness}
use Rattle.asn_meaning.specs.Ranges.{integer_named}
use Rattle.asn_meaning.specs.Scopes.{Empty, Place, Scope}
use Rattle.asn_meaning.specs.Shapes.{option_place}
use Rattle.asn_meaning.proofs.Steps.{more_known}
use Rattle.asn_link_instance.proofs.Below.{floor_before}
use Rattle.asn_link_instance.specs.Heads.{Alike, Before, KeepsValues, constraints_made}
use Rattle.asn_link_instance.specs.Instance.{component_instance, element_instance, inner_instance, instance, listed_instance, operation_instance, part_named, set_instance}
use Rattle.asn_link_instance.specs.Linked.{SameOrLinked}
use Rattle.asn_link_instance.specs.Plain.{Eventually, PutOn, StandsAsHead, WritesPlain}
use Rattle.asn_link_instance.specs.Subjects.{Choices, OnCharacters, OnValues, Subject, ends_read, perhaps, traversed, values_read}
use Rattle.asn_link_instance.specs.Ways.{Forth}
use Rattle.asn_link_instance.proofs.Eventually.{always, and_true, joined, later, mapped, within_is}
use Rattle.asn_link_instance.proofs.Holding.{Holds, once_holds, result_holds, some_same, then_holds}
use Rattle.asn_link_instance.proofs.Kept.{below_forth}
use Rattle.asn_link_instance.proofs.KeptInner.{AllMade, ListedMade, listed_made, named_both}
use Rattle.asn_link_instance.proofs.KeptParts.{KindKept, MemberKept, MembersKept, OptionKept, Stands, element_both, kinds_kept}
use Rattle.asn_link_instance.proofs.KeptSets.{simple_integer}
use Rattle.asn_link_instance.proofs.Pairs.{Matched}
use Rattle.asn_link_instance.proofs.PlainParts.{ChainPlain, ElementPlain, OthersPlain, PlacedPlain, PlainLevel, chain_set, constraints_placed, constraints_stand, paired_at, type_stands}

matched_at : {A B : Type 0} (R : A → B → Type 0) (a : Option A) (b : Option B) (x : A) → Matched R a b → a ≡ Some x → (y : B) × (b ≡ Some y) × R x y
matched_at R a b x p e = subst (λ z. Matched R z b) e p

nothing_found : {A : Type 0} (x : A) → None ≡ Some x → ⊥
nothing_found x e = cc

pub text_stands : (defs : Definitions) → StandsAsHead defs plain_text
text_stands defs N = ap (λ l. lead_at defs N Empty (kind_at l)) (type_of_kind.outs-CharacterString _)

pub sizes_stand : (defs : Definitions) → StandsAsHead defs (integer_named None)
sizes_stand defs N = ap (λ l. lead_at defs N Empty (kind_at l)) (type_of_kind.outs-Integer _)

module _ (C : Choices) (defs others : Definitions) (k : ℕ) (linked : SameOrLinked C defs others (suc k)) (values : KeepsValues C defs others (suc k)) (writes : WritesPlain C defs others (suc k))
    (floor i : ℕ) (before : Before C defs (suc k) (floor + i)) (below : PlainLevel C defs others k linked values floor i) (scope : Scope) where
  abbrev j : ℕ
  j = suc k

  placed : (p : Place) (cs ds : List Constraint) → constraints_made C defs floor i scope p cs ≡ Some ds → PlacedPlain C defs others k linked values p ds
  placed p cs ds e = result_holds (constraints_made C defs floor i scope p cs) (PlacedPlain C defs others k linked values p) ds (constraints_placed C defs others k linked values floor i below scope p cs) e

  -- ---- parts of heads

  -- the part of a name, and what stands for it in the instance
  record PartStands (part : Place) (name : List ℕ) (q : Place) : Type 0 where
    other : Place
    is : Eventually (λ m. listed_place (meaning others m) name q.scope (kind_of q) ≡ Some other)
    stands : Stands C defs others j part other

  member_part : (hs ks : Scope) (x y : StructLayer) (name : List ℕ) (part : Place) (ms ws : List Member) → (meaning defs floor).members hs x ≡ Some ms → once None (member_named ms name) (λ m. Some (member_place m)) ≡ Some part →
      (meaning others (floor + j)).members ks y ≡ Some ws → MembersKept C defs others j Forth (meaning defs floor) (meaning others (floor + j)) ms ws →
      (other : Place) × Eventually (λ m. listed_place (meaning others m) name ks (StructKind y) ≡ Some other) × Stands C defs others j part other
  member_part hs ks x y name part ms ws e f g kept = at (member_named ms name) refl f
    where
      at : (o : Option Member) → member_named ms name ≡ o → once None o (λ m. Some (member_place m)) ≡ Some part → (other : Place) × Eventually (λ m. listed_place (meaning others m) name ks (StructKind y) ≡ Some other) × Stands C defs others j part other
      at None u w = absurd (nothing_found part w)
      at (Some u) v w =
          let b = below_forth C defs others k linked values floor in
          let both = matched_at (λ m w. MemberKept C defs others j Forth (meaning defs floor) (meaning others (floor + j)) m w) (member_named ms name) (member_named ws name) u
          (named_both C defs others j Forth (meaning defs floor) (meaning others (floor + j)) b floor i before scope hs ks ms ws name kept) v in (
            member_place both.0,
            record {
              steps = floor + j;
              stays = λ m.
                  ap (λ z. once None z (λ ms. once None (member_named ms name) (λ m. Some (member_place m)))) (within_is _ _ ws g ((more_known others (floor + j) m).members ks y))
                  ∙ ap (λ z. once None z (λ m. Some (member_place m))) both.1;
            },
            subst (λ z. Stands C defs others j z (member_place both.0)) (some_same (member_place u) part w) both.2.stands,
          )

  option_part : (hs ks : Scope) (os ps : List ChoiceOption) (name : List ℕ) (part : Place) →
      Matched (λ o p. OptionKept C defs others j Forth (meaning defs floor) (meaning others (floor + j)) hs ks o p) (option_named os name) (option_named ps name) →
      once None (option_named os name) (λ o. Some (option_place hs o)) ≡ Some part →
      (other : Place) × Eventually (λ m. listed_place (meaning others m) name ks (ChoiceKind ps) ≡ Some other) × Stands C defs others j part other
  option_part hs ks os ps name part kept f = at (option_named os name) refl f
    where
      at : (o : Option OptionLayer) → option_named os name ≡ o → once None o (λ o. Some (option_place hs o)) ≡ Some part → (other : Place) × Eventually (λ m. listed_place (meaning others m) name ks (ChoiceKind ps) ≡ Some other) × Stands C defs others j part other
      at None u w = absurd (nothing_found part w)
      at (Some o) v w =
          let both = matched_at (λ o p. OptionKept C defs others j Forth (meaning defs floor) (meaning others (floor + j)) hs ks o p) (option_named os name) (option_named ps name) o kept v in (
            option_place ks both.0,
            always (λ m. ap (λ z. once None z (λ o. Some (option_place ks o))) both.1),
            subst (λ z. Stands C defs others j z (option_place ks both.0)) (some_same (option_place hs o) part w) both.2.stands,
          )

  kind_part : (hs ks : Scope) (a c : Kind) (name : List ℕ) (part : Place) → KindKept C defs others j Forth (meaning defs floor) (meaning others (floor + j)) hs ks a c →
      part_named C defs (meaning defs floor) (instance C defs floor i) hs name a ≡ Some part →
      (other : Place) × Eventually (λ m. listed_place (meaning others m) name ks c ≡ Some other) × Stands C defs others j part other
  kind_part hs ks (StructKind x) c name part (y, e, kept) f = subst (λ z. (other : Place) × Eventually (λ m. listed_place (meaning others m) name ks z ≡ Some other) × Stands C defs others j part other) (sym e) (at ((meaning defs floor).members hs x) refl f)
    where
      at : (o : Option (List Member)) → (meaning defs floor).members hs x ≡ o → once None o (λ ms. once None (member_named ms name) (λ m. Some (member_place m))) ≡ Some part →
          (other : Place) × Eventually (λ m. listed_place (meaning others m) name ks (StructKind y) ≡ Some other) × Stands C defs others j part other
      at None u w = absurd (nothing_found part w)
      at (Some ms) u w =
          let both = paired_at (λ ms ns. MembersKept C defs others j Forth (meaning defs floor) (meaning others (floor + j)) ms ns) ((meaning defs floor).members hs x) ((meaning others (floor + j)).members ks y) ms kept u in
          member_part hs ks x y name part ms both.0 u w both.1 both.2
  kind_part hs ks (ChoiceKind os) c name part (ps, e, kept) f = subst (λ z. (other : Place) × Eventually (λ m. listed_place (meaning others m) name ks z ≡ Some other) × Stands C defs others j part other) (sym e) (option_part hs ks os ps name part (kept name) f)
  kind_part hs ks _ c name part kept f = absurd (nothing_found part f)

  -- ---- parts of elements

  module _ (h q : Place) (alike : Alike C defs others j h q) where
    listed_plain : (c d : ListedLayer) → ListedMade C defs floor i scope h.scope (kind_of h) c d → Eventually (λ m. inner_plain (meaning others m) (plainness others m) q d ≡ true)
    listed_plain c d made =
        let b = below_forth C defs others k linked values floor in
        let r = kind_part h.scope q.scope (kind_of h) (kind_of q) c.identifier made.part (kinds_kept C defs others j Forth (meaning defs floor) (meaning others (floor + j)) b h q alike) made.part_is in
        joined (λ m e f. ap (λ z. once false (listed_place (meaning others m) z q.scope (kind_of q)) (λ p. constraints_plain (meaning others m) (plainness others m) p d.constraints)) made.identifier ∙ ap (λ z. once false z (λ p. constraints_plain (meaning others m) (plainness others m) p d.constraints)) e ∙ f)
        r.1 (constraints_stand C defs others k linked values made.part r.0 d.constraints r.2 (placed made.part c.constraints d.constraints made.constraints_are))

    all_listed : (cs ds : List ListedLayer) → AllMade C defs floor i scope h.scope (kind_of h) cs ds → Eventually (λ m. list_all (inner_plain (meaning others m) (plainness others m) q) ds ≡ true)
    all_listed [] [] made = always (λ m. refl)
    all_listed [] (d ∷ ds) made = absurd made
    all_listed (c ∷ cs) [] made = absurd made
    all_listed (c ∷ cs) (d ∷ ds) (made, rest) = joined (λ m a b. and_true (inner_plain (meaning others m) (plainness others m) q d) (list_all (inner_plain (meaning others m) (plainness others m) q) ds) a b) (listed_plain c d made) (all_listed cs ds rest)

    component_plain : (cs : List Constraint) → Holds (component_instance C defs (meaning defs floor) (instance C defs floor i) scope (OnValues h) cs) (λ r. Eventually (λ m. element_plain (meaning others m) (plainness others m) q r ≡ true))
    component_plain cs = once_holds (element_place h) _ _ (λ p e. once_holds (constraints_made C defs floor i scope p cs) _ _ (λ ds f. part_plain p e ds f))
      where
        part_plain : (p : Place) → element_place h ≡ Some p → (ds : List Constraint) → constraints_made C defs floor i scope p cs ≡ Some ds → Eventually (λ m. once false (element_place q) (λ p. constraints_plain (meaning others m) (plainness others m) p ds) ≡ true)
        part_plain p e ds f =
            let b = below_forth C defs others k linked values floor in
            let r = matched_at (λ p q. Stands C defs others j p q) (element_place h) (element_place q) p (element_both C defs others j Forth (meaning defs floor) (meaning others (floor + j)) b h q alike) e in
            mapped (λ m u. ap (λ z. once false z (λ p. constraints_plain (meaning others m) (plainness others m) p ds)) r.1 ∙ u) (constraints_stand C defs others k linked values p r.0 ds r.2 (placed p cs ds f))

    inner_made : (inner : InnerLayer) → Holds (inner_instance C defs (meaning defs floor) (instance C defs floor i) scope (OnValues h) inner) (λ r. Eventually (λ m. element_plain (meaning others m) (plainness others m) q r ≡ true))
    inner_made inner = once_holds (traversed (listed_instance C defs (meaning defs floor) (instance C defs floor i) scope h) inner.constraints) _ _ (λ cs e.
        all_listed inner.constraints cs (result_holds (traversed (listed_instance C defs (meaning defs floor) (instance C defs floor i) scope h) inner.constraints) _ cs (listed_made C defs floor i scope h inner.constraints) e))

  contained : (ty uy : ASN1Type) → (instance C defs floor i).of_type true scope ty ≡ Some uy → Eventually (λ m. contained_plain (plainness others m) uy ≡ true)
  contained ty uy e =
      let p = below.of_type true scope ty uy e in
      mapped (λ m u. ap (λ z. if z then false else (plainness others m).of_type uy) (p.unnamed refl) ∙ u) (type_stands C defs others k linked values true scope ty uy (inr (refl, (true, (floor, i, before, e)))) p)

  end_made : (s : Subject) (q : Place) → PutOn C defs others j s q → StandsAsHead others q → (v : Option ASN1Value) → Holds (perhaps (λ v. C.end (meaning defs floor) scope v (ends_read s)) v) (λ w. Eventually (λ m. end_plain (plainness others m) q w ≡ true))
  end_made s q put stands None = always (λ m. refl)
  end_made s q put stands (Some v) = once_holds (C.end (meaning defs floor) scope v (ends_read s)) _ _ (λ w e. writes.end floor scope v w s q (floor_before C defs (suc k) floor i before) e put stands)

  element_at : (s : Subject) (q : Place) → PutOn C defs others j s q → StandsAsHead others q → (l : ElementLayer) →
      Holds (element_instance C defs (meaning defs floor) (instance C defs floor i) scope s l) (λ r. Eventually (λ m. element_plain (meaning others m) (plainness others m) q r ≡ true))
  element_at s q put stands (SubtypeElement-F.SingleValue v e) = once_holds (C.value (meaning defs floor) scope v (values_read s)) _ _ (λ w u. writes.value floor scope v w s q (floor_before C defs (suc k) floor i before) u put stands)
  element_at s q put stands (SubtypeElement-F.ContainedSubtype ty e) = once_holds ((instance C defs floor i).of_type true scope ty) _ _ (λ uy u. contained ty uy u)
  element_at s q put stands (SubtypeElement-F.TypeConstraint ty) = once_holds ((instance C defs floor i).of_type true scope ty) _ _ (λ uy u. contained ty uy u)
  element_at s q put stands (SubtypeElement-F.ValueRange low high low_open high_open e) =
      then_holds (perhaps (λ v. C.end (meaning defs floor) scope v (ends_read s)) low) _ (λ w. Eventually (λ m. end_plain (plainness others m) q w ≡ true)) _ (end_made s q put stands low) (λ l u a.
      then_holds (perhaps (λ v. C.end (meaning defs floor) scope v (ends_read s)) high) _ (λ w. Eventually (λ m. end_plain (plainness others m) q w ≡ true)) _ (end_made s q put stands high) (λ h w b.
      joined (λ m c d. and_true (end_plain (plainness others m) q l) (end_plain (plainness others m) q h) c d) a b))
  element_at s q put stands (SubtypeElement-F.PermittedAlphabet set) =
      once_holds ((instance C defs floor i).of_set scope OnCharacters set) _ _ (λ x u. chain_set C defs others k linked values plain_text x (below.of_set scope OnCharacters set x u plain_text refl (text_stands others)))
  element_at s q put stands (SubtypeElement-F.SizeConstraint set) =
      once_holds ((instance C defs floor i).of_set scope (OnValues (integer_named None)) set) _ _ (λ x u. chain_set C defs others k linked values (integer_named None) x (below.of_set scope (OnValues (integer_named None)) set x u (integer_named None) (inl (refl, inr (simple_integer None))) (sizes_stand others)))
  element_at (OnValues h) q put stands (SubtypeElement-F.SingleTypeConstraint cs) = component_plain h q put cs
  element_at OnCharacters q put stands (SubtypeElement-F.SingleTypeConstraint cs) = tt
  element_at (OnValues h) q put stands (SubtypeElement-F.MultipleTypeConstraints inner) = inner_made h q put inner
  element_at OnCharacters q put stands (SubtypeElement-F.MultipleTypeConstraints inner) = tt
  element_at s q put stands (SubtypeElement-F.PatternConstraint x) = always (λ m. refl)
  element_at s q put stands (SubtypeElement-F.UserDefinedConstraint x) = always (λ m. refl)
  element_at s q put stands (SubtypeElement-F.PropertySettings x) = always (λ m. refl)

  -- ---- one level further

  pub element_next : (s : Subject) (e f : SubtypeElement) → (instance C defs floor (suc i)).of_element scope s e ≡ Some f → (q : Place) → PutOn C defs others j s q → StandsAsHead others q → ElementPlain C defs others k linked values q f
  unfolding instance plainness
  element_next s e f u q put stands =
      later (λ m w. w)
      (element_of (element_instance C defs (meaning defs floor) (instance C defs floor i) scope s (out-SubtypeElement e)) (element_at s q put stands (out-SubtypeElement e)) u)
    where
      element_of : (a : Option ElementLayer) → Holds a (λ r. Eventually (λ m. element_plain (meaning others m) (plainness others m) q r ≡ true)) → once None a (λ l. Some (roll-SubtypeElement l)) ≡ Some f →
          Eventually (λ m. element_plain (meaning others m) (plainness others m) q (out-SubtypeElement f) ≡ true)
      element_of None h w = absurd (nothing_found f w)
      element_of (Some l) h w =
          let same : out-SubtypeElement f ≡ l = sym (ap out-SubtypeElement (some_same (roll-SubtypeElement l) f w)) ∙ out-roll-SubtypeElement l in
          subst (λ z. Eventually (λ m. element_plain (meaning others m) (plainness others m) q z ≡ true)) (sym same) h

  -- the elements of a layer, each of which is plain
  abbrev ChainOf : Place → SetLayer → Type 0
  ChainOf q l = (c : Chain) × Eventually (λ m. chain_at (meaning others m) l ≡ Some c) × ElementPlain C defs others k linked values q c.first × OthersPlain C defs others k linked values q c.others

  operation_at : (s : Subject) (q : Place) → PutOn C defs others j s q → StandsAsHead others q → (x : OperationLayer) →
      Holds (operation_instance C defs (meaning defs floor) (instance C defs floor i) scope s x) (λ y. ChainOf q (ElementOrSetOperation-F.SetOperation (roll-SetOperation y)))
  operation_at s q put stands x = once_holds ((instance C defs floor i).of_element scope s x.base) _ _ (λ e u. once_holds ((instance C defs floor i).of_set scope s x.operant) _ _ (λ o w. behind e u o w))
    where
      behind : (e : SubtypeElement) → (instance C defs floor i).of_element scope s x.base ≡ Some e → (o : ElementOrSetOperation) → (instance C defs floor i).of_set scope s x.operant ≡ Some o →
          ChainOf q (ElementOrSetOperation-F.SetOperation (roll-SetOperation (record x { base = e; operant = o })))
      behind e u o w =
          let c = below.of_set scope s x.operant o w q put stands in (
            chain_behind (record x { base = e; operant = o }) c.chain,
            mapped (λ m f. ap (λ z. once None ((meaning others m).chain z.operant) (λ c. Some (chain_behind z c))) (out-roll-SetOperation (record x { base = e; operant = o })) ∙ ap (λ z. once None z (λ c. Some (chain_behind (record x { base = e; operant = o }) c))) f) c.is,
            below.of_element scope s x.base e u q put stands,
            (c.first, c.others_plain),
          )

  set_at : (s : Subject) (q : Place) → PutOn C defs others j s q → StandsAsHead others q → (l : SetLayer) → Holds (set_instance C defs (meaning defs floor) (instance C defs floor i) scope s l) (ChainOf q)
  set_at s q put stands (ElementOrSetOperation-F.Element e) = once_holds ((instance C defs floor i).of_element scope s e) _ _ (λ f u. (record { first = f; others = [] }, always (λ m. refl), below.of_element scope s e f u q put stands, tt))
  set_at s q put stands (ElementOrSetOperation-F.SetOperation x) =
      then_holds (operation_instance C defs (meaning defs floor) (instance C defs floor i) scope s (out-SetOperation x)) _ (λ y. ChainOf q (ElementOrSetOperation-F.SetOperation (roll-SetOperation y))) _ (operation_at s q put stands (out-SetOperation x)) (λ y u c. c)

  rolled_chain : (q : Place) (y : ElementOrSetOperation) → ChainOf q (out-ElementOrSetOperation y) → ChainPlain C defs others k linked values q y
  unfolding meaning step
  rolled_chain q y (c, is, first, rest) = record { chain = c; is = later (λ m w. w) is; first = first; others_plain = rest }

  pub set_next : (s : Subject) (x y : ElementOrSetOperation) → (instance C defs floor (suc i)).of_set scope s x ≡ Some y → (q : Place) → PutOn C defs others j s q → StandsAsHead others q → ChainPlain C defs others k linked values q y
  unfolding instance
  set_next s x y u q put stands = set_of (set_instance C defs (meaning defs floor) (instance C defs floor i) scope s (out-ElementOrSetOperation x)) (set_at s q put stands (out-ElementOrSetOperation x)) u
    where
      set_of : (a : Option SetLayer) → Holds a (ChainOf q) → once None a (λ l. Some (roll-ElementOrSetOperation l)) ≡ Some y → ChainPlain C defs others k linked values q y
      set_of None h w = absurd (nothing_found y w)
      set_of (Some l) h w =
          let same : out-ElementOrSetOperation y ≡ l = sym (ap out-ElementOrSetOperation (some_same (roll-ElementOrSetOperation l) y w)) ∙ out-roll-ElementOrSetOperation l in
          rolled_chain q y (subst (λ z. ChainOf q z) (sym same) h)
