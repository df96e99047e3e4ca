-- What is its own instance from some number of levels on, whatever is known from one step on, and how it is put together from its
-- parts.
use Rattle.std.proofs.Common.{◌≡◌, ℕ, suc, List, [], ◌∷◌, Bool, true, false, Option, Some, None, refl, sym, subst, ap, ◌∙◌}
use Rattle.std.specs.Prelude.{if◌then◌else◌}
use Rattle.asn_tree_headers.specs.declared.headers.AsnTag.{AsnTag}
use Rattle.asn_tree.specs.declared.constraints.Constraint.{Constraint, out-Constraint}
use Rattle.asn_tree.specs.declared.constraints.ElementOrSetOperation.{ElementOrSetOperation, out-ElementOrSetOperation, roll-ElementOrSetOperation, out-roll-ElementOrSetOperation}
use Rattle.asn_tree.specs.declared.constraints.SetOperation.{SetOperation, out-SetOperation}
use Rattle.asn_tree.specs.declared.constraints.SubtypeElement.{SubtypeElement, out-SubtypeElement, roll-SubtypeElement, out-roll-SubtypeElement}
use Rattle.asn_tree.specs.declared.types.ASN1Type.{ASN1Type, ASN1Type-F, out-ASN1Type, roll-ASN1Type, out-roll-ASN1Type}
use Rattle.asn_tree.specs.declared.types.Choice.{Choice, out-Choice}
use Rattle.asn_tree.specs.declared.types.ChoiceOption.{ChoiceOption, out-ChoiceOption, roll-ChoiceOption, roll-out-ChoiceOption}
use Rattle.asn_tree.specs.declared.types.SequenceOrSet.{SequenceOrSet, out-SequenceOrSet}
use Rattle.asn_tree.specs.declared.types.SequenceOrSetMember.{SequenceOrSetMember, out-SequenceOrSetMember, roll-SequenceOrSetMember, roll-out-SequenceOrSetMember}
use Rattle.asn_tree.specs.declared.types.SequenceOrSetOf.{SequenceOrSetOf, out-SequenceOrSetOf}
use Rattle.asn_tree.specs.declared.values.ASN1Value.{ASN1Value}
use Rattle.asn_meaning.specs.Accepts.{place}
use Rattle.asn_meaning.specs.Answers.{once}
use Rattle.asn_meaning.specs.Definitions.{Definitions}
use Rattle.asn_meaning.specs.Judge.{meaning, step}
use Rattle.asn_meaning.specs.Kinds.{kind_of}
use Rattle.asn_meaning.specs.Layers.{ElementLayer, MemberLayer, OptionLayer, ReferenceLayer, SetLayer, StructLayer, TypeLayer}
use Rattle.asn_meaning.specs.Meaning.{Meaning}
use Rattle.asn_meaning.specs.Members.{and_then, is_addition_at, members_from, put_in, written_member}
use Rattle.asn_meaning.specs.Names.{IsHead, head_from, lead_at}
use Rattle.asn_meaning.specs.Scopes.{Empty, Place}
use Rattle.asn_meaning.specs.ValueTrees.{same_truth}
use Rattle.asn_link_instance.specs.Closed.{every_name}
use Rattle.asn_link_instance.specs.Instance.{Instances, constraint_instance, element_instance, instance, list_instance, member_instance, of_constraints, of_members, of_options, operation_instance, option_instance, placed_tag, set_instance, struct_instance, tag_instance, type_instance}
use Rattle.asn_link_instance.specs.Literals.{default_written, is_own_head, literals}
use Rattle.asn_link_instance.specs.Subjects.{Choices, OnValues, Subject, perhaps, values_read}
use Rattle.asn_link_instance.proofs.Below.{plain_members}
use Rattle.asn_meaning_unchanged.specs.Unchanged.{linking}
use Rattle.asn_meaning_unchanged.specs.declared.types.Linking.TheVariants.{Stays}
use Rattle.asn_link_closed.specs.OwnInstances.{Eventually}
use Rattle.asn_link_closed.proofs.Levels.{gathered_more, later, rolled, traversed_more}

abbrev pub chosen : Choices
chosen = literals every_name

abbrev pub is_own : Subject → Type 0
is_own j = is_own_head (kind_of (values_read j)) ≡ true

module _ (defs : Definitions) where
  abbrev pub before : ℕ → Meaning
  before n = meaning defs (suc n)

  abbrev pub made : ℕ → ℕ → Instances
  made n k = instance chosen defs (suc n) k

  -- the place is a head, from the first step on
  pub record Head (p : Place) : Type 0 where
    pub found : (n : ℕ) → (before n).head p ≡ Some p
    pub own : is_own_head (kind_of p) ≡ true

  -- ---- what is said of each part, within so many levels

  abbrev pub ElementSame : SubtypeElement → ℕ → Type 0
  ElementSame e k = (n : ℕ) (j : Subject) → is_own j → (made n k).of_element Empty j e ≡ Some e

  abbrev pub SetSame : ElementOrSetOperation → ℕ → Type 0
  SetSame s k = (n : ℕ) (j : Subject) → is_own j → (made n k).of_set Empty j s ≡ Some s

  abbrev pub OperationSame : SetOperation → ℕ → Type 0
  OperationSame o k = (n : ℕ) (j : Subject) → is_own j →
      operation_instance chosen defs (before n) (made n k) Empty j (out-SetOperation o) ≡ Some (out-SetOperation o)

  abbrev pub ConstraintSame : Constraint → ℕ → Type 0
  ConstraintSame c k = (n : ℕ) (j : Subject) → is_own j → constraint_instance chosen defs (before n) (made n k) Empty j (out-Constraint c) ≡ Some (c ∷ [])

  abbrev pub ConstraintsSame : List Constraint → ℕ → Type 0
  ConstraintsSame cs k = (n : ℕ) (p : Place) → Head p → of_constraints chosen defs (before n) (made n k) Empty p cs ≡ Some cs

  -- the type at the head too, where it is no plain name
  abbrev pub TypeSame : ASN1Type → ℕ → Type 0
  TypeSame ty k = (n : ℕ) (down : Bool) → (down ≡ true → linking ty ≡ Stays) → (made n k).of_type down Empty ty ≡ Some ty

  abbrev pub MemberSame : SequenceOrSetMember → ℕ → Type 0
  MemberSame m k = (n : ℕ) → member_instance chosen defs (before n) (made n k) Empty (out-SequenceOrSetMember m) ≡ Some (out-SequenceOrSetMember m)

  abbrev pub MembersSame : List SequenceOrSetMember → ℕ → Type 0
  MembersSame ms k = (n : ℕ) (marker : Option ℕ) (number : ℕ) →
      of_members chosen defs (before n) (made n k) marker number (plain_members Empty marker number ms) ≡ Some ms

  abbrev pub OptionSame : ChoiceOption → ℕ → Type 0
  OptionSame o k = (n : ℕ) → option_instance chosen defs (before n) (made n k) Empty (out-ChoiceOption o) ≡ Some (out-ChoiceOption o)

  abbrev pub OptionsSame : List ChoiceOption → ℕ → Type 0
  OptionsSame os k = (n : ℕ) → of_options chosen defs (before n) (made n k) Empty os ≡ Some os

  abbrev pub StructSame : SequenceOrSet → ℕ → Type 0
  StructSame s k = (n : ℕ) (ty : ASN1Type) → Head (place Empty ty) →
      struct_instance chosen defs (before n) (made n k) Empty ty (out-SequenceOrSet s) ≡ Some (out-SequenceOrSet s)

  abbrev pub ChoiceSame : Choice → ℕ → Type 0
  ChoiceSame c k = OptionsSame (out-Choice c).options k × ConstraintsSame (out-Choice c).constraints k

  abbrev pub ListSame : SequenceOrSetOf → ℕ → Type 0
  ListSame l k = (n : ℕ) (ty : ASN1Type) → Head (place Empty ty) →
      list_instance chosen defs (before n) (made n k) Empty ty (out-SequenceOrSetOf l) ≡ Some (out-SequenceOrSetOf l)

  -- the constraints of a place
  abbrev pub OnPlace : ASN1Type → List Constraint → ℕ → Type 0
  OnPlace ty cs k = (n : ℕ) → of_constraints chosen defs (before n) (made n k) Empty (place Empty ty) cs ≡ Some cs

  -- a type with these, which brings no tag
  pub record PlacedSame (ty : ASN1Type) (cs : List Constraint) (k : ℕ) : Type 0 where
    pub itself : (n : ℕ) → (made n k).of_type false Empty ty ≡ Some ty
    pub on_it : OnPlace ty cs k
    pub untagged : (n : ℕ) → (made n k).of_tag Empty ty ≡ Some None

  -- ---- lists

  pub more_constraints : (c : Constraint) (cs : List Constraint) (k : ℕ) → ConstraintSame c k → ConstraintsSame cs k → ConstraintsSame (c ∷ cs) k
  more_constraints c cs k one others n p head =
      gathered_more (λ d. once None ((before n).head p)
      (λ h. constraint_instance chosen defs (before n) (made n k) Empty (OnValues h) (out-Constraint d))) c cs c cs
      (ap (λ o. once None o (λ h. constraint_instance chosen defs (before n) (made n k) Empty (OnValues h) (out-Constraint c))) (head.found n)
      ∙ one n (OnValues p) head.own)
      (others n p head)

  pub more_options : (o : ChoiceOption) (os : List ChoiceOption) (k : ℕ) → OptionSame o k → OptionsSame os k → OptionsSame (o ∷ os) k
  more_options o os k one others n =
      traversed_more (λ x. once None (option_instance chosen defs (before n) (made n k) Empty (out-ChoiceOption x))
      (λ l. Some (roll-ChoiceOption l))) o os o os
      (ap (λ z. once None z (λ l. Some (roll-ChoiceOption l))) (one n) ∙ ap Some (roll-out-ChoiceOption o))
      (others n)

  same_itself : (b : Bool) → same_truth b b ≡ true
  same_itself true = refl
  same_itself false = refl

  pub more_members : (m : SequenceOrSetMember) (ms : List SequenceOrSetMember) (k : ℕ) → MemberSame m k → MembersSame ms k → MembersSame (m ∷ ms) k
  more_members m ms k one others n marker number =
      let rest = of_members chosen defs (before n) (made n k) marker (suc number) (plain_members Empty marker (suc number) ms) in
      let w = member_instance chosen defs (before n) (made n k) Empty (out-SequenceOrSetMember m) in
      ap (λ b. if b then once None w (λ x. once None rest (λ ws. Some (roll-SequenceOrSetMember x ∷ ws))) else None)
      (same_itself (is_addition_at marker number))
      ∙ ap (λ o. once None o (λ x. once None rest (λ ws. Some (roll-SequenceOrSetMember x ∷ ws)))) (one n)
      ∙ ap (λ o. once None o (λ ws. Some (roll-SequenceOrSetMember (out-SequenceOrSetMember m) ∷ ws))) (others n marker (suc number))
      ∙ ap (λ x. Some (x ∷ ms)) (roll-out-SequenceOrSetMember m)

  -- ---- constraints

  -- an element, from its layer
  pub by_element : {P : ℕ → Type 0} (l : ElementLayer) →
      ((k : ℕ) → P k → (n : ℕ) (j : Subject) → is_own j → element_instance chosen defs (before n) (made n k) Empty j l ≡ Some l) → Eventually P →
      Eventually (ElementSame (roll-SubtypeElement l))
  unfolding instance
  by_element l f p =
      later (λ k h n j own. rolled out-SubtypeElement roll-SubtypeElement out-roll-SubtypeElement
      (element_instance chosen defs (before n) (made n k) Empty j) l (f k h n j own)) p

  pub by_set : {P : ℕ → Type 0} (l : SetLayer) →
      ((k : ℕ) → P k → (n : ℕ) (j : Subject) → is_own j → set_instance chosen defs (before n) (made n k) Empty j l ≡ Some l) → Eventually P →
      Eventually (SetSame (roll-ElementOrSetOperation l))
  unfolding instance
  by_set l f p =
      later (λ k h n j own. rolled out-ElementOrSetOperation roll-ElementOrSetOperation out-roll-ElementOrSetOperation
      (set_instance chosen defs (before n) (made n k) Empty j) l (f k h n j own)) p

  -- ---- members and alternatives

  tag_kept : (n k : ℕ) (tag : Option AsnTag) (ty : ASN1Type) → (made n k).of_tag Empty ty ≡ Some None →
      placed_tag chosen defs (before n) (made n k) Empty tag ty ≡ Some tag
  tag_kept n k None ty e = e
  tag_kept n k (Some tag) ty e = refl

  default_kept : (M : Meaning) (p : Place) (d : Option ASN1Value) → perhaps (λ v. default_written M Empty v p) d ≡ Some d
  default_kept M p None = refl
  default_kept M p (Some v) = refl

  pub placed_member : (m : MemberLayer) (k : ℕ) → PlacedSame m.ty m.constraints k → (n : ℕ) →
      member_instance chosen defs (before n) (made n k) Empty m ≡ Some m
  placed_member m k s n =
      let tag = placed_tag chosen defs (before n) (made n k) Empty m.tag m.ty in
      let default = perhaps (λ v. default_written (before n) Empty v (place Empty m.ty)) m.default_value in
      let cs = of_constraints chosen defs (before n) (made n k) Empty (place Empty m.ty) m.constraints in
      ap (λ o. once None o (λ ty. once None cs
      (λ cs. once None default (λ d. once None tag (λ t. Some (record m { tag = t; ty = ty; constraints = cs; default_value = d })))))) (s.itself n)
      ∙ ap (λ o. once None o (λ cs. once None default (λ d. once None tag (λ t. Some (record m { tag = t; constraints = cs; default_value = d })))))
      (s.on_it n)
      ∙ ap (λ o. once None o (λ d. once None tag (λ t. Some (record m { tag = t; default_value = d }))))
      (default_kept (before n) (place Empty m.ty) m.default_value)
      ∙ ap (λ o. once None o (λ t. Some (record m { tag = t }))) (tag_kept n k m.tag m.ty (s.untagged n))

  pub placed_option : (o : OptionLayer) (k : ℕ) → PlacedSame o.ty o.constraints k → (n : ℕ) →
      option_instance chosen defs (before n) (made n k) Empty o ≡ Some o
  placed_option o k s n =
      let tag = placed_tag chosen defs (before n) (made n k) Empty o.tag o.ty in
      let cs = of_constraints chosen defs (before n) (made n k) Empty (place Empty o.ty) o.constraints in
      ap (λ z. once None z (λ ty. once None cs (λ cs. once None tag (λ t. Some (record o { tag = t; ty = ty; constraints = cs }))))) (s.itself n)
      ∙ ap (λ z. once None z (λ cs. once None tag (λ t. Some (record o { tag = t; constraints = cs })))) (s.on_it n)
      ∙ ap (λ z. once None z (λ t. Some (record o { tag = t }))) (tag_kept n k o.tag o.ty (s.untagged n))

  -- ---- SEQUENCE and SET without COMPONENTS OF

  plain_from : (M : Meaning) (x : StructLayer) (number : ℕ) (ms : List SequenceOrSetMember) → x.components_of ≡ [] →
      members_from M Empty x number ms ≡ Some (plain_members Empty x.extensible number ms)
  plain_from M x number [] e = ap (λ z. put_in M Empty number z x.components_at) e
  plain_from M x number (m ∷ ms) e =
      ap (λ z. and_then z (and_then (Some (written_member Empty x.extensible number m ∷ [])) (members_from M Empty x (suc number) ms)))
      (ap (λ z. put_in M Empty number z x.components_at) e)
      ∙ ap (λ z. and_then (Some []) (and_then (Some (written_member Empty x.extensible number m ∷ [])) z)) (plain_from M x (suc number) ms e)

  members_known : (n : ℕ) (x : StructLayer) → x.components_of ≡ [] → (before n).members Empty x ≡ Some (plain_members Empty x.extensible 0 x.members)
  unfolding meaning step
  members_known n x e = plain_from (meaning defs n) x 0 x.members e

  abbrev struct_at : ℕ → ℕ → ASN1Type → StructLayer → Type 0
  struct_at n k ty x = struct_instance chosen defs (before n) (made n k) Empty ty x ≡ Some x

  bare_struct_same : (x : StructLayer) (k : ℕ) → MembersSame x.members k → ConstraintsSame x.constraints k → (n : ℕ) (ty : ASN1Type) →
      Head (place Empty ty) → struct_at n k ty (record x { components_of = [] })
  bare_struct_same x k ms cs n ty head =
      let y : StructLayer = record x { components_of = [] } in
      let read = of_members chosen defs (before n) (made n k) y.extensible 0 in
      let constraints = of_constraints chosen defs (before n) (made n k) Empty (place Empty ty) y.constraints in
      ap (λ o. once None o (λ vs. once None (read vs) (λ ws. once None constraints (λ cs. Some (record y { constraints = cs; members = ws })))))
      (members_known n y refl)
      ∙ ap (λ o. once None o (λ ws. once None constraints (λ cs. Some (record y { constraints = cs; members = ws })))) (ms n y.extensible 0)
      ∙ ap (λ o. once None o (λ cs. Some (record y { constraints = cs }))) (cs n (place Empty ty) head)

  pub struct_same : (x : StructLayer) → x.components_of ≡ [] → (k : ℕ) → MembersSame x.members k → ConstraintsSame x.constraints k →
      (n : ℕ) (ty : ASN1Type) → Head (place Empty ty) → struct_instance chosen defs (before n) (made n k) Empty ty x ≡ Some x
  struct_same x e k ms cs n ty head = subst (struct_at n k ty) (sym (ap (λ z. record x { components_of = z }) e)) (bare_struct_same x k ms cs n ty head)

  -- ---- types

  pub head_known : (ty : ASN1Type) → ((M : Meaning) → lead_at defs M Empty (kind_of (place Empty ty)) ≡ IsHead) →
      is_own_head (kind_of (place Empty ty)) ≡ true → Head (place Empty ty)
  unfolding meaning step
  head_known ty leads own = record { found = λ n. ap (head_from (meaning defs n) (place Empty ty)) (leads (meaning defs n)); own = own }

  -- a type, from its layer
  pub by_type : {P : ℕ → Type 0} (l : TypeLayer) →
      ((k : ℕ) → P k → (n : ℕ) (down : Bool) → (down ≡ true → linking (roll-ASN1Type l) ≡ Stays) →
      type_instance chosen defs (before n) (made n k) down Empty (roll-ASN1Type l) l ≡ Some l) → Eventually P → Eventually (TypeSame (roll-ASN1Type l))
  unfolding instance
  by_type l f p =
      later (λ k h n down stays. rolled out-ASN1Type roll-ASN1Type out-roll-ASN1Type
      (type_instance chosen defs (before n) (made n k) down Empty (roll-ASN1Type l)) l (f k h n down stays)) p

  -- a plain name with nothing behind it
  bare_name : (x : ReferenceLayer) → x.parent ≡ None → x.constraints ≡ [] → record x { parent = None; constraints = [] } ≡ x
  bare_name x alone none =
      sym (ap (λ z. record x { parent = None; constraints = z }) none) ∙ sym (ap (λ z. record x { parent = z }) alone)

  abbrev name_same : Meaning → Instances → ASN1Type → ReferenceLayer → Type 0
  name_same M I ty x = type_instance chosen defs M I false Empty ty (ASN1Type-F.ElsewhereDeclaredType x) ≡ Some (ASN1Type-F.ElsewhereDeclaredType x)

  pub reference_same : (x : ReferenceLayer) → x.parent ≡ None → x.constraints ≡ [] → (M : Meaning) (I : Instances) (ty : ASN1Type) → name_same M I ty x
  reference_same x alone none M I ty = subst (name_same M I ty) (bare_name x alone none) refl

  abbrev name_untagged : Meaning → Instances → ReferenceLayer → Type 0
  name_untagged M I x = tag_instance chosen defs M I Empty (ASN1Type-F.ElsewhereDeclaredType x) ≡ Some None

  pub reference_untagged : (x : ReferenceLayer) → x.parent ≡ None → x.constraints ≡ [] → (M : Meaning) (I : Instances) → name_untagged M I x
  reference_untagged x alone none M I = subst (name_untagged M I) (bare_name x alone none) refl

  pub tag_known : (n k : ℕ) (ty : ASN1Type) → tag_instance chosen defs (before n) (made n k) Empty (out-ASN1Type ty) ≡ Some None →
      (made n (suc k)).of_tag Empty ty ≡ Some None
  unfolding instance
  tag_known n k ty e = e
