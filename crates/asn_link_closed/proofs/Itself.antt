-- What linking leaves as it is is its own instance, by an induction over types, constraints and what stands in them.
use Rattle.std.proofs.Common.{◌≡◌, ℕ, suc, List, [], ◌∷◌, Bool, true, false, ◌&&◌, Option, Some, None, map, refl, sym, subst, ap, ◌∙◌}
use Rattle.std.specs.Prelude.{is_none}
use Rattle.std.proofs.lemmas.Bool.{and_parts}
use Rattle.asn_tree.specs.Folds.{choice_is, choice_read, list_is, list_read, member_is, member_read, operation_is, operation_read, option_is, option_read, set_is, set_read, struct_is, struct_read, type_is, type_read}
use Rattle.asn_tree.specs.Layers.{ChoiceOver, ConstraintLayer, ConstraintOver, ElementLayer, ElementOver, ListOver, MemberOver, OperationOver, OptionOver, SetOver, StructOver, TypeLayer, TypeOver}
use Rattle.asn_tree.specs.declared.constraints.Constraint.{Constraint, Constraint-F, out-Constraint, roll-Constraint, out-roll-Constraint}
use Rattle.asn_tree.specs.declared.constraints.ElementOrSetOperation.{ElementOrSetOperation-F, roll-ElementOrSetOperation, out-roll-ElementOrSetOperation}
use Rattle.asn_tree.specs.declared.constraints.SetOperation.{roll-SetOperation, out-roll-SetOperation, roll-out-SetOperation}
use Rattle.asn_tree.specs.declared.constraints.SubtypeElement.{SubtypeElement-F, roll-SubtypeElement}
use Rattle.asn_tree.specs.declared.types.ASN1Type.{ASN1Type, ASN1Type-F, out-ASN1Type, roll-ASN1Type, out-roll-ASN1Type}
use Rattle.asn_tree.specs.declared.types.Choice.{Choice, out-Choice, roll-Choice, out-roll-Choice, roll-out-Choice}
use Rattle.asn_tree.specs.declared.types.ChoiceOption.{ChoiceOption, roll-ChoiceOption, out-roll-ChoiceOption}
use Rattle.asn_tree.specs.declared.types.SequenceOrSet.{out-SequenceOrSet, roll-SequenceOrSet, out-roll-SequenceOrSet, roll-out-SequenceOrSet}
use Rattle.asn_tree.specs.declared.types.SequenceOrSetMember.{SequenceOrSetMember, roll-SequenceOrSetMember, out-roll-SequenceOrSetMember}
use Rattle.asn_tree.specs.declared.types.SequenceOrSetOf.{out-SequenceOrSetOf, roll-SequenceOrSetOf, out-roll-SequenceOrSetOf, roll-out-SequenceOrSetOf}
use Rattle.asn_tree.specs.declared.values.ASN1Value.{ASN1Value}
use Rattle.asn_meaning.specs.Accepts.{place}
use Rattle.asn_meaning.specs.Answers.{once}
use Rattle.asn_meaning.specs.Definitions.{Definitions}
use Rattle.asn_meaning.specs.Kinds.{kind_at}
use Rattle.asn_meaning.specs.Layers.{ReferenceLayer}
use Rattle.asn_meaning.specs.Meaning.{Meaning}
use Rattle.asn_meaning.specs.Names.{IsHead, lead_at}
use Rattle.asn_meaning.specs.Ranges.{integer_named}
use Rattle.asn_meaning.specs.Scopes.{Empty, Place}
use Rattle.asn_calls.specs.Types.{with_constraints_at}
use Rattle.asn_link_instance.specs.Instance.{Instances, constraint_instance, element_instance, list_instance, member_instance, of_constraints, operation_instance, option_instance, struct_instance, tag_instance, type_instance}
use Rattle.asn_link_instance.specs.Literals.{is_own_head, value_written}
use Rattle.asn_link_instance.specs.Subjects.{OnCharacters, OnValues, Subject, ends_read, perhaps, values_read}
use Rattle.asn_meaning_unchanged.specs.Unchanged.{all_behind, are_all, choice_form, choice_stays, constraint_form, constraint_stays, contained_form, element_form, element_stays, end_form, has_none, is_left, is_single, linking, list_form, list_stays, literal, member_form, member_stays, operation_form, operation_stays, option_form, option_stays, placed_form, set_form, set_stays, stays_if, struct_form, struct_stays, telling, type_form}
use Rattle.asn_meaning_unchanged.specs.Unchanged as unchanged
use Rattle.asn_meaning_unchanged.specs.declared.literals.Literal.{Literal}
use Rattle.asn_meaning_unchanged.specs.declared.types.Linking.{Linking}
use Rattle.asn_meaning_unchanged.specs.declared.types.Linking.TheVariants.{Stays, PlainName, Changes}
use Rattle.asn_meaning_unchanged.proofs.AllTypes.{Shown, none_shown, proved, bare_choice, bare_constraint, bare_element, bare_list, bare_member, bare_operation, bare_option, bare_set, bare_struct, bare_type, each_type}
use Rattle.asn_link_closed.specs.OwnInstances.{Eventually}
use Rattle.asn_link_closed.proofs.Levels.{always, from_one, joined, mapped, nothing}
use Rattle.asn_link_closed.proofs.Singles.{end_same, ends_own, number_own, single_same, text_own}
use Rattle.asn_link_closed.proofs.OwnTold.{constraint_at, contained_stays, element_at, held, linking_at, never, no_stay, none_empty, none_is, none_mapped, reference_if, split}
use Rattle.asn_link_closed.proofs.Steady.{before, by_element, by_set, by_type, chosen, ChoiceSame, ConstraintSame, ConstraintsSame, ElementSame, Head, head_known, ListSame, made, MemberSame, MembersSame, more_constraints, more_members, more_options, OnPlace, OperationSame, OptionSame, OptionsSame, placed_member, placed_option, PlacedSame, reference_same, reference_untagged, SetSame, struct_same, StructSame, tag_known, TypeSame}

-- what stays is a head
record IsOwn (defs : Definitions) (l : TypeLayer) : Type 0 where
  pub leads : (M : Meaning) → lead_at defs M Empty (kind_at l) ≡ IsHead
  pub own : is_own_head (kind_at l) ≡ true

own : (defs : Definitions) (l : TypeLayer) → type_form (type_read telling l) ≡ Stays → IsOwn defs l
own defs (ASN1Type-F.ElsewhereDeclaredType r) h = absurd (no_stay (is_none r.parent && has_none (map constraint_stays r.constraints)) h)
own defs (ASN1Type-F.ChoiceSelectionType s) h = absurd cc
own defs (ASN1Type-F.InformationObjectFieldReference f) h = absurd cc
own defs _ h = record { leads = λ M. refl; own = refl }

stays_head : (defs : Definitions) (ty : ASN1Type) → linking ty ≡ Stays → Head defs (place Empty ty)
stays_head defs ty h =
    let o = own defs (out-ASN1Type ty) (sym (type_is telling ty) ∙ h) in
    head_known defs ty o.leads o.own

-- ---- tags

untagged_layer : (defs : Definitions) (l : TypeLayer) → is_left (type_form (type_read telling l)) ≡ true → (M : Meaning) (I : Instances) →
    tag_instance chosen defs M I Empty l ≡ Some None
untagged_layer defs (ASN1Type-F.ElsewhereDeclaredType r) h M I =
    let b = and_parts (is_none r.parent) (has_none (map constraint_stays r.constraints)) (reference_if _ h) in
    reference_untagged defs r (none_is r.parent b.0) (none_mapped constraint_stays r.constraints b.1) M I
untagged_layer defs (ASN1Type-F.ChoiceSelectionType s) h M I = absurd cc
untagged_layer defs (ASN1Type-F.InformationObjectFieldReference f) h M I = absurd cc
untagged_layer defs _ h M I = refl

pub untagged : (defs : Definitions) (ty : ASN1Type) → is_left (linking ty) ≡ true → (n k : ℕ) → (made defs n (suc k)).of_tag Empty ty ≡ Some None
untagged defs ty h n k = tag_known defs n k ty
    (untagged_layer defs (out-ASN1Type ty) (ap is_left (sym (type_is telling ty)) ∙ h) (before defs n) (made defs n k))

module _ (defs : Definitions) where
  abbrev shown : Shown
  shown =
      record none_shown {
        of_constraint = λ c. constraint_stays c ≡ true → Eventually (ConstraintSame defs c);
        of_set = λ s. set_stays s ≡ true → Eventually (SetSame defs s);
        of_element = λ e. element_stays e ≡ true → Eventually (ElementSame defs e);
        of_type = λ ty. is_left (linking ty) ≡ true → Eventually (TypeSame defs ty);
        of_operation = λ o. operation_stays o ≡ true → Eventually (OperationSame defs o);
        of_choice = λ c. choice_stays c ≡ true → Eventually (ChoiceSame defs c);
        of_option = λ o. option_stays o ≡ true → Eventually (OptionSame defs o);
        of_struct = λ s. struct_stays s ≡ true → Eventually (StructSame defs s);
        of_member = λ m. member_stays m ≡ true → Eventually (MemberSame defs m);
        of_list = λ l. list_stays l ≡ true → Eventually (ListSame defs l);
      }

  -- ---- lists

  abbrev ShownConstraints : Type 0
  ShownConstraints = List ((c : Constraint) × (constraint_stays c ≡ true → Eventually (ConstraintSame defs c)))

  -- a list, from what is shown of each item
  each : {A : Type 0} (test : A → Bool) (One : A → ℕ → Type 0) (Every : List A → ℕ → Type 0) → Eventually (Every []) →
      ((x : A) (xs : List A) (k : ℕ) → One x k → Every xs k → Every (x ∷ xs) k) →
      (ys : List ((x : A) × (test x ≡ true → Eventually (One x)))) → are_all (map test (map (λ y. y.0) ys)) ≡ true → Eventually (Every (map (λ y. y.0) ys))
  each test One Every none more [] h = none
  each test One Every none more (y ∷ ys) h =
      let b = split (test y.0) (map test (map (λ y. y.0) ys)) h in
      joined (more y.0 (map (λ y. y.0) ys)) (y.1 b.first) (each test One Every none more ys b.others)

  constraints_shown : (ys : ShownConstraints) → are_all (map constraint_stays (map (λ y. y.0) ys)) ≡ true →
      Eventually (ConstraintsSame defs (map (λ y. y.0) ys))
  constraints_shown ys h = each constraint_stays (ConstraintSame defs) (ConstraintsSame defs) (always (λ k n p head. refl)) (more_constraints defs) ys h

  members_shown : (ys : List ((m : SequenceOrSetMember) × (member_stays m ≡ true → Eventually (MemberSame defs m)))) →
      are_all (map member_stays (map (λ y. y.0) ys)) ≡ true → Eventually (MembersSame defs (map (λ y. y.0) ys))
  members_shown ys h = each member_stays (MemberSame defs) (MembersSame defs) (always (λ k n marker number. refl)) (more_members defs) ys h

  options_shown : (ys : List ((o : ChoiceOption) × (option_stays o ≡ true → Eventually (OptionSame defs o)))) →
      are_all (map option_stays (map (λ y. y.0) ys)) ≡ true → Eventually (OptionsSame defs (map (λ y. y.0) ys))
  options_shown ys h = each option_stays (OptionSame defs) (OptionsSame defs) (always (λ k n. refl)) (more_options defs) ys h

  -- ---- a type with the constraints of its place

  placed : (ty : ASN1Type) → (is_left (linking ty) ≡ true → Eventually (TypeSame defs ty)) → (ys : ShownConstraints) →
      placed_form (linking ty) (map constraint_stays (map (λ y. y.0) ys)) ≡ true → Eventually (PlacedSame defs ty (map (λ y. y.0) ys))
  placed ty shown_of ys h = go (linking ty) refl h
    where
      made_up : is_left (linking ty) ≡ true → Eventually (OnPlace defs ty (map (λ y. y.0) ys)) → Eventually (PlacedSame defs ty (map (λ y. y.0) ys))
      made_up left on =
          let both : Eventually (λ k. TypeSame defs ty k × OnPlace defs ty (map (λ y. y.0) ys) k) = joined (λ k a b. (a, b)) (shown_of left) on in
          joined (λ k a t. record { itself = λ n. a.0 n false (λ e. absurd cc); on_it = a.1; untagged = t }) both (from_one (λ k n. untagged defs ty left n k))

      go : (k : Linking) → linking ty ≡ k → placed_form k (map constraint_stays (map (λ y. y.0) ys)) ≡ true →
          Eventually (PlacedSame defs ty (map (λ y. y.0) ys))
      go Stays e p = made_up (ap is_left e) (mapped (λ k a n. a n (place Empty ty) (stays_head defs ty e)) (constraints_shown ys p))
      go PlainName e p =
          made_up (ap is_left e)
          (subst (λ cs. Eventually (OnPlace defs ty cs)) (sym (none_mapped constraint_stays (map (λ y. y.0) ys) p)) (always (λ k n. refl)))
      go Changes e p = absurd cc

  -- ---- elements

  abbrev ShownValue : Type 0
  ShownValue = (v : ASN1Value) × Unit {0}

  abbrev bare_end : Option ShownValue → Option ASN1Value
  bare_end None = None
  bare_end (Some v) = Some v.0

  abbrev told_end : Option ShownValue → Option Literal
  told_end None = None
  told_end (Some v) = Some (literal v.0)

  end_at : (o : Option ShownValue) → end_form (told_end o) ≡ true → (n : ℕ) (p : Place) → is_own_head (kind_at (out-ASN1Type p.ty)) ≡ true →
      perhaps (λ v. value_written (before defs n) Empty v p) (bare_end o) ≡ Some (bare_end o)
  end_at None h n p is = refl
  end_at (Some v) h n p is = ap (λ o. once None o (λ w. Some (Some w))) (end_same (before defs n) Empty v.0 p is h)

  ends : (low high : Option ShownValue) (a b c : Bool) (l : ElementLayer) → l ≡ SubtypeElement-F.ValueRange (bare_end low) (bare_end high) a b c →
      (end_form (told_end low) && end_form (told_end high)) ≡ true → Eventually (ElementSame defs (roll-SubtypeElement l))
  ends low high a b c l is h =
      let both = and_parts (end_form (told_end low)) (end_form (told_end high)) h in
      subst (λ z. Eventually (ElementSame defs (roll-SubtypeElement z))) (sym is)
      (by_element defs (SubtypeElement-F.ValueRange (bare_end low) (bare_end high) a b c)
      (λ k u n j is_one.
      ap (λ o. once None o (λ x. once None (perhaps (λ v. value_written (before defs n) Empty v (ends_read j)) (bare_end high))
      (λ y. Some (SubtypeElement-F.ValueRange x y a b c)))) (end_at low both.0 n (ends_read j) (ends_own j is_one))
      ∙ ap (λ o. once None o (λ y. Some (SubtypeElement-F.ValueRange (bare_end low) y a b c))) (end_at high both.1 n (ends_read j) (ends_own j is_one)))
      nothing)

  range_case : (low high : Option ShownValue) (a b c : Bool) →
      shown.of_element (roll-SubtypeElement (bare_element shown (SubtypeElement-F.ValueRange low high a b c)))
  range_case None None a b c h = ends None None a b c _ refl refl
  range_case None (Some w) a b c h = ends None (Some w) a b c _ refl (sym (element_at (SubtypeElement-F.ValueRange None (Some w.0) a b c)) ∙ h)
  range_case (Some v) None a b c h = ends (Some v) None a b c _ refl (sym (element_at (SubtypeElement-F.ValueRange (Some v.0) None a b c)) ∙ h)
  range_case (Some v) (Some w) a b c h = ends (Some v) (Some w) a b c _ refl (sym (element_at (SubtypeElement-F.ValueRange (Some v.0) (Some w.0) a b c)) ∙ h)

  -- an element without trees that may change
  plain_element : (l : ElementLayer) → ((M : Meaning) (I : Instances) (j : Subject) → element_instance chosen defs M I Empty j l ≡ Some l) →
      Eventually (ElementSame defs (roll-SubtypeElement l))
  plain_element l same = by_element defs l (λ k u n j is. same (before defs n) (made defs n k) j) nothing

  element_case : (y : ElementOver (proved shown)) → shown.of_element (roll-SubtypeElement (bare_element shown y))
  element_case (SubtypeElement-F.SingleValue v extensible) h =
      let l : ElementLayer = SubtypeElement-F.SingleValue v.0 extensible in
      by_element defs l (λ k u n j is. ap (λ o. once None o (λ w. Some (SubtypeElement-F.SingleValue w extensible)))
      (single_same defs n Empty v.0 (values_read j) is (sym (element_at l) ∙ h))) nothing
  element_case (SubtypeElement-F.ContainedSubtype ty extensible) h =
      let l : ElementLayer = SubtypeElement-F.ContainedSubtype ty.0 extensible in
      let stays = contained_stays ty.0 (sym (element_at l) ∙ h) in
      by_element defs l (λ k same n j is. ap (λ o. once None o (λ uy. Some (SubtypeElement-F.ContainedSubtype uy extensible))) (same n true (λ e. stays)))
      (ty.1 (ap is_left stays))
  element_case (SubtypeElement-F.ValueRange low high low_open high_open extensible) h = range_case low high low_open high_open extensible h
  element_case (SubtypeElement-F.PermittedAlphabet set) h =
      let l : ElementLayer = SubtypeElement-F.PermittedAlphabet set.0 in
      by_element defs l (λ k same n j is. ap (λ o. once None o (λ s. Some (SubtypeElement-F.PermittedAlphabet s))) (same n OnCharacters text_own))
      (set.1 (sym (element_at l) ∙ h))
  element_case (SubtypeElement-F.SizeConstraint set) h =
      let l : ElementLayer = SubtypeElement-F.SizeConstraint set.0 in
      by_element defs l (λ k same n j is. ap (λ o. once None o (λ s. Some (SubtypeElement-F.SizeConstraint s)))
      (same n (OnValues (integer_named None)) (number_own None))) (set.1 (sym (element_at l) ∙ h))
  element_case (SubtypeElement-F.TypeConstraint ty) h =
      let l : ElementLayer = SubtypeElement-F.TypeConstraint ty.0 in
      let stays = contained_stays ty.0 (sym (element_at l) ∙ h) in
      by_element defs l (λ k same n j is. ap (λ o. once None o (λ uy. Some (SubtypeElement-F.TypeConstraint uy))) (same n true (λ e. stays)))
      (ty.1 (ap is_left stays))
  element_case (SubtypeElement-F.SingleTypeConstraint cs) h = absurd (never _ h (element_at (bare_element shown (SubtypeElement-F.SingleTypeConstraint cs))))
  element_case (SubtypeElement-F.MultipleTypeConstraints inner) h =
      absurd (never _ h (element_at (bare_element shown (SubtypeElement-F.MultipleTypeConstraints inner))))
  element_case (SubtypeElement-F.PatternConstraint x) h = plain_element (bare_element shown (SubtypeElement-F.PatternConstraint x)) (λ M I j. refl)
  element_case (SubtypeElement-F.UserDefinedConstraint x) h = plain_element (bare_element shown (SubtypeElement-F.UserDefinedConstraint x)) (λ M I j. refl)
  element_case (SubtypeElement-F.PropertySettings x) h = plain_element (bare_element shown (SubtypeElement-F.PropertySettings x)) (λ M I j. refl)

  -- ---- sets and constraints

  set_at : (y : SetOver (proved shown)) → set_stays (roll-ElementOrSetOperation (bare_set shown y)) ≡ true →
      set_form (set_read telling (bare_set shown y)) ≡ true
  set_at y h = sym (set_is telling (roll-ElementOrSetOperation (bare_set shown y))
      ∙ ap (λ z. set_form (set_read telling z)) (out-roll-ElementOrSetOperation (bare_set shown y))) ∙ h

  set_case : (y : SetOver (proved shown)) → shown.of_set (roll-ElementOrSetOperation (bare_set shown y))
  set_case (ElementOrSetOperation-F.Element e) h =
      by_set defs (ElementOrSetOperation-F.Element e.0)
      (λ k same n j is. ap (λ o. once None o (λ f. Some (ElementOrSetOperation-F.Element f))) (same n j is))
      (e.1 (set_at (ElementOrSetOperation-F.Element e) h))
  set_case (ElementOrSetOperation-F.SetOperation o) h =
      by_set defs (ElementOrSetOperation-F.SetOperation o.0)
      (λ k same n j is. ap (λ z. once None z (λ y. Some (ElementOrSetOperation-F.SetOperation (roll-SetOperation y)))) (same n j is)
      ∙ ap (λ y. Some (ElementOrSetOperation-F.SetOperation y)) (roll-out-SetOperation o.0))
      (o.1 (set_at (ElementOrSetOperation-F.SetOperation o) h))

  operation_case : (y : OperationOver (proved shown)) → shown.of_operation (roll-SetOperation (bare_operation shown y))
  operation_case y h =
      let l = bare_operation shown y in
      let b = and_parts (element_stays y.base.0) (set_stays y.operant.0)
      (sym (operation_is telling (roll-SetOperation l) ∙ ap (λ z. operation_form (operation_read telling z)) (out-roll-SetOperation l)) ∙ h) in
      joined
      (λ k base operant n j is.
      subst (λ z. operation_instance chosen defs (before defs n) (made defs n k) Empty j z ≡ Some z) (sym (out-roll-SetOperation l))
      (ap (λ o. once None o (λ e. once None ((made defs n k).of_set Empty j l.operant) (λ s. Some (record l { base = e; operant = s })))) (base n j is)
      ∙ ap (λ o. once None o (λ s. Some (record l { operant = s }))) (operant n j is)))
      (y.base.1 b.0) (y.operant.1 b.1)

  abbrev constraint_in : ℕ → ℕ → Subject → ConstraintLayer → Option (List Constraint)
  constraint_in k n j l = constraint_instance chosen defs (before defs n) (made defs n k) Empty j l

  by_constraint : (l : ConstraintLayer) (k n : ℕ) (j : Subject) → constraint_in k n j l ≡ Some (roll-Constraint l ∷ []) →
      constraint_in k n j (out-Constraint (roll-Constraint l)) ≡ Some (roll-Constraint l ∷ [])
  by_constraint l k n j e = ap (constraint_in k n j) (out-roll-Constraint l) ∙ e

  constraint_case : (y : ConstraintOver (proved shown)) → shown.of_constraint (roll-Constraint (bare_constraint shown y))
  constraint_case (Constraint-F.SubtypeConstraint x) h =
      let l = bare_constraint shown (Constraint-F.SubtypeConstraint x) in
      mapped (λ k same n j is. by_constraint l k n j
      (ap (λ o. once None o (λ set. Some (roll-Constraint (Constraint-F.SubtypeConstraint (record { set = set; extensible = x.extensible })) ∷ [])))
      (same n j is))) (x.set.1 (sym (constraint_at l) ∙ h))
  constraint_case (Constraint-F.TableConstraint x) h =
      let l = bare_constraint shown (Constraint-F.TableConstraint x) in
      always (λ k n j is. by_constraint l k n j refl)
  constraint_case (Constraint-F.Parameter x) h =
      absurd (never (constraint_stays (roll-Constraint (bare_constraint shown (Constraint-F.Parameter x)))) h
      (constraint_at (bare_constraint shown (Constraint-F.Parameter x))))
  constraint_case (Constraint-F.ContentConstraint x) h =
      let l = bare_constraint shown (Constraint-F.ContentConstraint x) in
      always (λ k n j is. by_constraint l k n j refl)

  -- ---- members, alternatives, elements

  member_case : (y : MemberOver (proved shown)) → shown.of_member (roll-SequenceOrSetMember (bare_member shown y))
  member_case y h =
      let l = bare_member shown y in
      let told = sym (member_is telling (roll-SequenceOrSetMember l) ∙ ap (λ z. member_form (member_read telling z)) (out-roll-SequenceOrSetMember l)) ∙ h in
      subst (λ z. Eventually (λ k. (n : ℕ) → member_instance chosen defs (before defs n) (made defs n k) Empty z ≡ Some z))
      (sym (out-roll-SequenceOrSetMember l))
      (mapped (placed_member defs l)
      (placed y.ty.0 y.ty.1 y.constraints (and_parts (placed_form (linking y.ty.0) (map constraint_stays (map (λ c. c.0) y.constraints))) _ told).0))

  option_case : (y : OptionOver (proved shown)) → shown.of_option (roll-ChoiceOption (bare_option shown y))
  option_case y h =
      let l = bare_option shown y in
      let told = sym (option_is telling (roll-ChoiceOption l) ∙ ap (λ z. option_form (option_read telling z)) (out-roll-ChoiceOption l)) ∙ h in
      subst (λ z. Eventually (λ k. (n : ℕ) → option_instance chosen defs (before defs n) (made defs n k) Empty z ≡ Some z)) (sym (out-roll-ChoiceOption l))
      (mapped (placed_option defs l) (placed y.ty.0 y.ty.1 y.constraints told))

  struct_case : (y : StructOver (proved shown)) → shown.of_struct (roll-SequenceOrSet (bare_struct shown y))
  struct_case y h =
      let l = bare_struct shown y in
      let told = sym (struct_is telling (roll-SequenceOrSet l) ∙ ap (λ z. struct_form (struct_read telling z)) (out-roll-SequenceOrSet l)) ∙ h in
      let a = and_parts (has_none l.components_of && are_all (map member_stays l.members)) (are_all (map constraint_stays l.constraints)) told in
      let b = and_parts (has_none l.components_of) (are_all (map member_stays l.members)) a.0 in
      subst (λ z. Eventually (λ k. (n : ℕ) (ty : ASN1Type) → Head defs (place Empty ty) →
      struct_instance chosen defs (before defs n) (made defs n k) Empty ty z ≡ Some z)) (sym (out-roll-SequenceOrSet l))
      (joined (struct_same defs l (none_empty l.components_of b.0)) (members_shown y.members b.1) (constraints_shown y.constraints a.1))

  choice_case : (y : ChoiceOver (proved shown)) → shown.of_choice (roll-Choice (bare_choice shown y))
  choice_case y h =
      let l = bare_choice shown y in
      let told = sym (choice_is telling (roll-Choice l) ∙ ap (λ z. choice_form (choice_read telling z)) (out-roll-Choice l)) ∙ h in
      let a = and_parts (are_all (map option_stays l.options)) (are_all (map constraint_stays l.constraints)) told in
      subst (λ z. Eventually (λ k. OptionsSame defs z.options k × ConstraintsSame defs z.constraints k)) (sym (out-roll-Choice l))
      (joined (λ k os cs. (os, cs)) (options_shown y.options a.0) (constraints_shown y.constraints a.1))

  list_case : (y : ListOver (proved shown)) → shown.of_list (roll-SequenceOrSetOf (bare_list shown y))
  list_case y h =
      let l = bare_list shown y in
      let told = sym (list_is telling (roll-SequenceOrSetOf l) ∙ ap (λ z. list_form (list_read telling z)) (out-roll-SequenceOrSetOf l)) ∙ h in
      let a = and_parts (is_left (linking y.element_type.0)) (are_all (map constraint_stays l.constraints)) told in
      subst (λ z. Eventually (λ k. (n : ℕ) (ty : ASN1Type) → Head defs (place Empty ty) →
      list_instance chosen defs (before defs n) (made defs n k) Empty ty z ≡ Some z)) (sym (out-roll-SequenceOrSetOf l))
      (joined
      (λ k element cs n ty head.
      ap (λ o. once None o (λ e. once None (of_constraints chosen defs (before defs n) (made defs n k) Empty (place Empty ty) l.constraints)
      (λ ds. Some (record l { element_type = e; constraints = ds })))) (element n false (λ e. absurd cc))
      ∙ ap (λ o. once None o (λ ds. Some (record l { constraints = ds }))) (cs n (place Empty ty) head))
      (y.element_type.1 a.0) (constraints_shown y.constraints a.1))

  -- ---- types

  -- a layer that is a head stands so as a type
  head_of : (l : TypeLayer) → IsOwn defs l → Head defs (place Empty (roll-ASN1Type l))
  head_of l o = head_known defs (roll-ASN1Type l) (λ M. ap (λ x. lead_at defs M Empty (kind_at x)) (out-roll-ASN1Type l) ∙ o.leads M)
      (ap (λ x. is_own_head (kind_at x)) (out-roll-ASN1Type l) ∙ o.own)

  -- a built-in type without parts
  flat : (l : TypeLayer) (ys : ShownConstraints) →
      ((M : Meaning) (I : Instances) (down : Bool) (ty : ASN1Type) →
      type_instance chosen defs M I down Empty ty l ≡ once None (of_constraints chosen defs M I Empty (place Empty ty) (map (λ y. y.0) ys))
      (λ cs. Some (with_constraints_at l cs))) →
      with_constraints_at l (map (λ y. y.0) ys) ≡ l → type_form (type_read telling l) ≡ unchanged.constrained (map constraint_stays (map (λ y. y.0) ys)) →
      is_left (linking (roll-ASN1Type l)) ≡ true → Eventually (TypeSame defs (roll-ASN1Type l))
  flat l ys at again told h =
      let o = own defs l (told ∙ ap stays_if (held l _ told h)) in
      by_type defs l
      (λ k cs n down stays.
      at (before defs n) (made defs n k) down (roll-ASN1Type l)
      ∙ ap (λ o. once None o (λ cs. Some (with_constraints_at l cs))) (cs n (place Empty (roll-ASN1Type l)) (head_of l o))
      ∙ ap Some again)
      (constraints_shown ys (held l _ told h))

  -- a word alone
  bare : (l : TypeLayer) → ((M : Meaning) (I : Instances) (down : Bool) (ty : ASN1Type) → type_instance chosen defs M I down Empty ty l ≡ Some l) →
      Eventually (TypeSame defs (roll-ASN1Type l))
  bare l at = by_type defs l (λ k u n down stays. at (before defs n) (made defs n k) down (roll-ASN1Type l)) nothing

  -- a SEQUENCE or SET, or a list of elements
  parted : {X L : Type 0} (around : X → TypeLayer) (out : X → L) (roll : L → X) (x : X) → roll (out x) ≡ x → IsOwn defs (around x) →
      (found : Meaning → Instances → ASN1Type → Option L) →
      ((M : Meaning) (I : Instances) (down : Bool) (ty : ASN1Type) →
      type_instance chosen defs M I down Empty ty (around x) ≡ once None (found M I ty) (λ y. Some (around (roll y)))) →
      Eventually (λ k. (n : ℕ) (ty : ASN1Type) → Head defs (place Empty ty) → found (before defs n) (made defs n k) ty ≡ Some (out x)) →
      Eventually (TypeSame defs (roll-ASN1Type (around x)))
  parted around out roll x same o found at parts =
      by_type defs (around x)
      (λ k st n down stays.
      at (before defs n) (made defs n k) down (roll-ASN1Type (around x))
      ∙ ap (λ o. once None o (λ y. Some (around (roll y)))) (st n (roll-ASN1Type (around x)) (head_of (around x) o))
      ∙ ap (λ y. Some (around y)) same)
      parts

  choice_type : (c : Choice) → Eventually (ChoiceSame defs c) → Eventually (TypeSame defs (roll-ASN1Type (ASN1Type-F.ASN1Type::Choice c)))
  choice_type c same =
      let l : TypeLayer = ASN1Type-F.ASN1Type::Choice c in
      let x = out-Choice c in
      by_type defs l
      (λ k st n down stays.
      ap (λ o. once None o (λ os. once None
      (of_constraints chosen defs (before defs n) (made defs n k) Empty (place Empty (roll-ASN1Type l)) x.constraints)
      (λ cs. Some (ASN1Type-F.ASN1Type::Choice (roll-Choice (record x { options = os; constraints = cs })))))) (st.0 n)
      ∙ ap (λ o. once None o (λ cs. Some (ASN1Type-F.ASN1Type::Choice (roll-Choice (record x { constraints = cs })))))
      (st.1 n (place Empty (roll-ASN1Type l)) (head_of l (record { leads = λ M. refl; own = refl })))
      ∙ ap (λ y. Some (ASN1Type-F.ASN1Type::Choice y)) (roll-out-Choice c))
      same

  -- a plain name, which is no contained subtype
  reference_type : (l : TypeLayer) (r : ReferenceLayer) → l ≡ ASN1Type-F.ElsewhereDeclaredType r → is_left (linking (roll-ASN1Type l)) ≡ true →
      Eventually (TypeSame defs (roll-ASN1Type l))
  reference_type l r is h =
      let form = linking_at l ∙ ap (λ z. type_form (type_read telling z)) is in
      let b = and_parts (is_none r.parent) (has_none (map constraint_stays r.constraints)) (reference_if _ (ap is_left (sym form) ∙ h)) in
      by_type defs l (λ k u n down stays. go form (none_is r.parent b.0) (none_mapped constraint_stays r.constraints b.1) (before defs n)
      (made defs n k) down stays) nothing
    where
      go : linking (roll-ASN1Type l) ≡ type_form (type_read telling (ASN1Type-F.ElsewhereDeclaredType r)) → r.parent ≡ None → r.constraints ≡ [] →
          (M : Meaning) (I : Instances) (down : Bool) → (down ≡ true → linking (roll-ASN1Type l) ≡ Stays) →
          type_instance chosen defs M I down Empty (roll-ASN1Type l) l ≡ Some l
      go form alone none M I true stays = absurd (no_stay (is_none r.parent && has_none (map constraint_stays r.constraints)) (sym form ∙ stays refl))
      go form alone none M I false stays =
          subst (λ z. type_instance chosen defs M I false Empty (roll-ASN1Type l) z ≡ Some z) (sym is) (reference_same defs r alone none M I (roll-ASN1Type l))

  type_case : (y : TypeOver (proved shown)) → shown.of_type (roll-ASN1Type (bare_type shown y))
  type_case ASN1Type-F.ASN1Type::Null h = bare ASN1Type-F.ASN1Type::Null (λ M I down ty. refl)
  type_case (ASN1Type-F.ASN1Type::Boolean t) h = flat (bare_type shown (ASN1Type-F.ASN1Type::Boolean t)) t.constraints (λ M I down ty. refl) refl refl h
  type_case (ASN1Type-F.ASN1Type::Integer t) h = flat (bare_type shown (ASN1Type-F.ASN1Type::Integer t)) t.constraints (λ M I down ty. refl) refl refl h
  type_case (ASN1Type-F.ASN1Type::Real t) h = flat (bare_type shown (ASN1Type-F.ASN1Type::Real t)) t.constraints (λ M I down ty. refl) refl refl h
  type_case (ASN1Type-F.ASN1Type::BitString t) h = flat (bare_type shown (ASN1Type-F.ASN1Type::BitString t)) t.constraints (λ M I down ty. refl) refl refl h
  type_case (ASN1Type-F.ASN1Type::OctetString t) h =
      flat (bare_type shown (ASN1Type-F.ASN1Type::OctetString t)) t.constraints (λ M I down ty. refl) refl refl h
  type_case (ASN1Type-F.CharacterString t) h = flat (bare_type shown (ASN1Type-F.CharacterString t)) t.constraints (λ M I down ty. refl) refl refl h
  type_case (ASN1Type-F.Enumerated t) h = flat (bare_type shown (ASN1Type-F.Enumerated t)) t.constraints (λ M I down ty. refl) refl refl h
  type_case (ASN1Type-F.ASN1Type::Time t) h = flat (bare_type shown (ASN1Type-F.ASN1Type::Time t)) t.constraints (λ M I down ty. refl) refl refl h
  type_case (ASN1Type-F.GeneralizedTime t) h = flat (bare_type shown (ASN1Type-F.GeneralizedTime t)) t.constraints (λ M I down ty. refl) refl refl h
  type_case (ASN1Type-F.UTCTime t) h = flat (bare_type shown (ASN1Type-F.UTCTime t)) t.constraints (λ M I down ty. refl) refl refl h
  type_case (ASN1Type-F.ASN1Type::ObjectIdentifier t) h =
      flat (bare_type shown (ASN1Type-F.ASN1Type::ObjectIdentifier t)) t.constraints (λ M I down ty. refl) refl refl h
  type_case (ASN1Type-F.ASN1Type::Choice c) h = choice_type c.0 (c.1 (held (ASN1Type-F.ASN1Type::Choice c.0) (choice_stays c.0) refl h))
  type_case (ASN1Type-F.Sequence s) h =
      parted (λ z. ASN1Type-F.Sequence z) out-SequenceOrSet roll-SequenceOrSet s.0 (roll-out-SequenceOrSet s.0) (record { leads = λ M. refl; own = refl })
      (λ M I ty. struct_instance chosen defs M I Empty ty (out-SequenceOrSet s.0)) (λ M I down ty. refl)
      (s.1 (held (ASN1Type-F.Sequence s.0) (struct_stays s.0) refl h))
  type_case (ASN1Type-F.Set s) h =
      parted (λ z. ASN1Type-F.Set z) out-SequenceOrSet roll-SequenceOrSet s.0 (roll-out-SequenceOrSet s.0) (record { leads = λ M. refl; own = refl })
      (λ M I ty. struct_instance chosen defs M I Empty ty (out-SequenceOrSet s.0)) (λ M I down ty. refl)
      (s.1 (held (ASN1Type-F.Set s.0) (struct_stays s.0) refl h))
  type_case (ASN1Type-F.SequenceOf l) h =
      parted (λ z. ASN1Type-F.SequenceOf z) out-SequenceOrSetOf roll-SequenceOrSetOf l.0 (roll-out-SequenceOrSetOf l.0)
      (record { leads = λ M. refl; own = refl })
      (λ M I ty. list_instance chosen defs M I Empty ty (out-SequenceOrSetOf l.0)) (λ M I down ty. refl)
      (l.1 (held (ASN1Type-F.SequenceOf l.0) (list_stays l.0) refl h))
  type_case (ASN1Type-F.SetOf l) h =
      parted (λ z. ASN1Type-F.SetOf z) out-SequenceOrSetOf roll-SequenceOrSetOf l.0 (roll-out-SequenceOrSetOf l.0) (record { leads = λ M. refl; own = refl })
      (λ M I ty. list_instance chosen defs M I Empty ty (out-SequenceOrSetOf l.0)) (λ M I down ty. refl)
      (l.1 (held (ASN1Type-F.SetOf l.0) (list_stays l.0) refl h))
  type_case (ASN1Type-F.ElsewhereDeclaredType r) h = reference_type (bare_type shown (ASN1Type-F.ElsewhereDeclaredType r)) _ refl h
  type_case (ASN1Type-F.ChoiceSelectionType s) h = absurd (never _ h (ap is_left (linking_at (ASN1Type-F.ChoiceSelectionType s))))
  type_case (ASN1Type-F.InformationObjectFieldReference f) h =
      absurd (never _ h (ap is_left (linking_at (bare_type shown (ASN1Type-F.InformationObjectFieldReference f)))))
  type_case ASN1Type-F.EmbeddedPdv h = bare ASN1Type-F.EmbeddedPdv (λ M I down ty. refl)
  type_case ASN1Type-F.External h = bare ASN1Type-F.External (λ M I down ty. refl)

  pub own_instance : (ty : ASN1Type) → is_left (linking ty) ≡ true → Eventually (TypeSame defs ty)
  own_instance =
      each_type shown constraint_case (λ y. tt) set_case (λ y. tt) element_case (λ y. tt) (λ y. tt) (λ y. tt) type_case (λ y. tt) operation_case choice_case option_case struct_case member_case list_case (λ y. tt)
