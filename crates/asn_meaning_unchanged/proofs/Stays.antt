-- What linking leaves as it is is plain, by an induction over types, constraints and what stands in them.
use Rattle.std.proofs.Common.{◌≡◌, ℕ, zero, suc, ◌+◌, ◌≤◌, List, [], ◌∷◌, Bool, true, false, ◌&&◌, Option, Some, None, map, refl, sym, subst, ap, ◌∙◌, arith}
use Rattle.std.specs.Prelude.{is_none, if◌then◌else◌}
use Rattle.std.proofs.lemmas.Bool.{and_parts}
use Rattle.asn_tree.specs.Folds.{choice_is, choice_read, constraint_is, constraint_read, element_is, element_read, list_is, list_read, member_is, member_read, operation_is, operation_read, option_is, option_read, set_is, set_read, struct_is, struct_read, type_is, type_read}
use Rattle.asn_tree.specs.Layers.{ChoiceOver, ConstraintLayer, ConstraintOver, ElementLayer, ElementOver, ListOver, MemberOver, OperationOver, OptionOver, SetLayer, SetOver, StructLayer, StructOver, TypeLayer, TypeOver}
use Rattle.asn_tree.specs.declared.constraints.Constraint.{Constraint, Constraint-F, out-Constraint, roll-Constraint, out-roll-Constraint}
use Rattle.asn_tree.specs.declared.constraints.ElementOrSetOperation.{ElementOrSetOperation, ElementOrSetOperation-F, roll-ElementOrSetOperation, out-roll-ElementOrSetOperation}
use Rattle.asn_tree.specs.declared.constraints.SetOperation.{SetOperation, out-SetOperation, roll-SetOperation, out-roll-SetOperation}
use Rattle.asn_tree.specs.declared.constraints.SubtypeElement.{SubtypeElement, SubtypeElement-F, out-SubtypeElement, roll-SubtypeElement, out-roll-SubtypeElement}
use Rattle.asn_tree.specs.declared.types.ASN1Type.{ASN1Type, ASN1Type-F, out-ASN1Type, roll-ASN1Type, out-roll-ASN1Type}
use Rattle.asn_tree.specs.declared.types.ASN1Type.TheVariants as of_type
use Rattle.asn_tree.specs.declared.types.IntegerOver.{IntegerOver}
use Rattle.asn_tree_kinds.specs.declared.types.CharacterStringOver.{CharacterStringOver}
use Rattle.asn_tree.specs.declared.types.Choice.{Choice, out-Choice, roll-Choice, out-roll-Choice}
use Rattle.asn_tree.specs.declared.types.ChoiceOption.{ChoiceOption, roll-ChoiceOption, out-roll-ChoiceOption}
use Rattle.asn_tree.specs.declared.types.SequenceOrSet.{SequenceOrSet, out-SequenceOrSet, roll-SequenceOrSet, out-roll-SequenceOrSet}
use Rattle.asn_tree.specs.declared.types.SequenceOrSetMember.{SequenceOrSetMember, roll-SequenceOrSetMember, out-roll-SequenceOrSetMember}
use Rattle.asn_tree.specs.declared.types.SequenceOrSetOf.{SequenceOrSetOf, out-SequenceOrSetOf, roll-SequenceOrSetOf, out-roll-SequenceOrSetOf}
use Rattle.asn_tree.specs.declared.values.ASN1Value.{ASN1Value}
use Rattle.asn_tree_leaves.specs.declared.plain.CharacterStringType.TheVariants.{UTF8String}
use Rattle.asn_tree_notation.specs.Types.{constraints_at}
use Rattle.asn_meaning.specs.Accepts.{place}
use Rattle.asn_meaning.specs.Answers.{once}
use Rattle.asn_meaning.specs.Constraints.{chain_at, chain_behind}
use Rattle.asn_meaning.specs.Definitions.{Definitions}
use Rattle.asn_meaning.specs.Everything.{plain_text}
use Rattle.asn_meaning.specs.Judge.{meaning}
use Rattle.asn_meaning.specs.Kinds.{Kind, ChoiceKind, ListKind, StructKind, kind_at}
use Rattle.asn_meaning.specs.Layers.{ReferenceLayer}
use Rattle.asn_meaning.specs.Meaning.{Meaning}
use Rattle.asn_meaning.specs.Names.{IsHead, lead_at}
use Rattle.asn_meaning.specs.Placed.{listed}
use Rattle.asn_meaning.specs.Plain.{Plainness, constraint_plain, contained_plain, element_plain, is_plain_name, end_plain, member_plain, option_plain, parts_plain, plainness, set_plain, struct_plain}
use Rattle.asn_meaning.specs.Ranges.{integer_named}
use Rattle.asn_meaning.specs.Scopes.{Empty, Place}
use Rattle.asn_meaning_unchanged.specs.Unchanged.{all_behind, are_all, choice_form, choice_stays, constrained, constraint_form, constraint_stays, contained_form, element_form, element_stays, end_form, has_none, is_left, is_single, linking, list_form, list_stays, literal, member_form, member_stays, operation_form, operation_stays, option_form, option_stays, placed_form, set_form, set_stays, stays_if, struct_form, struct_stays, telling, type_form}
use Rattle.asn_meaning_unchanged.specs.declared.literals.Literal.{Literal}
use Rattle.asn_meaning_unchanged.specs.declared.types.Linking.{Linking}
use Rattle.asn_meaning_unchanged.specs.declared.types.Linking.TheVariants.{Stays, PlainName, Changes}
use Rattle.asn_meaning_unchanged.proofs.AllTypes.{Shown, none_shown, proved, bare_choice, bare_constraint, bare_element, bare_list, bare_member, bare_operation, bare_option, bare_set, bare_struct, bare_type, each_type}
use Rattle.asn_meaning_unchanged.proofs.Singles.{single_plain}
use Rattle.asn_meaning_unchanged.proofs.Steady.{both_true, chain_known, ChoiceStays, ConstraintsStay, ConstraintStays, ElementStays, head_known, Heads, ListStays, more_constraints, more_members, more_options, more_others, MembersStay, MemberStays, no_constraints, no_members, no_options, no_others, of_head, of_parts, on_head, OnHead, OperationStays, OptionsStay, OptionStays, PartsStay, set_is_plain, SetStays, StaysPlain, StructStays}

-- ---- tests

all_false : (cs : List Bool) → all_behind false cs ≡ false
all_false [] = refl
all_false (c ∷ cs) = all_false cs

record Both (b : Bool) (cs : List Bool) : Type 0 where
  pub first : b ≡ true
  pub others : are_all cs ≡ true

split : (b : Bool) (cs : List Bool) → all_behind b cs ≡ true → Both b cs
split true cs h = record { first = refl; others = h }
split false cs h = absurd (go (all_behind false cs) h (all_false cs))
  where
    go : (b : Bool) → b ≡ true → b ≡ false → ⊥
    go true p q = absurd cc
    go false p q = absurd cc

left_if : (b : Bool) → is_left (stays_if b) ≡ true → b ≡ true
left_if true h = refl
left_if false h = absurd cc

stays_then : (b : Bool) → stays_if b ≡ Stays → b ≡ true
stays_then true h = refl
stays_then false h = absurd cc

no_stay : (b : Bool) → (if b then PlainName else Changes) ≡ Stays → ⊥
no_stay true h = absurd cc
no_stay false h = absurd cc

none_mapped : {A B : Type 0} (f : A → B) (xs : List A) → has_none (map f xs) ≡ true → xs ≡ []
none_mapped f [] h = refl
none_mapped f (x ∷ xs) h = absurd cc

-- ---- types, by one level

linking_at : (l : TypeLayer) → linking (roll-ASN1Type l) ≡ type_form (type_read telling l)
linking_at l = type_is telling (roll-ASN1Type l) ∙ ap (λ z. type_form (type_read telling z)) (out-roll-ASN1Type l)

linking_out : (ty : ASN1Type) → linking ty ≡ type_form (type_read telling (out-ASN1Type ty))
linking_out ty = type_is telling ty

-- what stays is a head, and no name
record IsOwn (defs : Definitions) (l : TypeLayer) : Type 0 where
  pub leads : (M : Meaning) → lead_at defs M Empty (kind_at l) ≡ IsHead
  pub nameless : is_plain_name (kind_at l) ≡ false

own : (defs : Definitions) (l : TypeLayer) → type_form (type_read telling l) ≡ Stays → IsOwn defs l
own defs ASN1Type-F.ASN1Type::Null h = record { leads = λ M. refl; nameless = refl }
own defs (ASN1Type-F.ASN1Type::Boolean t) h = record { leads = λ M. refl; nameless = refl }
own defs (ASN1Type-F.ASN1Type::Integer t) h = record { leads = λ M. refl; nameless = refl }
own defs (ASN1Type-F.ASN1Type::Real t) h = record { leads = λ M. refl; nameless = refl }
own defs (ASN1Type-F.ASN1Type::BitString t) h = record { leads = λ M. refl; nameless = refl }
own defs (ASN1Type-F.ASN1Type::OctetString t) h = record { leads = λ M. refl; nameless = refl }
own defs (ASN1Type-F.CharacterString t) h = record { leads = λ M. refl; nameless = refl }
own defs (ASN1Type-F.Enumerated t) h = record { leads = λ M. refl; nameless = refl }
own defs (ASN1Type-F.ASN1Type::Choice c) h = record { leads = λ M. refl; nameless = refl }
own defs (ASN1Type-F.Sequence s) h = record { leads = λ M. refl; nameless = refl }
own defs (ASN1Type-F.SequenceOf l) h = record { leads = λ M. refl; nameless = refl }
own defs (ASN1Type-F.Set s) h = record { leads = λ M. refl; nameless = refl }
own defs (ASN1Type-F.SetOf l) h = record { leads = λ M. refl; nameless = refl }
own defs (ASN1Type-F.ASN1Type::Time t) h = record { leads = λ M. refl; nameless = refl }
own defs (ASN1Type-F.GeneralizedTime t) h = record { leads = λ M. refl; nameless = refl }
own defs (ASN1Type-F.UTCTime t) h = record { leads = λ M. refl; nameless = refl }
own defs (ASN1Type-F.ElsewhereDeclaredType r) h = absurd (no_stay (is_none r.parent && has_none (map constraint_stays r.constraints)) h)
own defs (ASN1Type-F.ChoiceSelectionType s) h = absurd cc
own defs (ASN1Type-F.ASN1Type::ObjectIdentifier t) h = record { leads = λ M. refl; nameless = refl }
own defs (ASN1Type-F.InformationObjectFieldReference f) h = absurd cc
own defs ASN1Type-F.EmbeddedPdv h = record { leads = λ M. refl; nameless = refl }
own defs ASN1Type-F.External h = record { leads = λ M. refl; nameless = refl }

own_out : (defs : Definitions) (ty : ASN1Type) → linking ty ≡ Stays → IsOwn defs (out-ASN1Type ty)
own_out defs ty h = own defs (out-ASN1Type ty) (sym (linking_out ty) ∙ h)

stays_heads : (defs : Definitions) (ty : ASN1Type) → linking ty ≡ Stays → Heads defs (place Empty ty)
stays_heads defs ty h = head_known defs ty (own_out defs ty h).leads

text_heads : (defs : Definitions) → Heads defs plain_text
text_heads defs =
    let t : CharacterStringOver Constraint = record { constraints = []; ty = UTF8String } in
    head_known defs (of_type.CharacterString t) (λ M. ap (λ l. lead_at defs M Empty (kind_at l)) (of_type.outs-CharacterString t))

number_heads : (defs : Definitions) → Heads defs (integer_named None)
number_heads defs =
    let t : IntegerOver Constraint = record { constraints = []; distinguished_values = None } in
    head_known defs (of_type.Integer t) (λ M. ap (λ l. lead_at defs M Empty (kind_at l)) (of_type.outs-Integer t))

module _ (defs : Definitions) where
  abbrev shown : Shown
  shown =
      record none_shown {
        of_constraint = λ c. constraint_stays c ≡ true → ConstraintStays defs c;
        of_set = λ s. set_stays s ≡ true → SetStays defs s;
        of_element = λ e. element_stays e ≡ true → ElementStays defs e;
        of_type = λ ty. is_left (linking ty) ≡ true → StaysPlain defs ty;
        of_operation = λ o. operation_stays o ≡ true → OperationStays defs o;
        of_choice = λ c. choice_stays c ≡ true → ChoiceStays defs c;
        of_option = λ o. option_stays o ≡ true → OptionStays defs o;
        of_struct = λ s. struct_stays s ≡ true → StructStays defs s;
        of_member = λ m. member_stays m ≡ true → MemberStays defs m;
        of_list = λ l. list_stays l ≡ true → ListStays defs l;
      }

  -- ---- lists

  abbrev ShownConstraints : Type 0
  ShownConstraints = List ((c : Constraint) × (constraint_stays c ≡ true → ConstraintStays defs c))

  constraints_shown : (ys : ShownConstraints) → are_all (map constraint_stays (map (λ y. y.0) ys)) ≡ true → ConstraintsStay defs (map (λ y. y.0) ys)
  constraints_shown [] h = no_constraints defs
  constraints_shown (y ∷ ys) h =
      let b = split (constraint_stays y.0) (map constraint_stays (map (λ y. y.0) ys)) h in
      more_constraints defs y.0 (map (λ y. y.0) ys) (y.1 b.first) (constraints_shown ys b.others)

  members_shown : (ys : List ((m : SequenceOrSetMember) × (member_stays m ≡ true → MemberStays defs m))) → are_all (map member_stays (map (λ y. y.0) ys)) ≡ true → MembersStay defs (map (λ y. y.0) ys)
  members_shown [] h = no_members defs
  members_shown (y ∷ ys) h =
      let b = split (member_stays y.0) (map member_stays (map (λ y. y.0) ys)) h in
      more_members defs y.0 (map (λ y. y.0) ys) (y.1 b.first) (members_shown ys b.others)

  options_shown : (ys : List ((o : ChoiceOption) × (option_stays o ≡ true → OptionStays defs o))) → are_all (map option_stays (map (λ y. y.0) ys)) ≡ true → OptionsStay defs (map (λ y. y.0) ys)
  options_shown [] h = no_options defs
  options_shown (y ∷ ys) h =
      let b = split (option_stays y.0) (map option_stays (map (λ y. y.0) ys)) h in
      more_options defs y.0 (map (λ y. y.0) ys) (y.1 b.first) (options_shown ys b.others)

  -- ---- a type with the constraints of its place

  record Placed (ty : ASN1Type) (cs : List Constraint) : Type 0 where
    pub itself : StaysPlain defs ty
    pub on_it : OnHead defs (place Empty ty) cs

  placed : (ty : ASN1Type) → (is_left (linking ty) ≡ true → StaysPlain defs ty) → (ys : ShownConstraints) → placed_form (linking ty) (map constraint_stays (map (λ y. y.0) ys)) ≡ true → Placed ty (map (λ y. y.0) ys)
  placed ty known ys h = go (linking ty) refl h
    where
      go : (k : Linking) → linking ty ≡ k → placed_form k (map constraint_stays (map (λ y. y.0) ys)) ≡ true → Placed ty (map (λ y. y.0) ys)
      go Stays e p = record { itself = known (ap is_left e); on_it = on_head defs (place Empty ty) (stays_heads defs ty e) (map (λ y. y.0) ys) (constraints_shown ys p) }
      go PlainName e p = record { itself = known (ap is_left e); on_it = subst (OnHead defs (place Empty ty)) (sym (none_mapped constraint_stays (map (λ y. y.0) ys) p)) (record { steps = 0; plain = λ n h. refl }) }
      go Changes e p = absurd cc

  -- ---- elements

  by_element : (e : SubtypeElement) (l : ElementLayer) → out-SubtypeElement e ≡ l → (k : ℕ) → ((n : ℕ) → k ≤ n → (p : Place) → Heads defs p → element_plain (meaning defs n) (plainness defs n) p l ≡ true) → ElementStays defs e
  unfolding plainness
  by_element e l is k f = record { steps = suc k; plain = go }
    where
      at_step : (n : ℕ) (p : Place) → element_plain (meaning defs n) (plainness defs n) p l ≡ true → (plainness defs (suc n)).of_element p e ≡ true
      at_step n p q = ap (element_plain (meaning defs n) (plainness defs n) p) is ∙ q

      go : (n : ℕ) → suc k ≤ n → (p : Place) → Heads defs p → (plainness defs n).of_element p e ≡ true
      go zero h p head = absurd (omega arith)
      go (suc n) h p head = at_step n p (f n (omega (arith, h)) p head)

  single_at : (v : ASN1Value) → is_single (literal v) ≡ true → (n : ℕ) → 2 ≤ n → (p : Place) → Heads defs p → (plainness defs n).of_value v p ≡ true
  single_at v h zero le p head = absurd (omega arith)
  single_at v h (suc zero) le p head = absurd (omega arith)
  single_at v h (suc (suc n)) le p head = single_plain defs v h (suc n) p (head n)

  abbrev ShownValue : Type 0
  ShownValue = (v : ASN1Value) × Unit {0}

  abbrev bare_end : Option ShownValue → Option ASN1Value
  bare_end None = None
  bare_end (Some v) = Some v.0

  abbrev told_end : Option ShownValue → Option Literal
  told_end None = None
  told_end (Some v) = Some (literal v.0)

  end_at : (o : Option ShownValue) → end_form (told_end o) ≡ true → (n : ℕ) → 2 ≤ n → (p : Place) → Heads defs p → end_plain (plainness defs n) p (bare_end o) ≡ true
  end_at None h n le p head = refl
  end_at (Some v) h n le p head = single_at v.0 h n le p head

  contained_stays : (ty : ASN1Type) → contained_form (linking ty) ≡ true → linking ty ≡ Stays
  contained_stays ty h = go (linking ty) h
    where
      go : (k : Linking) → contained_form k ≡ true → k ≡ Stays
      go Stays h = refl
      go PlainName h = absurd cc
      go Changes h = absurd cc

  contained_at : (ty : ASN1Type) → linking ty ≡ Stays → (known : StaysPlain defs ty) → (n : ℕ) → known.steps ≤ n → contained_plain (plainness defs n) ty ≡ true
  contained_at ty e known n le = ap (λ b. if b then false else (plainness defs n).of_type ty) (own_out defs ty e).nameless ∙ known.plain n le

  -- a contained subtype, from its layer
  contained : (e : SubtypeElement) (l : ElementLayer) → out-SubtypeElement e ≡ l → (ty : ASN1Type) → (is_left (linking ty) ≡ true → StaysPlain defs ty) → ((M : Meaning) (P : Plainness) (p : Place) → element_plain M P p l ≡ contained_plain P ty) → contained_form (linking ty) ≡ true → ElementStays defs e
  contained e l is ty known at h =
      let e' = contained_stays ty h in
      let s = known (ap is_left e') in
      by_element e l is s.steps (λ n le p head. at (meaning defs n) (plainness defs n) p ∙ contained_at ty e' s n le)

  -- a set behind SIZE or FROM
  within : (e : SubtypeElement) (l : ElementLayer) → out-SubtypeElement e ≡ l → (set : ElementOrSetOperation) (s : SetStays defs set) (q : Place) → Heads defs q → ((M : Meaning) (P : Plainness) (p : Place) → element_plain M P p l ≡ set_plain M P q set) → ElementStays defs e
  within e l is set s q heads at =
      by_element e l is (s.steps + s.first.steps + s.others.steps) (λ n le p head. at (meaning defs n) (plainness defs n) p ∙ set_is_plain defs set s n le q heads)

  element_at : (l : ElementLayer) → element_stays (roll-SubtypeElement l) ≡ element_form (element_read telling l)
  element_at l = element_is telling (roll-SubtypeElement l) ∙ ap (λ z. element_form (element_read telling z)) (out-roll-SubtypeElement l)

  ends : (low high : Option ShownValue) (a b c : Bool) (l : ElementLayer) → l ≡ SubtypeElement-F.ValueRange (bare_end low) (bare_end high) a b c → (end_form (told_end low) && end_form (told_end high)) ≡ true → ElementStays defs (roll-SubtypeElement l)
  ends low high a b c l is h =
      let both = and_parts (end_form (told_end low)) (end_form (told_end high)) h in
      by_element (roll-SubtypeElement l) l (out-roll-SubtypeElement l) 2 (λ n le p head. ap (element_plain (meaning defs n) (plainness defs n) p) is ∙ both_true _ _ (end_at low both.0 n le p head) (end_at high both.1 n le p head))

  range_case : (low high : Option ShownValue) (a b c : Bool) → element_stays (roll-SubtypeElement (bare_element shown (SubtypeElement-F.ValueRange low high a b c))) ≡ true → ElementStays defs (roll-SubtypeElement (bare_element shown (SubtypeElement-F.ValueRange low high a b c)))
  range_case None None a b c h = ends None None a b c _ refl refl
  range_case None (Some w) a b c h = ends None (Some w) a b c _ refl (sym (element_at (SubtypeElement-F.ValueRange None (Some w.0) a b c)) ∙ h)
  range_case (Some v) None a b c h = ends (Some v) None a b c _ refl (sym (element_at (SubtypeElement-F.ValueRange (Some v.0) None a b c)) ∙ h)
  range_case (Some v) (Some w) a b c h = ends (Some v) (Some w) a b c _ refl (sym (element_at (SubtypeElement-F.ValueRange (Some v.0) (Some w.0) a b c)) ∙ h)

  never : (b : Bool) → b ≡ true → b ≡ false → ⊥
  never true h e = absurd cc
  never false h e = absurd cc

  element_case : (y : ElementOver (proved shown)) → element_stays (roll-SubtypeElement (bare_element shown y)) ≡ true → ElementStays defs (roll-SubtypeElement (bare_element shown y))
  element_case (SubtypeElement-F.SingleValue v extensible) h =
      let l : ElementLayer = SubtypeElement-F.SingleValue v.0 extensible in
      let s : is_single (literal v.0) ≡ true = sym (element_at l) ∙ h in
      by_element (roll-SubtypeElement l) l (out-roll-SubtypeElement l) 2 (λ n le p head. single_at v.0 s n le p head)
  element_case (SubtypeElement-F.ContainedSubtype ty extensible) h =
      let l : ElementLayer = SubtypeElement-F.ContainedSubtype ty.0 extensible in
      contained (roll-SubtypeElement l) l (out-roll-SubtypeElement l) ty.0 ty.1 (λ M P p. refl) (sym (element_at l) ∙ h)
  element_case (SubtypeElement-F.ValueRange low high low_open high_open extensible) h = range_case low high low_open high_open extensible h
  element_case (SubtypeElement-F.PermittedAlphabet set) h =
      let l : ElementLayer = SubtypeElement-F.PermittedAlphabet set.0 in
      within (roll-SubtypeElement l) l (out-roll-SubtypeElement l) set.0 (set.1 (sym (element_at l) ∙ h)) plain_text (text_heads defs) (λ M P p. refl)
  element_case (SubtypeElement-F.SizeConstraint set) h =
      let l : ElementLayer = SubtypeElement-F.SizeConstraint set.0 in
      within (roll-SubtypeElement l) l (out-roll-SubtypeElement l) set.0 (set.1 (sym (element_at l) ∙ h)) (integer_named None) (number_heads defs) (λ M P p. refl)
  element_case (SubtypeElement-F.TypeConstraint ty) h =
      let l : ElementLayer = SubtypeElement-F.TypeConstraint ty.0 in
      contained (roll-SubtypeElement l) l (out-roll-SubtypeElement l) ty.0 ty.1 (λ M P p. refl) (sym (element_at l) ∙ h)
  element_case (SubtypeElement-F.SingleTypeConstraint cs) h = absurd (never (element_stays (roll-SubtypeElement (bare_element shown (SubtypeElement-F.SingleTypeConstraint cs)))) h (element_at (bare_element shown (SubtypeElement-F.SingleTypeConstraint cs))))
  element_case (SubtypeElement-F.MultipleTypeConstraints inner) h = absurd (never (element_stays (roll-SubtypeElement (bare_element shown (SubtypeElement-F.MultipleTypeConstraints inner)))) h (element_at (bare_element shown (SubtypeElement-F.MultipleTypeConstraints inner))))
  element_case (SubtypeElement-F.PatternConstraint x) h = by_element (roll-SubtypeElement (SubtypeElement-F.PatternConstraint x)) (SubtypeElement-F.PatternConstraint x) (out-roll-SubtypeElement (SubtypeElement-F.PatternConstraint x)) 0 (λ n le p head. refl)
  element_case (SubtypeElement-F.UserDefinedConstraint x) h = by_element (roll-SubtypeElement (SubtypeElement-F.UserDefinedConstraint x)) (SubtypeElement-F.UserDefinedConstraint x) (out-roll-SubtypeElement (SubtypeElement-F.UserDefinedConstraint x)) 0 (λ n le p head. refl)
  element_case (SubtypeElement-F.PropertySettings x) h = by_element (roll-SubtypeElement (SubtypeElement-F.PropertySettings x)) (SubtypeElement-F.PropertySettings x) (out-roll-SubtypeElement (SubtypeElement-F.PropertySettings x)) 0 (λ n le p head. refl)

  -- ---- sets and constraints

  set_at : (l : SetLayer) → set_stays (roll-ElementOrSetOperation l) ≡ set_form (set_read telling l)
  set_at l = set_is telling (roll-ElementOrSetOperation l) ∙ ap (λ z. set_form (set_read telling z)) (out-roll-ElementOrSetOperation l)

  one_element : (e : SubtypeElement) → ElementStays defs e → SetStays defs (roll-ElementOrSetOperation (ElementOrSetOperation-F.Element e))
  one_element e s = record { chain = record { first = e; others = [] }; steps = 1; found = go; first = s; others = no_others defs }
    where
      go : (n : ℕ) → 1 ≤ n → (meaning defs n).chain (roll-ElementOrSetOperation (ElementOrSetOperation-F.Element e)) ≡ Some (record { first = e; others = [] })
      go zero le = absurd (omega arith)
      go (suc n) le = chain_known defs n (roll-ElementOrSetOperation (ElementOrSetOperation-F.Element e)) ∙ ap (chain_at (meaning defs n)) (out-roll-ElementOrSetOperation (ElementOrSetOperation-F.Element e))

  several : (o : SetOperation) → OperationStays defs o → SetStays defs (roll-ElementOrSetOperation (ElementOrSetOperation-F.SetOperation o))
  several o s =
      record {
        chain = chain_behind (out-SetOperation o) s.operant.chain;
        steps = suc s.operant.steps;
        found = go;
        first = s.base;
        others = more_others defs ((out-SetOperation o).operator, s.operant.chain.first) s.operant.chain.others s.operant.first s.operant.others;
      }
    where
      go : (n : ℕ) → suc s.operant.steps ≤ n → (meaning defs n).chain (roll-ElementOrSetOperation (ElementOrSetOperation-F.SetOperation o)) ≡ Some (chain_behind (out-SetOperation o) s.operant.chain)
      go zero le = absurd (omega arith)
      go (suc n) le =
          chain_known defs n (roll-ElementOrSetOperation (ElementOrSetOperation-F.SetOperation o))
          ∙ ap (chain_at (meaning defs n)) (out-roll-ElementOrSetOperation (ElementOrSetOperation-F.SetOperation o))
          ∙ ap (λ c. once None c (λ c. Some (chain_behind (out-SetOperation o) c))) (s.operant.found n (omega (arith, le)))

  set_case : (y : SetOver (proved shown)) → set_stays (roll-ElementOrSetOperation (bare_set shown y)) ≡ true → SetStays defs (roll-ElementOrSetOperation (bare_set shown y))
  set_case (ElementOrSetOperation-F.Element e) h = one_element e.0 (e.1 (sym (set_at (ElementOrSetOperation-F.Element e.0)) ∙ h))
  set_case (ElementOrSetOperation-F.SetOperation o) h = several o.0 (o.1 (sym (set_at (ElementOrSetOperation-F.SetOperation o.0)) ∙ h))

  operation_case : (y : OperationOver (proved shown)) → operation_stays (roll-SetOperation (bare_operation shown y)) ≡ true → OperationStays defs (roll-SetOperation (bare_operation shown y))
  operation_case y h =
      let l = bare_operation shown y in
      let b = and_parts (element_stays y.base.0) (set_stays y.operant.0) (sym (operation_is telling (roll-SetOperation l) ∙ ap (λ z. operation_form (operation_read telling z)) (out-roll-SetOperation l)) ∙ h) in
      record {
        base = subst (λ z. ElementStays defs z.base) (sym (out-roll-SetOperation l)) (y.base.1 b.0);
        operant = subst (λ z. SetStays defs z.operant) (sym (out-roll-SetOperation l)) (y.operant.1 b.1);
      }

  constraint_at : (l : ConstraintLayer) → constraint_stays (roll-Constraint l) ≡ constraint_form (constraint_read telling l)
  constraint_at l = constraint_is telling (roll-Constraint l) ∙ ap (λ z. constraint_form (constraint_read telling z)) (out-roll-Constraint l)

  by_constraint : (c : Constraint) (l : ConstraintLayer) → out-Constraint c ≡ l → (k : ℕ) → ((n : ℕ) → k ≤ n → (p : Place) → Heads defs p → constraint_plain (meaning defs n) (plainness defs n) p l ≡ true) → ConstraintStays defs c
  by_constraint c l is k f = record { steps = k; plain = λ n le p head. ap (constraint_plain (meaning defs n) (plainness defs n) p) is ∙ f n le p head }

  constraint_case : (y : ConstraintOver (proved shown)) → constraint_stays (roll-Constraint (bare_constraint shown y)) ≡ true → ConstraintStays defs (roll-Constraint (bare_constraint shown y))
  constraint_case (Constraint-F.SubtypeConstraint x) h =
      let l = bare_constraint shown (Constraint-F.SubtypeConstraint x) in
      let s = x.set.1 (sym (constraint_at l) ∙ h) in
      by_constraint (roll-Constraint l) l (out-roll-Constraint l) (s.steps + s.first.steps + s.others.steps) (λ n le p head. set_is_plain defs x.set.0 s n le p head)
  constraint_case (Constraint-F.TableConstraint x) h =
      let l = bare_constraint shown (Constraint-F.TableConstraint x) in
      by_constraint (roll-Constraint l) l (out-roll-Constraint l) 0 (λ n le p head. refl)
  constraint_case (Constraint-F.Parameter x) h = absurd (never (constraint_stays (roll-Constraint (bare_constraint shown (Constraint-F.Parameter x)))) h (constraint_at (bare_constraint shown (Constraint-F.Parameter x))))
  constraint_case (Constraint-F.ContentConstraint x) h =
      let l = bare_constraint shown (Constraint-F.ContentConstraint x) in
      by_constraint (roll-Constraint l) l (out-roll-Constraint l) 0 (λ n le p head. refl)

  -- ---- members, alternatives, elements

  member_case : (y : MemberOver (proved shown)) → member_stays (roll-SequenceOrSetMember (bare_member shown y)) ≡ true → MemberStays defs (roll-SequenceOrSetMember (bare_member shown y))
  member_case y h =
      let l = bare_member shown y in
      let told = sym (member_is telling (roll-SequenceOrSetMember l) ∙ ap (λ z. member_form (member_read telling z)) (out-roll-SequenceOrSetMember l)) ∙ h in
      let p = placed y.ty.0 y.ty.1 y.constraints (and_parts (placed_form (linking y.ty.0) (map constraint_stays (map (λ c. c.0) y.constraints))) _ told).0 in
      record {
        steps = p.itself.steps + p.on_it.steps;
        plain = λ n le.
            ap (member_plain (meaning defs n) (plainness defs n)) (out-roll-SequenceOrSetMember l)
            ∙ both_true _ _ (p.itself.plain n (omega (arith, le))) (p.on_it.plain n (omega (arith, le)));
      }

  option_case : (y : OptionOver (proved shown)) → option_stays (roll-ChoiceOption (bare_option shown y)) ≡ true → OptionStays defs (roll-ChoiceOption (bare_option shown y))
  option_case y h =
      let l = bare_option shown y in
      let told = sym (option_is telling (roll-ChoiceOption l) ∙ ap (λ z. option_form (option_read telling z)) (out-roll-ChoiceOption l)) ∙ h in
      let p = placed y.ty.0 y.ty.1 y.constraints told in
      record {
        steps = p.itself.steps + p.on_it.steps;
        plain = λ n le.
            ap (option_plain (meaning defs n) (plainness defs n)) (out-roll-ChoiceOption l)
            ∙ both_true _ _ (p.itself.plain n (omega (arith, le))) (p.on_it.plain n (omega (arith, le)));
      }

  struct_whole : (names : List (List ℕ)) (l : StructLayer) → l.components_of ≡ names → has_none names ≡ true → MembersStay defs l.members → ConstraintsStay defs l.constraints → StructStays defs (roll-SequenceOrSet l)
  struct_whole [] l e h ms cs =
      record {
        steps = ms.steps;
        plain = λ n le.
            ap (struct_plain (meaning defs n) (plainness defs n)) (out-roll-SequenceOrSet l)
            ∙ ap (λ names. struct_plain (meaning defs n) (plainness defs n) (record l { components_of = names })) e
            ∙ ms.plain n le;
        constraints = subst (λ z. ConstraintsStay defs z.constraints) (sym (out-roll-SequenceOrSet l)) cs;
      }
  struct_whole (name ∷ names) l e h ms cs = absurd cc

  struct_case : (y : StructOver (proved shown)) → struct_stays (roll-SequenceOrSet (bare_struct shown y)) ≡ true → StructStays defs (roll-SequenceOrSet (bare_struct shown y))
  struct_case y h =
      let l = bare_struct shown y in
      let told = sym (struct_is telling (roll-SequenceOrSet l) ∙ ap (λ z. struct_form (struct_read telling z)) (out-roll-SequenceOrSet l)) ∙ h in
      let a = and_parts (has_none l.components_of && are_all (map member_stays l.members)) (are_all (map constraint_stays l.constraints)) told in
      let b = and_parts (has_none l.components_of) (are_all (map member_stays l.members)) a.0 in
      struct_whole l.components_of l refl b.0 (members_shown y.members b.1) (constraints_shown y.constraints a.1)

  choice_case : (y : ChoiceOver (proved shown)) → choice_stays (roll-Choice (bare_choice shown y)) ≡ true → ChoiceStays defs (roll-Choice (bare_choice shown y))
  choice_case y h =
      let l = bare_choice shown y in
      let told = sym (choice_is telling (roll-Choice l) ∙ ap (λ z. choice_form (choice_read telling z)) (out-roll-Choice l)) ∙ h in
      let a = and_parts (are_all (map option_stays l.options)) (are_all (map constraint_stays l.constraints)) told in
      record {
        options = subst (λ z. OptionsStay defs z.options) (sym (out-roll-Choice l)) (options_shown y.options a.0);
        constraints = subst (λ z. ConstraintsStay defs z.constraints) (sym (out-roll-Choice l)) (constraints_shown y.constraints a.1);
      }

  list_case : (y : ListOver (proved shown)) → list_stays (roll-SequenceOrSetOf (bare_list shown y)) ≡ true → ListStays defs (roll-SequenceOrSetOf (bare_list shown y))
  list_case y h =
      let l = bare_list shown y in
      let told = sym (list_is telling (roll-SequenceOrSetOf l) ∙ ap (λ z. list_form (list_read telling z)) (out-roll-SequenceOrSetOf l)) ∙ h in
      let a = and_parts (is_left (linking y.element_type.0)) (are_all (map constraint_stays l.constraints)) told in
      record {
        element = subst (λ z. StaysPlain defs z.element_type) (sym (out-roll-SequenceOrSetOf l)) (y.element_type.1 a.0);
        constraints = subst (λ z. ConstraintsStay defs z.constraints) (sym (out-roll-SequenceOrSetOf l)) (constraints_shown y.constraints a.1);
      }

  -- ---- types

  no_parts : (k : Kind) → ((M : Meaning) (P : Plainness) → parts_plain defs M P k ≡ true) → PartsStay defs k
  no_parts k is = record { steps = 0; plain = λ n h. is (meaning defs n) (plainness defs n) }

  -- a built-in type without parts
  flat : (l : TypeLayer) (ys : ShownConstraints) → ((M : Meaning) → lead_at defs M Empty (kind_at l) ≡ IsHead) → ((M : Meaning) (P : Plainness) → parts_plain defs M P (kind_at l) ≡ true) → listed (constraints_at l) ≡ map (λ y. y.0) ys → type_form (type_read telling l) ≡ constrained (map constraint_stays (map (λ y. y.0) ys)) → is_left (linking (roll-ASN1Type l)) ≡ true → StaysPlain defs (roll-ASN1Type l)
  flat l ys leads parts same told h =
      of_head defs (roll-ASN1Type l) l (out-roll-ASN1Type l) leads (no_parts (kind_at l) parts)
      (subst (ConstraintsStay defs) (sym same) (constraints_shown ys (left_if _ (ap is_left (sym told ∙ sym (linking_at l)) ∙ h))))

  -- a word alone
  bare : (l : TypeLayer) → ((M : Meaning) → lead_at defs M Empty (kind_at l) ≡ IsHead) → ((M : Meaning) (P : Plainness) → parts_plain defs M P (kind_at l) ≡ true) → listed (constraints_at l) ≡ [] → StaysPlain defs (roll-ASN1Type l)
  bare l leads parts none = of_head defs (roll-ASN1Type l) l (out-roll-ASN1Type l) leads (no_parts (kind_at l) parts) (subst (ConstraintsStay defs) (sym none) (no_constraints defs))

  struct_type : (l : TypeLayer) (s : SequenceOrSet) → kind_at l ≡ StructKind (out-SequenceOrSet s) → listed (constraints_at l) ≡ (out-SequenceOrSet s).constraints → StructStays defs s → StaysPlain defs (roll-ASN1Type l)
  struct_type l s kind same st =
      of_head defs (roll-ASN1Type l) l (out-roll-ASN1Type l) (λ M. ap (lead_at defs M Empty) kind)
      (record { steps = st.steps; plain = λ n h. ap (parts_plain defs (meaning defs n) (plainness defs n)) kind ∙ st.plain n h })
      (subst (ConstraintsStay defs) (sym same) st.constraints)

  list_type : (l : TypeLayer) (s : SequenceOrSetOf) → kind_at l ≡ ListKind (out-SequenceOrSetOf s).element_type → listed (constraints_at l) ≡ (out-SequenceOrSetOf s).constraints → ListStays defs s → StaysPlain defs (roll-ASN1Type l)
  list_type l s kind same st =
      of_head defs (roll-ASN1Type l) l (out-roll-ASN1Type l) (λ M. ap (lead_at defs M Empty) kind)
      (record { steps = st.element.steps; plain = λ n h. ap (parts_plain defs (meaning defs n) (plainness defs n)) kind ∙ st.element.plain n h })
      (subst (ConstraintsStay defs) (sym same) st.constraints)

  choice_type : (l : TypeLayer) (c : Choice) → kind_at l ≡ ChoiceKind (out-Choice c).options → listed (constraints_at l) ≡ (out-Choice c).constraints → ChoiceStays defs c → StaysPlain defs (roll-ASN1Type l)
  choice_type l c kind same st =
      of_head defs (roll-ASN1Type l) l (out-roll-ASN1Type l) (λ M. ap (lead_at defs M Empty) kind)
      (record { steps = st.options.steps; plain = λ n h. ap (parts_plain defs (meaning defs n) (plainness defs n)) kind ∙ st.options.plain n h })
      (subst (ConstraintsStay defs) (sym same) st.constraints)

  held : (l : TypeLayer) (b : Bool) → type_form (type_read telling l) ≡ stays_if b → is_left (linking (roll-ASN1Type l)) ≡ true → b ≡ true
  held l b told h = left_if b (ap is_left (sym told ∙ sym (linking_at l)) ∙ h)

  reference_if : (b : Bool) → is_left (if b then PlainName else Changes) ≡ true → b ≡ true
  reference_if true h = refl
  reference_if false h = absurd cc

  reference_type : (l : TypeLayer) (r : ReferenceLayer) → l ≡ ASN1Type-F.ElsewhereDeclaredType r → is_left (linking (roll-ASN1Type l)) ≡ true → StaysPlain defs (roll-ASN1Type l)
  reference_type l r is h =
      let told = ap is_left (sym (linking_at l ∙ ap (λ z. type_form (type_read telling z)) is)) ∙ h in
      let none = none_mapped constraint_stays r.constraints (and_parts (is_none r.parent) (has_none (map constraint_stays r.constraints)) (reference_if _ told)).1 in
      of_parts defs (roll-ASN1Type l) l (out-roll-ASN1Type l)
      (record { steps = 0; plain = λ n h. ap (λ z. parts_plain defs (meaning defs n) (plainness defs n) (kind_at z)) is })
      (subst (OnHead defs (place Empty (roll-ASN1Type l))) (sym (ap (λ z. listed (constraints_at z)) is ∙ none)) (record { steps = 0; plain = λ n h. refl }))

  type_case : (y : TypeOver (proved shown)) → is_left (linking (roll-ASN1Type (bare_type shown y))) ≡ true → StaysPlain defs (roll-ASN1Type (bare_type shown y))
  type_case ASN1Type-F.ASN1Type::Null h = bare ASN1Type-F.ASN1Type::Null (λ M. refl) (λ M P. refl) refl
  type_case (ASN1Type-F.ASN1Type::Boolean t) h = flat (bare_type shown (ASN1Type-F.ASN1Type::Boolean t)) t.constraints (λ M. refl) (λ M P. refl) refl refl h
  type_case (ASN1Type-F.ASN1Type::Integer t) h = flat (bare_type shown (ASN1Type-F.ASN1Type::Integer t)) t.constraints (λ M. refl) (λ M P. refl) refl refl h
  type_case (ASN1Type-F.ASN1Type::Real t) h = flat (bare_type shown (ASN1Type-F.ASN1Type::Real t)) t.constraints (λ M. refl) (λ M P. refl) refl refl h
  type_case (ASN1Type-F.ASN1Type::BitString t) h = flat (bare_type shown (ASN1Type-F.ASN1Type::BitString t)) t.constraints (λ M. refl) (λ M P. refl) refl refl h
  type_case (ASN1Type-F.ASN1Type::OctetString t) h = flat (bare_type shown (ASN1Type-F.ASN1Type::OctetString t)) t.constraints (λ M. refl) (λ M P. refl) refl refl h
  type_case (ASN1Type-F.CharacterString t) h = flat (bare_type shown (ASN1Type-F.CharacterString t)) t.constraints (λ M. refl) (λ M P. refl) refl refl h
  type_case (ASN1Type-F.Enumerated t) h = flat (bare_type shown (ASN1Type-F.Enumerated t)) t.constraints (λ M. refl) (λ M P. refl) refl refl h
  type_case (ASN1Type-F.ASN1Type::Choice c) h = choice_type (bare_type shown (ASN1Type-F.ASN1Type::Choice c)) c.0 refl refl (c.1 (held _ (choice_stays c.0) refl h))
  type_case (ASN1Type-F.Sequence s) h = struct_type (bare_type shown (ASN1Type-F.Sequence s)) s.0 refl refl (s.1 (held _ (struct_stays s.0) refl h))
  type_case (ASN1Type-F.SequenceOf l) h = list_type (bare_type shown (ASN1Type-F.SequenceOf l)) l.0 refl refl (l.1 (held _ (list_stays l.0) refl h))
  type_case (ASN1Type-F.Set s) h = struct_type (bare_type shown (ASN1Type-F.Set s)) s.0 refl refl (s.1 (held _ (struct_stays s.0) refl h))
  type_case (ASN1Type-F.SetOf l) h = list_type (bare_type shown (ASN1Type-F.SetOf l)) l.0 refl refl (l.1 (held _ (list_stays l.0) refl h))
  type_case (ASN1Type-F.ASN1Type::Time t) h = flat (bare_type shown (ASN1Type-F.ASN1Type::Time t)) t.constraints (λ M. refl) (λ M P. refl) refl refl h
  type_case (ASN1Type-F.GeneralizedTime t) h = flat (bare_type shown (ASN1Type-F.GeneralizedTime t)) t.constraints (λ M. refl) (λ M P. refl) refl refl h
  type_case (ASN1Type-F.UTCTime t) h = flat (bare_type shown (ASN1Type-F.UTCTime t)) t.constraints (λ M. refl) (λ M P. refl) refl refl h
  type_case (ASN1Type-F.ElsewhereDeclaredType r) h = reference_type (bare_type shown (ASN1Type-F.ElsewhereDeclaredType r)) _ refl h
  type_case (ASN1Type-F.ChoiceSelectionType s) h = absurd (never _ h (ap is_left (linking_at (ASN1Type-F.ChoiceSelectionType s))))
  type_case (ASN1Type-F.ASN1Type::ObjectIdentifier t) h = flat (bare_type shown (ASN1Type-F.ASN1Type::ObjectIdentifier t)) t.constraints (λ M. refl) (λ M P. refl) refl refl h
  type_case (ASN1Type-F.InformationObjectFieldReference f) h = absurd (never _ h (ap is_left (linking_at (bare_type shown (ASN1Type-F.InformationObjectFieldReference f)))))
  type_case ASN1Type-F.EmbeddedPdv h = bare ASN1Type-F.EmbeddedPdv (λ M. refl) (λ M P. refl) refl
  type_case ASN1Type-F.External h = bare ASN1Type-F.External (λ M. refl) (λ M P. refl) refl

  pub stays_plain : (ty : ASN1Type) → is_left (linking ty) ≡ true → StaysPlain defs ty
  stays_plain =
      each_type shown constraint_case (λ y. tt) set_case (λ y. tt) element_case (λ y. tt) (λ y. tt) (λ y. tt) type_case (λ y. tt) operation_case choice_case option_case struct_case member_case list_case (λ y. tt)
