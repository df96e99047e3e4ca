-- What is found stays as it is within more levels, and where more steps tell more.
use Rattle.std.proofs.Common.{Bool, List, None, Option, Some, [], arith, false, refl, subst, suc, sym, true, zero, ℕ, ◌+◌, ◌∷◌, ◌≡◌}
use Rattle.asn_tree.specs.Layers.{ContentLayer}
use Rattle.asn_tree.specs.declared.constraints.ContentConstraint.{ContentConstraint, ContentConstraint-F, out-ContentConstraint}
use Rattle.asn_tree_headers.specs.declared.headers.AsnTag.{AsnTag}
use Rattle.asn_tree.specs.declared.constraints.Constraint.{Constraint, Constraint-F, out-Constraint}
use Rattle.asn_tree.specs.declared.constraints.ElementOrSetOperation.{ElementOrSetOperation-F, out-ElementOrSetOperation}
use Rattle.asn_tree.specs.declared.constraints.SetOperation.{out-SetOperation}
use Rattle.asn_tree.specs.declared.constraints.SubtypeElement.{SubtypeElement-F, out-SubtypeElement}
use Rattle.asn_tree.specs.declared.types.ASN1Type.{ASN1Type, ASN1Type-F, out-ASN1Type}
use Rattle.asn_tree_kinds.specs.declared.types.ChoiceSelectionType.{ChoiceSelectionType}
use Rattle.asn_tree.specs.declared.types.Choice.{out-Choice}
use Rattle.asn_tree.specs.declared.types.ChoiceOption.{ChoiceOption, out-ChoiceOption}
use Rattle.asn_tree.specs.declared.types.SequenceOrSet.{out-SequenceOrSet}
use Rattle.asn_tree.specs.declared.types.SequenceOrSetOf.{out-SequenceOrSetOf}
use Rattle.asn_tree_notation.specs.Types.{constraints_at}
use Rattle.asn_meaning.specs.Accepts.{place}
use Rattle.asn_meaning.specs.Answers.{Within, once}
use Rattle.asn_meaning.specs.Definitions.{Definitions}
use Rattle.asn_meaning.specs.Judge.{meaning}
use Rattle.asn_meaning.specs.Kinds.{ChoiceKind, Kind, StructKind, kind_of}
use Rattle.asn_meaning.specs.Layers.{ClassFieldLayer, ConstraintLayer, ElementLayer, InnerLayer, ListLayer, ListedLayer, MemberLayer, OperationLayer, OptionLayer, SetLayer, StructLayer, TypeLayer}
use Rattle.asn_meaning.specs.Meaning.{Meaning, Member}
use Rattle.asn_meaning.specs.Members.{element_place, is_addition_at}
use Rattle.asn_meaning.specs.Names.{FieldType, Fixed, Open, class_field_type, head_named, option_named, options_of, reference_target, selection_target}
use Rattle.asn_meaning.specs.Placed.{listed}
use Rattle.asn_meaning.specs.Ranges.{integer_named}
use Rattle.asn_meaning.specs.Scopes.{Empty, Place, Scope, Target, bare, Binds, LeavesOpen}
use Rattle.asn_meaning.specs.ValueTrees.{same_truth}
use Rattle.asn_meaning.proofs.Answering.{given_within, if_within, once_within, same_within}
use Rattle.asn_meaning.proofs.More.{More}
use Rattle.asn_meaning.proofs.Steps.{more_known, one_more}
use Rattle.asn_link_instance.specs.Instance.{Instances, component_instance, constrained, constraint_instance, element_instance, extended, field_instance, first_tag, has_no_place, inner_instance, instance, instance_at, list_instance, listed_instance, member_instance, no_instance, of_constraints, of_members, of_options, operation_instance, option_instance, own_tag, part_named, placed_tag, replaced, set_instance, stays, struct_instance, tag_instance, type_instance, content_bound, content_instance, type_at}
use Rattle.asn_link_instance.specs.Steady.{ChosenAgain, FoundAgain, Steady}
use Rattle.asn_link_instance.specs.Subjects.{Choices, OnCharacters, OnValues, Subject, gathered, perhaps, traversed, keeping_all}

-- ---- lists and what may be absent

gathered_within : {A B : Type 0} (f g : A → Option (List B)) → ((x : A) → Within (f x) (g x)) → (xs : List A) → Within (gathered f xs) (gathered g xs)
gathered_within f g h [] = refl
gathered_within f g h (x ∷ xs) = once_within _ _ _ _ (h x) (λ ys. once_within _ _ _ _ (gathered_within f g h xs) (λ zs. refl))

traversed_within : {A B : Type 0} (f g : A → Option B) → ((x : A) → Within (f x) (g x)) → (xs : List A) → Within (traversed f xs) (traversed g xs)
traversed_within f g h [] = refl
traversed_within f g h (x ∷ xs) = once_within _ _ _ _ (h x) (λ y. once_within _ _ _ _ (traversed_within f g h xs) (λ ys. refl))

perhaps_within : {A B : Type 0} (f g : A → Option B) → ((x : A) → Within (f x) (g x)) → (x : Option A) → Within (perhaps f x) (perhaps g x)
perhaps_within f g h None = refl
perhaps_within f g h (Some x) = once_within _ _ _ _ (h x) (λ y. refl)

-- what a selection stands for, and the alternative's tag, by the head of its CHOICE
abbrev target_by : ChoiceSelectionType → Option Place → Option Target
target_by x a = once None a (λ h. once None (option_named (options_of h) x.selected_option) (λ o. Some (record { place = record { scope = h.scope; ty = o.ty }; constraints = o.constraints })))

abbrev tag_by : ChoiceSelectionType → Option Place → Option AsnTag
tag_by x a = once None a (λ h. once None (option_named (options_of h) x.selected_option) (λ o. o.tag))

module _ (C : Choices) (defs : Definitions) (M N : Meaning) (I J : Instances) (m : More M N) (c : ChosenAgain C M N) (f : FoundAgain I J) where
  -- ---- contents

  bound_again : (scope : Scope) (l : ContentLayer) → Within (content_bound C defs M I scope l) (content_bound C defs N J scope l)
  bound_again scope (ContentConstraint-F.Containing ty) = once_within _ _ _ _ (f.of_contained scope ty) (λ uy. refl)
  bound_again scope (ContentConstraint-F.EncodedBy rules) = once_within _ _ _ _ (c.default scope rules _) (λ r. refl)
  bound_again scope (ContentConstraint-F.ContainingEncodedBy ty rules) = once_within _ _ _ _ (f.of_contained scope ty) (λ uy. once_within _ _ _ _ (c.default scope rules _) (λ r. refl))

  content_again : (scope : Scope) (x : ContentConstraint) → Within (content_instance C defs M I scope x) (content_instance C defs N J scope x)
  content_again Empty x = refl
  content_again (Binds dummy governor argument scope others) x = once_within _ _ _ _ (bound_again (Binds dummy governor argument scope others) (out-ContentConstraint x)) (λ l. refl)
  content_again (LeavesOpen dummy governor others) x = once_within _ _ _ _ (bound_again (LeavesOpen dummy governor others) (out-ContentConstraint x)) (λ l. refl)

  -- ---- constraints

  constraint_again : (scope : Scope) (s : Subject) (l : ConstraintLayer) → Within (constraint_instance C defs M I scope s l) (constraint_instance C defs N J scope s l)
  constraint_again scope s (Constraint-F.SubtypeConstraint x) = once_within _ _ _ _ (f.of_set scope s x.set) (λ set. refl)
  constraint_again scope s (Constraint-F.TableConstraint x) = once_within _ _ _ _ (c.table scope x) (λ y. refl)
  constraint_again scope s (Constraint-F.Parameter arguments) = refl
  constraint_again scope s (Constraint-F.ContentConstraint x) = once_within _ _ _ _ (content_again scope x) (λ y. refl)

  constraints_again : (scope : Scope) (p : Place) (cs : List Constraint) → Within (of_constraints C defs M I scope p cs) (of_constraints C defs N J scope p cs)
  constraints_again scope p cs = gathered_within _ _ (λ d. once_within _ _ _ _ (m.head p) (λ head. constraint_again scope (OnValues head) (out-Constraint d))) cs

  part_again : (inside : Scope) (name : List ℕ) (kind : Kind) → Within (part_named C defs M I inside name kind) (part_named C defs N J inside name kind)
  part_again inside name (ChoiceKind options) = same_within _
  part_again inside name (StructKind x) = once_within _ _ _ _ (m.members inside x) (λ ms. same_within _)
  part_again inside name _ = tt

  listed_again : (scope : Scope) (head : Place) (x : ListedLayer) → Within (listed_instance C defs M I scope head x) (listed_instance C defs N J scope head x)
  listed_again scope head x = once_within _ _ _ _ (part_again head.scope x.identifier (kind_of head)) (λ p. once_within _ _ _ _ (constraints_again scope p x.constraints) (λ cs. refl))

  component_again : (scope : Scope) (s : Subject) (cs : List Constraint) → Within (component_instance C defs M I scope s cs) (component_instance C defs N J scope s cs)
  component_again scope (OnValues head) cs = given_within (element_place head) _ _ (λ p. once_within _ _ _ _ (constraints_again scope p cs) (λ ds. refl))
  component_again scope OnCharacters cs = tt

  inner_again : (scope : Scope) (s : Subject) (inner : InnerLayer) → Within (inner_instance C defs M I scope s inner) (inner_instance C defs N J scope s inner)
  inner_again scope (OnValues head) inner = once_within _ _ _ _ (traversed_within _ _ (listed_again scope head) inner.constraints) (λ cs. refl)
  inner_again scope OnCharacters inner = tt

  element_again : (scope : Scope) (s : Subject) (l : ElementLayer) → Within (element_instance C defs M I scope s l) (element_instance C defs N J scope s l)
  element_again scope s (SubtypeElement-F.SingleValue v extensible) = once_within _ _ _ _ (c.value scope v _) (λ w. refl)
  element_again scope s (SubtypeElement-F.ContainedSubtype ty extensible) = once_within _ _ _ _ (f.of_type true scope ty) (λ uy. refl)
  element_again scope s (SubtypeElement-F.TypeConstraint ty) = once_within _ _ _ _ (f.of_type true scope ty) (λ uy. refl)
  element_again scope s (SubtypeElement-F.ValueRange low high low_open high_open extensible) =
      once_within _ _ _ _ (perhaps_within _ _ (λ v. c.end scope v _) low) (λ l. once_within _ _ _ _ (perhaps_within _ _ (λ v. c.end scope v _) high) (λ h. refl))
  element_again scope s (SubtypeElement-F.PermittedAlphabet set) = once_within _ _ _ _ (f.of_set scope OnCharacters set) (λ x. refl)
  element_again scope s (SubtypeElement-F.SizeConstraint set) = once_within _ _ _ _ (f.of_set scope (OnValues (integer_named None)) set) (λ x. refl)
  element_again scope s (SubtypeElement-F.SingleTypeConstraint cs) = component_again scope s cs
  element_again scope s (SubtypeElement-F.MultipleTypeConstraints inner) = inner_again scope s inner
  element_again scope s (SubtypeElement-F.PatternConstraint x) = refl
  element_again scope s (SubtypeElement-F.UserDefinedConstraint x) = refl
  element_again scope s (SubtypeElement-F.PropertySettings x) = refl

  operation_again : (scope : Scope) (s : Subject) (x : OperationLayer) → Within (operation_instance C defs M I scope s x) (operation_instance C defs N J scope s x)
  operation_again scope s x = once_within _ _ _ _ (f.of_element scope s x.base) (λ e. once_within _ _ _ _ (f.of_set scope s x.operant) (λ set. refl))

  set_again : (scope : Scope) (s : Subject) (l : SetLayer) → Within (set_instance C defs M I scope s l) (set_instance C defs N J scope s l)
  set_again scope s (ElementOrSetOperation-F.Element e) = once_within _ _ _ _ (f.of_element scope s e) (λ d. refl)
  set_again scope s (ElementOrSetOperation-F.SetOperation x) = once_within _ _ _ _ (operation_again scope s (out-SetOperation x)) (λ y. refl)

  -- ---- tags

  first_within : (tag : Option AsnTag) (a b : Option (Option AsnTag)) → Within a b → Within (first_tag C defs M I tag a) (first_tag C defs N J tag b)
  first_within (Some tag) a b p = refl
  first_within None a b p = p

  -- the alternative's tag is known where the alternative is
  chosen_tag : (scope : Scope) (x : ChoiceSelectionType) → Within (tag_instance C defs M I scope (ASN1Type-F.ChoiceSelectionType x)) (tag_instance C defs N J scope (ASN1Type-F.ChoiceSelectionType x))
  chosen_tag scope x = at (head_named M scope x.choice_name) (head_named N scope x.choice_name) (m.head _)
    where
      at : (a b : Option Place) → Within a b → Within (once None (target_by x a) (λ t. first_tag C defs M I (tag_by x a) (I.of_tag t.place.scope t.place.ty))) (once None (target_by x b) (λ t. first_tag C defs N J (tag_by x b) (J.of_tag t.place.scope t.place.ty)))
      at None b p = tt
      at (Some h) b p =
          subst (λ z. Within (once None (target_by x (Some h)) (λ t. first_tag C defs M I (tag_by x (Some h)) (I.of_tag t.place.scope t.place.ty))) (once None (target_by x z) (λ t. first_tag C defs N J (tag_by x z) (J.of_tag t.place.scope t.place.ty)))) (sym p)
          (given_within (target_by x (Some h)) _ _ (λ t. first_within (tag_by x (Some h)) _ _ (f.of_tag t.place.scope t.place.ty)))

  tag_again : (scope : Scope) (l : TypeLayer) → Within (tag_instance C defs M I scope l) (tag_instance C defs N J scope l)
  tag_again scope (ASN1Type-F.ElsewhereDeclaredType x) =
      if_within (stays C false scope x) _ _ _ _ refl (given_within (reference_target defs scope x) _ _ (λ t. first_within (own_tag C defs M I scope (ASN1Type-F.ElsewhereDeclaredType x)) _ _ (f.of_tag t.place.scope t.place.ty)))
  tag_again scope (ASN1Type-F.ChoiceSelectionType x) = chosen_tag scope x
  tag_again scope _ = refl

  placed_again : (scope : Scope) (tag : Option AsnTag) (ty : ASN1Type) → Within (placed_tag C defs M I scope tag ty) (placed_tag C defs N J scope tag ty)
  placed_again scope (Some tag) ty = refl
  placed_again scope None ty = f.of_tag scope ty

  -- ---- parts

  member_again : (scope : Scope) (x : MemberLayer) → Within (member_instance C defs M I scope x) (member_instance C defs N J scope x)
  member_again scope x =
      once_within _ _ _ _ (f.of_type false scope x.ty) (λ ty. once_within _ _ _ _ (constraints_again scope (place scope x.ty) x.constraints) (λ cs.
      once_within _ _ _ _ (perhaps_within _ _ (λ v. c.default scope v (place scope x.ty)) x.default_value) (λ d.
      once_within _ _ _ _ (placed_again scope x.tag x.ty) (λ tag. refl))))

  members_again : (marker : Option ℕ) (number : ℕ) (ms : List Member) → Within (of_members C defs M I marker number ms) (of_members C defs N J marker number ms)
  members_again marker number [] = refl
  members_again marker number (x ∷ xs) =
      if_within (same_truth x.is_addition (is_addition_at marker number)) _ _ _ _ (once_within _ _ _ _ (member_again x.scope x.written) (λ w. once_within _ _ _ _ (members_again marker (suc number) xs) (λ ws. refl))) tt

  struct_again : (scope : Scope) (ty : ASN1Type) (x : StructLayer) → Within (struct_instance C defs M I scope ty x) (struct_instance C defs N J scope ty x)
  struct_again scope ty x =
      once_within _ _ _ _ (m.members scope x) (λ ms. once_within _ _ _ _ (members_again _ 0 ms) (λ ws. once_within _ _ _ _ (constraints_again scope (place scope ty) x.constraints) (λ cs. refl)))

  option_again : (scope : Scope) (o : OptionLayer) → Within (option_instance C defs M I scope o) (option_instance C defs N J scope o)
  option_again scope o = once_within _ _ _ _ (f.of_type false scope o.ty) (λ ty. once_within _ _ _ _ (constraints_again scope (place scope o.ty) o.constraints) (λ cs. once_within _ _ _ _ (placed_again scope o.tag o.ty) (λ tag. refl)))

  options_again : (scope : Scope) (os : List ChoiceOption) → Within (of_options C defs M I scope os) (of_options C defs N J scope os)
  options_again scope os = traversed_within _ _ (λ o. once_within _ _ _ _ (option_again scope (out-ChoiceOption o)) (λ x. refl)) os

  list_again : (scope : Scope) (ty : ASN1Type) (x : ListLayer) → Within (list_instance C defs M I scope ty x) (list_instance C defs N J scope ty x)
  list_again scope ty x = once_within _ _ _ _ (f.of_type false scope x.element_type) (λ e. once_within _ _ _ _ (constraints_again scope (place scope ty) x.constraints) (λ cs. refl))

  -- ---- types

  constrained_again : (scope : Scope) (ty : ASN1Type) (l : TypeLayer) → Within (constrained C defs M I scope ty l) (constrained C defs N J scope ty l)
  constrained_again scope ty l = once_within _ _ _ _ (constraints_again scope (place scope ty) (listed (constraints_at l))) (λ cs. refl)

  extended_again : (scope : Scope) (ty : ASN1Type) (beside : List Constraint) (x : Target) (l : TypeLayer) (c : Bool) → Within (extended C defs M I scope ty beside x l c) (extended C defs N J scope ty beside x l c)
  extended_again scope ty beside x l true = refl
  extended_again scope ty beside x l false =
      once_within _ _ _ _ (constraints_again x.place.scope x.place x.constraints) (λ es. once_within _ _ _ _ (constraints_again scope (place scope ty) beside) (λ ds. same_within _))

  replaced_again : (down : Bool) (scope : Scope) (ty : ASN1Type) (beside : List Constraint) (a b : Option Target) → Within a b → Within (replaced C defs M I down scope ty beside a) (replaced C defs N J down scope ty beside b)
  replaced_again down scope ty beside a b p =
      once_within _ _ _ _ p (λ x. once_within _ _ _ _ (f.of_type down x.place.scope x.place.ty) (λ uy. extended_again scope ty beside x (out-ASN1Type uy) (has_no_place (out-ASN1Type uy))))

  field_again : (down : Bool) (scope : Scope) (ty : ASN1Type) (x : ClassFieldLayer) (d : Option FieldType) → Within (field_instance C defs M I down scope ty x d) (field_instance C defs N J down scope ty x d)
  field_again down scope ty x None = tt
  field_again down scope ty x (Some Open) = if_within (C.keeps None x.class) _ _ _ _ (constrained_again scope ty (ASN1Type-F.InformationObjectFieldReference x)) tt
  field_again down scope ty x (Some (Fixed uy)) = replaced_again down scope ty x.constraints (Some (bare Empty uy)) (Some (bare Empty uy)) refl

  type_again : (down : Bool) (scope : Scope) (ty : ASN1Type) (l : TypeLayer) → Within (type_instance C defs M I down scope ty l) (type_instance C defs N J down scope ty l)
  type_again down scope ty (ASN1Type-F.ElsewhereDeclaredType x) =
      if_within (stays C down scope x) _ _ _ _ (constrained_again scope ty (ASN1Type-F.ElsewhereDeclaredType x)) (replaced_again down scope ty x.constraints (reference_target defs scope x) (reference_target defs scope x) (same_within _))
  type_again down scope ty (ASN1Type-F.ChoiceSelectionType x) = replaced_again down scope ty [] (selection_target M scope x) (selection_target N scope x) (once_within _ _ _ _ (m.head _) (λ h. same_within _))
  type_again down scope ty (ASN1Type-F.InformationObjectFieldReference x) = field_again down scope ty x (class_field_type defs scope x)
  type_again down scope ty (ASN1Type-F.ASN1Type::Choice x) =
      once_within _ _ _ _ (options_again scope (out-Choice x).options) (λ os. once_within _ _ _ _ (constraints_again scope (place scope ty) (out-Choice x).constraints) (λ cs. refl))
  type_again down scope ty (ASN1Type-F.Sequence x) = once_within _ _ _ _ (struct_again scope ty (out-SequenceOrSet x)) (λ y. refl)
  type_again down scope ty (ASN1Type-F.Set x) = once_within _ _ _ _ (struct_again scope ty (out-SequenceOrSet x)) (λ y. refl)
  type_again down scope ty (ASN1Type-F.SequenceOf x) = once_within _ _ _ _ (list_again scope ty (out-SequenceOrSetOf x)) (λ y. refl)
  type_again down scope ty (ASN1Type-F.SetOf x) = once_within _ _ _ _ (list_again scope ty (out-SequenceOrSetOf x)) (λ y. refl)
  type_again down scope ty l = constrained_again scope ty l

  pub at_again : (down : Bool) (scope : Scope) (ty : ASN1Type) → Within (type_at C defs M I down scope ty) (type_at C defs N J down scope ty)
  at_again down scope ty = once_within _ _ _ _ (type_again down scope ty (out-ASN1Type ty)) (λ l. refl)

  level_again : (a b : Scope → ASN1Type → Option ASN1Type) → ((scope : Scope) (ty : ASN1Type) → Within (a scope ty) (b scope ty)) → FoundAgain (instance_at C defs M I a) (instance_at C defs N J b)
  level_again a b contained = record {
    of_type = at_again;
    of_contained = contained;
    of_set = λ scope s set. once_within _ _ _ _ (set_again scope s (out-ElementOrSetOperation set)) (λ l. refl);
    of_element = λ scope s e. once_within _ _ _ _ (element_again scope s (out-SubtypeElement e)) (λ l. refl);
    of_tag = λ scope ty. tag_again scope (out-ASN1Type ty);
  }

-- ---- levels and steps

none_found : (J : Instances) → FoundAgain no_instance J
unfolding no_instance
none_found J = record { of_type = λ down scope ty. tt; of_set = λ scope s set. tt; of_element = λ scope s e. tt; of_tag = λ scope ty. tt; of_contained = λ scope ty. tt }

same_chosen : (C : Choices) (M : Meaning) → ChosenAgain C M M
same_chosen C M = record { value = λ scope v p. same_within _; end = λ scope v p. same_within _; default = λ scope v p. same_within _; table = λ scope x. same_within _ }

same_more : (defs : Definitions) (n : ℕ) → More (meaning defs n) (meaning defs n)
same_more defs n = let e : n + zero ≡ n = omega arith in subst (λ z. More (meaning defs n) (meaning defs z)) e (more_known defs n zero)

-- which names may stay is asked for no value
all_chosen : (C : Choices) (M N : Meaning) → ChosenAgain C M N → ChosenAgain (keeping_all C) M N
all_chosen C M N c = record { value = c.value; end = c.end; default = c.default; table = c.table }

level_more : (C : Choices) (defs : Definitions) (n k : ℕ) → FoundAgain (instance C defs n k) (instance C defs n (suc k))
unfolding instance
level_more C defs n zero = none_found _
level_more C defs n (suc k) =
    let M = meaning defs n in
    let A = keeping_all C in
    level_again C defs M M (instance C defs n k) (instance C defs n (suc k)) (same_more defs n) (same_chosen C M) (level_more C defs n k)
    (type_at A defs M (instance A defs n k) false) (type_at A defs M (instance A defs n (suc k)) false)
    (at_again A defs M M (instance A defs n k) (instance A defs n (suc k)) (same_more defs n) (same_chosen A M) (level_more A defs n k) false)

step_more : (C : Choices) (defs : Definitions) → Steady C defs → (n k : ℕ) → FoundAgain (instance C defs n k) (instance C defs (suc n) k)
unfolding instance
step_more C defs steady n zero = none_found _
step_more C defs steady n (suc k) =
    let M = meaning defs n in
    let N = meaning defs (suc n) in
    let A = keeping_all C in
    level_again C defs M N (instance C defs n k) (instance C defs (suc n) k) (one_more defs n) (steady n) (step_more C defs steady n k)
    (type_at A defs M (instance A defs n k) false) (type_at A defs N (instance A defs (suc n) k) false)
    (at_again A defs M N (instance A defs n k) (instance A defs (suc n) k) (one_more defs n) (all_chosen C M N (steady n)) (step_more A defs (λ i. all_chosen C (meaning defs i) (meaning defs (suc i)) (steady i)) n k) false)

pub more_levels : (C : Choices) (defs : Definitions) → Steady C defs → (n k : ℕ) → FoundAgain (instance C defs n k) (instance C defs n (suc k)) × FoundAgain (instance C defs n k) (instance C defs (suc n) k)
more_levels C defs steady n k = (level_more C defs n k, step_more C defs steady n k)
