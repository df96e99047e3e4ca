-- All names may stay in a tree exactly if each of the names may that are read off it, by an induction over types, constraints
-- and what stands in them.
use Rattle.std.proofs.Common.{◌≡◌, ℕ, zero, suc, List, [], ◌∷◌, ◌++◌, Bool, true, ◌&&◌, Option, None, map, refl, sym, subst, ◌∙◌}
use Rattle.std.specs.List.{list_all}
use Rattle.std.proofs.lemmas.Bool.{and_from, and_parts}
use Rattle.std.proofs.lemmas.List.Folds.{list_all-append}
use Rattle.asn_tree_kinds.specs.declared.constraints.ConstrainedComponentOver.{ConstrainedComponentOver}
use Rattle.asn_tree_kinds.specs.declared.constraints.InnerTypeConstraintOver.{InnerTypeConstraintOver}
use Rattle.asn_tree.specs.Folds.{choice_is, choice_read, constraint_is, constraint_read, element_is, element_read, list_is, list_read, member_is, member_read, operation_is, operation_read, option_is, option_read, set_is, set_read, struct_is, struct_read, type_is, type_read}
use Rattle.asn_tree.specs.Layers.{ChoiceLayer, ChoiceOver, ConstraintLayer, ConstraintOver, ElementLayer, ElementOver, ListLayer, ListOver, MemberOver, OperationOver, OptionOver, SetOver, StructLayer, StructOver, TypeOver}
use Rattle.asn_tree.specs.declared.constraints.Constraint.{Constraint, Constraint-F, out-Constraint, roll-Constraint, out-roll-Constraint}
use Rattle.asn_tree.specs.declared.constraints.ElementOrSetOperation.{ElementOrSetOperation, ElementOrSetOperation-F, out-ElementOrSetOperation, roll-ElementOrSetOperation, out-roll-ElementOrSetOperation}
use Rattle.asn_tree.specs.declared.constraints.SetOperation.{out-SetOperation, roll-SetOperation, out-roll-SetOperation}
use Rattle.asn_tree.specs.declared.constraints.SubtypeElement.{SubtypeElement, SubtypeElement-F, out-SubtypeElement, roll-SubtypeElement, out-roll-SubtypeElement}
use Rattle.asn_tree.specs.declared.types.ASN1Type.{ASN1Type, ASN1Type-F, out-ASN1Type, roll-ASN1Type, out-roll-ASN1Type}
use Rattle.asn_tree.specs.declared.types.Choice.{out-Choice, roll-Choice, out-roll-Choice}
use Rattle.asn_tree.specs.declared.types.ChoiceOption.{out-ChoiceOption, roll-ChoiceOption, out-roll-ChoiceOption}
use Rattle.asn_tree.specs.declared.types.SequenceOrSet.{out-SequenceOrSet, roll-SequenceOrSet, out-roll-SequenceOrSet}
use Rattle.asn_tree.specs.declared.types.SequenceOrSetMember.{out-SequenceOrSetMember, roll-SequenceOrSetMember, out-roll-SequenceOrSetMember}
use Rattle.asn_tree.specs.declared.types.SequenceOrSetOf.{out-SequenceOrSetOf, roll-SequenceOrSetOf, out-roll-SequenceOrSetOf}
use Rattle.asn_meaning.specs.Layers.{ListedLayer}
use Rattle.asn_meaning_unchanged.proofs.AllTypes.{Shown, none_shown, proved, bare_choice, bare_constraint, bare_element, bare_list, bare_member, bare_operation, bare_option, bare_set, bare_struct, bare_type, each_type}
use Rattle.asn_link_instance.specs.Staying.{Names, constraint_stays, constraints_stay, element_stays, layer_stays, member_stays, operation_stays, option_stays, set_stays, staying}
use Rattle.asn_link_closed.specs.Staying.{NamesThatStay}
use Rattle.asn_link_closed.specs.StayingNames.{StayingName, choice_names, component_names, constraint_names, element_names, gathering, joined, list_names, may_stay, member_names, names_in_choice, names_in_constraint, names_in_element, names_in_list, names_in_member, names_in_operation, names_in_option, names_in_set, names_in_struct, operation_names, option_names, set_names, staying_names, struct_names, type_names}
use Rattle.asn_link_closed.proofs.Components.{components_in}

-- what is so within each number of levels, from what is so within one less
above_all : (at above : ℕ → Bool) → above 0 ≡ true → ((m : ℕ) → above (suc m) ≡ at m) → ((m : ℕ) → at m ≡ true) → (m : ℕ) → above m ≡ true
above_all at above first next h zero = first
above_all at above first next h (suc m) = next m ∙ h m

abbrev listed_in : ElementLayer → List ListedLayer
listed_in (SubtypeElement-F.MultipleTypeConstraints i) = i.constraints
listed_in _ = []

module _ (keeps : Names) where
  abbrev all_stay : List StayingName → Bool
  all_stay xs = list_all (may_stay keeps) xs

  -- what is so within any number of levels exactly if each of these names may stay
  record Told (at : ℕ → Bool) (names : List StayingName) : Type 0 where
    pub onward : ((m : ℕ) → at m ≡ true) → all_stay names ≡ true
    pub back : all_stay names ≡ true → (m : ℕ) → at m ≡ true

  nothing : Told (λ m. true) []
  nothing = record { onward = λ h. refl; back = λ h m. refl }

  one : (object : Option (List ℕ)) (name : List ℕ) → Told (λ m. keeps object name) ((object, name) ∷ [])
  one object name = record { onward = λ h. and_from _ _ (h 0) refl; back = λ h m. (and_parts (keeps object name) true h).0 }

  both : {a b : ℕ → Bool} {xs ys : List StayingName} → Told a xs → Told b ys → Told (λ m. a m && b m) (xs ++ ys)
  both {a = a} {b = b} {xs = xs} {ys = ys} p q =
      record {
        onward = λ h.
            list_all-append (may_stay keeps) xs ys
            ∙ and_from _ _ (p.onward (λ m. (and_parts (a m) (b m) (h m)).0)) (q.onward (λ m. (and_parts (a m) (b m) (h m)).1));
        back = λ h m.
            let r = and_parts (all_stay xs) (all_stay ys) (sym (list_all-append (may_stay keeps) xs ys) ∙ h) in
            and_from _ _ (p.back r.0 m) (q.back r.1 m);
      }

  level : {at above : ℕ → Bool} {names : List StayingName} → above 0 ≡ true → ((m : ℕ) → above (suc m) ≡ at m) → Told at names → Told above names
  level {at = at} {above = above} first next t =
      record {
        onward = λ h. t.onward (λ m. sym (next m) ∙ h (suc m));
        back = λ h m. above_all at above first next (t.back h) m;
      }

  each : {A : Type 0} (at : ℕ → A → Bool) (names : A → List StayingName) (ys : List ((x : A) × Told (λ m. at m x) (names x))) → Told (λ m. list_all (at m) (map (λ y. y.0) ys)) (joined (map names (map (λ y. y.0) ys)))
  each at names [] = nothing
  each at names (y ∷ ys) = both y.1 (each at names ys)

  -- a tree, by one level of it
  rolled : {X L : Type 0} (out : X → L) (roll : L → X) (same : (l : L) → out (roll l) ≡ l) (at : ℕ → L → Bool) (names : X → List StayingName) (read : L → List StayingName) (is : (x : X) → names x ≡ read (out x)) (l : L) → Told (λ m. at m l) (read l) → Told (λ m. at m (out (roll l))) (names (roll l))
  rolled out roll same at names read is l t =
      subst (Told (λ m. at m (out (roll l)))) (sym (is (roll l))) (subst (λ z. Told (λ m. at m z) (read z)) (sym (same l)) t)

  -- ---- what stays in each type of tree

  abbrev constraint_at : ℕ → ConstraintLayer → Bool
  constraint_at m l = constraint_stays keeps (staying keeps m) l

  abbrev constraints_at : ℕ → List Constraint → Bool
  constraints_at m cs = constraints_stay keeps (staying keeps m) cs

  abbrev choice_at : ℕ → ChoiceLayer → Bool
  choice_at m l = list_all (λ o. option_stays keeps (staying keeps m) (out-ChoiceOption o)) l.options && constraints_at m l.constraints

  abbrev struct_at : ℕ → StructLayer → Bool
  struct_at m l = list_all (λ x. member_stays keeps (staying keeps m) (out-SequenceOrSetMember x)) l.members && constraints_at m l.constraints

  abbrev list_at : ℕ → ListLayer → Bool
  list_at m l = (staying keeps m).of_type l.element_type && constraints_at m l.constraints

  abbrev shown : Shown
  shown =
      record none_shown {
        of_constraint = λ c. Told (λ m. constraint_at m (out-Constraint c)) (names_in_constraint c);
        of_set = λ s. Told (λ m. (staying keeps m).of_set s) (names_in_set s);
        of_element = λ e. Told (λ m. (staying keeps m).of_element e) (names_in_element e);
        of_type = λ ty. Told (λ m. (staying keeps m).of_type ty) (staying_names ty);
        of_operation = λ o. Told (λ m. operation_stays keeps (staying keeps m) (out-SetOperation o)) (names_in_operation o);
        of_choice = λ c. Told (λ m. choice_at m (out-Choice c)) (names_in_choice c);
        of_option = λ o. Told (λ m. option_stays keeps (staying keeps m) (out-ChoiceOption o)) (names_in_option o);
        of_struct = λ s. Told (λ m. struct_at m (out-SequenceOrSet s)) (names_in_struct s);
        of_member = λ x. Told (λ m. member_stays keeps (staying keeps m) (out-SequenceOrSetMember x)) (names_in_member x);
        of_list = λ l. Told (λ m. list_at m (out-SequenceOrSetOf l)) (names_in_list l);
      }

  abbrev ToldConstraint : Type 0
  ToldConstraint = (c : Constraint) × Told (λ m. constraint_at m (out-Constraint c)) (names_in_constraint c)

  constraints_told : (ys : List ToldConstraint) → Told (λ m. constraints_at m (map (λ y. y.0) ys)) (joined (map names_in_constraint (map (λ y. y.0) ys)))
  constraints_told ys = each (λ m c. constraint_at m (out-Constraint c)) names_in_constraint ys

  -- ---- constraints

  on_constraint : (y : ConstraintOver (proved shown)) → Told (λ m. constraint_at m (bare_constraint shown y)) (constraint_names (constraint_read gathering (bare_constraint shown y)))
  on_constraint (Constraint-F.SubtypeConstraint x) = x.set.1
  on_constraint (Constraint-F.TableConstraint x) = nothing
  on_constraint (Constraint-F.Parameter x) = nothing
  on_constraint (Constraint-F.ContentConstraint x) = nothing

  constraint_case : (y : ConstraintOver (proved shown)) → Told (λ m. constraint_at m (out-Constraint (roll-Constraint (bare_constraint shown y)))) (names_in_constraint (roll-Constraint (bare_constraint shown y)))
  constraint_case y = rolled out-Constraint roll-Constraint out-roll-Constraint constraint_at names_in_constraint (λ l. constraint_names (constraint_read gathering l)) (constraint_is gathering) (bare_constraint shown y) (on_constraint y)

  on_operation : (y : OperationOver (proved shown)) → Told (λ m. operation_stays keeps (staying keeps m) (bare_operation shown y)) (operation_names (operation_read gathering (bare_operation shown y)))
  on_operation y = both y.base.1 y.operant.1

  operation_case : (y : OperationOver (proved shown)) → Told (λ m. operation_stays keeps (staying keeps m) (out-SetOperation (roll-SetOperation (bare_operation shown y)))) (names_in_operation (roll-SetOperation (bare_operation shown y)))
  operation_case y = rolled out-SetOperation roll-SetOperation out-roll-SetOperation (λ m l. operation_stays keeps (staying keeps m) l) names_in_operation (λ l. operation_names (operation_read gathering l)) (operation_is gathering) (bare_operation shown y) (on_operation y)

  on_set : (y : SetOver (proved shown)) → Told (λ m. set_stays keeps (staying keeps m) (bare_set shown y)) (set_names (set_read gathering (bare_set shown y)))
  on_set (ElementOrSetOperation-F.Element e) = e.1
  on_set (ElementOrSetOperation-F.SetOperation o) = o.1

  set_above : (set : ElementOrSetOperation) → Told (λ m. set_stays keeps (staying keeps m) (out-ElementOrSetOperation set)) (names_in_set set) → Told (λ m. (staying keeps m).of_set set) (names_in_set set)
  unfolding staying
  set_above set t = level refl (λ m. refl) t

  set_case : (y : SetOver (proved shown)) → Told (λ m. (staying keeps m).of_set (roll-ElementOrSetOperation (bare_set shown y))) (names_in_set (roll-ElementOrSetOperation (bare_set shown y)))
  set_case y = set_above _ (rolled out-ElementOrSetOperation roll-ElementOrSetOperation out-roll-ElementOrSetOperation (λ m l. set_stays keeps (staying keeps m) l) names_in_set (λ l. set_names (set_read gathering l)) (set_is gathering) (bare_set shown y) (on_set y))

  -- the components that WITH COMPONENTS lists
  on_components : (i : InnerTypeConstraintOver ToldConstraint) (cs : List (ConstrainedComponentOver ToldConstraint)) → Told (λ m. list_all (λ c. constraints_at m c.constraints) (listed_in (bare_element shown (SubtypeElement-F.MultipleTypeConstraints (record i { constraints = cs }))))) (joined (map component_names (components_in (element_read gathering (bare_element shown (SubtypeElement-F.MultipleTypeConstraints (record i { constraints = cs })))))))
  on_components i [] = nothing
  on_components i (c ∷ cs) = both (constraints_told c.constraints) (on_components i cs)

  on_element : (y : ElementOver (proved shown)) → Told (λ m. element_stays keeps (staying keeps m) (bare_element shown y)) (element_names (element_read gathering (bare_element shown y)))
  on_element (SubtypeElement-F.SingleValue v extensible) = nothing
  on_element (SubtypeElement-F.ContainedSubtype ty extensible) = ty.1
  on_element (SubtypeElement-F.ValueRange low high low_open high_open extensible) = nothing
  on_element (SubtypeElement-F.PermittedAlphabet set) = set.1
  on_element (SubtypeElement-F.SizeConstraint set) = set.1
  on_element (SubtypeElement-F.TypeConstraint ty) = ty.1
  on_element (SubtypeElement-F.SingleTypeConstraint cs) = constraints_told cs
  on_element (SubtypeElement-F.MultipleTypeConstraints inner) = on_components inner inner.constraints
  on_element (SubtypeElement-F.PatternConstraint x) = nothing
  on_element (SubtypeElement-F.UserDefinedConstraint x) = nothing
  on_element (SubtypeElement-F.PropertySettings x) = nothing

  element_above : (e : SubtypeElement) → Told (λ m. element_stays keeps (staying keeps m) (out-SubtypeElement e)) (names_in_element e) → Told (λ m. (staying keeps m).of_element e) (names_in_element e)
  unfolding staying
  element_above e t = level refl (λ m. refl) t

  element_case : (y : ElementOver (proved shown)) → Told (λ m. (staying keeps m).of_element (roll-SubtypeElement (bare_element shown y))) (names_in_element (roll-SubtypeElement (bare_element shown y)))
  element_case y = element_above _ (rolled out-SubtypeElement roll-SubtypeElement out-roll-SubtypeElement (λ m l. element_stays keeps (staying keeps m) l) names_in_element (λ l. element_names (element_read gathering l)) (element_is gathering) (bare_element shown y) (on_element y))

  -- ---- members, alternatives, elements

  on_member : (y : MemberOver (proved shown)) → Told (λ m. member_stays keeps (staying keeps m) (bare_member shown y)) (member_names (member_read gathering (bare_member shown y)))
  on_member y = both y.ty.1 (constraints_told y.constraints)

  member_case : (y : MemberOver (proved shown)) → Told (λ m. member_stays keeps (staying keeps m) (out-SequenceOrSetMember (roll-SequenceOrSetMember (bare_member shown y)))) (names_in_member (roll-SequenceOrSetMember (bare_member shown y)))
  member_case y = rolled out-SequenceOrSetMember roll-SequenceOrSetMember out-roll-SequenceOrSetMember (λ m l. member_stays keeps (staying keeps m) l) names_in_member (λ l. member_names (member_read gathering l)) (member_is gathering) (bare_member shown y) (on_member y)

  on_option : (y : OptionOver (proved shown)) → Told (λ m. option_stays keeps (staying keeps m) (bare_option shown y)) (option_names (option_read gathering (bare_option shown y)))
  on_option y = both y.ty.1 (constraints_told y.constraints)

  option_case : (y : OptionOver (proved shown)) → Told (λ m. option_stays keeps (staying keeps m) (out-ChoiceOption (roll-ChoiceOption (bare_option shown y)))) (names_in_option (roll-ChoiceOption (bare_option shown y)))
  option_case y = rolled out-ChoiceOption roll-ChoiceOption out-roll-ChoiceOption (λ m l. option_stays keeps (staying keeps m) l) names_in_option (λ l. option_names (option_read gathering l)) (option_is gathering) (bare_option shown y) (on_option y)

  on_struct : (y : StructOver (proved shown)) → Told (λ m. struct_at m (bare_struct shown y)) (struct_names (struct_read gathering (bare_struct shown y)))
  on_struct y = both (each (λ m x. member_stays keeps (staying keeps m) (out-SequenceOrSetMember x)) names_in_member y.members) (constraints_told y.constraints)

  struct_case : (y : StructOver (proved shown)) → Told (λ m. struct_at m (out-SequenceOrSet (roll-SequenceOrSet (bare_struct shown y)))) (names_in_struct (roll-SequenceOrSet (bare_struct shown y)))
  struct_case y = rolled out-SequenceOrSet roll-SequenceOrSet out-roll-SequenceOrSet struct_at names_in_struct (λ l. struct_names (struct_read gathering l)) (struct_is gathering) (bare_struct shown y) (on_struct y)

  on_choice : (y : ChoiceOver (proved shown)) → Told (λ m. choice_at m (bare_choice shown y)) (choice_names (choice_read gathering (bare_choice shown y)))
  on_choice y = both (each (λ m o. option_stays keeps (staying keeps m) (out-ChoiceOption o)) names_in_option y.options) (constraints_told y.constraints)

  choice_case : (y : ChoiceOver (proved shown)) → Told (λ m. choice_at m (out-Choice (roll-Choice (bare_choice shown y)))) (names_in_choice (roll-Choice (bare_choice shown y)))
  choice_case y = rolled out-Choice roll-Choice out-roll-Choice choice_at names_in_choice (λ l. choice_names (choice_read gathering l)) (choice_is gathering) (bare_choice shown y) (on_choice y)

  on_list : (y : ListOver (proved shown)) → Told (λ m. list_at m (bare_list shown y)) (list_names (list_read gathering (bare_list shown y)))
  on_list y = both y.element_type.1 (constraints_told y.constraints)

  list_case : (y : ListOver (proved shown)) → Told (λ m. list_at m (out-SequenceOrSetOf (roll-SequenceOrSetOf (bare_list shown y)))) (names_in_list (roll-SequenceOrSetOf (bare_list shown y)))
  list_case y = rolled out-SequenceOrSetOf roll-SequenceOrSetOf out-roll-SequenceOrSetOf list_at names_in_list (λ l. list_names (list_read gathering l)) (list_is gathering) (bare_list shown y) (on_list y)

  -- ---- types

  on_type : (y : TypeOver (proved shown)) → Told (λ m. layer_stays keeps (staying keeps m) (bare_type shown y)) (type_names (type_read gathering (bare_type shown y)))
  on_type ASN1Type-F.ASN1Type::Null = nothing
  on_type (ASN1Type-F.ASN1Type::Boolean t) = constraints_told t.constraints
  on_type (ASN1Type-F.ASN1Type::Integer t) = constraints_told t.constraints
  on_type (ASN1Type-F.ASN1Type::Real t) = constraints_told t.constraints
  on_type (ASN1Type-F.ASN1Type::BitString t) = constraints_told t.constraints
  on_type (ASN1Type-F.ASN1Type::OctetString t) = constraints_told t.constraints
  on_type (ASN1Type-F.CharacterString t) = constraints_told t.constraints
  on_type (ASN1Type-F.Enumerated t) = constraints_told t.constraints
  on_type (ASN1Type-F.ASN1Type::Choice c) = c.1
  on_type (ASN1Type-F.Sequence s) = s.1
  on_type (ASN1Type-F.SequenceOf l) = l.1
  on_type (ASN1Type-F.Set s) = s.1
  on_type (ASN1Type-F.SetOf l) = l.1
  on_type (ASN1Type-F.ASN1Type::Time t) = constraints_told t.constraints
  on_type (ASN1Type-F.GeneralizedTime t) = constraints_told t.constraints
  on_type (ASN1Type-F.UTCTime t) = constraints_told t.constraints
  on_type (ASN1Type-F.ElsewhereDeclaredType r) = both (one r.parent r.identifier) (constraints_told r.constraints)
  on_type (ASN1Type-F.ChoiceSelectionType s) = nothing
  on_type (ASN1Type-F.ASN1Type::ObjectIdentifier t) = constraints_told t.constraints
  on_type (ASN1Type-F.InformationObjectFieldReference f) = both (one None f.class) (constraints_told f.constraints)
  on_type ASN1Type-F.EmbeddedPdv = nothing
  on_type ASN1Type-F.External = nothing

  type_above : (ty : ASN1Type) → Told (λ m. layer_stays keeps (staying keeps m) (out-ASN1Type ty)) (staying_names ty) → Told (λ m. (staying keeps m).of_type ty) (staying_names ty)
  unfolding staying
  type_above ty t = level refl (λ m. refl) t

  type_case : (y : TypeOver (proved shown)) → Told (λ m. (staying keeps m).of_type (roll-ASN1Type (bare_type shown y))) (staying_names (roll-ASN1Type (bare_type shown y)))
  type_case y = type_above _ (rolled out-ASN1Type roll-ASN1Type out-roll-ASN1Type (λ m l. layer_stays keeps (staying keeps m) l) staying_names (λ l. type_names (type_read gathering l)) (type_is gathering) (bare_type shown y) (on_type y))

  told : (ty : ASN1Type) → Told (λ m. (staying keeps m).of_type ty) (staying_names ty)
  told =
      each_type shown constraint_case (λ y. tt) set_case (λ y. tt) element_case (λ y. tt) (λ y. tt) (λ y. tt) type_case (λ y. tt) operation_case choice_case option_case struct_case member_case list_case (λ y. tt)

pub names_told : NamesThatStay
names_told ty keeps = let t = told keeps ty in (t.onward, t.back)
