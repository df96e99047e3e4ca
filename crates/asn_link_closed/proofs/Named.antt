-- The names that stay in what linking leaves as it is are type references in it, by an induction over types, constraints and what
-- stands in them.
use Rattle.std.proofs.Common.{◌≡◌, ℕ, zero, suc, List, [], ◌∷◌, ◌++◌, Bool, true, ◌&&◌, Option, Some, None, map, refl, sym, subst, ap, ◌∙◌, arith}
use Rattle.std.specs.Prelude.{Contains, is_none}
use Rattle.std.proofs.lemmas.Bool.{and_parts}
use Rattle.std.proofs.lemmas.List.Elements.{Contains-append_left, Contains-append_right}
use Rattle.asn_tree.specs.Folds.{choice_is, choice_read, constraint_is, constraint_read, element_is, element_read, list_is, list_read, member_is, member_read, operation_is, operation_read, option_is, option_read, set_is, set_read, struct_is, struct_read, type_is, type_read}
use Rattle.asn_tree.specs.Layers.{ChoiceOver, ConstraintLayer, ConstraintOver, ElementLayer, ElementOver, ListOver, MemberOver, OperationOver, OptionOver, SetLayer, SetOver, StructOver, TypeLayer, TypeOver}
use Rattle.asn_tree.specs.declared.constraints.Constraint.{Constraint, Constraint-F, out-Constraint, roll-Constraint, out-roll-Constraint}
use Rattle.asn_tree.specs.declared.constraints.ElementOrSetOperation.{ElementOrSetOperation-F, out-ElementOrSetOperation, roll-ElementOrSetOperation, out-roll-ElementOrSetOperation}
use Rattle.asn_tree.specs.declared.constraints.SetOperation.{out-SetOperation, roll-SetOperation, out-roll-SetOperation}
use Rattle.asn_tree.specs.declared.constraints.SubtypeElement.{SubtypeElement-F, out-SubtypeElement, roll-SubtypeElement, out-roll-SubtypeElement}
use Rattle.asn_tree.specs.declared.types.ASN1Type.{ASN1Type, ASN1Type-F, out-ASN1Type, roll-ASN1Type, out-roll-ASN1Type}
use Rattle.asn_tree.specs.declared.types.Choice.{out-Choice, roll-Choice, out-roll-Choice}
use Rattle.asn_tree.specs.declared.types.ChoiceOption.{out-ChoiceOption, roll-ChoiceOption, out-roll-ChoiceOption}
use Rattle.asn_tree.specs.declared.types.SequenceOrSet.{out-SequenceOrSet, roll-SequenceOrSet, out-roll-SequenceOrSet}
use Rattle.asn_tree.specs.declared.types.SequenceOrSetMember.{out-SequenceOrSetMember, roll-SequenceOrSetMember, out-roll-SequenceOrSetMember}
use Rattle.asn_tree.specs.declared.types.SequenceOrSetOf.{out-SequenceOrSetOf, roll-SequenceOrSetOf, out-roll-SequenceOrSetOf}
use Rattle.asn_link_closed.specs.StayingNames.{StayingName, gathering, staying_names}
use Rattle.asn_link_closed.specs.StayingNames as stay
use Rattle.asn_meaning_unchanged.specs.References.{Names, names_in, naming, own_name}
use Rattle.asn_meaning_unchanged.specs.References as refers
use Rattle.asn_meaning_unchanged.specs.Unchanged.{are_all, choice_form, choice_stays, constraint_stays, contained_form, element_stays, has_none, is_left, linking, list_form, list_stays, member_form, member_stays, operation_form, operation_stays, option_form, option_stays, placed_form, set_form, set_stays, struct_form, struct_stays, telling, type_form}
use Rattle.asn_meaning_unchanged.specs.Unchanged as unchanged
use Rattle.asn_meaning_unchanged.specs.declared.types.Linking.{Linking}
use Rattle.asn_meaning_unchanged.specs.declared.types.Linking.TheVariants.{Stays, PlainName, Changes}
use Rattle.asn_meaning_unchanged.proofs.AllTypes.{Shown, none_shown, proved, bare_choice, bare_constraint, bare_element, bare_list, bare_member, bare_operation, bare_option, bare_set, bare_struct, bare_type, each_type}
use Rattle.asn_link_closed.proofs.OwnTold.{constraint_at, contained_stays, element_at, held, linking_at, never, none_is, none_mapped, reference_if, split}

-- ---- names that are among others

abbrev Reference : Names → StayingName → Type 0
Reference ns x = (x.0 ≡ None) × Contains ns x.1

-- each of these names stands alone, and is one of those
abbrev pub Among : List StayingName → Names → Type 0
Among [] ns = Unit {0}
Among (x ∷ xs) ns = Reference ns x × Among xs ns

pub found : (xs : List StayingName) (ns : Names) → Among xs ns → (x : StayingName) → Contains xs x → (x.0 ≡ None) × Contains ns x.1
found [] ns a x (k, lt, is) = absurd (omega (arith, lt))
found (y ∷ xs) ns a x (zero, lt, is) = subst (Reference ns) is a.0
found (y ∷ xs) ns a x (suc k, lt, is) = found xs ns a.1 x (k, omega (arith, lt), is)

widened : (xs : List StayingName) (ns ms : Names) → ((name : List ℕ) → Contains ns name → Contains ms name) → Among xs ns → Among xs ms
widened [] ns ms f a = tt
widened (x ∷ xs) ns ms f a = ((a.0.0, f x.1 a.0.1), widened xs ns ms f a.1)

appended : (xs ys : List StayingName) (ns : Names) → Among xs ns → Among ys ns → Among (xs ++ ys) ns
appended [] ys ns a b = b
appended (x ∷ xs) ys ns a b = (a.0, appended xs ys ns a.1 b)

in_front : (xs : List StayingName) (ns ms : Names) → Among xs ns → Among xs (ns ++ ms)
in_front xs ns ms a = widened xs ns (ns ++ ms) (λ name c. Contains-append_left ns ms name c) a

both : (xs ys : List StayingName) (ns ms : Names) → Among xs ns → Among ys ms → Among (xs ++ ys) (ns ++ ms)
both xs ys ns ms a b = appended xs ys (ns ++ ms) (in_front xs ns ms a) (widened ys ms (ns ++ ms) (λ name c. Contains-append_right ns ms name c) b)

-- a plain name with nothing behind it
alone : (parent : Option (List ℕ)) (name : List ℕ) (xs : List StayingName) (ns : Names) → parent ≡ None → xs ≡ [] →
    Among ((parent, name) ∷ xs) (own_name parent name ++ ns)
alone None name xs ns e none = ((refl, (0, omega arith, refl)), subst (λ z. Among z (name ∷ ns)) (sym none) tt)
alone (Some parent) name xs ns e none = absurd cc

-- lists, from what is shown of each item
each : {A : Type 0} (test : A → Bool) (stays : A → List StayingName) (names : A → Names) (ys : List ((x : A) × (test x ≡ true → Among (stays x) (names x)))) →
    are_all (map test (map (λ y. y.0) ys)) ≡ true → Among (stay.joined (map stays (map (λ y. y.0) ys))) (refers.joined (map names (map (λ y. y.0) ys)))
each test stays names [] h = tt
each test stays names (y ∷ ys) h =
    let b = split (test y.0) (map test (map (λ y. y.0) ys)) h in
    both (stays y.0) (stay.joined (map stays (map (λ y. y.0) ys))) (names y.0) (refers.joined (map names (map (λ y. y.0) ys))) (y.1 b.first)
    (each test stays names ys b.others)

-- a tree, by one level of it
rolled : {X L : Type 0} (out : X → L) (roll : L → X) (same : (l : L) → out (roll l) ≡ l) (stays : X → List StayingName) (stays_at : L → List StayingName)
    (stays_is : (x : X) → stays x ≡ stays_at (out x))
    (names : X → Names) (names_at : L → Names) (names_is : (x : X) → names x ≡ names_at (out x)) (l : L) → Among (stays_at l) (names_at l) →
    Among (stays (roll l)) (names (roll l))
rolled out roll same stays stays_at stays_is names names_at names_is l a =
    subst (λ z. Among z (names (roll l))) (sym (stays_is (roll l) ∙ ap stays_at (same l)))
    (subst (λ z. Among (stays_at l) z) (sym (names_is (roll l) ∙ ap names_at (same l))) a)

abbrev shown : Shown
shown =
    record none_shown {
      of_constraint = λ c. constraint_stays c ≡ true → Among (stay.names_in_constraint c) (refers.names_in_constraint c);
      of_set = λ s. set_stays s ≡ true → Among (stay.names_in_set s) (refers.names_in_set s);
      of_element = λ e. element_stays e ≡ true → Among (stay.names_in_element e) (refers.names_in_element e);
      of_type = λ ty. is_left (linking ty) ≡ true → Among (staying_names ty) (names_in ty);
      of_operation = λ o. operation_stays o ≡ true → Among (stay.names_in_operation o) (refers.names_in_operation o);
      of_choice = λ c. choice_stays c ≡ true → Among (stay.names_in_choice c) (refers.names_in_choice c);
      of_option = λ o. option_stays o ≡ true → Among (stay.names_in_option o) (refers.names_in_option o);
      of_struct = λ s. struct_stays s ≡ true → Among (stay.names_in_struct s) (refers.names_in_struct s);
      of_member = λ m. member_stays m ≡ true → Among (stay.names_in_member m) (refers.names_in_member m);
      of_list = λ l. list_stays l ≡ true → Among (stay.names_in_list l) (refers.names_in_list l);
    }

abbrev ShownConstraints : Type 0
ShownConstraints = List ((c : Constraint) × (constraint_stays c ≡ true → Among (stay.names_in_constraint c) (refers.names_in_constraint c)))

-- what stays in constraints, and the references in them
abbrev stay_in : ShownConstraints → List StayingName
stay_in ys = stay.joined (map stay.names_in_constraint (map (λ y. y.0) ys))

abbrev named_in : ShownConstraints → Names
named_in ys = refers.joined (map refers.names_in_constraint (map (λ y. y.0) ys))

constraints_shown : (ys : ShownConstraints) → are_all (map constraint_stays (map (λ y. y.0) ys)) ≡ true → Among (stay_in ys) (named_in ys)
constraints_shown ys h = each constraint_stays stay.names_in_constraint refers.names_in_constraint ys h

-- ---- a type with the constraints of its place

placed : (ty : ASN1Type) → (is_left (linking ty) ≡ true → Among (staying_names ty) (names_in ty)) → (ys : ShownConstraints) →
    placed_form (linking ty) (map constraint_stays (map (λ y. y.0) ys)) ≡ true →
    Among (staying_names ty ++ stay_in ys) (names_in ty ++ named_in ys)
placed ty of_type ys h = go (linking ty) refl h
  where
    go : (k : Linking) → linking ty ≡ k → placed_form k (map constraint_stays (map (λ y. y.0) ys)) ≡ true →
        Among (staying_names ty ++ stay_in ys) (names_in ty ++ named_in ys)
    go Stays e p = both (staying_names ty) (stay_in ys) (names_in ty) (named_in ys) (of_type (ap is_left e)) (constraints_shown ys p)
    go PlainName e p =
        let none : stay_in ys ≡ [] = ap (λ cs. stay.joined (map stay.names_in_constraint cs)) (none_mapped constraint_stays (map (λ y. y.0) ys) p) in
        both (staying_names ty) (stay_in ys) (names_in ty) (named_in ys) (of_type (ap is_left e)) (subst (λ z. Among z (named_in ys)) (sym none) tt)
    go Changes e p = absurd cc

-- ---- constraints

by_element : (l : ElementLayer) → Among (stay.element_names (element_read gathering l)) (refers.element_names (element_read naming l)) →
    Among (stay.names_in_element (roll-SubtypeElement l)) (refers.names_in_element (roll-SubtypeElement l))
by_element = rolled out-SubtypeElement roll-SubtypeElement out-roll-SubtypeElement stay.names_in_element
    (λ l. stay.element_names (element_read gathering l)) (element_is gathering) refers.names_in_element (λ l. refers.element_names (element_read naming l))
    (element_is naming)

element_case : (y : ElementOver (proved shown)) → shown.of_element (roll-SubtypeElement (bare_element shown y))
element_case (SubtypeElement-F.ContainedSubtype ty extensible) h =
    let l : ElementLayer = SubtypeElement-F.ContainedSubtype ty.0 extensible in
    by_element l (ty.1 (ap is_left (contained_stays ty.0 (sym (element_at l) ∙ h))))
element_case (SubtypeElement-F.TypeConstraint ty) h =
    let l : ElementLayer = SubtypeElement-F.TypeConstraint ty.0 in
    by_element l (ty.1 (ap is_left (contained_stays ty.0 (sym (element_at l) ∙ h))))
element_case (SubtypeElement-F.PermittedAlphabet set) h =
    let l : ElementLayer = SubtypeElement-F.PermittedAlphabet set.0 in
    by_element l (set.1 (sym (element_at l) ∙ h))
element_case (SubtypeElement-F.SizeConstraint set) h =
    let l : ElementLayer = SubtypeElement-F.SizeConstraint set.0 in
    by_element l (set.1 (sym (element_at l) ∙ h))
element_case (SubtypeElement-F.SingleTypeConstraint cs) h = absurd (never _ h (element_at (bare_element shown (SubtypeElement-F.SingleTypeConstraint cs))))
element_case (SubtypeElement-F.MultipleTypeConstraints inner) h =
    absurd (never _ h (element_at (bare_element shown (SubtypeElement-F.MultipleTypeConstraints inner))))
element_case (SubtypeElement-F.SingleValue v extensible) h = by_element (bare_element shown (SubtypeElement-F.SingleValue v extensible)) tt
element_case (SubtypeElement-F.ValueRange low high a b c) h = by_element (bare_element shown (SubtypeElement-F.ValueRange low high a b c)) tt
element_case (SubtypeElement-F.PatternConstraint x) h = by_element (bare_element shown (SubtypeElement-F.PatternConstraint x)) tt
element_case (SubtypeElement-F.UserDefinedConstraint x) h = by_element (bare_element shown (SubtypeElement-F.UserDefinedConstraint x)) tt
element_case (SubtypeElement-F.PropertySettings x) h = by_element (bare_element shown (SubtypeElement-F.PropertySettings x)) tt

by_set : (l : SetLayer) → Among (stay.set_names (set_read gathering l)) (refers.set_names (set_read naming l)) →
    Among (stay.names_in_set (roll-ElementOrSetOperation l)) (refers.names_in_set (roll-ElementOrSetOperation l))
by_set = rolled out-ElementOrSetOperation roll-ElementOrSetOperation out-roll-ElementOrSetOperation stay.names_in_set
    (λ l. stay.set_names (set_read gathering l)) (set_is gathering) refers.names_in_set (λ l. refers.set_names (set_read naming l)) (set_is naming)

set_case : (y : SetOver (proved shown)) → shown.of_set (roll-ElementOrSetOperation (bare_set shown y))
set_case (ElementOrSetOperation-F.Element e) h =
    let l : SetLayer = ElementOrSetOperation-F.Element e.0 in
    by_set l (e.1 (sym (set_is telling (roll-ElementOrSetOperation l) ∙ ap (λ z. set_form (set_read telling z)) (out-roll-ElementOrSetOperation l)) ∙ h))
set_case (ElementOrSetOperation-F.SetOperation o) h =
    let l : SetLayer = ElementOrSetOperation-F.SetOperation o.0 in
    by_set l (o.1 (sym (set_is telling (roll-ElementOrSetOperation l) ∙ ap (λ z. set_form (set_read telling z)) (out-roll-ElementOrSetOperation l)) ∙ h))

operation_case : (y : OperationOver (proved shown)) → shown.of_operation (roll-SetOperation (bare_operation shown y))
operation_case y h =
    let l = bare_operation shown y in
    let b = and_parts (element_stays y.base.0) (set_stays y.operant.0)
    (sym (operation_is telling (roll-SetOperation l) ∙ ap (λ z. operation_form (operation_read telling z)) (out-roll-SetOperation l)) ∙ h) in
    rolled out-SetOperation roll-SetOperation out-roll-SetOperation stay.names_in_operation (λ l. stay.operation_names (operation_read gathering l))
    (operation_is gathering) refers.names_in_operation (λ l. refers.operation_names (operation_read naming l)) (operation_is naming) l
    (both (stay.names_in_element y.base.0) (stay.names_in_set y.operant.0) (refers.names_in_element y.base.0) (refers.names_in_set y.operant.0)
    (y.base.1 b.0) (y.operant.1 b.1))

by_constraint : (l : ConstraintLayer) → Among (stay.constraint_names (constraint_read gathering l)) (refers.constraint_names (constraint_read naming l)) →
    Among (stay.names_in_constraint (roll-Constraint l)) (refers.names_in_constraint (roll-Constraint l))
by_constraint = rolled out-Constraint roll-Constraint out-roll-Constraint stay.names_in_constraint
    (λ l. stay.constraint_names (constraint_read gathering l)) (constraint_is gathering) refers.names_in_constraint
    (λ l. refers.constraint_names (constraint_read naming l)) (constraint_is naming)

constraint_case : (y : ConstraintOver (proved shown)) → shown.of_constraint (roll-Constraint (bare_constraint shown y))
constraint_case (Constraint-F.SubtypeConstraint x) h =
    let l = bare_constraint shown (Constraint-F.SubtypeConstraint x) in
    by_constraint l (x.set.1 (sym (constraint_at l) ∙ h))
constraint_case (Constraint-F.TableConstraint x) h = by_constraint (bare_constraint shown (Constraint-F.TableConstraint x)) tt
constraint_case (Constraint-F.Parameter x) h = by_constraint (bare_constraint shown (Constraint-F.Parameter x)) tt
constraint_case (Constraint-F.ContentConstraint x) h = by_constraint (bare_constraint shown (Constraint-F.ContentConstraint x)) tt

-- ---- members, alternatives, elements

member_case : (y : MemberOver (proved shown)) → shown.of_member (roll-SequenceOrSetMember (bare_member shown y))
member_case y h =
    let l = bare_member shown y in
    let told = sym (member_is telling (roll-SequenceOrSetMember l) ∙ ap (λ z. member_form (member_read telling z)) (out-roll-SequenceOrSetMember l)) ∙ h in
    rolled out-SequenceOrSetMember roll-SequenceOrSetMember out-roll-SequenceOrSetMember stay.names_in_member
    (λ l. stay.member_names (member_read gathering l)) (member_is gathering) refers.names_in_member (λ l. refers.member_names (member_read naming l))
    (member_is naming) l
    (placed y.ty.0 y.ty.1 y.constraints (and_parts (placed_form (linking y.ty.0) (map constraint_stays (map (λ c. c.0) y.constraints))) _ told).0)

option_case : (y : OptionOver (proved shown)) → shown.of_option (roll-ChoiceOption (bare_option shown y))
option_case y h =
    let l = bare_option shown y in
    let told = sym (option_is telling (roll-ChoiceOption l) ∙ ap (λ z. option_form (option_read telling z)) (out-roll-ChoiceOption l)) ∙ h in
    rolled out-ChoiceOption roll-ChoiceOption out-roll-ChoiceOption stay.names_in_option (λ l. stay.option_names (option_read gathering l))
    (option_is gathering) refers.names_in_option (λ l. refers.option_names (option_read naming l)) (option_is naming) l
    (placed y.ty.0 y.ty.1 y.constraints told)

struct_case : (y : StructOver (proved shown)) → shown.of_struct (roll-SequenceOrSet (bare_struct shown y))
struct_case y h =
    let l = bare_struct shown y in
    let told = sym (struct_is telling (roll-SequenceOrSet l) ∙ ap (λ z. struct_form (struct_read telling z)) (out-roll-SequenceOrSet l)) ∙ h in
    let a = and_parts (has_none l.components_of && are_all (map member_stays l.members)) (are_all (map constraint_stays l.constraints)) told in
    let b = and_parts (has_none l.components_of) (are_all (map member_stays l.members)) a.0 in
    rolled out-SequenceOrSet roll-SequenceOrSet out-roll-SequenceOrSet stay.names_in_struct (λ l. stay.struct_names (struct_read gathering l))
    (struct_is gathering) refers.names_in_struct (λ l. refers.struct_names (struct_read naming l)) (struct_is naming) l
    (both (stay.joined (map stay.names_in_member l.members)) (stay_in y.constraints)
    (refers.joined (map refers.names_in_member l.members) ++ l.components_of) (named_in y.constraints)
    (in_front (stay.joined (map stay.names_in_member l.members)) (refers.joined (map refers.names_in_member l.members)) l.components_of
    (each member_stays stay.names_in_member refers.names_in_member y.members b.1))
    (constraints_shown y.constraints a.1))

choice_case : (y : ChoiceOver (proved shown)) → shown.of_choice (roll-Choice (bare_choice shown y))
choice_case y h =
    let l = bare_choice shown y in
    let told = sym (choice_is telling (roll-Choice l) ∙ ap (λ z. choice_form (choice_read telling z)) (out-roll-Choice l)) ∙ h in
    let a = and_parts (are_all (map option_stays l.options)) (are_all (map constraint_stays l.constraints)) told in
    rolled out-Choice roll-Choice out-roll-Choice stay.names_in_choice (λ l. stay.choice_names (choice_read gathering l))
    (choice_is gathering) refers.names_in_choice (λ l. refers.choice_names (choice_read naming l)) (choice_is naming) l
    (both (stay.joined (map stay.names_in_option l.options)) (stay_in y.constraints) (refers.joined (map refers.names_in_option l.options))
    (named_in y.constraints)
    (each option_stays stay.names_in_option refers.names_in_option y.options a.0) (constraints_shown y.constraints a.1))

list_case : (y : ListOver (proved shown)) → shown.of_list (roll-SequenceOrSetOf (bare_list shown y))
list_case y h =
    let l = bare_list shown y in
    let told = sym (list_is telling (roll-SequenceOrSetOf l) ∙ ap (λ z. list_form (list_read telling z)) (out-roll-SequenceOrSetOf l)) ∙ h in
    let a = and_parts (is_left (linking y.element_type.0)) (are_all (map constraint_stays l.constraints)) told in
    rolled out-SequenceOrSetOf roll-SequenceOrSetOf out-roll-SequenceOrSetOf stay.names_in_list (λ l. stay.list_names (list_read gathering l))
    (list_is gathering) refers.names_in_list (λ l. refers.list_names (list_read naming l)) (list_is naming) l
    (both (staying_names y.element_type.0) (stay_in y.constraints) (names_in y.element_type.0) (named_in y.constraints) (y.element_type.1 a.0)
    (constraints_shown y.constraints a.1))

-- ---- types

by_type : (l : TypeLayer) → Among (stay.type_names (type_read gathering l)) (refers.type_names (type_read naming l)) →
    Among (staying_names (roll-ASN1Type l)) (names_in (roll-ASN1Type l))
by_type = rolled out-ASN1Type roll-ASN1Type out-roll-ASN1Type staying_names (λ l. stay.type_names (type_read gathering l)) (type_is gathering) names_in
    (λ l. refers.type_names (type_read naming l)) (type_is naming)

-- a built-in type without parts
flat : (l : TypeLayer) (ys : ShownConstraints) → stay.type_names (type_read gathering l) ≡ stay_in ys → refers.type_names (type_read naming l) ≡ named_in ys →
    type_form (type_read telling l) ≡ unchanged.constrained (map constraint_stays (map (λ y. y.0) ys)) → is_left (linking (roll-ASN1Type l)) ≡ true →
    Among (staying_names (roll-ASN1Type l)) (names_in (roll-ASN1Type l))
flat l ys stays names told h =
    by_type l (subst (λ z. Among z (refers.type_names (type_read naming l))) (sym stays)
    (subst (λ z. Among (stay_in ys) z) (sym names) (constraints_shown ys (held l _ told h))))

type_case : (y : TypeOver (proved shown)) → shown.of_type (roll-ASN1Type (bare_type shown y))
type_case ASN1Type-F.ASN1Type::Null h = by_type ASN1Type-F.ASN1Type::Null tt
type_case ASN1Type-F.EmbeddedPdv h = by_type ASN1Type-F.EmbeddedPdv tt
type_case ASN1Type-F.External h = by_type ASN1Type-F.External tt
type_case (ASN1Type-F.ASN1Type::Boolean t) h = flat (bare_type shown (ASN1Type-F.ASN1Type::Boolean t)) t.constraints refl refl refl h
type_case (ASN1Type-F.ASN1Type::Integer t) h = flat (bare_type shown (ASN1Type-F.ASN1Type::Integer t)) t.constraints refl refl refl h
type_case (ASN1Type-F.ASN1Type::Real t) h = flat (bare_type shown (ASN1Type-F.ASN1Type::Real t)) t.constraints refl refl refl h
type_case (ASN1Type-F.ASN1Type::BitString t) h = flat (bare_type shown (ASN1Type-F.ASN1Type::BitString t)) t.constraints refl refl refl h
type_case (ASN1Type-F.ASN1Type::OctetString t) h = flat (bare_type shown (ASN1Type-F.ASN1Type::OctetString t)) t.constraints refl refl refl h
type_case (ASN1Type-F.CharacterString t) h = flat (bare_type shown (ASN1Type-F.CharacterString t)) t.constraints refl refl refl h
type_case (ASN1Type-F.Enumerated t) h = flat (bare_type shown (ASN1Type-F.Enumerated t)) t.constraints refl refl refl h
type_case (ASN1Type-F.ASN1Type::Time t) h = flat (bare_type shown (ASN1Type-F.ASN1Type::Time t)) t.constraints refl refl refl h
type_case (ASN1Type-F.GeneralizedTime t) h = flat (bare_type shown (ASN1Type-F.GeneralizedTime t)) t.constraints refl refl refl h
type_case (ASN1Type-F.UTCTime t) h = flat (bare_type shown (ASN1Type-F.UTCTime t)) t.constraints refl refl refl h
type_case (ASN1Type-F.ASN1Type::ObjectIdentifier t) h = flat (bare_type shown (ASN1Type-F.ASN1Type::ObjectIdentifier t)) t.constraints refl refl refl h
type_case (ASN1Type-F.ASN1Type::Choice x) h =
    by_type (ASN1Type-F.ASN1Type::Choice x.0) (x.1 (held (ASN1Type-F.ASN1Type::Choice x.0) (choice_stays x.0) refl h))
type_case (ASN1Type-F.Sequence x) h = by_type (ASN1Type-F.Sequence x.0) (x.1 (held (ASN1Type-F.Sequence x.0) (struct_stays x.0) refl h))
type_case (ASN1Type-F.Set x) h = by_type (ASN1Type-F.Set x.0) (x.1 (held (ASN1Type-F.Set x.0) (struct_stays x.0) refl h))
type_case (ASN1Type-F.SequenceOf x) h = by_type (ASN1Type-F.SequenceOf x.0) (x.1 (held (ASN1Type-F.SequenceOf x.0) (list_stays x.0) refl h))
type_case (ASN1Type-F.SetOf x) h = by_type (ASN1Type-F.SetOf x.0) (x.1 (held (ASN1Type-F.SetOf x.0) (list_stays x.0) refl h))
type_case (ASN1Type-F.ElsewhereDeclaredType r) h =
    let l = bare_type shown (ASN1Type-F.ElsewhereDeclaredType r) in
    let b = and_parts (is_none r.parent) (has_none (map constraint_stays (map (λ y. y.0) r.constraints)))
    (reference_if _ (ap is_left (sym (linking_at l)) ∙ h)) in
    by_type l (alone r.parent r.identifier (stay_in r.constraints) (named_in r.constraints) (none_is r.parent b.0)
    (ap (λ cs. stay.joined (map stay.names_in_constraint cs)) (none_mapped constraint_stays (map (λ y. y.0) r.constraints) b.1)))
type_case (ASN1Type-F.ChoiceSelectionType s) h = absurd (never _ h (ap is_left (linking_at (ASN1Type-F.ChoiceSelectionType s))))
type_case (ASN1Type-F.InformationObjectFieldReference f) h =
    absurd (never _ h (ap is_left (linking_at (bare_type shown (ASN1Type-F.InformationObjectFieldReference f)))))

pub references : (ty : ASN1Type) → is_left (linking ty) ≡ true → Among (staying_names ty) (names_in ty)
references =
    each_type shown constraint_case (λ y. tt) set_case (λ y. tt) element_case (λ y. tt) (λ y. tt) (λ y. tt) type_case (λ y. tt) operation_case choice_case option_case struct_case member_case list_case (λ y. tt)
