-- The places of a definition of basic form, and the names that occur there.
use Rattle.std.proofs.Common.{◌≡◌, ◌⊎◌, inl, inr, ℕ, zero, suc, List, [], ◌∷◌, ◌++◌, map, Bool, true, false, Option, Some, None, refl, sym, ap, ◌∙◌, subst, arith}
use Rattle.std.specs.Prelude.{ℤ, ◌&&◌, ◌||◌, is_none, is_some, if◌then◌else◌}
use Rattle.std.specs.List.{All, Contains, list_all}
use Rattle.std.proofs.lemmas.List.Elements.{All-append, All-cons, All-contains, All-nil, Contains-append_cases, Contains-append_left, Contains-append_right}
use Rattle.asn_tree.specs.declared.constraints.Constraint.{Constraint, Constraint-F, out-Constraint}
use Rattle.asn_tree.specs.declared.constraints.ElementOrSetOperation.{ElementOrSetOperation-F, out-ElementOrSetOperation}
use Rattle.asn_tree.specs.declared.constraints.SubtypeElement.{SubtypeElement-F, out-SubtypeElement}
use Rattle.asn_tree.specs.declared.definitions.ToplevelDefinition.TheVariants.{TypeDef}
use Rattle.asn_tree.specs.declared.definitions.ToplevelTypeDefinition.{ToplevelTypeDefinition}
use Rattle.asn_tree.specs.declared.types.ASN1Type.{ASN1Type, ASN1Type-F, out-ASN1Type}
use Rattle.asn_tree.specs.declared.types.SequenceOrSet.{SequenceOrSet, out-SequenceOrSet}
use Rattle.asn_tree.specs.declared.types.SequenceOrSetMember.{SequenceOrSetMember, out-SequenceOrSetMember}
use Rattle.asn_tree.specs.declared.values.ASN1Value.{ASN1Value}
use Rattle.asn_tree.specs.Layers.{SetLayer, TypeLayer}
use Rattle.asn_tree_notation.specs.Types.{constraints_at}
use Rattle.asn_meaning.specs.Accepts.{place}
use Rattle.asn_meaning.specs.Answers.{once}
use Rattle.asn_meaning.specs.Definitions.{type_named}
use Rattle.asn_meaning.specs.Kinds.{Kind, StructKind, ListKind, ChoiceKind, BitStringKind, kind_at, kind_of}
use Rattle.asn_meaning.specs.Layers.{ConstraintLayer, ElementLayer, MemberLayer, ReferenceLayer}
use Rattle.asn_meaning.specs.Meaning.{Member}
use Rattle.asn_meaning.specs.Members.{members_of}
use Rattle.asn_meaning.specs.Names.{lists_in}
use Rattle.asn_meaning.specs.Placed.{listed}
use Rattle.asn_meaning.specs.Scopes.{Scope, Empty, Place}
use Rattle.asn_meaning.specs.Written.{Written, NumberWritten, as_written}
use Rattle.asn_needs.specs.Basic.{IsBasic, are_basic, basic_at, basic_constraint, basic_element, basic_end, basic_member, basic_set, basic_struct, has_no_names, is_basic, is_number}
use Rattle.asn_needs.specs.Dummies.{hangs, is_class_name, is_dummy}
use Rattle.asn_needs.specs.Missing.{reference_lacks, type_lacks}
use Rattle.asn_needs.specs.Occurrences.{Occurrence, NeedsType, OccursAmong, OccursIn, governed_by_class, has_list, names_at, names_in_reference, names_in_type, needed_at, value_names}
use Rattle.asn_needs.specs.PartsOfConstraints.{constraint_parts, element_parts, end_sites, set_parts}
use Rattle.asn_needs.specs.PartsOfTypes.{component_sites, constraint_sites, instance_at, instance_by, instance_named, instance_sites, loose_lists, member_sites}
use Rattle.asn_needs.specs.PartsOfValues.{free_parts, governed_parts, headless_parts, parts_under, fields_under, value_sites}
use Rattle.asn_needs.specs.Sites.{Seen, seen, Site, beside, each_of, Form, TypePlace, AtHead, InPlace, AsEnd, AsSuch, Asked, OfValues, AType, ComponentsOf, AValue, AConstraint, ASet, AnElement, ToDefinition}
use Rattle.asn_needs.specs.Stands.{IsPlaceOf, StandsIn, at_first, dummy_forms, first_sites, node_sites, outermost, parts, parts_at, within}
use Rattle.asn_names.specs.Definitions.{Definitions, last_named}
use Rattle.asn_meaning_unchanged.specs.References.{names_in}
use Rattle.asn_names.specs.Needed.{type_occurrence}
use Rattle.asn_names.proofs.HeadEdges.{no_lists}
use Rattle.asn_names.proofs.Occurrences.{level_names, members_names, names_is}
use Rattle.asn_names.proofs.Settled.{basic_append, both_true}

-- ---- lists

-- what holds of what each item gives
each_all : {A B : Type 0} (P : B → Type 0) (f : A → List B) (xs : List A) → ((x : A) → Contains xs x → All P (f x)) → All P (each_of f xs)
each_all P f [] h = All-nil P
each_all P f (x ∷ xs) h = All-append P (f x) (each_of f xs) (h x (0, omega arith, refl)) (each_all P f xs (λ y c. h y (suc c.0, omega (arith, c.1), c.2)))

each_there : {A B : Type 0} (f : A → List B) (xs : List A) (x : A) (y : B) → Contains xs x → Contains (f x) y → Contains (each_of f xs) y
each_there f [] x y (k, lt, e) c = absurd (omega (arith, lt))
each_there f (z ∷ xs) x y (zero, lt, e) c = Contains-append_left (f z) (each_of f xs) y (subst (λ w. Contains (f w) y) (sym e) c)
each_there f (z ∷ xs) x y (suc k, lt, e) c = Contains-append_right (f z) (each_of f xs) y (each_there f xs x y (k, omega (arith, lt), e) c)

all_true : {A : Type 0} (f : A → Bool) (xs : List A) → list_all f xs ≡ true → (x : A) → Contains xs x → f x ≡ true
all_true f [] h x (k, lt, e) = absurd (omega (arith, lt))
all_true f (y ∷ xs) h x (zero, lt, e) = ap f (sym e) ∙ (both_true (f y) (list_all f xs) h).0
all_true f (y ∷ xs) h x (suc k, lt, e) = all_true f xs (both_true (f y) (list_all f xs) h).1 x (k, omega (arith, lt), e)

no_names : (names : List (List ℕ)) → has_no_names names ≡ true → names ≡ []
no_names [] h = refl
no_names (name ∷ names) h = absurd cc

none_there : {A : Type 0} (o : Option A) → is_none o ≡ true → o ≡ None
none_there None h = refl
none_there (Some x) h = absurd cc

pub same_either : {A : Type 0} (b : Bool) (x : A) → (if b then x else x) ≡ x
same_either true x = refl
same_either false x = refl

-- a name of a list of members is one of a member
of_member : (ms : List SequenceOrSetMember) (x : List ℕ) → Contains (members_names ms) x → (m : SequenceOrSetMember) × Contains ms m × Contains (names_in (out-SequenceOrSetMember m).ty) x
of_member [] x (k, lt, e) = absurd (omega (arith, lt))
of_member (m ∷ ms) x c = go (Contains-append_cases (names_in (out-SequenceOrSetMember m).ty) (members_names ms) x c) (λ d. of_member ms x d)
  where
    go : Contains (names_in (out-SequenceOrSetMember m).ty) x ⊎ Contains (members_names ms) x → (Contains (members_names ms) x → (n : SequenceOrSetMember) × Contains ms n × Contains (names_in (out-SequenceOrSetMember n).ty) x) → (n : SequenceOrSetMember) × Contains (m ∷ ms) n × Contains (names_in (out-SequenceOrSetMember n).ty) x
    go (inl d) later = (m, (0, omega arith, refl), d)
    go (inr d) later = let l = later d in (l.0, (suc l.1.0, omega (arith, l.1.1), l.1.2), l.2)

-- the names of a member are names of the list
in_members : (ms : List SequenceOrSetMember) (m : SequenceOrSetMember) (x : List ℕ) → Contains ms m → Contains (names_in (out-SequenceOrSetMember m).ty) x → Contains (members_names ms) x
in_members [] m x (k, lt, e) c = absurd (omega (arith, lt))
in_members (n ∷ ms) m x (zero, lt, e) c = Contains-append_left (names_in (out-SequenceOrSetMember n).ty) (members_names ms) x (subst (λ w. Contains (names_in (out-SequenceOrSetMember w).ty) x) (sym e) c)
in_members (n ∷ ms) m x (suc k, lt, e) c = Contains-append_right (names_in (out-SequenceOrSetMember n).ty) (members_names ms) x (in_members ms m x (k, omega (arith, lt), e) c)

module _ (S : Seen) (names : List (List ℕ)) where
  -- ---- the forms at such places

  -- a type of basic form whose names are among these
  pub record IsBasicType (at : TypePlace) (ty : ASN1Type) (behind : List Constraint) : Type 0 where
    pub need : needed_at at ≡ NeedsType
    pub basic : IsBasic ty
    pub plain : are_basic behind ≡ true
    pub among : (x : List ℕ) → Contains (names_in ty) x → Contains names x

  abbrev pub IsBasicForm : Form → Type 0
  IsBasicForm (AType at ty behind) = IsBasicType at ty behind
  IsBasicForm (AValue at v p) = (at ≡ AsEnd) × (is_number (as_written v) ≡ true)
  IsBasicForm (AConstraint c p) = basic_constraint (out-Constraint c) ≡ true
  IsBasicForm (ASet asked set p) = (asked ≡ OfValues) × (basic_set (out-ElementOrSetOperation set) ≡ true)
  IsBasicForm (AnElement asked e p) = (asked ≡ OfValues) × (basic_element (out-SubtypeElement e) ≡ true)
  IsBasicForm _ = ⊥

  pub record IsBasicSite (s : Site) : Type 0 where
    pub form : IsBasicForm s.form
    pub scope : s.scope ≡ Empty

  -- ---- parts of types

  no_instance : (scope : Scope) (x : ReferenceLayer) → lists_in x.constraints ≡ [] → instance_named S.defs scope x ≡ None
  no_instance scope x e =
      ap (λ ls. if is_some x.parent || is_dummy scope x.identifier then None else once None (type_named S.defs x.identifier) (λ d. instance_by d ls)) e
      ∙ go (is_some x.parent || is_dummy scope x.identifier) (type_named S.defs x.identifier)
    where
      go : (b : Bool) (o : Option ToplevelTypeDefinition) → (if b then None else once None o (λ d. instance_by d [])) ≡ None
      go true o = refl
      go false None = refl
      go false (Some d) = refl

  -- no template stands at the type
  pub instance_none : (scope : Scope) (f : ASN1Type → Bool) (l : TypeLayer) → basic_at f l ≡ true → instance_at S.defs scope (kind_at l) ≡ None
  instance_none scope f (ASN1Type-F.ASN1Type::Boolean x) b = refl
  instance_none scope f (ASN1Type-F.ASN1Type::Integer x) b = refl
  instance_none scope f (ASN1Type-F.Sequence x) b = refl
  instance_none scope f (ASN1Type-F.ElsewhereDeclaredType x) b = no_instance scope x (no_lists x.constraints (both_true (is_none x.parent) (are_basic x.constraints) b).1)
  instance_none scope f _ b = absurd cc

  -- nothing that it names lacks a part
  pub type_lacks_nothing : (f : ASN1Type → Bool) (l : TypeLayer) → basic_at f l ≡ true → type_lacks S Empty (kind_at l) ≡ false
  type_lacks_nothing f (ASN1Type-F.ASN1Type::Boolean x) b = refl
  type_lacks_nothing f (ASN1Type-F.ASN1Type::Integer x) b = refl
  type_lacks_nothing f (ASN1Type-F.Sequence x) b = refl
  type_lacks_nothing f (ASN1Type-F.ElsewhereDeclaredType x) b = ap (reference_lacks S Empty x) (none_there x.parent (both_true (is_none x.parent) (are_basic x.constraints) b).0)
  type_lacks_nothing f _ b = absurd cc

  -- neither a template nor a list stands at the type
  no_lists_at : (s : Site) (at : TypePlace) (f : ASN1Type → Bool) (l : TypeLayer) → basic_at f l ≡ true → instance_sites s at (lists_in (listed (constraints_at l))) (instance_at S.defs s.scope (kind_at l)) ≡ []
  no_lists_at s at f (ASN1Type-F.ASN1Type::Boolean x) b = ap (loose_lists s) (no_lists x.constraints b)
  no_lists_at s at f (ASN1Type-F.ASN1Type::Integer x) b = ap (loose_lists s) (no_lists x.constraints b)
  no_lists_at s at f (ASN1Type-F.Sequence x) b =
      let st = out-SequenceOrSet x in
      let bs = both_true (has_no_names st.components_of) (list_all (λ m. basic_member f (out-SequenceOrSetMember m)) st.members && are_basic st.constraints) b in
      ap (loose_lists s) (no_lists st.constraints (both_true (list_all (λ m. basic_member f (out-SequenceOrSetMember m)) st.members) (are_basic st.constraints) bs.1).1)
  no_lists_at s at f (ASN1Type-F.ElsewhereDeclaredType x) b =
      let lists = no_lists x.constraints (both_true (is_none x.parent) (are_basic x.constraints) b).1 in
      ap (instance_sites s at (lists_in x.constraints)) (no_instance s.scope x lists) ∙ ap (loose_lists s) lists
  no_lists_at s at f _ b = absurd cc

  basic_constraints_at : (f : ASN1Type → Bool) (l : TypeLayer) → basic_at f l ≡ true → are_basic (listed (constraints_at l)) ≡ true
  basic_constraints_at f (ASN1Type-F.ASN1Type::Boolean x) b = b
  basic_constraints_at f (ASN1Type-F.ASN1Type::Integer x) b = b
  basic_constraints_at f (ASN1Type-F.Sequence x) b =
      let st = out-SequenceOrSet x in
      let bs = both_true (has_no_names st.components_of) (list_all (λ m. basic_member f (out-SequenceOrSetMember m)) st.members && are_basic st.constraints) b in
      (both_true (list_all (λ m. basic_member f (out-SequenceOrSetMember m)) st.members) (are_basic st.constraints) bs.1).1
  basic_constraints_at f (ASN1Type-F.ElsewhereDeclaredType x) b = (both_true (is_none x.parent) (are_basic x.constraints) b).1
  basic_constraints_at f _ b = absurd cc

  constraints_basic : (s : Site) → s.scope ≡ Empty → (p : Option Place) (cs : List Constraint) → are_basic cs ≡ true → All IsBasicSite (constraint_sites s p cs)
  constraints_basic s scope p [] b = All-nil IsBasicSite
  constraints_basic s scope p (c ∷ cs) b =
      let bs = both_true (basic_constraint (out-Constraint c)) (are_basic cs) b in
      All-cons IsBasicSite (beside s (AConstraint c p)) (constraint_sites s p cs) (record { form = bs.0; scope = scope }) (constraints_basic s scope p cs bs.1)

  member_basic : (s : Site) → s.scope ≡ Empty → (n : ℕ) (m : MemberLayer) → basic_member (is_basic n) m ≡ true → ((x : List ℕ) → Contains (names_in m.ty) x → Contains names x) → All IsBasicSite (member_sites s m)
  member_basic s scope n m b among =
      let bs = both_true (is_basic n m.ty) (is_none m.default_value && are_basic m.constraints) b in
      let cs = both_true (is_none m.default_value) (are_basic m.constraints) bs.1 in
      let here = beside s (AType InPlace m.ty m.constraints) in
      subst (λ o. All IsBasicSite (here ∷ elim o [ None ↦ [] | Some v ↦ beside s (AValue AsSuch v (Some (place s.scope m.ty))) ∷ [] ])) (sym (none_there m.default_value cs.0))
      (All-cons IsBasicSite here [] (record { form = record { need = refl; basic = (n, bs.0); plain = cs.1; among = among }; scope = scope }) (All-nil IsBasicSite))

  components_basic : (s : Site) → s.scope ≡ Empty → (n : ℕ) (l : TypeLayer) → basic_at (is_basic n) l ≡ true → ((x : List ℕ) → Contains (level_names l) x → Contains names x) → All IsBasicSite (component_sites s (kind_at l))
  components_basic s scope n (ASN1Type-F.ASN1Type::Boolean x) b among = All-nil IsBasicSite
  components_basic s scope n (ASN1Type-F.ASN1Type::Integer x) b among = All-nil IsBasicSite
  components_basic s scope n (ASN1Type-F.Sequence x) b among =
      let st = out-SequenceOrSet x in
      let of_form : SequenceOrSetMember → Bool = λ m. basic_member (is_basic n) (out-SequenceOrSetMember m) in
      let bs = both_true (has_no_names st.components_of) (list_all of_form st.members && are_basic st.constraints) b in
      let ms = (both_true (list_all of_form st.members) (are_basic st.constraints) bs.1).0 in
      All-append IsBasicSite (each_of (λ m. member_sites s (out-SequenceOrSetMember m)) st.members) (map (λ name. beside s (ComponentsOf name)) st.components_of)
      (each_all IsBasicSite (λ m. member_sites s (out-SequenceOrSetMember m)) st.members (λ m c. member_basic s scope n (out-SequenceOrSetMember m) (all_true of_form st.members ms m c) (λ y d. among y (in_members st.members m y c d))))
      (subst (λ ns. All IsBasicSite (map (λ name. beside s (ComponentsOf name)) ns)) (sym (no_names st.components_of bs.0)) (All-nil IsBasicSite))
  components_basic s scope n (ASN1Type-F.ElsewhereDeclaredType x) b among = All-nil IsBasicSite
  components_basic s scope n _ b among = absurd cc

  -- without those of the way
  abbrev started : Site → Site
  started s = record s { way = [] }

  type_basic : (s : Site) → s.scope ≡ Empty → (at : TypePlace) (ty : ASN1Type) (behind : List Constraint) → IsBasicType at ty behind → All IsBasicSite (parts_at S s (AType at ty behind))
  type_basic s scope at ty behind t = go t.basic.0 t.basic.1
    where
      go : (n : ℕ) → is_basic n ty ≡ true → All IsBasicSite (parts_at S s (AType at ty behind))
      go zero b = absurd cc
      go (suc n) b =
          let l = out-ASN1Type ty in
          let components = component_sites (started s) (kind_at l) in
          let instances = instance_sites (started s) at (lists_in (listed (constraints_at l))) (instance_at S.defs s.scope (kind_at l)) in
          let loose = loose_lists (started s) (lists_in behind) in
          let cs = listed (constraints_at l) ++ behind in
          All-append IsBasicSite (components ++ instances ++ loose) (constraint_sites (started s) (Some (place s.scope ty)) cs)
          (All-append IsBasicSite (components ++ instances) loose
          (All-append IsBasicSite components instances
          (components_basic (started s) scope n l b (λ x c. t.among x (subst (λ ns. Contains ns x) (sym (names_is (suc n) ty b)) c)))
          (subst (All IsBasicSite) (sym (no_lists_at (started s) at (is_basic n) l b)) (All-nil IsBasicSite)))
          (subst (λ ls. All IsBasicSite (loose_lists (started s) ls)) (sym (no_lists behind t.plain)) (All-nil IsBasicSite)))
          (constraints_basic (started s) scope (Some (place s.scope ty)) cs (basic_append S.defs (listed (constraints_at l)) behind (basic_constraints_at (is_basic n) l b) t.plain))

  -- ---- parts of constraints

  one_site : (s : Site) → IsBasicSite s → All IsBasicSite (s ∷ [])
  one_site s b = All-cons IsBasicSite s [] b (All-nil IsBasicSite)

  constraint_basic : (s : Site) → s.scope ≡ Empty → (p : Option Place) (l : ConstraintLayer) → basic_constraint l ≡ true → All IsBasicSite (constraint_parts s p l)
  constraint_basic s scope p (Constraint-F.SubtypeConstraint x) b = one_site (beside s (ASet OfValues x.set p)) (record { form = (refl, b); scope = scope })
  constraint_basic s scope p (Constraint-F.TableConstraint x) b = absurd cc
  constraint_basic s scope p (Constraint-F.Parameter arguments) b = absurd cc
  constraint_basic s scope p (Constraint-F.ContentConstraint c) b = absurd cc

  set_basic : (s : Site) → s.scope ≡ Empty → (asked : Asked) → asked ≡ OfValues → (p : Option Place) (l : SetLayer) → basic_set l ≡ true → All IsBasicSite (set_parts s asked p l)
  set_basic s scope asked is p (ElementOrSetOperation-F.Element e) b = one_site (beside s (AnElement asked e p)) (record { form = (is, b); scope = scope })
  set_basic s scope asked is p (ElementOrSetOperation-F.SetOperation x) b = absurd cc

  end_basic : (s : Site) → s.scope ≡ Empty → (asked : Asked) → asked ≡ OfValues → (p : Option Place) (v : Option ASN1Value) → basic_end v ≡ true → All IsBasicSite (end_sites s asked p v)
  end_basic s scope asked is p None b = All-nil IsBasicSite
  end_basic s scope asked is p (Some v) b =
      subst (λ a. All IsBasicSite (end_sites s a p (Some v))) (sym is) (one_site (beside s (AValue AsEnd v p)) (record { form = (refl, b); scope = scope }))

  element_basic : (s : Site) → s.scope ≡ Empty → (asked : Asked) → asked ≡ OfValues → (p : Option Place) (l : ElementLayer) → basic_element l ≡ true → All IsBasicSite (element_parts S s asked p l)
  element_basic s scope asked is p (SubtypeElement-F.ValueRange low high low_open high_open extensible) b =
      let bs = both_true (basic_end low) (basic_end high) b in
      All-append IsBasicSite (end_sites s asked p low) (end_sites s asked p high) (end_basic s scope asked is p low bs.0) (end_basic s scope asked is p high bs.1)
  element_basic s scope asked is p _ b = absurd cc

  -- ---- a number has no parts

  under_struct : (s : Site) (head : Place) (i : ℤ) (o : Option (List Member)) → once [] o (λ ms. fields_under s ms (NumberWritten i)) ≡ []
  under_struct s head i None = refl
  under_struct s head i (Some ms) = refl

  under_head : (s : Site) (head : Place) (i : ℤ) (k : Kind) → parts_under S.known s head (NumberWritten i) k ≡ []
  under_head s head i (StructKind x) = under_struct s head i (members_of S.known head)
  under_head s head i (ListKind ty) = refl
  under_head s head i (ChoiceKind options) = refl
  under_head s head i (BitStringKind bits) = refl
  under_head s head i _ = refl

  governed : (s : Site) (p : Place) (i : ℤ) → governed_parts S s p (NumberWritten i) ≡ []
  governed s p i = go (S.known.head p)
    where
      go : (o : Option Place) → once (headless_parts S s p (NumberWritten i)) o (λ head. parts_under S.known s head (NumberWritten i) (kind_of head)) ≡ []
      go None = same_either (hangs S.defs S.known S.steps p) []
      go (Some head) = under_head s head i (kind_of head)

  -- the parts of a value, by how it is written
  abbrev written_parts : Site → Option Place → Written → List Site
  written_parts s None w = free_parts s w
  written_parts s (Some p) w = if is_class_name S.defs p then [] else governed_parts S s p w

  number_parts : (s : Site) (p : Option Place) (w : Written) → is_number w ≡ true → written_parts s p w ≡ []
  number_parts s None (NumberWritten i) b = refl
  number_parts s (Some p) (NumberWritten i) b = go (is_class_name S.defs p)
    where
      go : (c : Bool) → (if c then [] else governed_parts S s p (NumberWritten i)) ≡ []
      go true = refl
      go false = governed s p i
  number_parts s p _ b = absurd cc

  value_parts : (s : Site) (p : Option Place) (v : ASN1Value) → value_sites S s p v ≡ written_parts s p (as_written v)
  value_parts s None v = refl
  value_parts s (Some p) v = refl

  -- ---- all places

  parts_basic : (s : Site) → s.scope ≡ Empty → (form : Form) → IsBasicForm form → All IsBasicSite (parts_at S s form)
  parts_basic s scope (AType at ty behind) b = type_basic s scope at ty behind b
  parts_basic s scope (AValue at v p) b = subst (All IsBasicSite) (sym (value_parts s p v ∙ number_parts s p (as_written v) b.1)) (All-nil IsBasicSite)
  parts_basic s scope (AConstraint c p) b = constraint_basic s scope p (out-Constraint c) b
  parts_basic s scope (ASet asked set p) b = set_basic s scope asked b.0 p (out-ElementOrSetOperation set) b.1
  parts_basic s scope (AnElement asked e p) b = element_basic s scope asked b.0 p (out-SubtypeElement e) b.1
  parts_basic s scope _ b = absurd b

  pub all_basic : (first : List Site) → All IsBasicSite first → {s : Site} → StandsIn S first s → IsBasicSite s
  all_basic first all (at_first {s} c) = All-contains IsBasicSite first s all c
  all_basic first all (within {s} {t} st c) =
      let b = all_basic first all st in
      All-contains IsBasicSite (parts S s) t (parts_basic s b.scope s.form b.form) c

  -- ---- the names at such places

  -- a type reference whose name is among these
  abbrev pub IsNamed : Occurrence → Type 0
  IsNamed o = (x : List ℕ) × (o ≡ type_occurrence x) × Contains names x

  number_names : (scope : Scope) (p : Option Place) (w : Written) → is_number w ≡ true → value_names S scope p w ≡ []
  number_names scope p (NumberWritten i) b = same_either (governed_by_class S p) []
  number_names scope p _ b = absurd cc

  -- the one name that a basic type reference is
  reference_is : (at : TypePlace) → needed_at at ≡ NeedsType → (x : ReferenceLayer) → x.parent ≡ None → lists_in x.constraints ≡ [] → names_in_reference Empty at x x.parent ≡ type_occurrence x.identifier ∷ []
  reference_is at need x parent lists =
      ap (names_in_reference Empty at x) parent
      ∙ ap (λ k. record { need = k; name = x.identifier; has_list = has_list x; scope = Empty; governing = None } ∷ []) need
      ∙ ap (λ ls. record { need = NeedsType; name = x.identifier; has_list = elim ls [ [] ↦ false | a ∷ others ↦ true ]; scope = Empty; governing = None } ∷ []) lists

  type_names : (at : TypePlace) → needed_at at ≡ NeedsType → (f : ASN1Type → Bool) (l : TypeLayer) → basic_at f l ≡ true → ((x : List ℕ) → Contains (level_names l) x → Contains names x) → All IsNamed (names_in_type Empty at (kind_at l))
  type_names at need f (ASN1Type-F.ASN1Type::Boolean x) b among = All-nil IsNamed
  type_names at need f (ASN1Type-F.ASN1Type::Integer x) b among = All-nil IsNamed
  type_names at need f (ASN1Type-F.Sequence x) b among = All-nil IsNamed
  type_names at need f (ASN1Type-F.ElsewhereDeclaredType x) b among =
      let bs = both_true (is_none x.parent) (are_basic x.constraints) b in
      subst (All IsNamed) (sym (reference_is at need x (none_there x.parent bs.0) (no_lists x.constraints bs.1)))
      (All-cons IsNamed (type_occurrence x.identifier) [] (x.identifier, refl, among x.identifier (0, omega arith, refl)) (All-nil IsNamed))
  type_names at need f _ b among = absurd cc

  form_names : (s : Site) → s.scope ≡ Empty → (form : Form) → IsBasicForm form → All IsNamed (names_at S s form)
  form_names s scope (AType at ty behind) b = go b.basic.0 b.basic.1
    where
      go : (n : ℕ) → is_basic n ty ≡ true → All IsNamed (names_in_type s.scope at (kind_at (out-ASN1Type ty)))
      go zero h = absurd cc
      go (suc n) h =
          subst (λ scope. All IsNamed (names_in_type scope at (kind_at (out-ASN1Type ty)))) (sym scope)
          (type_names at b.need (is_basic n) (out-ASN1Type ty) h (λ x c. b.among x (subst (λ ns. Contains ns x) (sym (names_is (suc n) ty h)) c)))
  form_names s scope (AValue at v p) b = subst (All IsNamed) (sym (number_names s.scope p (as_written v) b.1)) (All-nil IsNamed)
  form_names s scope (AConstraint c p) b = All-nil IsNamed
  form_names s scope (ASet asked set p) b = All-nil IsNamed
  form_names s scope (AnElement asked e p) b = All-nil IsNamed
  form_names s scope _ b = absurd b

  pub site_names : (s : Site) → IsBasicSite s → All IsNamed (names_at S s s.form)
  site_names s b = form_names s b.scope s.form b.form

-- ---- every name of a type occurs

module _ (S : Seen) (first : List Site) (x : List ℕ) where
  abbrev Occurs : Type 0
  Occurs = OccursAmong S first (type_occurrence x)

  -- a type stands at a place in the empty scope
  abbrev StandsAt : TypePlace → ASN1Type → Type 0
  StandsAt at ty = (s : Site) × (behind : List Constraint) × (s.scope ≡ Empty) × StandsIn S first (beside s (AType at ty behind))

  member_site : (s : Site) (at : TypePlace) (ty : ASN1Type) (behind : List Constraint) (q : SequenceOrSet) → out-ASN1Type ty ≡ ASN1Type-F.Sequence q → (m : SequenceOrSetMember) → Contains (out-SequenceOrSet q).members m → Contains (parts S (beside s (AType at ty behind))) (beside (record s { way = [] }) (AType InPlace (out-SequenceOrSetMember m).ty (out-SequenceOrSetMember m).constraints))
  member_site s at ty behind q is m c =
      let s' = record s { way = [] } in
      let st = out-SequenceOrSet q in
      let x = out-SequenceOrSetMember m in
      let here = beside s' (AType InPlace x.ty x.constraints) in
      let own = listed (constraints_at (out-ASN1Type ty)) in
      let instances = instance_sites s' at (lists_in own) (instance_at S.defs s.scope (kind_at (out-ASN1Type ty))) in
      let loose = loose_lists s' (lists_in behind) in
      let constraints = constraint_sites s' (Some (place s.scope ty)) (own ++ behind) in
      let components = component_sites s' (kind_at (out-ASN1Type ty)) in
      Contains-append_left (components ++ instances ++ loose) constraints here
      (Contains-append_left (components ++ instances) loose here
      (Contains-append_left components instances here
      (subst (λ l. Contains (component_sites s' (kind_at l)) here) (sym is)
      (Contains-append_left (each_of (λ n. member_sites s' (out-SequenceOrSetMember n)) st.members) (map (λ name. beside s' (ComponentsOf name)) st.components_of) here
      (each_there (λ n. member_sites s' (out-SequenceOrSetMember n)) st.members m here c (0, omega arith, refl))))))

  occurs_in : (n : ℕ) (at : TypePlace) (ty : ASN1Type) → needed_at at ≡ NeedsType → is_basic n ty ≡ true → Contains (names_in ty) x → StandsAt at ty → Occurs
  occurs_in zero at ty need b c there = absurd cc
  occurs_in (suc n) at ty need b c (s, behind, scope, stands) = go (out-ASN1Type ty) refl (subst (λ ns. Contains ns x) (names_is (suc n) ty b) c) (λ m c d t. occurs_in n InPlace (out-SequenceOrSetMember m).ty refl c d t)
    where
      go : (l : TypeLayer) → out-ASN1Type ty ≡ l → Contains (level_names (out-ASN1Type ty)) x → ((m : SequenceOrSetMember) → is_basic n (out-SequenceOrSetMember m).ty ≡ true → Contains (names_in (out-SequenceOrSetMember m).ty) x → StandsAt InPlace (out-SequenceOrSetMember m).ty → Occurs) → Occurs
      go (ASN1Type-F.Sequence q) is d inside =
          let st = out-SequenceOrSet q in
          let of_form : SequenceOrSetMember → Bool = λ m. basic_member (is_basic n) (out-SequenceOrSetMember m) in
          let basic : basic_struct (is_basic n) st ≡ true = ap (basic_at (is_basic n)) (sym is) ∙ b in
          let bs = both_true (has_no_names st.components_of) (list_all of_form st.members && are_basic st.constraints) basic in
          let ms = (both_true (list_all of_form st.members) (are_basic st.constraints) bs.1).0 in
          let f = of_member st.members x (subst (λ l. Contains (level_names l) x) is d) in
          let m = out-SequenceOrSetMember f.0 in
          let of_m = both_true (is_basic n m.ty) (is_none m.default_value && are_basic m.constraints) (all_true of_form st.members ms f.0 f.1) in
          inside f.0 of_m.0 f.2 (record s { way = [] }, m.constraints, scope, within stands (member_site s at ty behind q is f.0 f.1))
      go (ASN1Type-F.ElsewhereDeclaredType r) is d inside =
          let basic : (is_none r.parent && are_basic r.constraints) ≡ true = ap (basic_at (is_basic n)) (sym is) ∙ b in
          let bs = both_true (is_none r.parent) (are_basic r.constraints) basic in
          let same = only_name r.identifier (subst (λ l. Contains (level_names l) x) is d) in
          let names = reference_is S [] at need r (none_there r.parent bs.0) (no_lists r.constraints bs.1) in
          record {
            at = beside s (AType at ty behind);
            stands = stands;
            occurs =
                subst (λ scope. Contains (names_in_type scope at (kind_at (out-ASN1Type ty))) (type_occurrence x)) (sym scope)
                (subst (λ l. Contains (names_in_type Empty at (kind_at l)) (type_occurrence x)) (sym is)
                (subst (λ os. Contains os (type_occurrence x)) (sym names) (0, omega arith, ap type_occurrence same)));
          }
        where
          only_name : (y : List ℕ) → Contains (y ∷ []) x → y ≡ x
          only_name y (zero, lt, e) = e
          only_name y (suc k, lt, e) = absurd (omega (arith, lt))
      go _ is d inside = absurd (no_name_there (subst (λ l. Contains (level_names l) x) is d))
        where
          no_name_there : Contains [] x → ⊥
          no_name_there (k, lt, e) = absurd (omega (arith, lt))

-- ---- a definition of basic form

module _ (defs : Definitions) (steps : ℕ) (name : List ℕ) (d : ToplevelTypeDefinition) (is : last_named defs name ≡ Some (TypeDef d)) (free : d.parameterization ≡ None) (basic : IsBasic d.ty) where
  abbrev S : Seen
  S = seen defs steps

  abbrev its_site : Site
  its_site = outermost None (AType AtHead d.ty [])

  sites_are : node_sites defs (ToDefinition name) ≡ its_site ∷ []
  sites_are = ap (λ o. once [] o (first_sites defs)) is ∙ ap (λ o. map (outermost o) (AType AtHead d.ty [] ∷ dummy_forms o)) free

  first_basic : All (IsBasicSite S (names_in d.ty)) (node_sites defs (ToDefinition name))
  first_basic =
      let P = IsBasicSite S (names_in d.ty) in
      subst (All P) (sym sites_are)
      (All-cons P its_site [] (record { form = record { need = refl; basic = basic; plain = refl; among = λ x c. c }; scope = refl }) (All-nil P))

  pub place_basic : {s : Site} → IsPlaceOf S (ToDefinition name) s → IsBasicSite S (names_in d.ty) s
  place_basic stands = all_basic S (names_in d.ty) (node_sites defs (ToDefinition name)) first_basic stands

  pub place_names : {s : Site} → IsPlaceOf S (ToDefinition name) s → All (IsNamed S (names_in d.ty)) (names_at S s s.form)
  place_names {s} stands = site_names S (names_in d.ty) s (place_basic stands)

  pub name_occurs : (x : List ℕ) → Contains (names_in d.ty) x → OccursIn S (ToDefinition name) (type_occurrence x)
  name_occurs x c =
      occurs_in S (node_sites defs (ToDefinition name)) x basic.0 AtHead d.ty refl basic.1 c
      (its_site, [], refl, at_first (subst (λ ss. Contains ss its_site) (sym sites_are) (0, omega arith, refl)))
