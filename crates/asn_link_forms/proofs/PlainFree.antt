-- In a type in plain form stands, outside contents and tables, no form that is neither a class's field nor a reference.
use Rattle.std.proofs.Common.{◌≡◌, ℕ, zero, suc, List, [], ◌∷◌, Bool, true, false, ◌&&◌, ◌||◌, Option, Some, None, map, refl, ap, ◌∙◌}
use Rattle.std.specs.Prelude.{is_none, if◌then◌else◌}
use Rattle.std.specs.List.{list_all}
use Rattle.std.proofs.lemmas.Bool.{and_parts, or_from}
use Rattle.asn_tree_kinds.specs.declared.constraints.ConstrainedComponentOver.{ConstrainedComponentOver}
use Rattle.asn_tree_kinds.specs.declared.constraints.SetOperator.{SetOperator}
use Rattle.asn_tree.specs.Folds.{Steps, choice_is, constraint_is, constraint_read, element_is, element_read, list_is, member_is, member_read, of_choice, of_constraint, of_element, of_list, of_member, of_operation, of_option, of_set, of_struct, of_type, of_value, operation_is, option_is, set_is, set_read, struct_is, struct_read, type_is, type_read, value_is, value_read}
use Rattle.asn_tree.specs.Layers.{ConstraintLayer, ElementLayer, MemberLayer, SetLayer, StructLayer, TypeLayer, ValueLayer}
use Rattle.asn_tree.specs.declared.constraints.Constraint.{Constraint, Constraint-F, out-Constraint}
use Rattle.asn_tree.specs.declared.constraints.ElementOrSetOperation.{ElementOrSetOperation, ElementOrSetOperation-F, out-ElementOrSetOperation}
use Rattle.asn_tree.specs.declared.constraints.SetOperation.{SetOperation, out-SetOperation}
use Rattle.asn_tree.specs.declared.constraints.SubtypeElement.{SubtypeElement, SubtypeElement-F, out-SubtypeElement}
use Rattle.asn_tree.specs.declared.types.ASN1Type.{ASN1Type, ASN1Type-F, out-ASN1Type}
use Rattle.asn_tree.specs.declared.types.Choice.{Choice, out-Choice}
use Rattle.asn_tree.specs.declared.types.ChoiceOption.{ChoiceOption, out-ChoiceOption}
use Rattle.asn_tree.specs.declared.types.SequenceOrSet.{SequenceOrSet, out-SequenceOrSet}
use Rattle.asn_tree.specs.declared.types.SequenceOrSetMember.{SequenceOrSetMember, out-SequenceOrSetMember}
use Rattle.asn_tree.specs.declared.types.SequenceOrSetOf.{SequenceOrSetOf, out-SequenceOrSetOf}
use Rattle.asn_tree.specs.declared.values.ASN1Value.{ASN1Value, ASN1Value-F, out-ASN1Value}
use Rattle.asn_tree_notation.specs.Types.{constraints_at}
use Rattle.asn_meaning.specs.Accepts.{place}
use Rattle.asn_meaning.specs.Answers.{once}
use Rattle.asn_meaning.specs.Constraints.{chain_at, chain_behind}
use Rattle.asn_meaning.specs.Definitions.{Definitions}
use Rattle.asn_meaning.specs.Everything.{plain_text}
use Rattle.asn_meaning.specs.Judge.{meaning, nothing_known, step}
use Rattle.asn_meaning.specs.Kinds.{kind_at, kind_of, kind_of_type}
use Rattle.asn_meaning.specs.Meaning.{Meaning}
use Rattle.asn_meaning.specs.Members.{element_place}
use Rattle.asn_meaning.specs.Numbers.{Chain}
use Rattle.asn_meaning.specs.Placed.{listed}
use Rattle.asn_meaning.specs.Plain.{IsPlain, Plainness, constraint_plain, constraints_plain, contained_plain, element_plain, inner_plain, is_plain_name, listed_place, member_plain, option_plain, parts_plain, plainness, set_plain, struct_plain, type_plain}
use Rattle.asn_meaning.specs.Ranges.{integer_named}
use Rattle.asn_meaning.specs.Scopes.{Empty, Place}
use Rattle.asn_link_forms.specs.Forms.{any_behind, constraint_forms, element_forms, ends_in_value, in_component, is_any, is_class_field, is_components_of, is_contained, is_reference, looking, present, set_forms, stands_outside, struct_forms, told, type_forms, value_forms}
use Rattle.asn_link_forms.specs.declared.forms.Form.{Form}
use Rattle.asn_link_forms.specs.declared.forms.Position.{Position}
use Rattle.asn_link_forms.specs.declared.forms.Position.TheVariants.{Alone, Contained}
use Rattle.asn_link_forms.proofs.Parts.{components_told}

-- ---- tests

never : false ≡ true → ⊥
never h = absurd cc

else_true : (b c : Bool) → (if b then false else c) ≡ true → c ≡ true
else_true true c h = absurd cc
else_true false c h = h

and_false : (b : Bool) → (b && false) ≡ false
and_false true = refl
and_false false = refl

and_none : (b c : Bool) → b ≡ false → (b && c) ≡ false
and_none true c e = absurd cc
and_none false c e = refl

-- what holds once something is there is of something that is there
found : {A : Type 0} (o : Option A) (f : A → Bool) → once false o f ≡ true → (x : A) × (f x ≡ true)
found None f h = absurd cc
found (Some x) f h = (x, h)

any_from : (b : Bool) (bs : List Bool) → b ≡ false → is_any bs ≡ false → any_behind b bs ≡ false
any_from b bs first others = ap (λ c. any_behind c bs) first ∙ others

-- where each that passes a test is free, all that pass it are
all_free : {A : Type 0} (test has : A → Bool) → ((x : A) → test x ≡ true → has x ≡ false) →
    (xs : List A) → list_all test xs ≡ true → is_any (map has xs) ≡ false
all_free test has each [] h = refl
all_free test has each (x ∷ xs) h =
    let both = and_parts (test x) (list_all test xs) h in
    any_from (has x) (map has xs) (each x both.0) (all_free test has each xs both.1)

module _ (form : Form) (no_field : is_class_field form ≡ false) (no_reference : is_reference form ≡ false) where
  -- contents and tables are not looked into
  abbrev outside : Steps told
  outside = looking false form

  -- ---- values

  values : (v : ASN1Value) → of_value outside v ≡ false
  values v = value_is outside v ∙ go (out-ASN1Value v)
    where
      go : (l : ValueLayer) → value_forms form (value_read outside l) ≡ false
      go (ASN1Value-F.EnumeratedValue type name) = no_reference
      go (ASN1Value-F.ElsewhereDeclaredValue parent name) = no_reference
      go _ = refl

  -- ---- sets

  abbrev AreFree : List (SetOperator × SubtypeElement) → Type 0
  AreFree [] = Unit {0}
  AreFree (x ∷ xs) = (of_element outside x.1 ≡ false) × AreFree xs

  -- a set is free where each element of its chain is
  abbrev FreeBy : ElementOrSetOperation → Option Chain → Type 0
  FreeBy set None = Unit {0}
  FreeBy set (Some c) = of_element outside c.first ≡ false → AreFree c.others → of_set outside set ≡ false

  set_at : (set : ElementOrSetOperation) (l : SetLayer) → out-ElementOrSetOperation set ≡ l → of_set outside set ≡ set_forms (set_read (outside) l)
  set_at set l is = set_is (outside) set ∙ ap (λ z. set_forms (set_read (outside) z)) is

  operation_at : (x : SetOperation) → of_element outside (out-SetOperation x).base ≡ false → of_set outside (out-SetOperation x).operant ≡ false →
      of_operation outside x ≡ false
  operation_at x first others =
      operation_is (outside) x ∙ or_from (of_element outside (out-SetOperation x).base) (of_set outside (out-SetOperation x).operant) first others

  behind : (set : ElementOrSetOperation) (x : SetOperation) → out-ElementOrSetOperation set ≡ ElementOrSetOperation-F.SetOperation x →
      (o : Option Chain) → FreeBy (out-SetOperation x).operant o → FreeBy set (once None o (λ c. Some (chain_behind (out-SetOperation x) c)))
  behind set x is None known = tt
  behind set x is (Some c) known =
      λ first others. set_at set (ElementOrSetOperation-F.SetOperation x) is ∙ operation_at x first (known others.0 others.1)

  chain_at_free : (M : Meaning) → ((set : ElementOrSetOperation) → FreeBy set (M.chain set)) →
      (set : ElementOrSetOperation) (l : SetLayer) → out-ElementOrSetOperation set ≡ l → FreeBy set (chain_at M l)
  chain_at_free M known set (ElementOrSetOperation-F.Element e) is = λ first others. set_at set (ElementOrSetOperation-F.Element e) is ∙ first
  chain_at_free M known set (ElementOrSetOperation-F.SetOperation x) is =
      behind set x is (M.chain (out-SetOperation x).operant) (known (out-SetOperation x).operant)

  chain_free : (defs : Definitions) (n : ℕ) (set : ElementOrSetOperation) → FreeBy set ((meaning defs n).chain set)
  unfolding meaning step nothing_known
  chain_free defs zero set = tt
  chain_free defs (suc n) set = chain_at_free (meaning defs n) (chain_free defs n) set (out-ElementOrSetOperation set) refl

  -- ---- one step, with what is known of types and elements

  module _ (defs : Definitions) (M : Meaning) (P : Plainness) (chains : (set : ElementOrSetOperation) → FreeBy set (M.chain set))
      (types : (ty : ASN1Type) → P.of_type ty ≡ true → (p : Position) → of_type outside ty p ≡ false)
      (elements : (head : Place) (e : SubtypeElement) → P.of_element head e ≡ true → of_element outside e ≡ false) where
    others_free : (head : Place) (xs : List (SetOperator × SubtypeElement)) → list_all (λ x. P.of_element head x.1) xs ≡ true → AreFree xs
    others_free head [] h = tt
    others_free head (x ∷ xs) h =
        let both = and_parts (P.of_element head x.1) (list_all (λ x. P.of_element head x.1) xs) h in
        (elements head x.1 both.0, others_free head xs both.1)

    set_free : (head : Place) (set : ElementOrSetOperation) → set_plain M P head set ≡ true → of_set outside set ≡ false
    set_free head set h = go (M.chain set) (chains set) h
      where
        go : (o : Option Chain) → FreeBy set o →
            once false o (λ c. P.of_element head c.first && list_all (λ x. P.of_element head x.1) c.others) ≡ true → of_set outside set ≡ false
        go None known h = absurd cc
        go (Some c) known h =
            let both = and_parts (P.of_element head c.first) (list_all (λ x. P.of_element head x.1) c.others) h in
            known (elements head c.first both.0) (others_free head c.others both.1)

    -- ---- constraints

    constraint_layer : (head : Place) (l : ConstraintLayer) → constraint_plain M P head l ≡ true →
        constraint_forms false form (constraint_read (outside) l) ≡ false
    constraint_layer head (Constraint-F.SubtypeConstraint s) h = set_free head s.set h
    constraint_layer head (Constraint-F.TableConstraint table) h = refl
    constraint_layer head (Constraint-F.Parameter arguments) h = absurd cc
    constraint_layer head (Constraint-F.ContentConstraint content) h = refl

    constraint_free : (head : Place) (c : Constraint) → constraint_plain M P head (out-Constraint c) ≡ true → of_constraint outside c ≡ false
    constraint_free head c h = constraint_is (outside) c ∙ constraint_layer head (out-Constraint c) h

    constraints_free : (p : Place) (cs : List Constraint) → constraints_plain M P p cs ≡ true → is_any (map (of_constraint outside) cs) ≡ false
    constraints_free p [] h = refl
    constraints_free p (c ∷ cs) h =
        let known = found (M.head p) (λ head. list_all (λ d. constraint_plain M P head (out-Constraint d)) (c ∷ cs)) h in
        all_free (λ d. constraint_plain M P known.0 (out-Constraint d)) (of_constraint outside) (constraint_free known.0) (c ∷ cs) known.1

    component_free : (head : Place) (c : ConstrainedComponentOver Constraint) → inner_plain M P head c ≡ true → in_component outside c ≡ false
    component_free head c h =
        let known = found (listed_place M c.identifier head.scope (kind_of head)) (λ p. constraints_plain M P p c.constraints) h in
        constraints_free known.0 c.constraints known.1

    -- ---- elements

    contained_free : (ty : ASN1Type) → contained_plain P ty ≡ true → of_type outside ty Contained ≡ false
    contained_free ty h = types ty (else_true (is_plain_name (kind_of_type ty)) (P.of_type ty) h) Contained

    element_layer : (head : Place) (l : ElementLayer) → element_plain M P head l ≡ true → element_forms (element_read (outside) l) ≡ false
    element_layer head (SubtypeElement-F.SingleValue v extensible) h = values v
    element_layer head (SubtypeElement-F.ContainedSubtype ty extensible) h = contained_free ty h
    element_layer head (SubtypeElement-F.ValueRange None None low_open high_open extensible) h = refl
    element_layer head (SubtypeElement-F.ValueRange (Some v) None low_open high_open extensible) h =
        or_from (of_value outside v) false (values v) refl
    element_layer head (SubtypeElement-F.ValueRange None (Some w) low_open high_open extensible) h = values w
    element_layer head (SubtypeElement-F.ValueRange (Some v) (Some w) low_open high_open extensible) h =
        or_from (of_value outside v) (of_value outside w) (values v) (values w)
    element_layer head (SubtypeElement-F.PermittedAlphabet set) h = set_free plain_text set h
    element_layer head (SubtypeElement-F.SizeConstraint set) h = set_free (integer_named None) set h
    element_layer head (SubtypeElement-F.TypeConstraint ty) h = contained_free ty h
    element_layer head (SubtypeElement-F.SingleTypeConstraint cs) h =
        let known = found (element_place head) (λ p. constraints_plain M P p cs) h in
        constraints_free known.0 cs known.1
    element_layer head (SubtypeElement-F.MultipleTypeConstraints inner) h =
        ap is_any (components_told outside inner inner.constraints) ∙ all_free (inner_plain M P head) (in_component outside) (component_free head) inner.constraints h
    element_layer head (SubtypeElement-F.PatternConstraint x) h = refl
    element_layer head (SubtypeElement-F.UserDefinedConstraint x) h = refl
    element_layer head (SubtypeElement-F.PropertySettings x) h = refl

    pub element_free : (head : Place) (e : SubtypeElement) → element_plain M P head (out-SubtypeElement e) ≡ true → of_element outside e ≡ false
    element_free head e h = element_is (outside) e ∙ element_layer head (out-SubtypeElement e) h

    -- ---- members and alternatives

    -- a type with the constraints of its place
    placed_free : (ty : ASN1Type) (cs : List Constraint) → (P.of_type ty && constraints_plain M P (place Empty ty) cs) ≡ true →
        (of_type outside ty Alone || is_any (map (of_constraint outside) cs)) ≡ false
    placed_free ty cs h =
        let both = and_parts (P.of_type ty) (constraints_plain M P (place Empty ty) cs) h in
        or_from (of_type outside ty Alone) (is_any (map (of_constraint outside) cs)) (types ty both.0 Alone) (constraints_free (place Empty ty) cs both.1)

    default_free : (m : MemberLayer) (o : Option ASN1Value) → present (member_read (outside) (record m { default_value = o })).default_value ≡ false
    default_free m None = refl
    default_free m (Some v) = values v

    member_free : (m : SequenceOrSetMember) → member_plain M P (out-SequenceOrSetMember m) ≡ true → of_member outside m ≡ false
    member_free m h =
        let l = out-SequenceOrSetMember m in
        member_is (outside) m
        ∙ or_from
        (of_type outside l.ty Alone || is_any (map (of_constraint outside) l.constraints))
        (present (member_read (outside) l).default_value)
        (placed_free l.ty l.constraints h)
        (default_free l l.default_value)

    option_free : (o : ChoiceOption) → option_plain M P (out-ChoiceOption o) ≡ true → of_option outside o ≡ false
    option_free o h = option_is (outside) o ∙ placed_free (out-ChoiceOption o).ty (out-ChoiceOption o).constraints h

    -- ---- types, with the constraints behind them

    abbrev AreFreeOf : List Constraint → Type 0
    AreFreeOf cs = is_any (map (of_constraint outside) cs) ≡ false

    struct_layer : (x : StructLayer) (names : List (List ℕ)) → struct_plain M P (record x { components_of = names }) ≡ true → AreFreeOf x.constraints →
        struct_forms form (struct_read (outside) (record x { components_of = names })) ≡ false
    struct_layer x [] h cs =
        or_from
        ((is_components_of form && false) || is_any (map (of_member outside) x.members))
        (is_any (map (of_constraint outside) x.constraints))
        (or_from
        (is_components_of form && false)
        (is_any (map (of_member outside) x.members))
        (and_false (is_components_of form))
        (all_free (λ m. member_plain M P (out-SequenceOrSetMember m)) (of_member outside) member_free x.members h))
        cs
    struct_layer x (name ∷ names) h cs = absurd cc

    struct_free : (s : SequenceOrSet) → struct_plain M P (out-SequenceOrSet s) ≡ true → AreFreeOf (out-SequenceOrSet s).constraints →
        of_struct outside s ≡ false
    struct_free s h cs = struct_is (outside) s ∙ struct_layer (out-SequenceOrSet s) (out-SequenceOrSet s).components_of h cs

    choice_free : (c : Choice) → list_all (λ o. option_plain M P (out-ChoiceOption o)) (out-Choice c).options ≡ true →
        AreFreeOf (out-Choice c).constraints → of_choice outside c ≡ false
    choice_free c h cs =
        let l = out-Choice c in
        choice_is (outside) c
        ∙ or_from
        (is_any (map (of_option outside) l.options))
        (is_any (map (of_constraint outside) l.constraints))
        (all_free (λ o. option_plain M P (out-ChoiceOption o)) (of_option outside) option_free l.options h)
        cs

    list_free : (x : SequenceOrSetOf) → P.of_type (out-SequenceOrSetOf x).element_type ≡ true →
        AreFreeOf (out-SequenceOrSetOf x).constraints → of_list outside x ≡ false
    list_free x h cs =
        let l = out-SequenceOrSetOf x in
        list_is (outside) x
        ∙ or_from (of_type outside l.element_type Alone) (is_any (map (of_constraint outside) l.constraints)) (types l.element_type h Alone) cs

    -- a type with its parts, under a place of its constraints
    type_layer : (q : Place) (l : TypeLayer) (p : Position) → parts_plain defs M P (kind_at l) ≡ true →
        constraints_plain M P q (listed (constraints_at l)) ≡ true → type_forms form (type_read (outside) l) p ≡ false
    type_layer q ASN1Type-F.ASN1Type::Null p parts cs = refl
    type_layer q (ASN1Type-F.ASN1Type::Boolean t) p parts cs = constraints_free q t.constraints cs
    type_layer q (ASN1Type-F.ASN1Type::Integer t) p parts cs = constraints_free q t.constraints cs
    type_layer q (ASN1Type-F.ASN1Type::Real t) p parts cs = constraints_free q t.constraints cs
    type_layer q (ASN1Type-F.ASN1Type::BitString t) p parts cs = constraints_free q t.constraints cs
    type_layer q (ASN1Type-F.ASN1Type::OctetString t) p parts cs = constraints_free q t.constraints cs
    type_layer q (ASN1Type-F.CharacterString t) p parts cs = constraints_free q t.constraints cs
    type_layer q (ASN1Type-F.Enumerated t) p parts cs = constraints_free q t.constraints cs
    type_layer q (ASN1Type-F.ASN1Type::Choice c) p parts cs = choice_free c parts (constraints_free q (out-Choice c).constraints cs)
    type_layer q (ASN1Type-F.Sequence s) p parts cs = struct_free s parts (constraints_free q (out-SequenceOrSet s).constraints cs)
    type_layer q (ASN1Type-F.SequenceOf x) p parts cs = list_free x parts (constraints_free q (out-SequenceOrSetOf x).constraints cs)
    type_layer q (ASN1Type-F.Set s) p parts cs = struct_free s parts (constraints_free q (out-SequenceOrSet s).constraints cs)
    type_layer q (ASN1Type-F.SetOf x) p parts cs = list_free x parts (constraints_free q (out-SequenceOrSetOf x).constraints cs)
    type_layer q (ASN1Type-F.ASN1Type::Time t) p parts cs = constraints_free q t.constraints cs
    type_layer q (ASN1Type-F.GeneralizedTime t) p parts cs = constraints_free q t.constraints cs
    type_layer q (ASN1Type-F.UTCTime t) p parts cs = constraints_free q t.constraints cs
    type_layer q (ASN1Type-F.ElsewhereDeclaredType r) p parts cs =
        or_from
        (is_reference form && (is_contained p && is_none r.parent))
        (is_any (map (of_constraint outside) r.constraints))
        (and_none (is_reference form) (is_contained p && is_none r.parent) no_reference)
        (constraints_free q r.constraints cs)
    type_layer q (ASN1Type-F.ChoiceSelectionType s) p parts cs = absurd cc
    type_layer q (ASN1Type-F.ASN1Type::ObjectIdentifier t) p parts cs = constraints_free q t.constraints cs
    type_layer q (ASN1Type-F.InformationObjectFieldReference f) p parts cs =
        or_from
        (is_class_field form && ends_in_value f.field_path)
        (is_any (map (of_constraint outside) f.constraints))
        (and_none (is_class_field form) (ends_in_value f.field_path) no_field)
        (constraints_free q f.constraints cs)
    type_layer q ASN1Type-F.EmbeddedPdv p parts cs = refl
    type_layer q ASN1Type-F.External p parts cs = refl

    pub type_free : (ty : ASN1Type) → type_plain defs M P ty ≡ true → (p : Position) → of_type outside ty p ≡ false
    type_free ty h p =
        let l = out-ASN1Type ty in
        let both = and_parts (parts_plain defs M P (kind_at l)) (constraints_plain M P (place Empty ty) (listed (constraints_at l))) h in
        ap (λ f. f p) (type_is (outside) ty) ∙ type_layer (place Empty ty) l p both.0 both.1

  -- ---- all steps

  -- what is plain within this many steps is free
  abbrev Known : Definitions → ℕ → Type 0
  Known defs n =
      ((ty : ASN1Type) → (plainness defs n).of_type ty ≡ true → (p : Position) → of_type outside ty p ≡ false)
      × ((head : Place) (e : SubtypeElement) → (plainness defs n).of_element head e ≡ true → of_element outside e ≡ false)

  known_free : (defs : Definitions) (n : ℕ) → Known defs n
  unfolding plainness
  known_free defs zero = (λ ty h p. absurd (never h), λ head e h. absurd (never h))
  known_free defs (suc n) =
      let known = known_free defs n in
      let M = meaning defs n in
      let P = plainness defs n in
      (type_free defs M P (chain_free defs n) known.0 known.1, element_free defs M P (chain_free defs n) known.0 known.1)

  pub plain_free : (defs : Definitions) (ty : ASN1Type) → IsPlain defs ty → stands_outside form ty ≡ false
  unfolding stands_outside
  plain_free defs ty plain = (known_free defs plain.0).0 ty plain.1 Alone
