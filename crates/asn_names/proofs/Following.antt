-- A definition of basic form follows no name: nothing in it has a default or is a content.
use Rattle.std.proofs.Common.{◌≡◌, ℕ, zero, suc, List, [], ◌∷◌, ◌++◌, map, Bool, true, Option, Some, None, refl, sym, ap, ◌∙◌, subst, arith}
use Rattle.std.specs.Prelude.{◌&&◌, Contains, is_none}
use Rattle.std.specs.List.{list_all}
use Rattle.std.proofs.lemmas.Bool.{and_parts}
use Rattle.asn_tree.specs.declared.constraints.Constraint.{Constraint, Constraint-F, out-Constraint}
use Rattle.asn_tree.specs.declared.constraints.ElementOrSetOperation.{ElementOrSetOperation, ElementOrSetOperation-F, out-ElementOrSetOperation}
use Rattle.asn_tree.specs.declared.constraints.SubtypeElement.{SubtypeElement, SubtypeElement-F, out-SubtypeElement}
use Rattle.asn_tree.specs.declared.definitions.ToplevelDefinition.{ToplevelDefinition}
use Rattle.asn_tree.specs.declared.definitions.ToplevelDefinition.TheVariants.{TypeDef}
use Rattle.asn_tree.specs.declared.definitions.ToplevelTypeDefinition.{ToplevelTypeDefinition}
use Rattle.asn_tree.specs.declared.types.ASN1Type.{ASN1Type, ASN1Type-F, out-ASN1Type}
use Rattle.asn_tree.specs.declared.types.SequenceOrSet.{out-SequenceOrSet}
use Rattle.asn_tree.specs.declared.types.SequenceOrSetMember.{SequenceOrSetMember, out-SequenceOrSetMember}
use Rattle.asn_tree.specs.declared.values.ASN1Value.{ASN1Value, ASN1Value-F, out-ASN1Value}
use Rattle.asn_tree.specs.Folds.{constraint_is, constraint_read, element_is, element_read, member_is, member_read, set_is, set_read, struct_is, type_is, type_read, value_is, value_read}
use Rattle.asn_meaning.specs.Layers.{ValueLayer}
use Rattle.asn_meaning.specs.Written.{as_written, written_at}
use Rattle.asn_needs.specs.Basic.{are_basic, basic_at, basic_constraint, basic_element, basic_member, basic_set, basic_struct, has_no_names, is_basic, is_number, IsBasicDefinition}
use Rattle.asn_names_references.specs.References.{constraint_names, definition_names, each_name, element_names, followed_of, joined, member_names, name_in, names_in, names_in_constraint, names_in_element, names_in_member, names_in_set, names_in_value, naming, parameter_names, set_names, type_names, value_names, within}
use Rattle.asn_names_circles.specs.Circles.{FollowsNoCircle}
use Rattle.asn_names.specs.Definitions.{Definitions, last_named}
use Rattle.asn_names.specs.Layers.{ConstraintLayer, ElementLayer, SetLayer, StructLayer, TypeLayer}

none_of : (names : List (List ℕ)) → has_no_names names ≡ true → names ≡ []
none_of [] h = refl
none_of (x ∷ names) h = absurd cc

-- names of which none is wanted in itself
module _ (w : _) (unwanted : (names : List (List ℕ)) → each_name names w ≡ []) (nothing : each_name [] (within w) ≡ []) where
  -- ---- ranges of numbers

  number_none : (v : ASN1Value) → is_number (as_written v) ≡ true → names_in_value v w ≡ []
  number_none v h = ap (λ ns. ns w) (value_is naming v) ∙ go (out-ASN1Value v) h
    where
      go : (l : ValueLayer) → is_number (written_at l) ≡ true → value_names (value_read naming l) w ≡ []
      go (ASN1Value-F.ASN1Value::Integer i) h = refl
      go (ASN1Value-F.LinkedIntValue kind i) h = refl
      go _ h = absurd cc

  element_none : (e : SubtypeElement) → basic_element (out-SubtypeElement e) ≡ true → names_in_element e w ≡ []
  element_none e h = ap (λ ns. ns w) (element_is naming e) ∙ go (out-SubtypeElement e) h
    where
      go : (l : ElementLayer) → basic_element l ≡ true → element_names (element_read naming l) w ≡ []
      go (SubtypeElement-F.ValueRange None None low_open high_open extensible) h = refl
      go (SubtypeElement-F.ValueRange None (Some v) low_open high_open extensible) h = number_none v h
      go (SubtypeElement-F.ValueRange (Some u) None low_open high_open extensible) h = ap (λ ns. ns ++ []) (number_none u (and_parts (is_number (as_written u)) true h).0)
      go (SubtypeElement-F.ValueRange (Some u) (Some v) low_open high_open extensible) h =
          let b = and_parts (is_number (as_written u)) (is_number (as_written v)) h in
          ap (λ ns. ns ++ names_in_value v w) (number_none u b.0) ∙ number_none v b.1
      go _ h = absurd cc

  set_none : (s : ElementOrSetOperation) → basic_set (out-ElementOrSetOperation s) ≡ true → names_in_set s w ≡ []
  set_none s h = ap (λ ns. ns w) (set_is naming s) ∙ go (out-ElementOrSetOperation s) h
    where
      go : (l : SetLayer) → basic_set l ≡ true → set_names (set_read naming l) w ≡ []
      go (ElementOrSetOperation-F.Element e) h = element_none e h
      go (ElementOrSetOperation-F.SetOperation o) h = absurd cc

  constraint_none : (c : Constraint) → basic_constraint (out-Constraint c) ≡ true → names_in_constraint c w ≡ []
  constraint_none c h = ap (λ ns. ns w) (constraint_is naming c) ∙ go (out-Constraint c) h
    where
      go : (l : ConstraintLayer) → basic_constraint l ≡ true → constraint_names (constraint_read naming l) w ≡ []
      go (Constraint-F.SubtypeConstraint x) h = set_none x.set h
      go _ h = absurd cc

  constraints_none : (cs : List Constraint) → are_basic cs ≡ true → joined (map names_in_constraint cs) w ≡ []
  constraints_none [] h = refl
  constraints_none (c ∷ cs) h =
      let b = and_parts (basic_constraint (out-Constraint c)) (are_basic cs) h in
      ap (λ ns. ns ++ joined (map names_in_constraint cs) w) (constraint_none c b.0) ∙ constraints_none cs b.1

  -- ---- types

  -- the type follows no name
  abbrev FollowsNone : ASN1Type → Type 0
  FollowsNone ty = names_in ty w ≡ []

  -- this of all types of which a test holds
  abbrev Knows : (ASN1Type → Bool) → Type 0
  Knows f = (ty : ASN1Type) → f ty ≡ true → FollowsNone ty

  module _ (f : ASN1Type → Bool) (knows : Knows f) where
    member_none : (m : SequenceOrSetMember) → basic_member f (out-SequenceOrSetMember m) ≡ true → names_in_member m w ≡ []
    member_none m h =
        let l = out-SequenceOrSetMember m in
        let b = and_parts (f l.ty) (is_none l.default_value && are_basic l.constraints) h in
        let c = and_parts (is_none l.default_value) (are_basic l.constraints) b.1 in
        ap (λ ns. ns w) (member_is naming m)
        ∙ ap (λ o. member_names (member_read naming (record l { default_value = o })) w) (none_there l.default_value c.0)
        ∙ ap (λ ns. ns ++ joined (map names_in_constraint l.constraints) w ++ []) (knows l.ty b.0)
        ∙ ap (λ ns. ns ++ []) (constraints_none l.constraints c.1)
      where
        none_there : (o : Option ASN1Value) → is_none o ≡ true → o ≡ None
        none_there None n = refl
        none_there (Some v) n = absurd cc

    members_none : (ms : List SequenceOrSetMember) → list_all (λ m. basic_member f (out-SequenceOrSetMember m)) ms ≡ true → joined (map names_in_member ms) w ≡ []
    members_none [] h = refl
    members_none (m ∷ ms) h =
        let b = and_parts (basic_member f (out-SequenceOrSetMember m)) (list_all (λ m. basic_member f (out-SequenceOrSetMember m)) ms) h in
        ap (λ ns. ns ++ joined (map names_in_member ms) w) (member_none m b.0) ∙ members_none ms b.1

    struct_none : (s : StructLayer) → basic_struct f s ≡ true →
        joined (map names_in_member s.members) w ++ each_name s.components_of (within w) ++ joined (map names_in_constraint s.constraints) w ≡ []
    struct_none s h =
        let b = and_parts (has_no_names s.components_of) (list_all (λ m. basic_member f (out-SequenceOrSetMember m)) s.members && are_basic s.constraints) h in
        let c = and_parts (list_all (λ m. basic_member f (out-SequenceOrSetMember m)) s.members) (are_basic s.constraints) b.1 in
        ap (λ ns. ns ++ each_name s.components_of (within w) ++ joined (map names_in_constraint s.constraints) w) (members_none s.members c.0)
        ∙ ap (λ ns. each_name ns (within w) ++ joined (map names_in_constraint s.constraints) w) (none_of s.components_of b.0)
        ∙ ap (λ ns. ns ++ joined (map names_in_constraint s.constraints) w) nothing
        ∙ constraints_none s.constraints c.1

    name_none : (parent : Option (List ℕ)) → name_in parent w ≡ []
    name_none None = refl
    name_none (Some x) = unwanted (x ∷ [])

    level_none : (l : TypeLayer) → basic_at f l ≡ true → type_names (type_read naming l) w ≡ []
    level_none (ASN1Type-F.ASN1Type::Boolean t) h = constraints_none t.constraints h
    level_none (ASN1Type-F.ASN1Type::Integer t) h = constraints_none t.constraints h
    level_none (ASN1Type-F.Sequence s) h = ap (λ ns. ns w) (struct_is naming s) ∙ struct_none (out-SequenceOrSet s) h
    level_none (ASN1Type-F.ElsewhereDeclaredType r) h =
        let b = and_parts (is_none r.parent) (are_basic r.constraints) h in
        ap (λ ns. (ns ++ each_name (r.identifier ∷ []) w) ++ joined (map names_in_constraint r.constraints) w) (name_none r.parent)
        ∙ ap (λ ns. ns ++ joined (map names_in_constraint r.constraints) w) (unwanted (r.identifier ∷ []))
        ∙ constraints_none r.constraints b.1
    level_none _ h = absurd cc

  type_none : (n : ℕ) → Knows (is_basic n)
  type_none zero ty h = absurd cc
  type_none (suc n) ty h = ap (λ ns. ns w) (type_is naming ty) ∙ level_none (is_basic n) (type_none n) (out-ASN1Type ty) h

  names_none : (d : ToplevelTypeDefinition) → IsBasicDefinition (TypeDef d) → definition_names (TypeDef d) w ≡ []
  names_none d b = ap (λ p. parameter_names p w ++ names_in d.ty w) b.0 ∙ type_none b.1.0 d.ty b.1.1

definition_none : (d : ToplevelTypeDefinition) → IsBasicDefinition (TypeDef d) → followed_of (TypeDef d) ≡ []
unfolding followed_of
definition_none d b = names_none _ (λ names. refl) refl d b

-- so it leads to no circle by what it follows
pub basic_follows_none : (defs : Definitions) (name : List ℕ) (d : ToplevelTypeDefinition) → last_named defs name ≡ Some (TypeDef d) → IsBasicDefinition (TypeDef d) → FollowsNoCircle defs name
basic_follows_none defs name d is b e stands y c =
    let same : e ≡ TypeDef d = same_some e (TypeDef d) (sym stands ∙ is) in
    let none : followed_of e ≡ [] = ap followed_of same ∙ definition_none d b in
    absurd (none_there y (subst (λ ns. Contains ns y) none c))
  where
    same_some : (x y : ToplevelDefinition) → Some x ≡ Some y → x ≡ y
    same_some x y h = cc

    none_there : (y : List ℕ) → Contains [] y → ⊥
    none_there y c = absurd (omega (arith, c.1))
