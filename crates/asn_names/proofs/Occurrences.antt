-- The names that occur in a type of basic form, by the type's outermost form.
use Rattle.std.proofs.Common.{◌≡◌, ℕ, zero, suc, List, [], ◌∷◌, ◌++◌, append-nil, map, Bool, true, false, refl, ap, ◌∙◌}
use Rattle.std.proofs.Common.{Option, Some, None, Bor}
use Rattle.std.specs.Option.{option_copied}
use Rattle.std.specs.Prelude.{◌&&◌, is_some, is_none, not}
use Rattle.std.specs.List.{list_all}
use Rattle.std.proofs.lemmas.Bool.{and_parts}
use Rattle.asn_tree.specs.declared.constraints.Constraint.{Constraint, Constraint-F, out-Constraint}
use Rattle.asn_tree.specs.declared.constraints.ElementOrSetOperation.{ElementOrSetOperation, ElementOrSetOperation-F, out-ElementOrSetOperation}
use Rattle.asn_tree.specs.declared.constraints.SubtypeElement.{SubtypeElement, SubtypeElement-F, out-SubtypeElement}
use Rattle.asn_tree.specs.declared.definitions.ToplevelDefinition.{ToplevelDefinition}
use Rattle.asn_tree.specs.declared.definitions.ToplevelDefinition.TheVariants.{TypeDef, Value, Information}
use Rattle.asn_tree.specs.declared.definitions.ToplevelTypeDefinition.{ToplevelTypeDefinition}
use Rattle.asn_tree.specs.declared.types.ASN1Type.{ASN1Type, ASN1Type-F, out-ASN1Type}
use Rattle.asn_tree.specs.declared.types.SequenceOrSet.{out-SequenceOrSet}
use Rattle.asn_tree.specs.declared.types.SequenceOrSetMember.{SequenceOrSetMember, out-SequenceOrSetMember}
use Rattle.asn_tree.specs.Folds.{constraint_is, constraint_read, element_is, element_read, member_is, set_is, set_read, struct_is, type_is, type_read}
use Rattle.asn_needs.specs.Basic.{are_basic, basic_at, basic_constraint, basic_element, basic_member, basic_set, basic_struct, has_no_names, is_basic}
use Rattle.asn_names.specs.Definitions.{type_of}
use Rattle.asn_names.specs.Layers.{ConstraintLayer, ElementLayer, SetLayer, StructLayer, TypeLayer}
use Rattle.asn_meaning_unchanged.specs.References.{Names, constraint_names, element_names, joined, names_in, names_in_constraint, names_in_element, names_in_member, names_in_set, names_of, naming, own_name, set_names, type_names}

-- the names in the types of members
abbrev pub members_names : List SequenceOrSetMember → Names
members_names ms = joined (map (λ m. names_in (out-SequenceOrSetMember m).ty) ms)

-- the names in one level of a type of basic form
abbrev pub level_names : TypeLayer → Names
level_names (ASN1Type-F.Sequence s) = members_names (out-SequenceOrSet s).members
level_names (ASN1Type-F.ElsewhereDeclaredType r) = r.identifier ∷ []
level_names _ = []

-- ---- ranges of numbers hold none

element_none : (e : SubtypeElement) → basic_element (out-SubtypeElement e) ≡ true → names_in_element e ≡ []
element_none e h = element_is naming e ∙ go (out-SubtypeElement e) h
  where
    go : (l : ElementLayer) → basic_element l ≡ true → element_names (element_read naming l) ≡ []
    go (SubtypeElement-F.ValueRange low high low_open high_open extensible) h = refl
    go (SubtypeElement-F.SingleValue v extensible) h = refl
    go _ h = absurd cc

set_none : (s : ElementOrSetOperation) → basic_set (out-ElementOrSetOperation s) ≡ true → names_in_set s ≡ []
set_none s h = set_is naming s ∙ go (out-ElementOrSetOperation s) h
  where
    go : (l : SetLayer) → basic_set l ≡ true → set_names (set_read naming l) ≡ []
    go (ElementOrSetOperation-F.Element e) h = element_none e h
    go (ElementOrSetOperation-F.SetOperation o) h = absurd cc

constraint_none : (c : Constraint) → basic_constraint (out-Constraint c) ≡ true → names_in_constraint c ≡ []
constraint_none c h = constraint_is naming c ∙ go (out-Constraint c) h
  where
    go : (l : ConstraintLayer) → basic_constraint l ≡ true → constraint_names (constraint_read naming l) ≡ []
    go (Constraint-F.SubtypeConstraint x) h = set_none x.set h
    go (Constraint-F.TableConstraint x) h = refl
    go (Constraint-F.Parameter x) h = absurd cc
    go (Constraint-F.ContentConstraint x) h = absurd cc

constraints_none : (cs : List Constraint) → are_basic cs ≡ true → joined (map names_in_constraint cs) ≡ []
constraints_none [] h = refl
constraints_none (c ∷ cs) h =
    let b = and_parts (basic_constraint (out-Constraint c)) (are_basic cs) h in
    ap (λ ns. ns ++ joined (map names_in_constraint cs)) (constraint_none c b.0) ∙ constraints_none cs b.1

-- ---- types

member_names_are : (f : ASN1Type → Bool) (m : SequenceOrSetMember) → basic_member f (out-SequenceOrSetMember m) ≡ true → names_in_member m ≡ names_in (out-SequenceOrSetMember m).ty
member_names_are f m h =
    let l = out-SequenceOrSetMember m in
    let b = and_parts (f l.ty) (is_none l.default_value && are_basic l.constraints) h in
    let cs = constraints_none l.constraints (and_parts (is_none l.default_value) (are_basic l.constraints) b.1).1 in
    member_is naming m ∙ ap (λ ns. names_in l.ty ++ ns) cs ∙ append-nil (names_in l.ty)

members_are : (f : ASN1Type → Bool) (ms : List SequenceOrSetMember) → list_all (λ m. basic_member f (out-SequenceOrSetMember m)) ms ≡ true → joined (map names_in_member ms) ≡ members_names ms
members_are f [] h = refl
members_are f (m ∷ ms) h =
    let b = and_parts (basic_member f (out-SequenceOrSetMember m)) (list_all (λ m. basic_member f (out-SequenceOrSetMember m)) ms) h in
    ap (λ ns. ns ++ joined (map names_in_member ms)) (member_names_are f m b.0)
    ∙ ap (λ ns. names_in (out-SequenceOrSetMember m).ty ++ ns) (members_are f ms b.1)

no_components : (names : Names) → has_no_names names ≡ true → names ≡ []
no_components [] h = refl
no_components (name ∷ names) h = absurd cc

struct_names_are : (f : ASN1Type → Bool) (s : StructLayer) → basic_struct f s ≡ true → joined (map names_in_member s.members) ++ s.components_of ++ joined (map names_in_constraint s.constraints) ≡ members_names s.members
struct_names_are f s h =
    let b = and_parts (has_no_names s.components_of) (list_all (λ m. basic_member f (out-SequenceOrSetMember m)) s.members && are_basic s.constraints) h in
    let c = and_parts (list_all (λ m. basic_member f (out-SequenceOrSetMember m)) s.members) (are_basic s.constraints) b.1 in
    ap (λ ns. joined (map names_in_member s.members) ++ ns ++ joined (map names_in_constraint s.constraints)) (no_components s.components_of b.0)
    ∙ ap (λ ns. joined (map names_in_member s.members) ++ [] ++ ns) (constraints_none s.constraints c.1)
    ∙ append-nil (joined (map names_in_member s.members) ++ [])
    ∙ append-nil (joined (map names_in_member s.members))
    ∙ members_are f s.members c.0

own_is : (parent : Option (List ℕ)) (name : List ℕ) → is_none parent ≡ true → own_name parent name ≡ name ∷ []
own_is None name h = refl
own_is (Some x) name h = absurd cc

level_is : (f : ASN1Type → Bool) (l : TypeLayer) → basic_at f l ≡ true → type_names (type_read naming l) ≡ level_names l
level_is f (ASN1Type-F.ASN1Type::Boolean t) h = constraints_none t.constraints h
level_is f (ASN1Type-F.ASN1Type::Integer t) h = constraints_none t.constraints h
level_is f (ASN1Type-F.Sequence s) h = struct_is naming s ∙ struct_names_are f (out-SequenceOrSet s) h
level_is f (ASN1Type-F.ElsewhereDeclaredType r) h =
    let b = and_parts (is_none r.parent) (are_basic r.constraints) h in
    ap (λ ns. own_name r.parent r.identifier ++ ns) (constraints_none r.constraints b.1)
    ∙ append-nil (own_name r.parent r.identifier)
    ∙ own_is r.parent r.identifier b.0
level_is f _ h = absurd cc

pub names_is : (n : ℕ) (t : ASN1Type) → is_basic n t ≡ true → names_in t ≡ level_names (out-ASN1Type t)
names_is zero t h = absurd cc
names_is (suc n) t h = type_is naming t ∙ level_is (is_basic n) (out-ASN1Type t) h

-- a definition's names are its type's
pub names_are : (d : ToplevelDefinition) (ty : ASN1Type) → type_of d ≡ Some ty → names_of d ≡ names_in ty
unfolding names_of
names_are (TypeDef d) ty e = let same : d.ty ≡ ty = cc in ap names_in same
names_are (Value d) ty e = absurd cc
names_are (Information d) ty e = absurd cc

pub type_names_are : (d : ToplevelTypeDefinition) → names_of (TypeDef d) ≡ names_in d.ty
unfolding names_of
type_names_are d = refl

pub none_copied : {A : Type 0} (o : Option (Bor A)) (b : Bool) → is_some o ≡ not b → b ≡ is_none (option_copied o)
none_copied None true e = refl
none_copied None false e = absurd cc
none_copied (Some x) true e = absurd cc
none_copied (Some x) false e = refl
