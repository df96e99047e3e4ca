-- Instances of types are plain.
use Rattle.std.proofs.Common.{Bool, List, None, Option, Some, [], ap, arith, false, inl, inr, refl, subst, suc, sym, true, zero, ℕ, ◌++◌, ◌+◌, ◌∙◌, ◌∷◌, ◌≡◌}
use Rattle.std.specs.List.{list_all}
use Rattle.asn_tree.specs.declared.constraints.Constraint.{Constraint}
use Rattle.asn_tree.specs.declared.types.ASN1Type.{ASN1Type, ASN1Type-F, out-ASN1Type}
use Rattle.asn_tree.specs.declared.types.Choice.{out-Choice, out-roll-Choice}
use Rattle.asn_tree.specs.declared.types.ChoiceOption.{ChoiceOption, out-ChoiceOption}
use Rattle.asn_tree.specs.declared.types.SequenceOrSet.{out-SequenceOrSet, out-roll-SequenceOrSet}
use Rattle.asn_tree.specs.declared.types.SequenceOrSetMember.{SequenceOrSetMember, out-SequenceOrSetMember}
use Rattle.asn_tree.specs.declared.types.SequenceOrSetOf.{out-SequenceOrSetOf, out-roll-SequenceOrSetOf}
use Rattle.asn_meaning.specs.Accepts.{place}
use Rattle.asn_meaning.specs.Definitions.{Definitions}
use Rattle.asn_meaning.specs.Judge.{meaning, nothing_known}
use Rattle.asn_meaning.specs.Kinds.{ChoiceKind, FieldKind, Kind, ListKind, ReferenceKind, SelectionKind, StructKind, kind_at, kind_of_type}
use Rattle.asn_meaning.specs.Layers.{MemberLayer, OptionLayer, TypeLayer}
use Rattle.asn_meaning.specs.Meaning.{Meaning, Member}
use Rattle.asn_meaning.specs.Names.{FieldType, Fixed, IsHead, Open, class_field_type, field_lead, lead_at, lists_in}
use Rattle.asn_meaning.specs.Plain.{IsPlain, Plainness, constraints_plain, is_open_field, is_plain_name, member_plain, option_plain, parts_plain, plainness, struct_plain}
use Rattle.asn_meaning.specs.Scopes.{Empty, Place, Scope}
use Rattle.asn_calls.specs.Types.{with_constraints_at}
use Rattle.asn_link_instance.specs.Heads.{Before, KeepsValues, KindForm, MadeMembers, MadeOptions, constraints_made}
use Rattle.asn_link_instance.specs.Instance.{instance, member_instance, option_instance, placed_tag}
use Rattle.asn_link_instance.specs.Linked.{SameOrLinked}
use Rattle.asn_link_instance.specs.Plain.{Eventually, WritesPlain}
use Rattle.asn_link_instance.specs.Subjects.{Choices, perhaps}
use Rattle.asn_link_instance.proofs.Below.{fewer}
use Rattle.asn_link_instance.proofs.Eventually.{always, and_true, joined, mapped}
use Rattle.asn_link_instance.proofs.Falling.{no_type}
use Rattle.asn_link_instance.proofs.Forms.{Beside, Owns, lists_append, own, own_fallen, same_beside}
use Rattle.asn_link_instance.proofs.Holding.{Holds, once_holds, result_holds}
use Rattle.asn_link_instance.proofs.KeptConstraints.{unlisted}
use Rattle.asn_link_instance.proofs.KeptSets.{no_element, no_set}
use Rattle.asn_link_instance.proofs.KeptTypes.{Fallen, Made, Replaced, Stayed, View, viewed}
use Rattle.asn_link_instance.proofs.PlainElements.{element_next, set_next}
use Rattle.asn_link_instance.proofs.PlainParts.{PlacedPlain, PlainLevel, PlainType, TypePlain, constraints_placed, constraints_stand, placed_before, placed_joined, type_stands}

-- ---- parts do not change with constraints

parts_with : (defs : Definitions) (M : Meaning) (P : Plainness) (l : TypeLayer) (cs : List Constraint) → parts_plain defs M P (kind_at (with_constraints_at l cs)) ≡ parts_plain defs M P (kind_at l)
parts_with defs M P (ASN1Type-F.ASN1Type::Choice x) cs = ap (λ z. list_all (λ o. option_plain M P (out-ChoiceOption o)) z.options) (out-roll-Choice (record (out-Choice x) { constraints = cs }))
parts_with defs M P (ASN1Type-F.Sequence x) cs = ap (λ z. struct_plain M P z) (out-roll-SequenceOrSet (record (out-SequenceOrSet x) { constraints = cs }))
parts_with defs M P (ASN1Type-F.Set x) cs = ap (λ z. struct_plain M P z) (out-roll-SequenceOrSet (record (out-SequenceOrSet x) { constraints = cs }))
parts_with defs M P (ASN1Type-F.SequenceOf x) cs = ap (λ z. P.of_type z.element_type) (out-roll-SequenceOrSetOf (record (out-SequenceOrSetOf x) { constraints = cs }))
parts_with defs M P (ASN1Type-F.SetOf x) cs = ap (λ z. P.of_type z.element_type) (out-roll-SequenceOrSetOf (record (out-SequenceOrSetOf x) { constraints = cs }))
parts_with defs M P _ cs = refl

parts_beside : (defs : Definitions) (M : Meaning) (P : Plainness) (l r : TypeLayer) → Beside l r → parts_plain defs M P (kind_at r) ≡ parts_plain defs M P (kind_at l)
parts_beside defs M P l r (cs, e, f) = ap (λ z. parts_plain defs M P (kind_at z)) e ∙ parts_with defs M P l cs

name_with : (l : TypeLayer) (cs : List Constraint) → is_plain_name (kind_at (with_constraints_at l cs)) ≡ is_plain_name (kind_at l)
name_with (ASN1Type-F.ElsewhereDeclaredType x) cs = refl
name_with _ cs = refl

name_beside : (l r : TypeLayer) → Beside l r → is_plain_name (kind_at r) ≡ is_plain_name (kind_at l)
name_beside l r (cs, e, f) = ap (λ z. is_plain_name (kind_at z)) e ∙ name_with l cs

open_head : (d : Option FieldType) → field_lead d ≡ IsHead → is_open_field d ≡ true
open_head None e = refl
open_head (Some Open) e = refl
open_head (Some (Fixed ty)) e = absurd cc

module _ (C : Choices) (defs others : Definitions) (k : ℕ) (linked : SameOrLinked C defs others (suc k)) (values : KeepsValues C defs others (suc k)) (writes : WritesPlain C defs others (suc k)) where
  abbrev Placed : Place → List Constraint → Type 0
  Placed p cs = PlacedPlain C defs others k linked values p cs

  module _ (floor i : ℕ) (before : Before C defs (suc k) (floor + i)) (below : PlainLevel C defs others k linked values floor i) where
    -- ---- parts of heads

    placed : (scope : Scope) (p : Place) (cs ds : List Constraint) → constraints_made C defs floor i scope p cs ≡ Some ds → Placed p ds
    placed scope p cs ds e = result_holds (constraints_made C defs floor i scope p cs) (λ ds. Placed p ds) ds (constraints_placed C defs others k linked values floor i below scope p cs) e

    -- a type at a place of the instance, and its place's constraints
    part_type : (scope : Scope) (ty uy : ASN1Type) → (instance C defs floor i).of_type false scope ty ≡ Some uy → TypePlain C defs others k linked values uy
    part_type scope ty uy e = type_stands C defs others k linked values false scope ty uy (inr (refl, (false, (floor, i, before, e)))) (below.of_type false scope ty uy e)

    part_constraints : (scope : Scope) (ty uy : ASN1Type) (cs ds : List Constraint) → (instance C defs floor i).of_type false scope ty ≡ Some uy → constraints_made C defs floor i scope (place scope ty) cs ≡ Some ds →
        Eventually (λ m. constraints_plain (meaning others m) (plainness others m) (place Empty uy) ds ≡ true)
    part_constraints scope ty uy cs ds e f = constraints_stand C defs others k linked values (place scope ty) (place Empty uy) ds (inr (refl, (false, (floor, i, before, e)))) (placed scope (place scope ty) cs ds f)

    member_made : (scope : Scope) (x : MemberLayer) → Holds (member_instance C defs (meaning defs floor) (instance C defs floor i) scope x) (λ w. Eventually (λ m. member_plain (meaning others m) (plainness others m) w ≡ true))
    member_made scope x =
        once_holds ((instance C defs floor i).of_type false scope x.ty) _ _ (λ ty e. once_holds (constraints_made C defs floor i scope (place scope x.ty) x.constraints) _ _ (λ cs f.
        once_holds (perhaps (λ v. C.default (meaning defs floor) scope v (place scope x.ty)) x.default_value) _ _ (λ d g.
        once_holds (placed_tag C defs (meaning defs floor) (instance C defs floor i) scope x.tag x.ty) _ _ (λ tag h.
        joined (λ m a b. and_true ((plainness others m).of_type ty) (constraints_plain (meaning others m) (plainness others m) (place Empty ty) cs) a b) (part_type scope x.ty ty e) (part_constraints scope x.ty ty x.constraints cs e f)))))

    members_made : (marker : Option ℕ) (number : ℕ) (ms : List Member) (ws : List SequenceOrSetMember) → MadeMembers C defs floor i marker number ms ws → Eventually (λ m. list_all (λ w. member_plain (meaning others m) (plainness others m) (out-SequenceOrSetMember w)) ws ≡ true)
    members_made marker number [] [] p = always (λ m. refl)
    members_made marker number [] (w ∷ ws) p = absurd p
    members_made marker number (m ∷ ms) [] p = absurd p
    members_made marker number (x ∷ ms) (w ∷ ws) (a, e, p) =
        joined (λ m u v. and_true (member_plain (meaning others m) (plainness others m) (out-SequenceOrSetMember w)) (list_all (λ w. member_plain (meaning others m) (plainness others m) (out-SequenceOrSetMember w)) ws) u v)
        (result_holds (member_instance C defs (meaning defs floor) (instance C defs floor i) x.scope x.written) (λ w. Eventually (λ m. member_plain (meaning others m) (plainness others m) w ≡ true)) (out-SequenceOrSetMember w) (member_made x.scope x.written) e)
        (members_made marker (suc number) ms ws p)

    option_made : (scope : Scope) (x : OptionLayer) → Holds (option_instance C defs (meaning defs floor) (instance C defs floor i) scope x) (λ w. Eventually (λ m. option_plain (meaning others m) (plainness others m) w ≡ true))
    option_made scope x =
        once_holds ((instance C defs floor i).of_type false scope x.ty) _ _ (λ ty e. once_holds (constraints_made C defs floor i scope (place scope x.ty) x.constraints) _ _ (λ cs f.
        once_holds (placed_tag C defs (meaning defs floor) (instance C defs floor i) scope x.tag x.ty) _ _ (λ tag h.
        joined (λ m a b. and_true ((plainness others m).of_type ty) (constraints_plain (meaning others m) (plainness others m) (place Empty ty) cs) a b) (part_type scope x.ty ty e) (part_constraints scope x.ty ty x.constraints cs e f))))

    options_made : (scope : Scope) (os ps : List ChoiceOption) → MadeOptions C defs floor i scope os ps → Eventually (λ m. list_all (λ o. option_plain (meaning others m) (plainness others m) (out-ChoiceOption o)) ps ≡ true)
    options_made scope [] [] m = always (λ m. refl)
    options_made scope [] (p ∷ ps) m = absurd m
    options_made scope (o ∷ os) [] m = absurd m
    options_made scope (o ∷ os) (p ∷ ps) (e, r) =
        joined (λ m u v. and_true (option_plain (meaning others m) (plainness others m) (out-ChoiceOption p)) (list_all (λ o. option_plain (meaning others m) (plainness others m) (out-ChoiceOption o)) ps) u v)
        (result_holds (option_instance C defs (meaning defs floor) (instance C defs floor i) scope (out-ChoiceOption o)) (λ w. Eventually (λ m. option_plain (meaning others m) (plainness others m) w ≡ true)) (out-ChoiceOption p) (option_made scope (out-ChoiceOption o)) e)
        (options_made scope os ps r)

    abbrev PartsPlain : Kind → Type 0
    PartsPlain c = Eventually (λ m. parts_plain others (meaning others m) (plainness others m) c ≡ true)

    parts_form : (scope : Scope) (a c : Kind) → KindForm C defs floor i scope a c → ((N : Meaning) → lead_at others N Empty c ≡ IsHead) → PartsPlain c
    parts_form scope (StructKind x) c (y, e, (none, (ms, f, p))) h = subst (λ z. PartsPlain z) (sym e)
        (mapped (λ m u. ap (λ z. elim z [ [] ↦ list_all (λ w. member_plain (meaning others m) (plainness others m) (out-SequenceOrSetMember w)) y.members | name ∷ names ↦ false ]) none ∙ u) (members_made y.extensible 0 ms y.members p))
    parts_form scope (ListKind ty) c (uy, e, p) h = subst (λ z. PartsPlain z) (sym e) (part_type scope ty uy p)
    parts_form scope (ChoiceKind os) c (ps, e, p) h = subst (λ z. PartsPlain z) (sym e) (options_made scope os ps p)
    parts_form scope (FieldKind x) c (y, e) h =
        let u : field_lead (class_field_type others Empty y) ≡ IsHead = subst (λ z. lead_at others nothing_known Empty z ≡ IsHead) e (h nothing_known) in
        subst (λ z. PartsPlain z) (sym e) (always (λ m. open_head (class_field_type others Empty y) u))
    parts_form scope (ReferenceKind x) c p h = absurd p
    parts_form scope (SelectionKind x) c p h = absurd p
    parts_form scope _ c e h = subst (λ z. PartsPlain z) (sym e) (always (λ m. refl))

    name_form : (scope : Scope) (a c : Kind) → KindForm C defs floor i scope a c → is_plain_name c ≡ false
    name_form scope (StructKind x) c (y, e, p) = ap is_plain_name e
    name_form scope (ListKind ty) c (uy, e, p) = ap is_plain_name e
    name_form scope (ChoiceKind os) c (ps, e, p) = ap is_plain_name e
    name_form scope (FieldKind x) c (y, e) = ap is_plain_name e
    name_form scope (ReferenceKind x) c p = absurd p
    name_form scope (SelectionKind x) c p = absurd p
    name_form scope _ c e = ap is_plain_name e

    -- ---- types

    owned : (p : Place) (r : TypeLayer) (ds : List Constraint) → Owns r ds → Placed p ds → Placed p (own r)
    owned p r ds (inl e) q = subst (λ z. Placed p z) (sym e) q
    owned p r ds (inr (free, heads, none)) q = inl none

    view_plain : (down : Bool) (scope : Scope) (ty uy : ASN1Type) → View C defs others (suc k) floor i down scope ty (out-ASN1Type ty) (out-ASN1Type uy) → PlainType C defs others k linked values down scope ty uy
    view_plain down scope ty uy (Made f g form ds e o) = record {
      parts = parts_form scope (kind_of_type ty) (kind_of_type uy) form g;
      own_plain = owned (place scope ty) (out-ASN1Type uy) ds o (placed scope (place scope ty) (own (out-ASN1Type ty)) ds e);
      unnamed = λ d. name_form scope (kind_of_type ty) (kind_of_type uy) form;
    }
    view_plain down scope ty uy (Stayed y is asked d c both f g ds e o) = record {
      parts = subst (λ z. PartsPlain z) (sym is) (always (λ m. refl));
      own_plain = owned (place scope ty) (out-ASN1Type uy) ds o (placed scope (place scope ty) (own (out-ASN1Type ty)) ds e);
      unnamed = λ d. ap is_plain_name is ∙ asked d;
    }
    view_plain down scope ty uy (Replaced x l vy u es v ds w fw) =
        let r = below.of_type down x.place.scope x.place.ty vy u in
        let e : lists_in es ≡ [] = result_holds (constraints_made C defs floor i x.place.scope x.place x.constraints) (λ ds. lists_in ds ≡ []) es (unlisted C defs floor i x.place.scope x.place x.constraints) v in
        let f : lists_in ds ≡ [] = result_holds (constraints_made C defs floor i scope (place scope ty) (own (out-ASN1Type ty))) (λ ds. lists_in ds ≡ []) ds (unlisted C defs floor i scope (place scope ty) (own (out-ASN1Type ty))) w in
        let s = fw.beside (lists_append es ds f ∙ e) in
        record {
          parts = mapped (λ m u. parts_beside others (meaning others m) (plainness others m) (out-ASN1Type vy) (out-ASN1Type uy) s ∙ u) r.parts;
          own_plain = owned (place scope ty) (out-ASN1Type uy) (own (out-ASN1Type vy) ++ (es ++ ds)) fw.owns
              (placed_joined C defs others k linked values (place scope ty) (own (out-ASN1Type vy)) (es ++ ds)
              (placed_before C defs others k linked values floor (place scope ty) x (own (out-ASN1Type vy)) l r.own_plain)
              (placed_joined C defs others k linked values (place scope ty) es ds
              (placed_before C defs others k linked values floor (place scope ty) x es l (placed x.place.scope x.place x.constraints es v))
              (placed scope (place scope ty) (own (out-ASN1Type ty)) ds w)));
          unnamed = λ d. name_beside (out-ASN1Type vy) (out-ASN1Type uy) s ∙ r.unnamed d;
        }
    view_plain down scope ty uy (Fallen x l vy u e same) =
        let r = below.of_type down x.place.scope x.place.ty vy u in
        let s : Beside (out-ASN1Type vy) (out-ASN1Type uy) = subst (λ z. Beside (out-ASN1Type vy) z) (sym same) (same_beside (out-ASN1Type vy)) in
        record {
          parts = mapped (λ m u. parts_beside others (meaning others m) (plainness others m) (out-ASN1Type vy) (out-ASN1Type uy) s ∙ u) r.parts;
          own_plain = inl (ap own same ∙ own_fallen (out-ASN1Type vy) e);
          unnamed = λ d. name_beside (out-ASN1Type vy) (out-ASN1Type uy) s ∙ r.unnamed d;
        }

    level_next : PlainLevel C defs others k linked values floor (suc i)
    level_next = record {
      of_type = λ down scope ty uy e. view_plain down scope ty uy (viewed C defs others (suc k) linked floor i down scope ty uy e);
      of_set = λ scope s x y e q put stands. set_next C defs others k linked values writes floor i before below scope s x y e q put stands;
      of_element = λ scope s e f u q put stands. element_next C defs others k linked values writes floor i before below scope s e f u q put stands;
    }

  level : (floor i : ℕ) → Before C defs (suc k) (floor + i) → PlainLevel C defs others k linked values floor i
  level floor zero before = record {
    of_type = λ down scope ty uy e. absurd (no_type C defs floor down scope ty uy e);
    of_set = λ scope s x y e q put stands. absurd (no_set C defs floor scope s x y e);
    of_element = λ scope s e f u q put stands. absurd (no_element C defs floor scope s e f u);
  }
  level floor (suc i) before = let less = fewer C defs (suc k) floor i before in level_next floor i less (level floor i less)

pub instances_are_plain : (C : Choices) (defs others : Definitions) (n k : ℕ) → SameOrLinked C defs others (suc (n + k)) → KeepsValues C defs others (suc (n + k)) → WritesPlain C defs others (suc (n + k)) →
    (down : Bool) (scope : Scope) (ty uy : ASN1Type) → (instance C defs n k).of_type down scope ty ≡ Some uy → IsPlain others uy
instances_are_plain C defs others n k linked values writes down scope ty uy e =
    let f : n + k + suc zero ≡ suc (n + k) = omega arith in
    let p = type_stands C defs others (n + k) linked values down scope ty uy (inr (refl, (down, (n, k, (zero, f), e)))) ((level C defs others (n + k) linked values writes n k (zero, f)).of_type down scope ty uy e) in
    (p.steps + zero, p.stays zero)
