-- Types are kept: what a type is, and what its instance is, one step further.
use Rattle.std.proofs.Common.{Bool, List, None, Option, Some, [], ap, false, inl, inr, not, refl, subst, suc, sym, true, ℕ, ◌&&◌, ◌++◌, ◌∙◌, ◌∷◌, ◌≡◌, ◌⊎◌}
use Rattle.std.specs.Prelude.{if◌then◌else◌, is_none, is_some}
use Rattle.asn_tree.specs.declared.constraints.Constraint.{Constraint}
use Rattle.asn_tree.specs.declared.definitions.Parameterization.{Parameterization}
use Rattle.asn_tree.specs.declared.definitions.ToplevelTypeDefinition.{ToplevelTypeDefinition}
use Rattle.asn_tree.specs.declared.objects.InformationObjectField.{out-InformationObjectField}
use Rattle.asn_tree.specs.declared.types.ASN1Type.{ASN1Type, ASN1Type-F, out-ASN1Type, out-roll-ASN1Type, roll-ASN1Type}
use Rattle.asn_tree.specs.declared.types.Choice.{out-Choice, out-roll-Choice}
use Rattle.asn_tree.specs.declared.types.ChoiceOption.{ChoiceOption, out-ChoiceOption, out-roll-ChoiceOption, roll-ChoiceOption}
use Rattle.asn_tree.specs.declared.types.SequenceOrSet.{out-SequenceOrSet, out-roll-SequenceOrSet}
use Rattle.asn_tree.specs.declared.types.SequenceOrSetMember.{out-roll-SequenceOrSetMember, roll-SequenceOrSetMember}
use Rattle.asn_tree.specs.declared.types.SequenceOrSetOf.{out-SequenceOrSetOf, out-roll-SequenceOrSetOf}
use Rattle.asn_meaning.specs.Accepts.{place}
use Rattle.asn_meaning.specs.Answers.{Unknown, Within, both, once}
use Rattle.asn_meaning.specs.Constraints.{all_hold}
use Rattle.asn_meaning.specs.Definitions.{Definitions, object_named, type_named}
use Rattle.asn_meaning.specs.Judge.{meaning, stands_for}
use Rattle.asn_meaning.specs.Kinds.{ChoiceKind, ListKind, ReferenceKind, StructKind, kind_at}
use Rattle.asn_meaning.specs.Layers.{ClassFieldLayer, ListLayer, ReferenceLayer, StructLayer, TypeLayer}
use Rattle.asn_meaning.specs.Meaning.{Meaning, Member}
use Rattle.asn_meaning.specs.Members.{is_addition_at}
use Rattle.asn_meaning.specs.Names.{FieldType, Fixed, IsHead, LeadsTo, Open, class_field_type, field_lead, field_target, lead, lead_at, leading, lists_in, marked, name_target, reference_of, reference_target, selection_target, type_of_field}
use Rattle.asn_meaning.specs.Objects.{given}
use Rattle.asn_meaning.specs.Ranges.{is_free, is_free_kind, narrowed_by_all, numbers_before}
use Rattle.asn_meaning.specs.Scopes.{Empty, Place, Scope, Target, bare, bound_to}
use Rattle.asn_meaning.specs.ValueTrees.{ValueTree, same_truth}
use Rattle.asn_calls.specs.Types.{with_constraints_at}
use Rattle.asn_link_instance.specs.Heads.{KindForm, MadeMembers, MadeOptions, MadeStruct, constraints_made}
use Rattle.asn_link_instance.specs.Instance.{constrained, extended, field_instance, followed_by, has_no_place, instance, is_empty, list_instance, member_instance, of_members, of_options, option_instance, replaced, risen, stays, stays_at, struct_instance, type_instance}
use Rattle.asn_link_instance.specs.Linked.{LinkedTarget, SameOrLinked, plain_target}
use Rattle.asn_link_instance.specs.Subjects.{Choices}
use Rattle.asn_link_instance.specs.Ways.{Way}
use Rattle.asn_link_instance.proofs.Below.{Below, accepts_upto, numbers_upto}
use Rattle.asn_link_instance.proofs.Falling.{type_unfolds}
use Rattle.asn_link_instance.proofs.Forms.{Beside, Followed, Owns, blind_beside, followed, free_blind, lead_beside, own}
use Rattle.asn_link_instance.proofs.Holding.{Holds, once_holds, rolled, then_holds, weaker}
use Rattle.asn_link_instance.proofs.KeptConstraints.{free_all, free_numbers, unlisted}
use Rattle.asn_meaning.specs.Names as names

none_some : {A : Type 0} (a : Option A) → is_none a ≡ true → is_some a ≡ false
none_some None e = refl
none_some (Some x) e = absurd cc

none_is : {A : Type 0} (a : Option A) → is_none a ≡ true → a ≡ None
none_is None e = refl
none_is (Some x) e = absurd cc

empty_is : {A : Type 0} (a : List A) → is_empty a ≡ true → a ≡ []
empty_is [] e = refl
empty_is (x ∷ xs) e = absurd cc

and_first : (a c : Bool) → (a && c) ≡ true → a ≡ true
and_first true c e = refl
and_first false c e = absurd cc

and_second : (a c : Bool) → (a && c) ≡ true → c ≡ true
and_second true c e = e
and_second false c e = absurd cc

-- a name without an argument list leads to the same place from every scope
unlisted_same : (s u : Scope) (d : Option ToplevelTypeDefinition) → once None d (λ d. names.instance s d d.parameterization []) ≡ once None d (λ d. names.instance u d d.parameterization [])
unlisted_same s u None = refl
unlisted_same s u (Some d) = at d.parameterization
  where
    at : (p : Option Parameterization) → names.instance s d p [] ≡ names.instance u d p []
    at None = refl
    at (Some template) = refl

-- a name that stays means in the empty scope what it means here
stays_same : (C : Choices) (defs : Definitions) (down : Bool) (scope : Scope) (x : ReferenceLayer) (ds : List Constraint) → lists_in ds ≡ [] → (o : Option (List ℕ)) → stays_at C down scope x o ≡ true → reference_of defs Empty (record x { constraints = ds }) o ≡ reference_of defs scope x o
stays_same C defs down scope x ds e (Some o) f =
    ap (λ z. once None (if z then None else once None (object_named defs o) (λ ob. given defs ob (marked x.identifier))) (λ g. type_of_field (out-InformationObjectField g))) (sym (none_some (bound_to scope o) (and_second (C.keeps (Some o) x.identifier) _ f)))
stays_same C defs down scope x ds e None f =
    let g = and_second (not down) _ (and_second (C.keeps None x.identifier) _ f) in
    let bound : bound_to scope x.identifier ≡ None = none_is _ (and_first _ _ g) in
    let lists : lists_in x.constraints ≡ [] = empty_is _ (and_second (is_none (bound_to scope x.identifier)) _ g) in
    ap (λ z. name_target defs Empty x.identifier z None) e ∙ unlisted_same Empty scope (type_named defs x.identifier)
    ∙ ap (λ z. name_target defs scope x.identifier [] z) (sym bound) ∙ ap (λ z. name_target defs scope x.identifier z (bound_to scope x.identifier)) (sym lists)

no_truth : false ≡ true → ⊥
no_truth e = cc

-- where heads are asked for no plain name stays
stays_down : (C : Choices) (down : Bool) (scope : Scope) (x : ReferenceLayer) (o : Option (List ℕ)) → stays_at C down scope x o ≡ true → down ≡ true → is_none o ≡ false
stays_down C down scope x (Some o) e f = refl
stays_down C true scope x None e f = absurd (no_truth (and_second (C.keeps None x.identifier) false e))
stays_down C false scope x None e f = absurd (no_truth f)

-- an open type is open in the empty scope
open_again : (defs : Definitions) (scope : Scope) (x : ClassFieldLayer) → class_field_type defs scope x ≡ Some Open → class_field_type defs Empty x ≡ Some Open
open_again defs scope x e = at (is_some (bound_to scope x.class)) e
  where
    at : (c : Bool) → (if c then None else class_field_type defs Empty x) ≡ Some Open → class_field_type defs Empty x ≡ Some Open
    at true e = absurd cc
    at false e = e

module _ (C : Choices) (defs others : Definitions) (j : ℕ) where
  -- where a name that stays leads on both sides
  abbrev pub BothLed : Option Target → Option Target → Type 0
  BothLed d c = ((others ≡ defs) × (c ≡ d)) ⊎ LinkedTarget C defs others j d c

  -- ---- what an instance is

  -- a type by its layer, and the layer of its instance
  pub data View (floor i : ℕ) (down : Bool) (scope : Scope) (ty : ASN1Type) (l r : TypeLayer) : Type 0 where
    -- a head, whose parts and constraints are made
    Made : ((N : Meaning) → lead_at defs N scope (kind_at l) ≡ IsHead) → ((N : Meaning) → lead_at others N Empty (kind_at r) ≡ IsHead) → KindForm C defs floor i scope (kind_at l) (kind_at r) →
        (ds : List Constraint) → constraints_made C defs floor i scope (place scope ty) (own l) ≡ Some ds → Owns r ds → View floor i down scope ty l r
    -- a name that stays, behind an object's where heads are asked for
    Stayed : (y : ReferenceLayer) → kind_at r ≡ ReferenceKind y → (down ≡ true → is_none y.parent ≡ false) → (d c : Option Target) → BothLed d c → ((N : Meaning) → lead_at defs N scope (kind_at l) ≡ leading d) → ((N : Meaning) → lead_at others N Empty (kind_at r) ≡ leading c) →
        (ds : List Constraint) → constraints_made C defs floor i scope (place scope ty) (own l) ≡ Some ds → Owns r ds → View floor i down scope ty l r
    -- a name that what it leads to takes the place of
    Replaced : (x : Target) → lead_at defs (meaning defs floor) scope (kind_at l) ≡ LeadsTo x → (uy : ASN1Type) → (instance C defs floor i).of_type down x.place.scope x.place.ty ≡ Some uy →
        (es : List Constraint) → constraints_made C defs floor i x.place.scope x.place x.constraints ≡ Some es → (ds : List Constraint) → constraints_made C defs floor i scope (place scope ty) (own l) ≡ Some ds →
        Followed (out-ASN1Type uy) (es ++ ds) r → View floor i down scope ty l r
    -- one where this has no place for constraints
    Fallen : (x : Target) → lead_at defs (meaning defs floor) scope (kind_at l) ≡ LeadsTo x → (uy : ASN1Type) → (instance C defs floor i).of_type down x.place.scope x.place.ty ≡ Some uy →
        has_no_place (out-ASN1Type uy) ≡ true → r ≡ out-ASN1Type uy → View floor i down scope ty l r

  module _ (linked : SameOrLinked C defs others j) (floor i : ℕ) (down : Bool) (scope : Scope) (ty : ASN1Type) where
    -- a head without parts
    plain_view : (l : TypeLayer) → ((N : Meaning) → lead_at defs N scope (kind_at l) ≡ IsHead) → ((cs : List Constraint) (N : Meaning) → lead_at others N Empty (kind_at (with_constraints_at l cs)) ≡ IsHead) →
        ((cs : List Constraint) → KindForm C defs floor i scope (kind_at l) (kind_at (with_constraints_at l cs))) → ((cs : List Constraint) → Owns (with_constraints_at l cs) cs) →
        Holds (constrained C defs (meaning defs floor) (instance C defs floor i) scope ty l) (View floor i down scope ty l)
    plain_view l f g h o = once_holds (constraints_made C defs floor i scope (place scope ty) (own l)) _ _ (λ ds e. Made f (g ds) (h ds) ds e (o ds))

    made_options : (os : List ChoiceOption) → Holds (of_options C defs (meaning defs floor) (instance C defs floor i) scope os) (MadeOptions C defs floor i scope os)
    made_options [] = tt
    made_options (o ∷ os) =
        then_holds (once None (option_instance C defs (meaning defs floor) (instance C defs floor i) scope (out-ChoiceOption o)) (λ x. Some (roll-ChoiceOption x))) _ (λ p. option_instance C defs (meaning defs floor) (instance C defs floor i) scope (out-ChoiceOption o) ≡ Some (out-ChoiceOption p)) _
        (once_holds (option_instance C defs (meaning defs floor) (instance C defs floor i) scope (out-ChoiceOption o)) _ _ (λ x e. e ∙ ap Some (sym (out-roll-ChoiceOption x)))) (λ p u e.
        then_holds (of_options C defs (meaning defs floor) (instance C defs floor i) scope os) _ (MadeOptions C defs floor i scope os) _ (made_options os) (λ ps v m. (e, m)))

    made_members : (marker : Option ℕ) (number : ℕ) (ms : List Member) → Holds (of_members C defs (meaning defs floor) (instance C defs floor i) marker number ms) (MadeMembers C defs floor i marker number ms)
    made_members marker number [] = tt
    made_members marker number (m ∷ ms) = at (same_truth m.is_addition (is_addition_at marker number)) refl (made_members marker (suc number) ms)
      where
        at : (c : Bool) → same_truth m.is_addition (is_addition_at marker number) ≡ c → Holds (of_members C defs (meaning defs floor) (instance C defs floor i) marker (suc number) ms) (MadeMembers C defs floor i marker (suc number) ms) →
            Holds (if c then once None (member_instance C defs (meaning defs floor) (instance C defs floor i) m.scope m.written) (λ w. once None (of_members C defs (meaning defs floor) (instance C defs floor i) marker (suc number) ms) (λ ws. Some (roll-SequenceOrSetMember w ∷ ws))) else None)
            (MadeMembers C defs floor i marker number (m ∷ ms))
        at false e h = tt
        at true e h = once_holds (member_instance C defs (meaning defs floor) (instance C defs floor i) m.scope m.written) _ _ (λ w u.
            then_holds (of_members C defs (meaning defs floor) (instance C defs floor i) marker (suc number) ms) _ (MadeMembers C defs floor i marker (suc number) ms) _ h (λ ws v p.
            (e, u ∙ ap Some (sym (out-roll-SequenceOrSetMember w)), p)))

    record StructView (x y : StructLayer) : Type 0 where
      made : MadeStruct C defs floor i scope x y
      constraints : constraints_made C defs floor i scope (place scope ty) x.constraints ≡ Some y.constraints

    struct_view : (x : StructLayer) → Holds (struct_instance C defs (meaning defs floor) (instance C defs floor i) scope ty x) (StructView x)
    struct_view x = once_holds ((meaning defs floor).members scope x) _ _ (λ ms e.
        then_holds (of_members C defs (meaning defs floor) (instance C defs floor i) (risen C defs (meaning defs floor) (instance C defs floor i) x ms) 0 ms) _ (MadeMembers C defs floor i (risen C defs (meaning defs floor) (instance C defs floor i) x ms) 0 ms) _ (made_members _ 0 ms) (λ ws u p.
        once_holds (constraints_made C defs floor i scope (place scope ty) x.constraints) _ _ (λ cs f. record { made = (refl, (ms, e, p)); constraints = f })))

    record ListView (x y : ListLayer) : Type 0 where
      made : (instance C defs floor i).of_type false scope x.element_type ≡ Some y.element_type
      constraints : constraints_made C defs floor i scope (place scope ty) x.constraints ≡ Some y.constraints

    list_view : (x : ListLayer) → Holds (list_instance C defs (meaning defs floor) (instance C defs floor i) scope ty x) (ListView x)
    list_view x = once_holds ((instance C defs floor i).of_type false scope x.element_type) _ _ (λ e u. once_holds (constraints_made C defs floor i scope (place scope ty) x.constraints) _ _ (λ cs f. record { made = u; constraints = f }))

    replaced_view : (l : TypeLayer) (d : Option Target) → lead_at defs (meaning defs floor) scope (kind_at l) ≡ leading d → Holds (replaced C defs (meaning defs floor) (instance C defs floor i) down scope ty (own l) d) (View floor i down scope ty l)
    replaced_view l None e = tt
    replaced_view l (Some x) e =
        once_holds ((instance C defs floor i).of_type down x.place.scope x.place.ty) _ _ (λ uy u. at uy u (has_no_place (out-ASN1Type uy)) refl)
      where
        at : (uy : ASN1Type) → (instance C defs floor i).of_type down x.place.scope x.place.ty ≡ Some uy → (c : Bool) → has_no_place (out-ASN1Type uy) ≡ c →
            Holds (extended C defs (meaning defs floor) (instance C defs floor i) scope ty (own l) x (out-ASN1Type uy) c) (View floor i down scope ty l)
        at uy u true f = Fallen x e uy u f refl
        at uy u false f = once_holds (constraints_made C defs floor i x.place.scope x.place x.constraints) _ _ (λ es v. once_holds (constraints_made C defs floor i scope (place scope ty) (own l)) _ _ (λ ds w.
            weaker (followed_by (out-ASN1Type uy) (es ++ ds)) (Followed (out-ASN1Type uy) (es ++ ds)) _ (followed (out-ASN1Type uy) (es ++ ds)) (λ r g. Replaced x e uy u es v ds w g)))

    -- a name that stays leads to the same, or to the instance
    both_led : (linked : SameOrLinked C defs others j) (x : ReferenceLayer) (ds : List Constraint) → lists_in ds ≡ [] → (o : Option (List ℕ)) → stays_at C down scope x o ≡ true →
        BothLed (reference_of defs scope x o) (reference_of others Empty (record x { constraints = ds }) o)
    both_led (inl same) x ds e o f = inl (same, ap (λ z. reference_of z Empty (record x { constraints = ds }) o) same ∙ stays_same C defs down scope x ds e o f)
    both_led (inr l) x ds e None f =
        inr (subst (λ z. LinkedTarget C defs others j z (reference_of others Empty (record x { constraints = ds }) None)) (sym (ap (λ z. name_target defs Empty x.identifier z None) e) ∙ stays_same C defs down scope x ds e None f)
        (subst (λ z. LinkedTarget C defs others j (plain_target defs x.identifier) z) (sym (ap (λ z. name_target others Empty x.identifier z None) e)) (l.types x.identifier (and_first (C.keeps None x.identifier) _ f))))
    both_led (inr l) x ds e (Some object) f =
        inr (subst (λ z. LinkedTarget C defs others j z (field_target others Empty object x.identifier)) (stays_same C defs down scope x ds e (Some object) f) (l.fields object x.identifier (and_first (C.keeps (Some object) x.identifier) _ f)))

    opens : (linked : SameOrLinked C defs others j) (x : ClassFieldLayer) → C.keeps None x.class ≡ true → class_field_type defs Empty x ≡ Some Open → class_field_type others Empty x ≡ Some Open
    opens (inl same) x k e = ap (λ z. class_field_type z Empty x) same ∙ e
    opens (inr l) x k e = l.opens x k e

    reference_view : (x : ReferenceLayer) (c : Bool) → stays C down scope x ≡ c →
        Holds (if c then constrained C defs (meaning defs floor) (instance C defs floor i) scope ty (ASN1Type-F.ElsewhereDeclaredType x) else replaced C defs (meaning defs floor) (instance C defs floor i) down scope ty x.constraints (reference_target defs scope x)) (View floor i down scope ty (ASN1Type-F.ElsewhereDeclaredType x))
    reference_view x true e = then_holds (constraints_made C defs floor i scope (place scope ty) x.constraints) _ (λ ds. lists_in ds ≡ []) _ (unlisted C defs floor i scope (place scope ty) x.constraints) (λ ds u f.
        Stayed (record x { constraints = ds }) refl (stays_down C down scope x x.parent e) (reference_target defs scope x) (reference_target others Empty (record x { constraints = ds })) (both_led linked x ds f x.parent e) (λ N. refl) (λ N. refl) ds u (inl refl))
    reference_view x false e = replaced_view (ASN1Type-F.ElsewhereDeclaredType x) (reference_target defs scope x) refl

    field_view : (x : ClassFieldLayer) (d : Option FieldType) → class_field_type defs scope x ≡ d → Holds (field_instance C defs (meaning defs floor) (instance C defs floor i) down scope ty x d) (View floor i down scope ty (ASN1Type-F.InformationObjectFieldReference x))
    field_view x None e = tt
    field_view x (Some Open) e = at (C.keeps None x.class) refl
      where
        at : (c : Bool) → C.keeps None x.class ≡ c → Holds (if c then constrained C defs (meaning defs floor) (instance C defs floor i) scope ty (ASN1Type-F.InformationObjectFieldReference x) else None) (View floor i down scope ty (ASN1Type-F.InformationObjectFieldReference x))
        at false k = tt
        at true k =
            let f = opens linked x k (open_again defs scope x e) in
            plain_view (ASN1Type-F.InformationObjectFieldReference x) (λ N. ap field_lead e) (λ cs N. ap field_lead f) (λ cs. (record x { constraints = cs }, refl)) (λ cs. inl refl)
    field_view x (Some (Fixed uy)) e = replaced_view (ASN1Type-F.InformationObjectFieldReference x) (Some (bare Empty uy)) (ap field_lead e)

    pub view : (l : TypeLayer) → Holds (type_instance C defs (meaning defs floor) (instance C defs floor i) down scope ty l) (View floor i down scope ty l)
    view (ASN1Type-F.ElsewhereDeclaredType x) = reference_view x (stays C down scope x) refl
    view (ASN1Type-F.ChoiceSelectionType x) = replaced_view (ASN1Type-F.ChoiceSelectionType x) (selection_target (meaning defs floor) scope x) refl
    view (ASN1Type-F.InformationObjectFieldReference x) = field_view x (class_field_type defs scope x) refl
    view (ASN1Type-F.ASN1Type::Choice x) =
        then_holds (of_options C defs (meaning defs floor) (instance C defs floor i) scope (out-Choice x).options) _ (MadeOptions C defs floor i scope (out-Choice x).options) _ (made_options (out-Choice x).options) (λ os u m.
        once_holds (constraints_made C defs floor i scope (place scope ty) (out-Choice x).constraints) _ _ (λ cs e.
        let y = record (out-Choice x) { options = os; constraints = cs } in
        Made (λ N. refl) (λ N. refl) (os, ap (λ z. ChoiceKind z.options) (out-roll-Choice y), m) cs e (inl (ap (λ z. z.constraints) (out-roll-Choice y)))))
    view (ASN1Type-F.Sequence x) = then_holds (struct_instance C defs (meaning defs floor) (instance C defs floor i) scope ty (out-SequenceOrSet x)) _ (StructView (out-SequenceOrSet x)) _ (struct_view (out-SequenceOrSet x)) (λ y u v.
        Made (λ N. refl) (λ N. refl) (y, ap StructKind (out-roll-SequenceOrSet y), v.made) y.constraints v.constraints (inl (ap (λ z. z.constraints) (out-roll-SequenceOrSet y))))
    view (ASN1Type-F.Set x) = then_holds (struct_instance C defs (meaning defs floor) (instance C defs floor i) scope ty (out-SequenceOrSet x)) _ (StructView (out-SequenceOrSet x)) _ (struct_view (out-SequenceOrSet x)) (λ y u v.
        Made (λ N. refl) (λ N. refl) (y, ap StructKind (out-roll-SequenceOrSet y), v.made) y.constraints v.constraints (inl (ap (λ z. z.constraints) (out-roll-SequenceOrSet y))))
    view (ASN1Type-F.SequenceOf x) = then_holds (list_instance C defs (meaning defs floor) (instance C defs floor i) scope ty (out-SequenceOrSetOf x)) _ (ListView (out-SequenceOrSetOf x)) _ (list_view (out-SequenceOrSetOf x)) (λ y u v.
        Made (λ N. refl) (λ N. refl) (y.element_type, ap (λ z. ListKind z.element_type) (out-roll-SequenceOrSetOf y), v.made) y.constraints v.constraints (inl (ap (λ z. z.constraints) (out-roll-SequenceOrSetOf y))))
    view (ASN1Type-F.SetOf x) = then_holds (list_instance C defs (meaning defs floor) (instance C defs floor i) scope ty (out-SequenceOrSetOf x)) _ (ListView (out-SequenceOrSetOf x)) _ (list_view (out-SequenceOrSetOf x)) (λ y u v.
        Made (λ N. refl) (λ N. refl) (y.element_type, ap (λ z. ListKind z.element_type) (out-roll-SequenceOrSetOf y), v.made) y.constraints v.constraints (inl (ap (λ z. z.constraints) (out-roll-SequenceOrSetOf y))))
    view ASN1Type-F.ASN1Type::Null = plain_view ASN1Type-F.ASN1Type::Null (λ N. refl) (λ cs N. refl) (λ cs. refl) (λ cs. inr (refl, (λ defs M scope. refl), refl))
    view ASN1Type-F.EmbeddedPdv = plain_view ASN1Type-F.EmbeddedPdv (λ N. refl) (λ cs N. refl) (λ cs. refl) (λ cs. inr (refl, (λ defs M scope. refl), refl))
    view ASN1Type-F.External = plain_view ASN1Type-F.External (λ N. refl) (λ cs N. refl) (λ cs. refl) (λ cs. inr (refl, (λ defs M scope. refl), refl))
    view l = plain_view l (λ N. refl) (λ cs N. refl) (λ cs. refl) (λ cs. inl refl)

  -- ---- one step

  pub viewed : SameOrLinked C defs others j → (floor i : ℕ) (down : Bool) (scope : Scope) (ty uy : ASN1Type) → (instance C defs floor (suc i)).of_type down scope ty ≡ Some uy → View floor i down scope ty (out-ASN1Type ty) (out-ASN1Type uy)
  viewed linked floor i down scope ty uy e = rolled roll-ASN1Type out-ASN1Type out-roll-ASN1Type _ (View floor i down scope ty (out-ASN1Type ty)) uy (view linked floor i down scope ty (out-ASN1Type ty)) (sym (type_unfolds C defs floor i down scope ty) ∙ e)

-- ---- constraints that a layer owns, or that nobody asks

none_or : (a : Option Place) (p : Place) → Within a (Some p) → (a ≡ None) ⊎ (a ≡ Some p)
none_or None p w = inl refl
none_or (Some q) p w = inr (sym w)

module _ (C : Choices) (defs others : Definitions) (j : ℕ) (way : Way) (M L : Meaning) (b : Below C defs others j way M L) where
  module _ (r : TypeLayer) (ry : ASN1Type) (s : Beside r (out-ASN1Type ry)) (free : is_free_kind (kind_at r) ≡ true) (heads : (defs : Definitions) (N : Meaning) (scope : Scope) → lead_at defs N scope (kind_at r) ≡ IsHead) where
    abbrev q : Place
    q = place Empty ry

    is : is_free q ≡ true
    is = blind_beside is_free_kind free_blind (λ x y. refl) r (out-ASN1Type ry) s ∙ free

    found : (L.head q ≡ None) ⊎ (L.head q ≡ Some q)
    found = none_or (L.head q) q (b.heads_own q (λ N. lead_beside others N Empty r (out-ASN1Type ry) s ∙ heads others N Empty))

    free_accepts : (t : ValueTree) (zs ws : List Constraint) (d : (L.head q ≡ None) ⊎ (L.head q ≡ Some q)) → accepts_upto others L q zs t ≡ accepts_upto others L q ws t
    free_accepts t zs ws (inl e) =
        ap (λ z. both (stands_for L t q (lead others L q)) (once Unknown z (λ k. all_hold L Empty k (numbers_before others L q) zs t))) e
        ∙ sym (ap (λ z. both (stands_for L t q (lead others L q)) (once Unknown z (λ k. all_hold L Empty k (numbers_before others L q) ws t))) e)
    free_accepts t zs ws (inr e) =
        ap (λ z. both (stands_for L t q (lead others L q)) (once Unknown z (λ k. all_hold L Empty k (numbers_before others L q) zs t))) e
        ∙ ap (both (stands_for L t q (lead others L q))) (free_all L Empty q (numbers_before others L q) zs t is ∙ sym (free_all L Empty q (numbers_before others L q) ws t is))
        ∙ sym (ap (λ z. both (stands_for L t q (lead others L q)) (once Unknown z (λ k. all_hold L Empty k (numbers_before others L q) ws t))) e)

    free_leaves : (zs ws : List Constraint) (d : (L.head q ≡ None) ⊎ (L.head q ≡ Some q)) → numbers_upto others L q zs ≡ numbers_upto others L q ws
    free_leaves zs ws (inl e) =
        ap (λ z. once None z (λ k. narrowed_by_all L Empty k (numbers_before others L q) zs)) e ∙ sym (ap (λ z. once None z (λ k. narrowed_by_all L Empty k (numbers_before others L q) ws)) e)
    free_leaves zs ws (inr e) =
        ap (λ z. once None z (λ k. narrowed_by_all L Empty k (numbers_before others L q) zs)) e
        ∙ free_numbers L Empty q (numbers_before others L q) zs is ∙ sym (free_numbers L Empty q (numbers_before others L q) ws is)
        ∙ sym (ap (λ z. once None z (λ k. narrowed_by_all L Empty k (numbers_before others L q) ws)) e)

  -- where lists differ that are a layer's own or that nobody asks
  pub upto_lists : (r : TypeLayer) (ry : ASN1Type) (cs ds : List Constraint) (t : ValueTree) → Beside r (out-ASN1Type ry) → Owns r cs → accepts_upto others L (place Empty ry) (cs ++ ds) t ≡ accepts_upto others L (place Empty ry) (own r ++ ds) t
  upto_lists r ry cs ds t s (inl e) = ap (λ z. accepts_upto others L (place Empty ry) (z ++ ds) t) (sym e)
  upto_lists r ry cs ds t s (inr (free, heads, none)) = free_accepts r ry s free heads t (cs ++ ds) (own r ++ ds) (found r ry s free heads)

  pub numbers_lists : (r : TypeLayer) (ry : ASN1Type) (cs ds : List Constraint) → Beside r (out-ASN1Type ry) → Owns r cs → numbers_upto others L (place Empty ry) (cs ++ ds) ≡ numbers_upto others L (place Empty ry) (own r ++ ds)
  numbers_lists r ry cs ds s (inl e) = ap (λ z. numbers_upto others L (place Empty ry) (z ++ ds)) (sym e)
  numbers_lists r ry cs ds s (inr (free, heads, none)) = free_leaves r ry s free heads (cs ++ ds) (own r ++ ds) (found r ry s free heads)
