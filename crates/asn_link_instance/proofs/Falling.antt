-- Types whose instances have no place for constraints: on each of their heads every constraint says yes.
use Rattle.std.proofs.Common.{Bool, List, None, Option, Some, [], ap, arith, false, inl, inr, refl, subst, suc, sym, true, zero, ℕ, ◌++◌, ◌+◌, ◌∙◌, ◌≡◌, ◌⊎◌}
use Rattle.std.specs.Prelude.{if◌then◌else◌}
use Rattle.asn_tree.specs.declared.constraints.Constraint.{Constraint}
use Rattle.asn_tree.specs.declared.types.ASN1Type.{ASN1Type, ASN1Type-F, out-ASN1Type, out-roll-ASN1Type, roll-ASN1Type}
use Rattle.asn_tree.specs.declared.types.Choice.{out-Choice}
use Rattle.asn_tree.specs.declared.types.SequenceOrSet.{out-SequenceOrSet}
use Rattle.asn_tree.specs.declared.types.SequenceOrSetOf.{out-SequenceOrSetOf}
use Rattle.asn_meaning.specs.Accepts.{place}
use Rattle.asn_meaning.specs.Answers.{Within, once}
use Rattle.asn_meaning.specs.Definitions.{Definitions}
use Rattle.asn_meaning.specs.Judge.{meaning, nothing_known, step}
use Rattle.asn_meaning.specs.Kinds.{kind_at}
use Rattle.asn_meaning.specs.Layers.{ClassFieldLayer, TypeLayer}
use Rattle.asn_meaning.specs.Meaning.{Meaning}
use Rattle.asn_meaning.specs.Names.{FieldType, Fixed, IsHead, IsLost, Lead, LeadsTo, Open, class_field_type, field_lead, head_from, lead, lead_at, leading, reference_target, selection_target}
use Rattle.asn_meaning.specs.Ranges.{is_free, is_free_kind}
use Rattle.asn_meaning.specs.Scopes.{Empty, Place, Scope, Target, bare}
use Rattle.asn_meaning.proofs.More.{Leads, More, lead_more}
use Rattle.asn_meaning.proofs.Steps.{more_known}
use Rattle.asn_calls.specs.Types.{with_constraints_at}
use Rattle.asn_link_instance.specs.Heads.{constraints_made}
use Rattle.asn_link_instance.specs.Instance.{constrained, extended, field_instance, followed_by, has_no_place, instance, list_instance, no_instance, of_options, replaced, stays, struct_instance, type_instance}
use Rattle.asn_link_instance.specs.Subjects.{Choices}
use Rattle.asn_link_instance.proofs.Forms.{own}
use Rattle.asn_link_instance.proofs.Holding.{Holds, once_holds, rolled, some_same}

-- ---- leads

-- what is known to lead on later is lost or leads on there now
pub leads_back : (a c : Lead) (x : Target) → Leads a c → c ≡ LeadsTo x → (a ≡ IsLost) ⊎ (a ≡ LeadsTo x)
leads_back IsLost c x p e = inl refl
leads_back IsHead c x p e = absurd cc
leads_back (LeadsTo y) c x p e = inr (sym p ∙ e)

pub leads_later : (a c : Lead) (x : Target) → Leads a c → a ≡ LeadsTo x → c ≡ LeadsTo x
leads_later a c x p e = subst (λ z. Leads z c) e p

-- ---- heads

pub step_heads : (defs : Definitions) (N : Meaning) (p : Place) → ((O : Meaning) → lead defs O p ≡ IsHead) → (step defs N).head p ≡ Some p
unfolding step
step_heads defs N p f = ap (head_from N p) (f N)

pub heads_within : (defs : Definitions) (n : ℕ) (p : Place) → ((O : Meaning) → lead defs O p ≡ IsHead) → Within ((meaning defs n).head p) (Some p)
unfolding meaning nothing_known
heads_within defs zero p f = tt
heads_within defs (suc n) p f = subst (λ z. Within z (Some p)) (sym (step_heads defs (meaning defs n) p f)) refl

no_head : (defs : Definitions) (p h : Place) → (meaning defs zero).head p ≡ Some h → ⊥
unfolding meaning nothing_known
no_head defs p h e = cc

head_by : (defs : Definitions) (n : ℕ) (p : Place) → (meaning defs (suc n)).head p ≡ head_from (meaning defs n) p (lead defs (meaning defs n) p)
unfolding meaning step
head_by defs n p = refl

-- on every head that is found every constraint says yes
abbrev pub FreeHeads : Definitions → Place → Type 0
FreeHeads defs p = (n : ℕ) (h : Place) → (meaning defs n).head p ≡ Some h → is_free h ≡ true

-- a place that is such a head
head_free : (defs : Definitions) (p : Place) → ((O : Meaning) → lead defs O p ≡ IsHead) → is_free p ≡ true → FreeHeads defs p
head_free defs p f e n h g = ap is_free (sym (same (subst (λ z. Within z (Some p)) g (heads_within defs n p f)))) ∙ e
  where
    same : Within (Some h) (Some p) → p ≡ h
    same w = some_same p h w

grown_later : (defs : Definitions) (m n : ℕ) → More (meaning defs n) (meaning defs (m + n))
grown_later defs m n = let e : n + m ≡ m + n = omega arith in subst (λ z. More (meaning defs n) (meaning defs z)) e (more_known defs n m)

-- a place that leads to one with such heads
pub leads_free : (defs : Definitions) (floor : ℕ) (p : Place) (x : Target) → lead defs (meaning defs floor) p ≡ LeadsTo x → FreeHeads defs x.place → FreeHeads defs p
leads_free defs floor p x e f zero h g = absurd (no_head defs p h g)
leads_free defs floor p x e f (suc m) h g =
    at (lead defs (meaning defs m) p)
    (leads_back (lead defs (meaning defs m) p) (lead defs (meaning defs (m + floor)) p) x (lead_more (meaning defs m) (meaning defs (m + floor)) (more_known defs m floor) defs p)
    (leads_later (lead defs (meaning defs floor) p) (lead defs (meaning defs (m + floor)) p) x (lead_more (meaning defs floor) (meaning defs (m + floor)) (grown_later defs m floor) defs p) e))
    (sym (head_by defs m p) ∙ g)
  where
    at : (a : Lead) → (a ≡ IsLost) ⊎ (a ≡ LeadsTo x) → head_from (meaning defs m) p a ≡ Some h → is_free h ≡ true
    at a (inl e) g = absurd (none (sym (ap (head_from (meaning defs m) p) e) ∙ g))
      where
        none : None ≡ Some h → ⊥
        none e = cc
    at a (inr e) g = f m h (sym (ap (head_from (meaning defs m) p) e) ∙ g)

-- ---- types

place_kept : (l : TypeLayer) (cs : List Constraint) → has_no_place l ≡ false → has_no_place (with_constraints_at l cs) ≡ false
place_kept ASN1Type-F.ASN1Type::Null cs e = e
place_kept ASN1Type-F.EmbeddedPdv cs e = e
place_kept ASN1Type-F.External cs e = e
place_kept _ cs e = refl

no_place_no : (l : TypeLayer) → has_no_place l ≡ false → has_no_place l ≡ true → ⊥
no_place_no l e f = both (has_no_place l) e f
  where
    both : (b : Bool) → b ≡ false → b ≡ true → ⊥
    both false e f = cc
    both true e f = cc

module _ (C : Choices) (defs : Definitions) (floor : ℕ) where
  pub no_type : (down : Bool) (scope : Scope) (ty uy : ASN1Type) → (instance C defs floor zero).of_type down scope ty ≡ Some uy → ⊥
  unfolding instance no_instance
  no_type down scope ty uy p = cc

  pub type_unfolds : (i : ℕ) (down : Bool) (scope : Scope) (ty : ASN1Type) →
      (instance C defs floor (suc i)).of_type down scope ty ≡ once None (type_instance C defs (meaning defs floor) (instance C defs floor i) down scope ty (out-ASN1Type ty)) (λ l. Some (roll-ASN1Type l))
  unfolding instance
  type_unfolds i down scope ty = refl

  -- a type whose instance has no place for constraints
  abbrev pub Falls : ℕ → Type 0
  Falls i = (down : Bool) (scope : Scope) (ty uy : ASN1Type) → (instance C defs floor i).of_type down scope ty ≡ Some uy → has_no_place (out-ASN1Type uy) ≡ true → FreeHeads defs (place scope ty)

  module _ (i : ℕ) (below : Falls i) (down : Bool) (scope : Scope) (ty : ASN1Type) where
    abbrev Free : TypeLayer → Type 0
    Free r = has_no_place r ≡ true → FreeHeads defs (place scope ty)

    -- a layer that keeps its place for constraints
    kept_free : (l : TypeLayer) → has_no_place l ≡ false → Holds (constrained C defs (meaning defs floor) (instance C defs floor i) scope ty l) Free
    kept_free l e = once_holds (constraints_made C defs floor i scope (place scope ty) (own l)) _ _ (λ cs f g. absurd (no_place_no (with_constraints_at l cs) (place_kept l cs e) g))

    -- one without such a place
    bare_free : (l : TypeLayer) → FreeHeads defs (place scope ty) → Holds (constrained C defs (meaning defs floor) (instance C defs floor i) scope ty l) Free
    bare_free l f = once_holds (constraints_made C defs floor i scope (place scope ty) (own l)) _ _ (λ cs e g. f)

    followed_free : (l : TypeLayer) (zs : List Constraint) → has_no_place l ≡ false → Holds (followed_by l zs) Free
    followed_free (ASN1Type-F.ChoiceSelectionType x) zs e = tt
    followed_free ASN1Type-F.ASN1Type::Null zs e = λ g. absurd (no_place_no ASN1Type-F.ASN1Type::Null e g)
    followed_free ASN1Type-F.EmbeddedPdv zs e = λ g. absurd (no_place_no ASN1Type-F.EmbeddedPdv e g)
    followed_free ASN1Type-F.External zs e = λ g. absurd (no_place_no ASN1Type-F.External e g)
    followed_free l zs e = λ g. absurd (no_place_no (with_constraints_at l (own l ++ zs)) (place_kept l (own l ++ zs) e) g)

    replaced_free : (beside : List Constraint) (target : Option Target) → lead defs (meaning defs floor) (place scope ty) ≡ leading target → Holds (replaced C defs (meaning defs floor) (instance C defs floor i) down scope ty beside target) Free
    replaced_free beside None e = tt
    replaced_free beside (Some x) e = once_holds ((instance C defs floor i).of_type down x.place.scope x.place.ty) _ _ (λ uy u. at uy u (has_no_place (out-ASN1Type uy)) refl)
      where
        at : (uy : ASN1Type) → (instance C defs floor i).of_type down x.place.scope x.place.ty ≡ Some uy → (c : Bool) → has_no_place (out-ASN1Type uy) ≡ c →
            Holds (extended C defs (meaning defs floor) (instance C defs floor i) scope ty beside x (out-ASN1Type uy) c) Free
        at uy u true f = λ g. leads_free defs floor (place scope ty) x e (below down x.place.scope x.place.ty uy u f)
        at uy u false f = once_holds (constraints_made C defs floor i x.place.scope x.place x.constraints) _ _ (λ es v. once_holds (constraints_made C defs floor i scope (place scope ty) beside) _ _ (λ ds w. followed_free (out-ASN1Type uy) (es ++ ds) f))

    module _ (l : TypeLayer) (is : out-ASN1Type ty ≡ l) where
      lead_is : (d : Lead) → lead_at defs (meaning defs floor) scope (kind_at l) ≡ d → lead defs (meaning defs floor) (place scope ty) ≡ d
      lead_is d e = ap (λ z. lead_at defs (meaning defs floor) scope (kind_at z)) is ∙ e

      own_head : ((N : Meaning) → lead_at defs N scope (kind_at l) ≡ IsHead) → is_free_kind (kind_at l) ≡ true → FreeHeads defs (place scope ty)
      own_head f e = head_free defs (place scope ty) (λ N. ap (λ z. lead_at defs N scope (kind_at z)) is ∙ f N) (ap (λ z. is_free_kind (kind_at z)) is ∙ e)

    field_free : (x : ClassFieldLayer) → out-ASN1Type ty ≡ ASN1Type-F.InformationObjectFieldReference x → (d : Option FieldType) → class_field_type defs scope x ≡ d →
        Holds (field_instance C defs (meaning defs floor) (instance C defs floor i) down scope ty x d) Free
    field_free x is None e = tt
    field_free x is (Some Open) e = at (C.keeps None x.class)
      where
        at : (c : Bool) → Holds (if c then constrained C defs (meaning defs floor) (instance C defs floor i) scope ty (ASN1Type-F.InformationObjectFieldReference x) else None) Free
        at false = tt
        at true = kept_free (ASN1Type-F.InformationObjectFieldReference x) refl
    field_free x is (Some (Fixed uy)) e = replaced_free x.constraints (Some (bare Empty uy)) (lead_is (ASN1Type-F.InformationObjectFieldReference x) is (LeadsTo (bare Empty uy)) (ap field_lead e))

    type_free : (l : TypeLayer) → out-ASN1Type ty ≡ l → Holds (type_instance C defs (meaning defs floor) (instance C defs floor i) down scope ty l) Free
    type_free (ASN1Type-F.ElsewhereDeclaredType x) is = at (stays C down scope x)
      where
        at : (c : Bool) → Holds (if c then constrained C defs (meaning defs floor) (instance C defs floor i) scope ty (ASN1Type-F.ElsewhereDeclaredType x) else replaced C defs (meaning defs floor) (instance C defs floor i) down scope ty x.constraints (reference_target defs scope x)) Free
        at true = kept_free (ASN1Type-F.ElsewhereDeclaredType x) refl
        at false = replaced_free x.constraints (reference_target defs scope x) (lead_is (ASN1Type-F.ElsewhereDeclaredType x) is (leading (reference_target defs scope x)) refl)
    type_free (ASN1Type-F.ChoiceSelectionType x) is =
        replaced_free [] (selection_target (meaning defs floor) scope x) (lead_is (ASN1Type-F.ChoiceSelectionType x) is (leading (selection_target (meaning defs floor) scope x)) refl)
    type_free (ASN1Type-F.InformationObjectFieldReference x) is = field_free x is (class_field_type defs scope x) refl
    type_free (ASN1Type-F.ASN1Type::Choice x) is =
        once_holds (of_options C defs (meaning defs floor) (instance C defs floor i) scope (out-Choice x).options) _ _ (λ os u. once_holds (constraints_made C defs floor i scope (place scope ty) (out-Choice x).constraints) _ _ (λ cs e g. absurd cc))
    type_free (ASN1Type-F.Sequence x) is = once_holds (struct_instance C defs (meaning defs floor) (instance C defs floor i) scope ty (out-SequenceOrSet x)) _ _ (λ y u g. absurd cc)
    type_free (ASN1Type-F.Set x) is = once_holds (struct_instance C defs (meaning defs floor) (instance C defs floor i) scope ty (out-SequenceOrSet x)) _ _ (λ y u g. absurd cc)
    type_free (ASN1Type-F.SequenceOf x) is = once_holds (list_instance C defs (meaning defs floor) (instance C defs floor i) scope ty (out-SequenceOrSetOf x)) _ _ (λ y u g. absurd cc)
    type_free (ASN1Type-F.SetOf x) is = once_holds (list_instance C defs (meaning defs floor) (instance C defs floor i) scope ty (out-SequenceOrSetOf x)) _ _ (λ y u g. absurd cc)
    type_free ASN1Type-F.ASN1Type::Null is = bare_free ASN1Type-F.ASN1Type::Null (own_head ASN1Type-F.ASN1Type::Null is (λ N. refl) refl)
    type_free ASN1Type-F.EmbeddedPdv is = bare_free ASN1Type-F.EmbeddedPdv (own_head ASN1Type-F.EmbeddedPdv is (λ N. refl) refl)
    type_free ASN1Type-F.External is = bare_free ASN1Type-F.External (own_head ASN1Type-F.External is (λ N. refl) refl)
    type_free l is = kept_free l refl

  pub falls : (i : ℕ) → Falls i
  falls zero down scope ty uy e f = absurd (no_type down scope ty uy e)
  falls (suc i) down scope ty uy e f =
      rolled roll-ASN1Type out-ASN1Type out-roll-ASN1Type _ (Free i (falls i) down scope ty) uy (type_free i (falls i) down scope ty (out-ASN1Type ty) refl) (sym (type_unfolds i down scope ty) ∙ e) f
