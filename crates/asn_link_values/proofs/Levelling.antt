-- The tag that a type brings, level by level.
use Rattle.std.proofs.Common.{◌≡◌, ℕ, suc, ◌-◌, ◌<◌, List, Bool, true, false, if◌then◌else◌, Option, Some, None, refl, sym, ap, ◌∙◌, arith}
use Rattle.asn_tree_headers.specs.declared.headers.AsnTag.{AsnTag}
use Rattle.asn_tree.specs.declared.types.ASN1Type.{ASN1Type, ASN1Type-F, out-ASN1Type}
use Rattle.asn_link_instance.specs.Instance.{Instances, first_tag, instance, no_instance, stays, tag_instance}
use Rattle.asn_meaning.specs.Answers.{once}
use Rattle.asn_meaning.specs.Definitions.{Definitions}
use Rattle.asn_meaning.specs.Judge.{meaning}
use Rattle.asn_meaning.specs.Kinds.{kind_at, kind_of}
use Rattle.asn_meaning.specs.Layers.{OptionLayer, TypeLayer}
use Rattle.asn_meaning.specs.Meaning.{Meaning}
use Rattle.asn_meaning.specs.Names.{head_named, option_named, options_of, reference_target}
use Rattle.asn_meaning.specs.Scopes.{Place, Scope, Target}
use Rattle.asn_meaning.specs.Shapes.{option_place}
use Rattle.asn_meaning_heads.specs.Leads.{option_target}
use Rattle.asn_link_values.specs.Choosing.{chosen, instances}
use Rattle.asn_link_values.specs.inner.Bringing.{Brought, Told, AsPlace, brings, definition_tag, head_brings, option_brings, target_brings, told}

-- ---- one name on

at_target : (defs : Definitions) (M : Meaning) (I : Instances) (own : Option AsnTag) (target : Option Target) →
    once None target (λ x. first_tag chosen defs M I own (I.of_tag x.place.scope x.place.ty)) ≡ told I (target_brings target own)
at_target defs M I own None = refl
at_target defs M I None (Some x) = refl
at_target defs M I (Some tag) (Some x) = refl

at_reference : (defs : Definitions) (M : Meaning) (I : Instances) (own : Option AsnTag) (target : Option Target) (b : Bool) →
    (if b then Some None else once None target (λ x. first_tag chosen defs M I own (I.of_tag x.place.scope x.place.ty)))
    ≡ told I (if b then Told (Some None) else target_brings target own)
at_reference defs M I own target true = refl
at_reference defs M I own target false = at_target defs M I own target

at_tag : (defs : Definitions) (M : Meaning) (I : Instances) (p : Place) (own : Option AsnTag) →
    first_tag chosen defs M I own (I.of_tag p.scope p.ty) ≡ told I (once (AsPlace p) own (λ tag. Told (Some (Some tag))))
at_tag defs M I p None = refl
at_tag defs M I p (Some tag) = refl

at_option : (defs : Definitions) (M : Meaning) (I : Instances) (scope : Scope) (o : Option OptionLayer) →
    once None (once None o (option_target scope)) (λ x. first_tag chosen defs M I (once None o (λ o. o.tag)) (I.of_tag x.place.scope x.place.ty)) ≡ told I (option_brings scope o)
at_option defs M I scope None = refl
at_option defs M I scope (Some o) = at_tag defs M I (option_place scope o) o.tag

at_head : (defs : Definitions) (M : Meaning) (I : Instances) (name : List ℕ) (h : Option Place) →
    once None (once None h (λ h. once None (option_named (options_of h) name) (option_target h.scope)))
    (λ x. first_tag chosen defs M I (once None h (λ h. once None (option_named (options_of h) name) (λ o. o.tag))) (I.of_tag x.place.scope x.place.ty))
    ≡ told I (head_brings name h)
at_head defs M I name None = refl
at_head defs M I name (Some h) = at_option defs M I h.scope (option_named (options_of h) name)

by_kind : (defs : Definitions) (M : Meaning) (I : Instances) (scope : Scope) (l : TypeLayer) → tag_instance chosen defs M I scope l ≡ told I (brings defs M scope (kind_at l))
by_kind defs M I scope (ASN1Type-F.ElsewhereDeclaredType x) =
    at_reference defs M I (definition_tag defs scope x.identifier) (reference_target defs scope x) (stays chosen false scope x)
by_kind defs M I scope (ASN1Type-F.ChoiceSelectionType x) = at_head defs M I x.selected_option (head_named M scope x.choice_name)
by_kind defs M I scope ASN1Type-F.ASN1Type::Null = refl
by_kind defs M I scope (ASN1Type-F.ASN1Type::Boolean x) = refl
by_kind defs M I scope (ASN1Type-F.ASN1Type::Integer x) = refl
by_kind defs M I scope (ASN1Type-F.ASN1Type::Real x) = refl
by_kind defs M I scope (ASN1Type-F.ASN1Type::BitString x) = refl
by_kind defs M I scope (ASN1Type-F.ASN1Type::OctetString x) = refl
by_kind defs M I scope (ASN1Type-F.CharacterString x) = refl
by_kind defs M I scope (ASN1Type-F.Enumerated x) = refl
by_kind defs M I scope (ASN1Type-F.ASN1Type::Choice x) = refl
by_kind defs M I scope (ASN1Type-F.Sequence x) = refl
by_kind defs M I scope (ASN1Type-F.SequenceOf x) = refl
by_kind defs M I scope (ASN1Type-F.Set x) = refl
by_kind defs M I scope (ASN1Type-F.SetOf x) = refl
by_kind defs M I scope (ASN1Type-F.ASN1Type::Time x) = refl
by_kind defs M I scope (ASN1Type-F.GeneralizedTime x) = refl
by_kind defs M I scope (ASN1Type-F.UTCTime x) = refl
by_kind defs M I scope (ASN1Type-F.ASN1Type::ObjectIdentifier x) = refl
by_kind defs M I scope (ASN1Type-F.InformationObjectFieldReference x) = refl
by_kind defs M I scope ASN1Type-F.EmbeddedPdv = refl
by_kind defs M I scope ASN1Type-F.External = refl

-- ---- levels

one_level : (defs : Definitions) (n k : ℕ) (scope : Scope) (ty : ASN1Type) →
    (instances defs n (suc k)).of_tag scope ty ≡ tag_instance chosen defs (meaning defs n) (instances defs n k) scope (out-ASN1Type ty)
unfolding instance
one_level defs n k scope ty = refl

one_fewer : (k : ℕ) → 0 < k → k ≡ suc (k - 1)
one_fewer k lt = omega arith

at_level : (defs : Definitions) (n k : ℕ) (p : Place) (b : Brought) → 0 < k → b ≡ brings defs (meaning defs n) p.scope (kind_of p) →
    (instances defs n k).of_tag p.scope p.ty ≡ told (instances defs n (k - 1)) b
at_level defs n k p b lt e =
    ap (λ j. (instances defs n j).of_tag p.scope p.ty) (one_fewer k lt)
    ∙ one_level defs n (k - 1) p.scope p.ty
    ∙ by_kind defs (meaning defs n) (instances defs n (k - 1)) p.scope (out-ASN1Type p.ty)
    ∙ ap (told (instances defs n (k - 1))) (sym e)

pub told_at : (defs : Definitions) (n k : ℕ) (p : Place) (b : Brought) (tag : Option (Option AsnTag)) → 0 < k → b ≡ brings defs (meaning defs n) p.scope (kind_of p) → b ≡ Told tag →
    (instances defs n k).of_tag p.scope p.ty ≡ tag
told_at defs n k p b tag lt e is = at_level defs n k p b lt e ∙ ap (told (instances defs n (k - 1))) is

pub told_further : (defs : Definitions) (n k : ℕ) (p q : Place) (b : Brought) → 0 < k → b ≡ brings defs (meaning defs n) p.scope (kind_of p) → b ≡ AsPlace q →
    (instances defs n k).of_tag p.scope p.ty ≡ (instances defs n (k - 1)).of_tag q.scope q.ty
told_further defs n k p q b lt e is = at_level defs n k p b lt e ∙ ap (told (instances defs n (k - 1))) is

pub told_nothing : (defs : Definitions) (n k : ℕ) (p : Place) → k ≡ 0 → (instances defs n k).of_tag p.scope p.ty ≡ None
unfolding instance no_instance
told_nothing defs n k p e = ap (λ j. (instances defs n j).of_tag p.scope p.ty) e
