-- Layers of trees that are made, and what stands for types that no tree holds.
use Rattle.std.proofs.Common.{◌≡◌, ◌∙◌, ◌⊎◌, Bool, List, Option, Some, ap, false, inl, inr, refl, sym, true, ℕ}
use Rattle.asn_tree_kinds.specs.declared.types.DistinguishedValue.{DistinguishedValue}
use Rattle.asn_tree.specs.declared.constraints.Constraint.{Constraint}
use Rattle.asn_tree.specs.declared.constraints.SubtypeElement.{SubtypeElement, out-SubtypeElement}
use Rattle.asn_tree.specs.declared.constraints.SubtypeElement.TheVariants as element
use Rattle.asn_tree.specs.declared.types.ASN1Type.{ASN1Type, ASN1Type-F, out-ASN1Type}
use Rattle.asn_tree.specs.declared.types.ASN1Type.TheVariants as type_of_kind
use Rattle.asn_tree.specs.declared.values.ASN1Value.{ASN1Value}
use Rattle.asn_calls.specs.Types.{elsewhere}
use Rattle.asn_link_instance.specs.Instance.{constrained, element_instance, field_instance, inner_instance, type_instance}
use Rattle.asn_link_instance.specs.Subjects.{OnValues, Subject, traversed}
use Rattle.asn_link_types.specs.inner.Made.{field_layer, inner_made, range_made, reference_with}
use Rattle.asn_link_types.specs.inner.Parts.{end_made, listed_on}
use Rattle.asn_meaning.specs.Definitions.{Definitions, plain_identifier}
use Rattle.asn_meaning.specs.Everything.{plain_text}
use Rattle.asn_meaning.specs.Judge.{meaning}
use Rattle.asn_meaning.specs.Layers.{ClassFieldLayer, InnerLayer, ListedLayer, ReferenceLayer, TypeLayer}
use Rattle.asn_meaning.specs.Names.{FieldType, Open}
use Rattle.asn_meaning.specs.Ranges.{integer_named}
use Rattle.asn_meaning.specs.Scopes.{Place, Scope}
use Rattle.asn_link_values.specs.Choosing.{chosen, instances}

-- ---- names

pub name_shown : (x : ReferenceLayer) (parent : Option (List ℕ)) (name : List ℕ) (cs : List Constraint) → parent ≡ x.parent → name ≡ x.identifier →
    out-ASN1Type (elsewhere parent name cs) ≡ reference_with x cs
name_shown x parent name cs e f =
    type_of_kind.outs-ElsewhereDeclaredType (record { parent = parent; identifier = name; constraints = cs })
    ∙ ap (λ p. ASN1Type-F.ElsewhereDeclaredType (record { parent = p; identifier = name; constraints = cs })) e
    ∙ ap (λ i. ASN1Type-F.ElsewhereDeclaredType (record { parent = x.parent; identifier = i; constraints = cs })) f

-- ---- elements

pub range_part : (defs : Definitions) (n k : ℕ) (scope : Scope) (s : Subject) (e : SubtypeElement) (low high : Option ASN1Value) (low_open high_open extensible : Bool) →
    e ≡ element.ValueRange low high low_open high_open extensible →
    element_instance chosen defs (meaning defs n) (instances defs n k) scope s (out-SubtypeElement e)
    ≡ range_made low_open high_open extensible (end_made (meaning defs n) scope s low) (end_made (meaning defs n) scope s high)
range_part defs n k scope s e low high low_open high_open extensible is =
    ap (λ l. element_instance chosen defs (meaning defs n) (instances defs n k) scope s l) (ap out-SubtypeElement is ∙ element.outs-ValueRange low high low_open high_open extensible)

pub inner_found : (defs : Definitions) (n k : ℕ) (scope : Scope) (head : Place) (inner : InnerLayer) (made : Option (List ListedLayer)) →
    made ≡ traversed (listed_on defs n k scope head) inner.constraints →
    inner_made inner made ≡ inner_instance chosen defs (meaning defs n) (instances defs n k) scope (OnValues head) inner
inner_found defs n k scope head inner made is = ap (inner_made inner) is

-- ---- types whose constraints alone change

abbrev pub is_leaf : TypeLayer → Bool
is_leaf (ASN1Type-F.ElsewhereDeclaredType x) = false
is_leaf (ASN1Type-F.ChoiceSelectionType x) = false
is_leaf (ASN1Type-F.InformationObjectFieldReference x) = false
is_leaf (ASN1Type-F.ASN1Type::Choice x) = false
is_leaf (ASN1Type-F.Sequence x) = false
is_leaf (ASN1Type-F.Set x) = false
is_leaf (ASN1Type-F.SequenceOf x) = false
is_leaf (ASN1Type-F.SetOf x) = false
is_leaf _ = true

pub leaf_as : (t u : ASN1Type) (l : TypeLayer) → t ≡ u → out-ASN1Type u ≡ l → is_leaf l ≡ true → is_leaf (out-ASN1Type t) ≡ true
leaf_as t u l e f g = ap (λ x. is_leaf (out-ASN1Type x)) e ∙ ap is_leaf f ∙ g

pub by_cases : {A B C : Type 0} → (A → C) → (B → C) → A ⊎ B → C
by_cases f g (inl a) = f a
by_cases f g (inr b) = g b

pub leaf_stands : (defs : Definitions) (n k : ℕ) (down : Bool) (scope : Scope) (uy : ASN1Type) (l : TypeLayer) → is_leaf l ≡ true →
    type_instance chosen defs (meaning defs n) (instances defs n k) down scope uy l ≡ constrained chosen defs (meaning defs n) (instances defs n k) scope uy l
leaf_stands defs n k down scope uy (ASN1Type-F.ElsewhereDeclaredType x) is = absurd cc
leaf_stands defs n k down scope uy (ASN1Type-F.ChoiceSelectionType x) is = absurd cc
leaf_stands defs n k down scope uy (ASN1Type-F.InformationObjectFieldReference x) is = absurd cc
leaf_stands defs n k down scope uy (ASN1Type-F.ASN1Type::Choice x) is = absurd cc
leaf_stands defs n k down scope uy (ASN1Type-F.Sequence x) is = absurd cc
leaf_stands defs n k down scope uy (ASN1Type-F.Set x) is = absurd cc
leaf_stands defs n k down scope uy (ASN1Type-F.SequenceOf x) is = absurd cc
leaf_stands defs n k down scope uy (ASN1Type-F.SetOf x) is = absurd cc
leaf_stands defs n k down scope uy _ is = refl

pub field_kept : (defs : Definitions) (n k : ℕ) (down : Bool) (scope : Scope) (uy ty : ASN1Type) (x : ClassFieldLayer) (f : Option FieldType) → out-ASN1Type ty ≡ field_layer x → f ≡ Some Open →
    field_instance chosen defs (meaning defs n) (instances defs n k) down scope uy x f ≡ constrained chosen defs (meaning defs n) (instances defs n k) scope uy (out-ASN1Type ty)
field_kept defs n k down scope uy ty x f is open_type =
    ap (field_instance chosen defs (meaning defs n) (instances defs n k) down scope uy x) open_type
    ∙ sym (ap (constrained chosen defs (meaning defs n) (instances defs n k) scope uy) is)

-- ---- types that no tree holds

module _ (defs : Definitions) (n k : ℕ) (down : Bool) (scope : Scope) (uy : ASN1Type) where
  abbrev stands_for : TypeLayer → Option TypeLayer
  stands_for l = type_instance chosen defs (meaning defs n) (instances defs n k) down scope uy l

  stays_so : (t made u : ASN1Type) (l : TypeLayer) → out-ASN1Type u ≡ l → stands_for l ≡ Some l → t ≡ u → made ≡ u → Some (out-ASN1Type made) ≡ stands_for (out-ASN1Type t)
  stays_so t made u l out same e f = ap (λ x. Some (out-ASN1Type x)) f ∙ ap Some out ∙ sym (ap stands_for (ap out-ASN1Type e ∙ out) ∙ same)

  pub text_stays : (t made : ASN1Type) → t ≡ plain_text.ty → made ≡ plain_text.ty → Some (out-ASN1Type made) ≡ stands_for (out-ASN1Type t)
  text_stays t made e f = stays_so t made plain_text.ty _ (type_of_kind.outs-CharacterString _) refl e f

  pub identifier_stays : (t made : ASN1Type) → t ≡ plain_identifier → made ≡ plain_identifier → Some (out-ASN1Type made) ≡ stands_for (out-ASN1Type t)
  identifier_stays t made e f = stays_so t made plain_identifier _ (type_of_kind.outs-ObjectIdentifier _) refl e f

  pub integer_stays : (numbers : Option (List DistinguishedValue)) (t made : ASN1Type) → t ≡ (integer_named numbers).ty → made ≡ (integer_named numbers).ty →
      Some (out-ASN1Type made) ≡ stands_for (out-ASN1Type t)
  integer_stays numbers t made e f = stays_so t made (integer_named numbers).ty _ (type_of_kind.outs-Integer _) refl e f
