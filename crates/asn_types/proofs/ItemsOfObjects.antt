-- The item that a type is, by the type's form.
use Rattle.std.proofs.Common.{◌≡◌, refl, sym, ap, ◌∙◌}
use Rattle.asn_tree_kinds.specs.declared.types.DeclarationElsewhereOver.{DeclarationElsewhereOver}
use Rattle.asn_tree.specs.declared.constraints.Constraint.{Constraint}
use Rattle.asn_tree.specs.declared.objects.SyntaxApplication.TheVariants.{TypeReference}
use Rattle.asn_tree.specs.declared.types.ASN1Type.{ASN1Type, ASN1Type-F, out-ASN1Type, roll-ASN1Type, roll-out-ASN1Type}
use Rattle.asn_tree.specs.declared.types.ASN1Type.TheVariants.{ElsewhereDeclaredType, outs-ElsewhereDeclaredType}
use Rattle.asn_tree.specs.Layers.{TypeLayer}
use Rattle.asn_types.specs.Objects.{reference_item, type_item, type_item_at}

-- a type reference
pub reference_is : (ty : ASN1Type) (reference : DeclarationElsewhereOver Constraint) → ty ≡ ElsewhereDeclaredType reference → type_item ty ≡ reference_item reference (ElsewhereDeclaredType reference) reference.parent
unfolding type_item
reference_is ty reference e = ap type_item e ∙ ap (type_item_at (ElsewhereDeclaredType reference)) (outs-ElsewhereDeclaredType reference)

-- any other type
pub other_is : (ty : ASN1Type) → ((reference : DeclarationElsewhereOver Constraint) → ty ≡ ElsewhereDeclaredType reference → ⊥) → type_item ty ≡ TypeReference ty
unfolding type_item
other_is ty none = go (out-ASN1Type ty) refl
  where
    go : (x : TypeLayer) → out-ASN1Type ty ≡ x → type_item_at ty x ≡ TypeReference ty
    go (ASN1Type-F.ElsewhereDeclaredType r) e = absurd (none r (sym (roll-out-ASN1Type ty) ∙ ap roll-ASN1Type (e ∙ sym (outs-ElsewhereDeclaredType r)) ∙ roll-out-ASN1Type (ElsewhereDeclaredType r)))
    go _ e = refl
