-- Types that have no place for constraints.
use Rattle.std.proofs.Common.{◌≡◌, List, None, refl}
use Rattle.asn_tree.specs.declared.constraints.Constraint.{Constraint}
use Rattle.asn_tree.specs.declared.types.ASN1Type.{ASN1Type, ASN1Type-F, out-ASN1Type}
use Rattle.asn_calls.specs.Types.{with_constraints_at}
use Rattle.asn_tree_notation.specs.Types.{constraints_at, constraints_of}
use Rattle.asn_meaning.specs.Layers.{TypeLayer}

layer_stays : (l : TypeLayer) (cs : List Constraint) → constraints_at l ≡ None → with_constraints_at l cs ≡ l
layer_stays ASN1Type-F.ASN1Type::Null cs is = refl
layer_stays (ASN1Type-F.ChoiceSelectionType x) cs is = refl
layer_stays ASN1Type-F.EmbeddedPdv cs is = refl
layer_stays ASN1Type-F.External cs is = refl
layer_stays _ cs is = absurd cc

pub no_place : (ty : ASN1Type) (cs : List Constraint) → constraints_of ty ≡ None → with_constraints_at (out-ASN1Type ty) cs ≡ out-ASN1Type ty
no_place ty cs is = layer_stays (out-ASN1Type ty) cs is
