-- The form of a place does not count for what stands in it.
use Rattle.std.proofs.Common.{◌≡◌, ◌++◌, Option, Some, None, refl, ap, ◌∙◌}
use Rattle.asn_tree.specs.Layers.{ElementLayer}
use Rattle.asn_tree.specs.declared.constraints.SubtypeElement.{SubtypeElement-F, out-SubtypeElement}
use Rattle.asn_tree.specs.declared.values.ASN1Value.{ASN1Value}
use Rattle.asn_meaning.specs.Scopes.{Place}
use Rattle.asn_needs.specs.PartsOfConstraints.{element_parts, end_sites}
use Rattle.asn_needs.specs.Sites.{Asked, OfValues, OfLengths, OfCharacters, Seen, Site, beside, Form, AType, ComponentsOf, AValue, AConstraint, ASet, AnElement, AListed, LooseList, AnArgument, NoArgument, LooseArgument, ADummy, ClassName, ClassField, AnObject, GivenField, LooseField, AnObjectSet, SetName}
use Rattle.asn_needs.specs.Stands.{parts_at}

end_beside : (s : Site) (f : Form) (asked : Asked) (p : Option Place) (v : Option ASN1Value) → end_sites s asked p v ≡ end_sites (beside s f) asked p v
end_beside s f asked p None = refl
end_beside s f OfValues p (Some v) = refl
end_beside s f OfLengths p (Some v) = refl
end_beside s f OfCharacters p (Some v) = refl

element_beside : (S : Seen) (s : Site) (f : Form) (asked : Asked) (p : Option Place) (e : ElementLayer) → element_parts S s asked p e ≡ element_parts S (beside s f) asked p e
element_beside S s f OfValues p (SubtypeElement-F.SingleValue v extensible) = refl
element_beside S s f OfLengths p (SubtypeElement-F.SingleValue v extensible) = refl
element_beside S s f OfCharacters p (SubtypeElement-F.SingleValue v extensible) = refl
element_beside S s f asked p (SubtypeElement-F.ContainedSubtype ty extensible) = refl
element_beside S s f asked p (SubtypeElement-F.ValueRange low high low_open high_open extensible) =
    ap (λ xs. xs ++ end_sites s asked p high) (end_beside s f asked p low) ∙ ap (λ xs. end_sites (beside s f) asked p low ++ xs) (end_beside s f asked p high)
element_beside S s f asked p (SubtypeElement-F.PermittedAlphabet set) = refl
element_beside S s f asked p (SubtypeElement-F.SizeConstraint set) = refl
element_beside S s f asked p (SubtypeElement-F.TypeConstraint ty) = refl
element_beside S s f asked None (SubtypeElement-F.SingleTypeConstraint cs) = refl
element_beside S s f asked (Some p) (SubtypeElement-F.SingleTypeConstraint cs) = refl
element_beside S s f asked None (SubtypeElement-F.MultipleTypeConstraints inner) = refl
element_beside S s f asked (Some p) (SubtypeElement-F.MultipleTypeConstraints inner) = refl
element_beside S s f asked p (SubtypeElement-F.PatternConstraint x) = refl
element_beside S s f asked p (SubtypeElement-F.UserDefinedConstraint x) = refl
element_beside S s f asked p (SubtypeElement-F.PropertySettings x) = refl

pub parts_beside : (S : Seen) (s : Site) (f : Form) → parts_at S s f ≡ parts_at S (beside s f) f
parts_beside S s (AType at ty behind) = refl
parts_beside S s (ComponentsOf name) = refl
parts_beside S s (AValue at v None) = refl
parts_beside S s (AValue at v (Some p)) = refl
parts_beside S s (AConstraint c p) = refl
parts_beside S s (ASet asked x p) = refl
parts_beside S s (AnElement asked e p) = element_beside S s (AnElement asked e p) asked p (out-SubtypeElement e)
parts_beside S s (AListed c p) = refl
parts_beside S s LooseList = refl
parts_beside S s (AnArgument p dummy inner) = refl
parts_beside S s NoArgument = refl
parts_beside S s (LooseArgument p) = refl
parts_beside S s (ADummy dummy) = refl
parts_beside S s (ClassName name) = refl
parts_beside S s (ClassField at f) = refl
parts_beside S s (AnObject c fields) = refl
parts_beside S s (GivenField c f) = refl
parts_beside S s (LooseField f) = refl
parts_beside S s (AnObjectSet c set) = refl
parts_beside S s (SetName name) = refl
