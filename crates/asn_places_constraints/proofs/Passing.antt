-- What stands in other surroundings, and on a part of the constrained type.
use Rattle.std.proofs.Common.{◌≡◌, List, [], ◌∷◌, ◌++◌, map, Option, sym, ap, ◌∙◌}
use Rattle.asn_tree.specs.declared.constraints.Constraint.{Constraint}
use Rattle.asn_tree.specs.declared.constraints.SubtypeElement.{SubtypeElement, out-SubtypeElement}
use Rattle.asn_tree.specs.declared.constraints.SubtypeElement.TheVariants as elements
use Rattle.asn_tree.specs.declared.values.ASN1Value.{ASN1Value}
use Rattle.asn_meaning.specs.Layers.{ListedLayer}
use Rattle.asn_meaning.specs.Scopes.{Place}
use Rattle.asn_needs.specs.PartsOfConstraints.{asked_site, asked_under, asked_value, element_parts, element_type, onward, part_sites}
use Rattle.asn_needs.specs.Sites.{Asked, Form, Seen, Site, ValuePlace, beside, AListed, AValue}

-- the same form in surroundings that are equal
pub moved : (f : Form) (xs all : List Site) (inner s : Site) → inner ≡ s → all ≡ xs ++ beside inner f ∷ [] → all ≡ xs ++ beside s f ∷ []
moved f xs all inner s e is = is ∙ ap (λ t. xs ++ beside t f ∷ []) e

pub value_done : (s inner : Site) (asked : Asked) (at : ValuePlace) (p g : Option Place) (v : ASN1Value) (xs all : List Site) → inner ≡ asked_site asked s → g ≡ asked_under asked p →
    all ≡ xs ++ beside inner (AValue at v g) ∷ [] → all ≡ xs ++ asked_value s asked at p v ∷ []
value_done s inner asked at p g v xs all e f is = is ∙ ap (λ t. xs ++ beside t (AValue at v g) ∷ []) e ∙ ap (λ x. xs ++ beside (asked_site asked s) (AValue at v x) ∷ []) f

-- the constraints on a part
pub part_done : (s inner t : Site) (found part : Option Place) (cs : List Constraint) (xs all : List Site) → inner ≡ t → found ≡ part → all ≡ xs ++ part_sites inner found cs → all ≡ xs ++ part_sites t part cs
part_done s inner t found part cs xs all e f is = is ∙ ap (λ x. xs ++ part_sites x found cs) e ∙ ap (λ x. xs ++ part_sites t x cs) f

pub components_done : (s inner : Site) (p : Option Place) (cs : List ListedLayer) (xs all : List Site) → inner ≡ onward s p → all ≡ xs ++ map (λ c. beside inner (AListed c p)) cs →
    all ≡ xs ++ map (λ c. beside (onward s p) (AListed c p)) cs
components_done s inner p cs xs all e is = is ∙ ap (λ t. xs ++ map (λ c. beside t (AListed c p)) cs) e

-- WITH COMPONENT among the elements
pub elements_part : (S : Seen) (s : Site) (asked : Asked) (p : Option Place) (element : SubtypeElement) (written cs : List Constraint) (xs all : List Site) → element ≡ elements.SingleTypeConstraint written →
    cs ≡ written → all ≡ xs ++ part_sites (onward s p) (element_type S.known p) cs → all ≡ xs ++ element_parts S s asked p (out-SubtypeElement element)
elements_part S s asked p element written cs xs all e f is =
    is ∙ ap (λ x. xs ++ part_sites (onward s p) (element_type S.known p) x) f
    ∙ sym (ap (λ x. xs ++ element_parts S s asked p x) (ap out-SubtypeElement e ∙ elements.outs-SingleTypeConstraint written))
