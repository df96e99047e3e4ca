-- What is told of trees that hold lists in parts of their own.
use Rattle.std.proofs.Common.{◌≡◌, ℕ, List, [], ◌∷◌, ◌++◌, Option, append-nil, map, drop, length, ◌≤◌, refl, sym, ap, ◌∙◌}
use Rattle.std.proofs.lemmas.List.{drop_all}
use Rattle.asn_tree_kinds.specs.declared.constraints.ConstrainedComponentOver.{ConstrainedComponentOver}
use Rattle.asn_tree_kinds.specs.declared.constraints.InnerTypeConstraintOver.{InnerTypeConstraintOver}
use Rattle.asn_tree.specs.Folds.{element_is, element_read, value_is, value_read}
use Rattle.asn_tree.specs.Layers.{ElementOf}
use Rattle.asn_tree.specs.declared.constraints.Constraint.{Constraint}
use Rattle.asn_tree.specs.declared.constraints.SubtypeElement.{SubtypeElement, SubtypeElement-F, out-SubtypeElement}
use Rattle.asn_tree.specs.declared.constraints.SubtypeElement.TheVariants as element
use Rattle.asn_tree.specs.declared.values.ASN1Value.{ASN1Value, out-ASN1Value}
use Rattle.asn_tree.specs.declared.values.ASN1Value.TheVariants as value
use Rattle.asn_meaning_unchanged.specs.References.{Names, component_names, element_names, joined, names_in_component, names_in_element, naming}
use Rattle.asn_meaning_unchanged.specs.Unchanged.{braced_items, literal, telling, value_form, with_items}
use Rattle.asn_meaning_unchanged.specs.declared.literals.Literal.{Literal}
use Rattle.asn_meaning_unchanged.specs.declared.literals.Literal.TheVariants.{Compound}

-- ---- values

items_told : (parts : List (Option (List ℕ) × ASN1Value)) → map (λ (p : Option (List ℕ) × Literal). p.1) (map (λ (p : Option (List ℕ) × ASN1Value). (p.0, literal p.1)) parts) ≡ map (λ (p : Option (List ℕ) × ASN1Value). literal p.1) parts
items_told [] = refl
items_told (p ∷ parts) = ap (λ xs. literal p.1 ∷ xs) (items_told parts)

pub literal_of_parts : (v : ASN1Value) (parts : List (Option (List ℕ) × ASN1Value)) → v ≡ value.SequenceOrSet parts → literal v ≡ braced_items parts
literal_of_parts v parts e = value_is telling v ∙ ap (λ o. value_form (value_read telling o)) (ap out-ASN1Value e ∙ value.outs-SequenceOrSet parts) ∙ ap (with_items Compound) (items_told parts)

-- ---- components of WITH COMPONENTS

abbrev components_in : ElementOf Names → List (ConstrainedComponentOver Names)
components_in (SubtypeElement-F.MultipleTypeConstraints i) = i.constraints
components_in _ = []

components_told : (i : InnerTypeConstraintOver Constraint) (cs : List (ConstrainedComponentOver Constraint)) → map component_names (components_in (element_read naming (SubtypeElement-F.MultipleTypeConstraints (record i { constraints = cs })))) ≡ map names_in_component cs
components_told i [] = refl
components_told i (c ∷ cs) = ap (λ xs. names_in_component c ∷ xs) (components_told i cs)

element_of_components : (v : SubtypeElement) (i : InnerTypeConstraintOver Constraint) → v ≡ element.MultipleTypeConstraints i → names_in_element v ≡ joined (map names_in_component i.constraints)
element_of_components v i e = element_is naming v ∙ ap (λ o. element_names (element_read naming o)) (ap out-SubtypeElement e ∙ element.outs-MultipleTypeConstraints i) ∙ ap joined (components_told i i.constraints)

-- behind the last component
pub components_added : (v : SubtypeElement) (i : InnerTypeConstraintOver Constraint) (old out : Names) (items : List (ConstrainedComponentOver Constraint)) (k : ℕ) →
    v ≡ element.MultipleTypeConstraints i → items ≡ i.constraints → length items ≤ k →
    out ++ joined (map names_in_component (drop k items)) ≡ old ++ joined (map names_in_component items) → out ≡ old ++ names_in_element v
components_added v i old out items k is has le e =
    sym (append-nil out)
    ∙ ap (λ xs. out ++ joined (map names_in_component xs)) (sym (drop_all k items le))
    ∙ e
    ∙ ap (λ xs. old ++ joined (map names_in_component xs)) has
    ∙ ap (λ ns. old ++ ns) (sym (element_of_components v i is))
