-- The names that stay in the components that WITH COMPONENTS lists.
use Rattle.std.proofs.Common.{◌≡◌, ℕ, List, [], ◌∷◌, ◌++◌, append-nil, map, drop, length, ◌≤◌, refl, sym, ap, ◌∙◌}
use Rattle.std.proofs.lemmas.List.{drop_all}
use Rattle.asn_tree_kinds.specs.declared.constraints.ConstrainedComponentOver.{ConstrainedComponentOver}
use Rattle.asn_tree_kinds.specs.declared.constraints.InnerTypeConstraintOver.{InnerTypeConstraintOver}
use Rattle.asn_tree.specs.Folds.{element_is, element_read}
use Rattle.asn_tree.specs.Layers.{ElementOf}
use Rattle.asn_tree.specs.declared.constraints.Constraint.{Constraint}
use Rattle.asn_tree.specs.declared.constraints.SubtypeElement.{SubtypeElement, SubtypeElement-F, out-SubtypeElement}
use Rattle.asn_tree.specs.declared.constraints.SubtypeElement.TheVariants as element
use Rattle.asn_link_closed.specs.StayingNames.{StayingName, component_names, element_names, gathering, joined, names_in_component, names_in_element}

abbrev pub components_in : ElementOf (List StayingName) → List (ConstrainedComponentOver (List StayingName))
components_in (SubtypeElement-F.MultipleTypeConstraints i) = i.constraints
components_in _ = []

components_told : (i : InnerTypeConstraintOver Constraint) (cs : List (ConstrainedComponentOver Constraint)) → map component_names (components_in (element_read gathering (SubtypeElement-F.MultipleTypeConstraints (record i { constraints = cs })))) ≡ map names_in_component cs
components_told i [] = refl
components_told i (c ∷ cs) = ap (λ xs. names_in_component c ∷ xs) (components_told i cs)

element_of_components : (v : SubtypeElement) (i : InnerTypeConstraintOver Constraint) → v ≡ element.MultipleTypeConstraints i → names_in_element v ≡ joined (map names_in_component i.constraints)
element_of_components v i e = element_is gathering v ∙ ap (λ o. element_names (element_read gathering o)) (ap out-SubtypeElement e ∙ element.outs-MultipleTypeConstraints i) ∙ ap joined (components_told i i.constraints)

-- behind the last component
pub components_added : (v : SubtypeElement) (i : InnerTypeConstraintOver Constraint) (old out : List StayingName) (items : List (ConstrainedComponentOver Constraint)) (k : ℕ) →
    v ≡ element.MultipleTypeConstraints i → items ≡ i.constraints → length items ≤ k →
    out ++ joined (map names_in_component (drop k items)) ≡ old ++ joined (map names_in_component items) → out ≡ old ++ names_in_element v
components_added v i old out items k is has le e =
    sym (append-nil out)
    ∙ ap (λ xs. out ++ joined (map names_in_component xs)) (sym (drop_all k items le))
    ∙ e
    ∙ ap (λ xs. old ++ joined (map names_in_component xs)) has
    ∙ ap (λ ns. old ++ ns) (sym (element_of_components v i is))
