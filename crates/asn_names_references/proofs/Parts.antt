-- The names in trees that hold lists in parts of their own.
use Rattle.std.proofs.Common.{◌≡◌, ℕ, List, [], ◌∷◌, ◌++◌, Option, append-nil, map, drop, length, ◌≤◌, refl, sym, ap, ◌∙◌}
use Rattle.std.proofs.lemmas.List.{drop_all}
use Rattle.asn_tree_kinds.specs.declared.constraints.ConstrainedComponentOver.{ConstrainedComponentOver}
use Rattle.asn_tree_kinds.specs.declared.constraints.InnerTypeConstraintOver.{InnerTypeConstraintOver}
use Rattle.asn_tree_kinds.specs.declared.constraints.TableConstraintOver.{TableConstraintOver}
use Rattle.asn_tree_kinds.specs.declared.objects.ObjectSetFieldOver.{ObjectSetFieldOver}
use Rattle.asn_tree_kinds.specs.declared.objects.ObjectSetOver.{ObjectSetOver}
use Rattle.asn_tree_kinds.specs.declared.objects.ObjectSetValueOver.{ObjectSetValueOver}
use Rattle.asn_tree_kinds.specs.declared.objects.ObjectSetValueOver.TheVariants.{Reference, Inline}
use Rattle.asn_tree.specs.Folds.{constraint_is, constraint_read, element_is, element_read, field_is, field_read, item_is, item_read, parameter_is, parameter_read, value_is, value_read}
use Rattle.asn_tree.specs.Layers.{ElementOf, ParameterOf}
use Rattle.asn_tree.specs.declared.constraints.Constraint.{Constraint, out-Constraint}
use Rattle.asn_tree.specs.declared.constraints.Constraint.TheVariants as constraint
use Rattle.asn_tree.specs.declared.constraints.Parameter.{Parameter, Parameter-F, out-Parameter}
use Rattle.asn_tree.specs.declared.constraints.Parameter.TheVariants as parameter
use Rattle.asn_tree.specs.declared.constraints.SubtypeElement.{SubtypeElement, SubtypeElement-F, out-SubtypeElement}
use Rattle.asn_tree.specs.declared.constraints.SubtypeElement.TheVariants as element
use Rattle.asn_tree.specs.declared.objects.InformationObjectField.{InformationObjectField, out-InformationObjectField}
use Rattle.asn_tree.specs.declared.objects.InformationObjectField.TheVariants as field
use Rattle.asn_tree.specs.declared.objects.InformationObjectFields.{InformationObjectFields}
use Rattle.asn_tree.specs.declared.objects.SyntaxApplication.{SyntaxApplication, out-SyntaxApplication}
use Rattle.asn_tree.specs.declared.objects.SyntaxApplication.TheVariants as item
use Rattle.asn_tree.specs.declared.values.ASN1Value.{ASN1Value, out-ASN1Value}
use Rattle.asn_tree.specs.declared.values.ASN1Value.TheVariants as value
use Rattle.asn_names_references.specs.References.{Names, NamesOf, argument_names, component_names, constraint_names, element_names, field_names, item_names, item_of_set_names, joined, names_in_argument, names_in_component, names_in_constraint, names_in_element, names_in_field, names_in_fields, names_in_item, names_in_object, names_in_objects, names_in_value, naming, item_name, value_names, within}
use Rattle.asn_names_references.specs.declared.wanted.Wanted.{Wanted}

-- ---- values

items_told : (parts : List (Option (List ℕ) × ASN1Value)) → map (λ (p : Option (List ℕ) × NamesOf). p.1) (map (λ (p : Option (List ℕ) × ASN1Value). (p.0, names_in_value p.1)) parts) ≡ map (λ (p : Option (List ℕ) × ASN1Value). names_in_value p.1) parts
items_told [] = refl
items_told (p ∷ parts) = ap (λ xs. names_in_value p.1 ∷ xs) (items_told parts)

pub value_of_parts : (v : ASN1Value) (parts : List (Option (List ℕ) × ASN1Value)) (w : Wanted) → v ≡ value.SequenceOrSet parts → names_in_value v w ≡ joined (map (λ p. names_in_value p.1) parts) w
value_of_parts v parts w e =
    ap (λ f. f w) (value_is naming v)
    ∙ ap (λ o. value_names (value_read naming o) w) (ap out-ASN1Value e ∙ value.outs-SequenceOrSet parts)
    ∙ ap (λ ns. joined ns w) (items_told parts)

-- ---- components of WITH COMPONENTS

abbrev components_in : ElementOf NamesOf → List (ConstrainedComponentOver NamesOf)
components_in (SubtypeElement-F.MultipleTypeConstraints i) = i.constraints
components_in _ = []

components_told : (i : InnerTypeConstraintOver Constraint) (cs : List (ConstrainedComponentOver Constraint)) → map component_names (components_in (element_read naming (SubtypeElement-F.MultipleTypeConstraints (record i { constraints = cs })))) ≡ map names_in_component cs
components_told i [] = refl
components_told i (c ∷ cs) = ap (λ xs. names_in_component c ∷ xs) (components_told i cs)

element_of_components : (v : SubtypeElement) (i : InnerTypeConstraintOver Constraint) (w : Wanted) → v ≡ element.MultipleTypeConstraints i → names_in_element v w ≡ joined (map names_in_component i.constraints) w
element_of_components v i w e =
    ap (λ f. f w) (element_is naming v)
    ∙ ap (λ o. element_names (element_read naming o) w) (ap out-SubtypeElement e ∙ element.outs-MultipleTypeConstraints i)
    ∙ ap (λ ns. joined ns w) (components_told i i.constraints)

-- behind the last component
pub components_added : (v : SubtypeElement) (i : InnerTypeConstraintOver Constraint) (old out : Names) (items : List (ConstrainedComponentOver Constraint)) (k : ℕ) (w : Wanted) →
    v ≡ element.MultipleTypeConstraints i → items ≡ i.constraints → length items ≤ k →
    out ++ joined (map names_in_component (drop k items)) w ≡ old ++ joined (map names_in_component items) w → out ≡ old ++ names_in_element v w
components_added v i old out items k w is has le e =
    sym (append-nil out)
    ∙ ap (λ xs. out ++ joined (map names_in_component xs) w) (sym (drop_all k items le))
    ∙ e
    ∙ ap (λ xs. old ++ joined (map names_in_component xs) w) has
    ∙ ap (λ ns. old ++ ns) (sym (element_of_components v i w is))

-- ---- sets of objects

abbrev ObjectSet : Type 0
ObjectSet = ObjectSetOver InformationObjectFields

abbrev set_of : Option ℕ → List (ObjectSetValueOver InformationObjectFields) → ObjectSet
set_of marker items = record { values = items; extensible = marker }

-- the items of a set as an argument shows them
abbrev items_in : ParameterOf NamesOf → List (ObjectSetValueOver NamesOf)
items_in (Parameter-F.ObjectSetParameter s) = s.values
items_in _ = []

objects_told : (marker : Option ℕ) (items : List (ObjectSetValueOver InformationObjectFields)) → map item_of_set_names (items_in (parameter_read naming (Parameter-F.ObjectSetParameter (set_of marker items)))) ≡ map names_in_object items
objects_told marker [] = refl
objects_told marker (Reference name ∷ items) = ap (λ xs. item_name name ∷ xs) (objects_told marker items)
objects_told marker (Inline fields ∷ items) = ap (λ xs. (λ w. names_in_fields fields (within w)) ∷ xs) (objects_told marker items)

pub argument_of_objects : (v : Parameter) (s : ObjectSet) (w : Wanted) → v ≡ parameter.ObjectSetParameter s → names_in_argument v w ≡ names_in_objects s.values w
argument_of_objects v s w e =
    ap (λ f. f w) (parameter_is naming v)
    ∙ ap (λ o. argument_names (parameter_read naming o) w) (ap out-Parameter e ∙ parameter.outs-ObjectSetParameter s)
    ∙ ap (λ ns. joined ns w) (objects_told s.extensible s.values)

pub item_of_objects : (v : SyntaxApplication) (s : ObjectSet) (w : Wanted) → v ≡ item.ObjectSetDeclaration s → names_in_item v w ≡ names_in_objects s.values w
item_of_objects v s w e =
    ap (λ f. f w) (item_is naming v)
    ∙ ap (λ o. item_names (item_read naming o) w) (ap out-SyntaxApplication e ∙ item.outs-ObjectSetDeclaration s)
    ∙ ap (λ ns. joined ns w) (objects_told s.extensible s.values)

pub field_of_objects : (v : InformationObjectField) (f : ObjectSetFieldOver InformationObjectFields) (w : Wanted) → v ≡ field.ObjectSetField f → names_in_field v w ≡ names_in_objects f.value.values w
field_of_objects v f w e =
    ap (λ names. names w) (field_is naming v)
    ∙ ap (λ o. field_names (field_read naming o) w) (ap out-InformationObjectField e ∙ field.outs-ObjectSetField f)
    ∙ ap (λ ns. joined ns w) (objects_told f.value.extensible f.value.values)

pub table_of_objects : (v : Constraint) (t : TableConstraintOver InformationObjectFields) (w : Wanted) → v ≡ constraint.TableConstraint t → names_in_constraint v w ≡ names_in_objects t.object_set.values w
table_of_objects v t w e =
    ap (λ f. f w) (constraint_is naming v)
    ∙ ap (λ o. constraint_names (constraint_read naming o) w) (ap out-Constraint e ∙ constraint.outs-TableConstraint t)
    ∙ ap (λ ns. joined ns w) (objects_told t.object_set.extensible t.object_set.values)
