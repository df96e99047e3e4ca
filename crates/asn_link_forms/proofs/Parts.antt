-- What stands in trees that hold lists in parts of their own.
use Rattle.std.proofs.Common.{◌≡◌, ℕ, List, [], ◌∷◌, Bool, false, ◌&&◌, Option, map, drop, length, ◌≤◌, refl, sym, ap, ◌∙◌}
use Rattle.std.proofs.lemmas.List.{drop_all}
use Rattle.asn_tree_kinds.specs.declared.constraints.ConstrainedComponentOver.{ConstrainedComponentOver}
use Rattle.asn_tree_kinds.specs.declared.constraints.InnerTypeConstraintOver.{InnerTypeConstraintOver}
use Rattle.asn_tree_kinds.specs.declared.constraints.TableConstraintOver.{TableConstraintOver}
use Rattle.asn_tree_kinds.specs.declared.objects.ObjectSetFieldOver.{ObjectSetFieldOver}
use Rattle.asn_tree_kinds.specs.declared.objects.ObjectSetOver.{ObjectSetOver}
use Rattle.asn_tree_kinds.specs.declared.objects.ObjectSetValueOver.{ObjectSetValueOver}
use Rattle.asn_tree_kinds.specs.declared.objects.ObjectSetValueOver.TheVariants.{Reference, Inline}
use Rattle.asn_tree.specs.Folds.{Steps, constraint_is, constraint_read, element_is, element_read, field_is, field_read, item_is, item_read, parameter_is, parameter_read}
use Rattle.asn_tree.specs.Layers.{ElementOver, ParameterOver}
use Rattle.asn_tree.specs.declared.constraints.Constraint.{Constraint, out-Constraint}
use Rattle.asn_tree.specs.declared.constraints.Constraint.TheVariants as constraint
use Rattle.asn_tree.specs.declared.constraints.Parameter.{Parameter, Parameter-F, out-Parameter}
use Rattle.asn_tree.specs.declared.constraints.Parameter.TheVariants as parameter
use Rattle.asn_tree.specs.declared.constraints.SubtypeElement.{SubtypeElement, SubtypeElement-F, out-SubtypeElement}
use Rattle.asn_tree.specs.declared.constraints.SubtypeElement.TheVariants as element
use Rattle.asn_tree.specs.declared.objects.InformationObjectField.{InformationObjectField, out-InformationObjectField}
use Rattle.asn_tree.specs.declared.objects.InformationObjectField.TheVariants as field
use Rattle.asn_tree.specs.declared.objects.InformationObjectFields.{InformationObjectFields}
use Rattle.asn_tree.specs.declared.objects.SyntaxApplication.{SyntaxApplication, out-SyntaxApplication}
use Rattle.asn_tree.specs.declared.objects.SyntaxApplication.TheVariants as item
use Rattle.asn_link_forms.specs.Forms.{any_behind, argument_forms, constraint_forms, element_forms, given_forms, in_argument, in_component, in_constraint, in_element, in_given, in_item, in_item_of_set, in_object, in_objects, is_any, is_sought_inside, item_forms, item_of_set_forms, seeking, told}
use Rattle.asn_link_forms.specs.declared.forms.Form.{Form}

-- ---- components of WITH COMPONENTS

abbrev components_in : ElementOver told → List (ConstrainedComponentOver Bool)
components_in (SubtypeElement-F.MultipleTypeConstraints i) = i.constraints
components_in _ = []

pub components_told : (steps : Steps told) (i : InnerTypeConstraintOver Constraint) (cs : List (ConstrainedComponentOver Constraint)) →
    map (λ (c : ConstrainedComponentOver Bool). is_any c.constraints)
    (components_in (element_read steps (SubtypeElement-F.MultipleTypeConstraints (record i { constraints = cs }))))
    ≡ map (in_component steps) cs
components_told steps i [] = refl
components_told steps i (c ∷ cs) = ap (λ xs. in_component steps c ∷ xs) (components_told steps i cs)

element_of_components : (form : Form) (v : SubtypeElement) (i : InnerTypeConstraintOver Constraint) → v ≡ element.MultipleTypeConstraints i →
    in_element form v ≡ is_any (map (in_component (seeking form)) i.constraints)
element_of_components form v i e =
    element_is (seeking form) v
    ∙ ap (λ o. element_forms (element_read (seeking form) o)) (ap out-SubtypeElement e ∙ element.outs-MultipleTypeConstraints i)
    ∙ ap is_any (components_told (seeking form) i i.constraints)

-- behind the last component
pub components_seen : (form : Form) (v : SubtypeElement) (i : InnerTypeConstraintOver Constraint) (found : Bool)
    (items : List (ConstrainedComponentOver Constraint)) (k : ℕ) →
    v ≡ element.MultipleTypeConstraints i → items ≡ i.constraints → length items ≤ k →
    any_behind found (map (in_component (seeking form)) (drop k items)) ≡ is_any (map (in_component (seeking form)) items) → found ≡ in_element form v
components_seen form v i found items k is has le e =
    ap (λ xs. any_behind found (map (in_component (seeking form)) xs)) (sym (drop_all k items le))
    ∙ e
    ∙ ap (λ xs. is_any (map (in_component (seeking form)) xs)) has
    ∙ sym (element_of_components form v i is)

-- ---- sets of objects

abbrev Items : Type 0
Items = List (ObjectSetValueOver InformationObjectFields)

abbrev ObjectSet : Type 0
ObjectSet = ObjectSetOver InformationObjectFields

abbrev set_of : Option ℕ → Items → ObjectSet
set_of marker items = record { values = items; extensible = marker }

-- the items of a set as an argument shows them
abbrev items_in : ParameterOver told → List (ObjectSetValueOver Bool)
items_in (Parameter-F.ObjectSetParameter s) = s.values
items_in _ = []

objects_told : (form : Form) (marker : Option ℕ) (items : Items) →
    map item_of_set_forms (items_in (parameter_read (seeking form) (Parameter-F.ObjectSetParameter (set_of marker items)))) ≡ map (in_item_of_set form) items
objects_told form marker [] = refl
objects_told form marker (Reference name ∷ items) = ap (λ xs. false ∷ xs) (objects_told form marker items)
objects_told form marker (Inline fields ∷ items) = ap (λ xs. in_object form fields ∷ xs) (objects_told form marker items)

pub argument_of_objects : (form : Form) (v : Parameter) (s : ObjectSet) → v ≡ parameter.ObjectSetParameter s → in_argument form v ≡ in_objects form s.values
argument_of_objects form v s e =
    parameter_is (seeking form) v
    ∙ ap (λ o. argument_forms (parameter_read (seeking form) o)) (ap out-Parameter e ∙ parameter.outs-ObjectSetParameter s)
    ∙ ap is_any (objects_told form s.extensible s.values)

pub item_of_objects : (form : Form) (v : SyntaxApplication) (s : ObjectSet) → v ≡ item.ObjectSetDeclaration s → in_item form v ≡ in_objects form s.values
item_of_objects form v s e =
    item_is (seeking form) v
    ∙ ap (λ o. item_forms (item_read (seeking form) o)) (ap out-SyntaxApplication e ∙ item.outs-ObjectSetDeclaration s)
    ∙ ap is_any (objects_told form s.extensible s.values)

pub given_of_objects : (form : Form) (v : InformationObjectField) (f : ObjectSetFieldOver InformationObjectFields) → v ≡ field.ObjectSetField f →
    in_given form v ≡ in_objects form f.value.values
given_of_objects form v f e =
    field_is (seeking form) v
    ∙ ap (λ o. given_forms (field_read (seeking form) o)) (ap out-InformationObjectField e ∙ field.outs-ObjectSetField f)
    ∙ ap is_any (objects_told form f.value.extensible f.value.values)

pub table_of_objects : (form : Form) (v : Constraint) (t : TableConstraintOver InformationObjectFields) → v ≡ constraint.TableConstraint t →
    in_constraint form v ≡ (is_sought_inside form && in_objects form t.object_set.values)
table_of_objects form v t e =
    constraint_is (seeking form) v
    ∙ ap (λ o. constraint_forms (is_sought_inside form) form (constraint_read (seeking form) o)) (ap out-Constraint e ∙ constraint.outs-TableConstraint t)
    ∙ ap (λ bs. is_sought_inside form && is_any bs) (objects_told form t.object_set.extensible t.object_set.values)
