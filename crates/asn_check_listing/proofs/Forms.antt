-- The texts of what holds lists in parts of its own.
use Rattle.std.proofs.Common.{◌≡◌, ℕ, List, [], ◌∷◌, ◌++◌, Bool, false, Option, Some, None, map, drop, length, append-nil, ◌≤◌, refl, sym, ap, ◌∙◌}
use Rattle.std.specs.Prelude.{codes, not}
use Rattle.std.proofs.lemmas.List.{drop_all}
use Rattle.asn_tree_kinds.specs.declared.constraints.ConstrainedComponentOver.{ConstrainedComponentOver}
use Rattle.asn_tree_kinds.specs.declared.constraints.InnerTypeConstraintOver.{InnerTypeConstraintOver}
use Rattle.asn_tree_kinds.specs.declared.constraints.TableConstraintOver.{TableConstraintOver}
use Rattle.asn_tree_kinds.specs.declared.objects.ObjectSetFieldOver.{ObjectSetFieldOver}
use Rattle.asn_tree_kinds.specs.declared.objects.ObjectSetOver.{ObjectSetOver}
use Rattle.asn_tree_kinds.specs.declared.objects.ObjectSetValueOver.{ObjectSetValueOver}
use Rattle.asn_tree_kinds.specs.declared.objects.ObjectSetValueOver.TheVariants.{Reference, Inline}
use Rattle.asn_tree_kinds.specs.declared.values.StructLikeFieldValueOver.TheVariants.{Explicit, Implicit}
use Rattle.asn_check_listing.specs.Constraints.{braced_behind, component_line, constraint_line, element_line, parameter_line, set_item, set_items, table_line}
use Rattle.asn_check_listing.specs.LongWords.{with_components_word}
use Rattle.asn_check_listing.specs.Objects.{field_line, item_line, named_line}
use Rattle.asn_check_listing.specs.Parts.{Letters, closing, either, led, listed, nothing, when}
use Rattle.asn_check_listing.specs.Texts.{component_text, constraint_text, element_text, field_text, fields_text, item_text, lines, linked_text, object_text, objects_text, parameter_text, value_text}
use Rattle.asn_check_listing.specs.Values.{field_line as linked_line, kept, part_line, value_line}
use Rattle.asn_check_listing.proofs.Led.{grouped}
use Rattle.asn_tree.specs.Folds.{constraint_is, constraint_read, element_is, element_read, field_is, field_read, item_is, item_read, linked_is, linked_read, parameter_is, parameter_read, value_is, value_read}
use Rattle.asn_tree.specs.Layers.{ElementOf, ParameterOf}
use Rattle.asn_tree.specs.declared.constraints.Constraint.{Constraint, Constraint-F, out-Constraint}
use Rattle.asn_tree.specs.declared.constraints.Parameter.{Parameter, Parameter-F, out-Parameter}
use Rattle.asn_tree.specs.declared.constraints.SubtypeElement.{SubtypeElement, SubtypeElement-F, out-SubtypeElement}
use Rattle.asn_tree.specs.declared.objects.InformationObjectField.{InformationObjectField, InformationObjectField-F, out-InformationObjectField}
use Rattle.asn_tree.specs.declared.objects.InformationObjectFields.{InformationObjectFields}
use Rattle.asn_tree.specs.declared.objects.SyntaxApplication.{SyntaxApplication, SyntaxApplication-F, out-SyntaxApplication}
use Rattle.asn_tree.specs.declared.values.ASN1Value.{ASN1Value, out-ASN1Value}
use Rattle.asn_tree.specs.declared.values.ASN1Value.TheVariants as value
use Rattle.asn_tree.specs.declared.values.LinkedField.{LinkedField, out-LinkedField}
use Rattle.asn_tree.specs.declared.constraints.Parameter.TheVariants as parameter
use Rattle.asn_tree.specs.declared.objects.SyntaxApplication.TheVariants as item
use Rattle.asn_tree.specs.declared.objects.InformationObjectField.TheVariants as field
use Rattle.asn_tree.specs.declared.constraints.Constraint.TheVariants as constraint
use Rattle.asn_tree.specs.declared.constraints.SubtypeElement.TheVariants as element

-- ---- sets of objects

abbrev ObjectSet : Type 0
ObjectSet = ObjectSetOver InformationObjectFields

abbrev set_of : Option ℕ → List (ObjectSetValueOver InformationObjectFields) → ObjectSet
set_of marker items = record { values = items; extensible = marker }

-- the items of a set as an argument shows them
abbrev items_in : ParameterOf Letters → List (ObjectSetValueOver Letters)
items_in (Parameter-F.ObjectSetParameter s) = s.values
items_in _ = []

items_shown : (marker : Option ℕ) (items : List (ObjectSetValueOver InformationObjectFields)) → map set_item (items_in (parameter_read lines (Parameter-F.ObjectSetParameter (set_of marker items)))) ≡ map object_text items
items_shown marker [] = refl
items_shown marker (Reference name ∷ items) = ap (λ xs. name ∷ xs) (items_shown marker items)
items_shown marker (Inline fields ∷ items) = ap (λ xs. fields_text fields ∷ xs) (items_shown marker items)

abbrev in_braces : Option ℕ → List Letters → Letters
in_braces marker xs = codes "{" ++ set_items marker 0 xs ++ codes "}"

pub argument_of_objects : (v : Parameter) (s : ObjectSet) → v ≡ parameter.ObjectSetParameter s → parameter_text v ≡ objects_text s.extensible s.values
argument_of_objects v s e = parameter_is lines v ∙ ap (λ o. parameter_line (parameter_read lines o)) (ap out-Parameter e ∙ parameter.outs-ObjectSetParameter s) ∙ ap (in_braces s.extensible) (items_shown s.extensible s.values)

pub item_of_objects : (v : SyntaxApplication) (s : ObjectSet) → v ≡ item.ObjectSetDeclaration s → item_text v ≡ objects_text s.extensible s.values
item_of_objects v s e = item_is lines v ∙ ap (λ o. item_line (item_read lines o)) (ap out-SyntaxApplication e ∙ item.outs-ObjectSetDeclaration s) ∙ ap (in_braces s.extensible) (items_shown s.extensible s.values)

pub field_of_objects : (v : InformationObjectField) (f : ObjectSetFieldOver InformationObjectFields) → v ≡ field.ObjectSetField f → field_text v ≡ named_line f.identifier (objects_text f.value.extensible f.value.values)
field_of_objects v f e = field_is lines v ∙ ap (λ o. field_line (field_read lines o)) (ap out-InformationObjectField e ∙ field.outs-ObjectSetField f) ∙ ap (λ xs. named_line f.identifier (in_braces f.value.extensible xs)) (items_shown f.value.extensible f.value.values)

pub table_of_objects : (v : Constraint) (t : TableConstraintOver InformationObjectFields) → v ≡ constraint.TableConstraint t → constraint_text v ≡ table_line (objects_text t.object_set.extensible t.object_set.values) t.linked_fields
table_of_objects v t e = constraint_is lines v ∙ ap (λ o. constraint_line (constraint_read lines o)) (ap out-Constraint e ∙ constraint.outs-TableConstraint t) ∙ ap (λ xs. table_line (in_braces t.object_set.extensible xs) t.linked_fields) (items_shown t.object_set.extensible t.object_set.values)

-- ---- components

abbrev inner_of : Bool → List (ConstrainedComponentOver Constraint) → InnerTypeConstraintOver Constraint
inner_of partial cs = record { is_partial = partial; constraints = cs }

abbrev components_in : ElementOf Letters → List (ConstrainedComponentOver Letters)
components_in (SubtypeElement-F.MultipleTypeConstraints i) = i.constraints
components_in _ = []

components_shown : (partial : Bool) (cs : List (ConstrainedComponentOver Constraint)) → map component_line (components_in (element_read lines (SubtypeElement-F.MultipleTypeConstraints (inner_of partial cs)))) ≡ map component_text cs
components_shown partial [] = refl
components_shown partial (c ∷ cs) = ap (λ xs. component_text c ∷ xs) (components_shown partial cs)

element_of_components : (v : SubtypeElement) (i : InnerTypeConstraintOver Constraint) → v ≡ element.MultipleTypeConstraints i → element_text v ≡ with_components_word ++ braced_behind i.is_partial (map component_text i.constraints)
element_of_components v i e = element_is lines v ∙ ap (λ o. element_line (element_read lines o)) (ap out-SubtypeElement e ∙ element.outs-MultipleTypeConstraints i) ∙ ap (λ xs. with_components_word ++ braced_behind i.is_partial xs) (components_shown i.is_partial i.constraints)

-- behind the last component
pub components_done : (v : SubtypeElement) (i : InnerTypeConstraintOver Constraint) (old begun out : Letters) (none first : Bool) (items : List (ConstrainedComponentOver Constraint)) (k : ℕ) →
    v ≡ element.MultipleTypeConstraints i → items ≡ i.constraints → length items ≤ k → begun ≡ old ++ with_components_word ++ when i.is_partial (codes " { ...") → none ≡ not i.is_partial →
    out ++ led (codes " { ") (codes ", ") first (map component_text (drop k items)) ≡ begun ++ led (codes " { ") (codes ", ") none (map component_text items) →
    nothing first (map component_text (drop k items)) ≡ nothing none (map component_text items) →
    out ++ either first (codes " {}") (codes " }") ≡ old ++ element_text v
components_done v i old begun out none first items k is has le starts e texts nones =
    let text = led (codes " { ") (codes ", ") in
    let all = map component_text i.constraints in
    let mark = when i.is_partial (codes " { ...") in
    let last : first ≡ nothing (not i.is_partial) all = ap (λ xs. nothing first (map component_text xs)) (sym (drop_all k items le)) ∙ nones ∙ ap (λ xs. nothing none (map component_text xs)) has ∙ ap (λ b. nothing b all) e in
    let whole : out ≡ begun ++ text none (map component_text items) = sym (append-nil out) ∙ ap (λ xs. out ++ text first (map component_text xs)) (sym (drop_all k items le)) ∙ texts in
    ap (λ l. l ++ either first (codes " {}") (codes " }")) (whole ∙ ap (λ xs. begun ++ text none (map component_text xs)) has ∙ ap (λ b. begun ++ text b all) e ∙ ap (λ l. l ++ text (not i.is_partial) all) starts)
    ∙ ap (λ b. (old ++ with_components_word ++ mark) ++ text (not i.is_partial) all ++ closing b) last
    ∙ ap (λ l. l ++ closing (nothing (not i.is_partial) all)) (ap (λ l. l ++ text (not i.is_partial) all) (grouped old with_components_word mark) ∙ grouped old (with_components_word ++ mark) (text (not i.is_partial) all))
    ∙ grouped old ((with_components_word ++ mark) ++ text (not i.is_partial) all) (closing (nothing (not i.is_partial) all))
    ∙ ap (λ l. old ++ l) (ap (λ l. l ++ closing (nothing (not i.is_partial) all)) (grouped with_components_word mark (text (not i.is_partial) all)) ∙ grouped with_components_word (mark ++ text (not i.is_partial) all) (closing (nothing (not i.is_partial) all)) ∙ sym (element_of_components v i is))

-- ---- parts of values

pub value_of_parts : (v : ASN1Value) (parts : List (Option Letters × ASN1Value)) → v ≡ value.SequenceOrSet parts → value_text v ≡ listed (map part_line (map (λ p. (p.0, value_text p.1)) parts))
value_of_parts v parts e = value_is lines v ∙ ap (λ o. value_line (value_read lines o)) (ap out-ASN1Value e ∙ value.outs-SequenceOrSet parts)

-- ---- linked fields

given : (f : LinkedField) (v : ASN1Value) → (out-LinkedField f).value ≡ Explicit v → linked_text f ≡ (out-LinkedField f).name ++ codes " " ++ value_text v
given f v e = linked_is lines f ∙ ap (λ x. linked_line (linked_read lines (record (out-LinkedField f) { value = x }))) e

filled : (f : LinkedField) (v : ASN1Value) → (out-LinkedField f).value ≡ Implicit v → linked_text f ≡ []
filled f v e = linked_is lines f ∙ ap (λ x. linked_line (linked_read lines (record (out-LinkedField f) { value = x }))) e

named : (name text : Letters) (rest : List Letters) → kept ((name ++ codes " " ++ text) ∷ rest) ≡ (name ++ codes " " ++ text) ∷ kept rest
named [] text rest = refl
named (c ∷ name) text rest = refl

-- what was written stands, and what linking filled in does not
pub given_next : (out : Letters) (f : LinkedField) (v : ASN1Value) (first : Bool) (rest : List Letters) → (out-LinkedField f).value ≡ Explicit v →
    (((out ++ either first [] (codes ", ")) ++ (out-LinkedField f).name) ++ codes " ") ++ value_text v ++ led [] (codes ", ") false (kept rest) ≡ out ++ led [] (codes ", ") first (kept (linked_text f ∷ rest))
given_next out f v first rest e =
    let lead = either first [] (codes ", ") in
    let name = (out-LinkedField f).name in
    let behind = led [] (codes ", ") false (kept rest) in
    ap (λ l. l ++ value_text v ++ behind) (grouped (out ++ lead) name (codes " "))
    ∙ ap (λ l. l ++ behind) (grouped (out ++ lead) (name ++ codes " ") (value_text v))
    ∙ grouped (out ++ lead) (name ++ codes " " ++ value_text v) behind
    ∙ grouped out lead ((name ++ codes " " ++ value_text v) ++ behind)
    ∙ ap (λ l. out ++ l) (sym (grouped lead (name ++ codes " " ++ value_text v) behind))
    ∙ ap (λ xs. out ++ led [] (codes ", ") first xs) (sym (ap (λ x. kept (x ∷ rest)) (given f v e) ∙ named name (value_text v) rest))

pub filled_next : (out : Letters) (f : LinkedField) (v : ASN1Value) (first : Bool) (rest : List Letters) → (out-LinkedField f).value ≡ Implicit v →
    out ++ led [] (codes ", ") first (kept rest) ≡ out ++ led [] (codes ", ") first (kept (linked_text f ∷ rest))
filled_next out f v first rest e = ap (λ x. out ++ led [] (codes ", ") first (kept (x ∷ rest))) (sym (filled f v e))
