-- No name comes into a value, or leaves it, where tags are changed.
use Rattle.std.specs.List.{list_all}
use Rattle.std.proofs.Common.{◌≡◌, ℕ, Bool, true, ◌&&◌, List, [], ◌∷◌, map, Option, refl, sym, subst, ap, ◌∙◌}
use Rattle.asn_tree.specs.declared.constraints.Constraint.{Constraint}
use Rattle.asn_tree.specs.declared.constraints.ContentConstraint.{ContentConstraint}
use Rattle.asn_tree.specs.declared.constraints.ElementOrSetOperation.{ElementOrSetOperation}
use Rattle.asn_tree.specs.declared.constraints.Parameter.{Parameter}
use Rattle.asn_tree.specs.declared.constraints.SubtypeElement.{SubtypeElement}
use Rattle.asn_tree.specs.declared.constraints.SetOperation.{SetOperation}
use Rattle.asn_tree.specs.declared.objects.InformationObjectField.{InformationObjectField}
use Rattle.asn_tree.specs.declared.objects.InformationObjectFields.{InformationObjectFields}
use Rattle.asn_tree.specs.declared.objects.SyntaxApplication.{SyntaxApplication}
use Rattle.asn_tree.specs.declared.types.ASN1Type.{ASN1Type}
use Rattle.asn_tree.specs.declared.types.Choice.{Choice}
use Rattle.asn_tree.specs.declared.types.ChoiceOption.{ChoiceOption}
use Rattle.asn_tree.specs.declared.types.SequenceOrSet.{SequenceOrSet}
use Rattle.asn_tree.specs.declared.types.SequenceOrSetMember.{SequenceOrSetMember}
use Rattle.asn_tree.specs.declared.types.SequenceOrSetOf.{SequenceOrSetOf}
use Rattle.asn_tree.specs.declared.values.ASN1Value.{ASN1Value, ASN1Value-F, out-roll-ASN1Value, roll-ASN1Value, map-ASN1Value, ind-ASN1Value}
use Rattle.asn_tree.specs.declared.values.LinkedField.{LinkedField, LinkedField-F, out-roll-LinkedField, roll-LinkedField, map-LinkedField}
use Rattle.asn_tree_kinds.specs.declared.values.StructLikeFieldValueOver.{StructLikeFieldValueOver}
use Rattle.asn_tree_kinds.specs.declared.values.StructLikeFieldValueOver.TheVariants.{Explicit, Implicit}
use Rattle.asn_tree.specs.Folds.{Algebra, constant, of_linked, of_value, linked_is, linked_read, value_is, value_read}
use Rattle.asn_tree.specs.Passes.{linked_parts, linked_rewritten, value_parts, value_rewritten, rewritten_linked, rewritten_value}
use Rattle.asn_meaning.specs.Layers.{LinkedLayer, ValueLayer}
use Rattle.asn_meaning.specs.Plain.{is_nameless, linked_nameless, value_nameless}
use Rattle.asn_meaning.specs.Tags.{TagChange, tagged_value, tagging}

abbrev naming : Algebra Bool
naming = record (constant true) { at_value = value_nameless; at_linked = linked_nameless }

module _ (f : TagChange) where
  abbrev ValueSame : ASN1Value → Type 0
  ValueSame x = of_value naming (rewritten_value (tagging f) x) ≡ of_value naming x

  abbrev LinkedSame : LinkedField → Type 0
  LinkedSame x = of_linked naming (rewritten_linked (tagging f) x) ≡ of_linked naming x

  value_rolled : (l : ValueLayer) → of_value naming (roll-ASN1Value l) ≡ value_nameless (value_read naming l)
  value_rolled l = value_is naming (roll-ASN1Value l) ∙ ap (λ z. value_nameless (value_read naming z)) (out-roll-ASN1Value l)

  linked_rolled : (l : LinkedLayer) → of_linked naming (roll-LinkedField l) ≡ linked_nameless (linked_read naming l)
  linked_rolled l = linked_is naming (roll-LinkedField l) ∙ ap (λ z. linked_nameless (linked_read naming z)) (out-roll-LinkedField l)

  value_at : (l : ValueLayer) → value_nameless (value_read naming (value_parts (tagging f) l)) ≡ value_nameless (value_read naming l) → ValueSame (roll-ASN1Value l)
  value_at l same =
      ap (of_value naming) (value_rewritten (tagging f) (roll-ASN1Value l) ∙ ap (λ z. roll-ASN1Value (value_parts (tagging f) z)) (out-roll-ASN1Value l))
      ∙ value_rolled (value_parts (tagging f) l) ∙ same ∙ sym (value_rolled l)

  linked_at : (l : LinkedLayer) → linked_nameless (linked_read naming (linked_parts (tagging f) l)) ≡ linked_nameless (linked_read naming l) → LinkedSame (roll-LinkedField l)
  linked_at l same =
      ap (of_linked naming) (linked_rewritten (tagging f) (roll-LinkedField l) ∙ ap (λ z. roll-LinkedField (linked_parts (tagging f) z)) (out-roll-LinkedField l))
      ∙ linked_rolled (linked_parts (tagging f) l) ∙ same ∙ sym (linked_rolled l)

  abbrev plain_item : Option (List ℕ) × ((x : ASN1Value) × ValueSame x) → Option (List ℕ) × ASN1Value
  plain_item i = (i.0, i.1.0)

  abbrev tagged_item : Option (List ℕ) × ASN1Value → Option (List ℕ) × ASN1Value
  tagged_item i = (i.0, rewritten_value (tagging f) i.1)

  abbrev read_item : Option (List ℕ) × ASN1Value → Option (List ℕ) × Bool
  read_item i = (i.0, of_value naming i.1)

  abbrev has_none : Option (List ℕ) × Bool → Bool
  has_none i = i.1

  items_same : (ys : List (Option (List ℕ) × ((x : ASN1Value) × ValueSame x))) → list_all has_none (map read_item (map tagged_item (map plain_item ys))) ≡ list_all has_none (map read_item (map plain_item ys))
  items_same [] = refl
  items_same (y ∷ ys) =
      ap (λ b. b && list_all has_none (map read_item (map tagged_item (map plain_item ys)))) y.1.1
      ∙ ap (λ b. of_value naming y.1.0 && b) (items_same ys)

  values_same : (ys : List ((x : ASN1Value) × ValueSame x)) → list_all (λ b. b) (map (of_value naming) (map (rewritten_value (tagging f)) (map (λ y. y.0) ys))) ≡ list_all (λ b. b) (map (of_value naming) (map (λ y. y.0) ys))
  values_same [] = refl
  values_same (y ∷ ys) =
      ap (λ b. b && list_all (λ b. b) (map (of_value naming) (map (rewritten_value (tagging f)) (map (λ y. y.0) ys)))) y.1
      ∙ ap (λ b. of_value naming y.0 && b) (values_same ys)

  links_same : (ys : List ((x : LinkedField) × LinkedSame x)) → list_all (λ b. b) (map (of_linked naming) (map (rewritten_linked (tagging f)) (map (λ y. y.0) ys))) ≡ list_all (λ b. b) (map (of_linked naming) (map (λ y. y.0) ys))
  links_same [] = refl
  links_same (y ∷ ys) =
      ap (λ b. b && list_all (λ b. b) (map (of_linked naming) (map (rewritten_linked (tagging f)) (map (λ y. y.0) ys)))) y.1
      ∙ ap (λ b. of_linked naming y.0 && b) (links_same ys)

  value_case : (y : ASN1Value-F ((x : Constraint) × Unit {0}) ((x : ContentConstraint) × Unit {0}) ((x : ElementOrSetOperation) × Unit {0}) ((x : Parameter) × Unit {0}) ((x : SubtypeElement) × Unit {0}) ((x : InformationObjectField) × Unit {0}) ((x : InformationObjectFields) × Unit {0}) ((x : SyntaxApplication) × Unit {0}) ((x : ASN1Type) × Unit {0}) ((x : ASN1Value) × ValueSame x) ((x : SetOperation) × Unit {0}) ((x : Choice) × Unit {0}) ((x : ChoiceOption) × Unit {0}) ((x : SequenceOrSet) × Unit {0}) ((x : SequenceOrSetMember) × Unit {0}) ((x : SequenceOrSetOf) × Unit {0}) ((x : LinkedField) × LinkedSame x)) → ValueSame (roll-ASN1Value (map-ASN1Value ((x : Constraint) × Unit {0}) ((x : ContentConstraint) × Unit {0}) ((x : ElementOrSetOperation) × Unit {0}) ((x : Parameter) × Unit {0}) ((x : SubtypeElement) × Unit {0}) ((x : InformationObjectField) × Unit {0}) ((x : InformationObjectFields) × Unit {0}) ((x : SyntaxApplication) × Unit {0}) ((x : ASN1Type) × Unit {0}) ((x : ASN1Value) × ValueSame x) ((x : SetOperation) × Unit {0}) ((x : Choice) × Unit {0}) ((x : ChoiceOption) × Unit {0}) ((x : SequenceOrSet) × Unit {0}) ((x : SequenceOrSetMember) × Unit {0}) ((x : SequenceOrSetOf) × Unit {0}) ((x : LinkedField) × LinkedSame x) Constraint ContentConstraint ElementOrSetOperation Parameter SubtypeElement InformationObjectField InformationObjectFields SyntaxApplication ASN1Type ASN1Value SetOperation Choice ChoiceOption SequenceOrSet SequenceOrSetMember SequenceOrSetOf LinkedField (λ y. y.0) (λ y. y.0) (λ y. y.0) (λ y. y.0) (λ y. y.0) (λ y. y.0) (λ y. y.0) (λ y. y.0) (λ y. y.0) (λ y. y.0) (λ y. y.0) (λ y. y.0) (λ y. y.0) (λ y. y.0) (λ y. y.0) (λ y. y.0) (λ y. y.0) y))
  value_case (ASN1Value-F.ASN1Value::Choice type name v) = value_at (ASN1Value-F.ASN1Value::Choice type name v.0) v.1
  value_case (ASN1Value-F.SequenceOrSet items) = value_at (ASN1Value-F.SequenceOrSet (map plain_item items)) (items_same items)
  value_case (ASN1Value-F.LinkedNestedValue supertypes v) = value_at (ASN1Value-F.LinkedNestedValue supertypes v.0) v.1
  value_case (ASN1Value-F.LinkedStructLikeValue xs) = value_at (ASN1Value-F.LinkedStructLikeValue (map (λ y. y.0) xs)) (links_same xs)
  value_case (ASN1Value-F.LinkedArrayLikeValue vs) = value_at (ASN1Value-F.LinkedArrayLikeValue (map (λ y. y.0) vs)) (values_same vs)
  value_case y = value_at (map-ASN1Value ((x : Constraint) × Unit {0}) ((x : ContentConstraint) × Unit {0}) ((x : ElementOrSetOperation) × Unit {0}) ((x : Parameter) × Unit {0}) ((x : SubtypeElement) × Unit {0}) ((x : InformationObjectField) × Unit {0}) ((x : InformationObjectFields) × Unit {0}) ((x : SyntaxApplication) × Unit {0}) ((x : ASN1Type) × Unit {0}) ((x : ASN1Value) × ValueSame x) ((x : SetOperation) × Unit {0}) ((x : Choice) × Unit {0}) ((x : ChoiceOption) × Unit {0}) ((x : SequenceOrSet) × Unit {0}) ((x : SequenceOrSetMember) × Unit {0}) ((x : SequenceOrSetOf) × Unit {0}) ((x : LinkedField) × LinkedSame x) Constraint ContentConstraint ElementOrSetOperation Parameter SubtypeElement InformationObjectField InformationObjectFields SyntaxApplication ASN1Type ASN1Value SetOperation Choice ChoiceOption SequenceOrSet SequenceOrSetMember SequenceOrSetOf LinkedField (λ y. y.0) (λ y. y.0) (λ y. y.0) (λ y. y.0) (λ y. y.0) (λ y. y.0) (λ y. y.0) (λ y. y.0) (λ y. y.0) (λ y. y.0) (λ y. y.0) (λ y. y.0) (λ y. y.0) (λ y. y.0) (λ y. y.0) (λ y. y.0) (λ y. y.0) y) refl

  linked_case : (y : LinkedField-F ((x : Constraint) × Unit {0}) ((x : ContentConstraint) × Unit {0}) ((x : ElementOrSetOperation) × Unit {0}) ((x : Parameter) × Unit {0}) ((x : SubtypeElement) × Unit {0}) ((x : InformationObjectField) × Unit {0}) ((x : InformationObjectFields) × Unit {0}) ((x : SyntaxApplication) × Unit {0}) ((x : ASN1Type) × Unit {0}) ((x : ASN1Value) × ValueSame x) ((x : SetOperation) × Unit {0}) ((x : Choice) × Unit {0}) ((x : ChoiceOption) × Unit {0}) ((x : SequenceOrSet) × Unit {0}) ((x : SequenceOrSetMember) × Unit {0}) ((x : SequenceOrSetOf) × Unit {0}) ((x : LinkedField) × LinkedSame x)) → LinkedSame (roll-LinkedField (map-LinkedField ((x : Constraint) × Unit {0}) ((x : ContentConstraint) × Unit {0}) ((x : ElementOrSetOperation) × Unit {0}) ((x : Parameter) × Unit {0}) ((x : SubtypeElement) × Unit {0}) ((x : InformationObjectField) × Unit {0}) ((x : InformationObjectFields) × Unit {0}) ((x : SyntaxApplication) × Unit {0}) ((x : ASN1Type) × Unit {0}) ((x : ASN1Value) × ValueSame x) ((x : SetOperation) × Unit {0}) ((x : Choice) × Unit {0}) ((x : ChoiceOption) × Unit {0}) ((x : SequenceOrSet) × Unit {0}) ((x : SequenceOrSetMember) × Unit {0}) ((x : SequenceOrSetOf) × Unit {0}) ((x : LinkedField) × LinkedSame x) Constraint ContentConstraint ElementOrSetOperation Parameter SubtypeElement InformationObjectField InformationObjectFields SyntaxApplication ASN1Type ASN1Value SetOperation Choice ChoiceOption SequenceOrSet SequenceOrSetMember SequenceOrSetOf LinkedField (λ y. y.0) (λ y. y.0) (λ y. y.0) (λ y. y.0) (λ y. y.0) (λ y. y.0) (λ y. y.0) (λ y. y.0) (λ y. y.0) (λ y. y.0) (λ y. y.0) (λ y. y.0) (λ y. y.0) (λ y. y.0) (λ y. y.0) (λ y. y.0) (λ y. y.0) y))
  linked_case y = linked_at (map-LinkedField ((x : Constraint) × Unit {0}) ((x : ContentConstraint) × Unit {0}) ((x : ElementOrSetOperation) × Unit {0}) ((x : Parameter) × Unit {0}) ((x : SubtypeElement) × Unit {0}) ((x : InformationObjectField) × Unit {0}) ((x : InformationObjectFields) × Unit {0}) ((x : SyntaxApplication) × Unit {0}) ((x : ASN1Type) × Unit {0}) ((x : ASN1Value) × ValueSame x) ((x : SetOperation) × Unit {0}) ((x : Choice) × Unit {0}) ((x : ChoiceOption) × Unit {0}) ((x : SequenceOrSet) × Unit {0}) ((x : SequenceOrSetMember) × Unit {0}) ((x : SequenceOrSetOf) × Unit {0}) ((x : LinkedField) × LinkedSame x) Constraint ContentConstraint ElementOrSetOperation Parameter SubtypeElement InformationObjectField InformationObjectFields SyntaxApplication ASN1Type ASN1Value SetOperation Choice ChoiceOption SequenceOrSet SequenceOrSetMember SequenceOrSetOf LinkedField (λ y. y.0) (λ y. y.0) (λ y. y.0) (λ y. y.0) (λ y. y.0) (λ y. y.0) (λ y. y.0) (λ y. y.0) (λ y. y.0) (λ y. y.0) (λ y. y.0) (λ y. y.0) (λ y. y.0) (λ y. y.0) (λ y. y.0) (λ y. y.0) (λ y. y.0) y) (go y.value)
    where
      go : (v : StructLikeFieldValueOver ((x : ASN1Value) × ValueSame x)) →
          linked_nameless (linked_read naming (linked_parts (tagging f) (map-LinkedField ((x : Constraint) × Unit {0}) ((x : ContentConstraint) × Unit {0}) ((x : ElementOrSetOperation) × Unit {0}) ((x : Parameter) × Unit {0}) ((x : SubtypeElement) × Unit {0}) ((x : InformationObjectField) × Unit {0}) ((x : InformationObjectFields) × Unit {0}) ((x : SyntaxApplication) × Unit {0}) ((x : ASN1Type) × Unit {0}) ((x : ASN1Value) × ValueSame x) ((x : SetOperation) × Unit {0}) ((x : Choice) × Unit {0}) ((x : ChoiceOption) × Unit {0}) ((x : SequenceOrSet) × Unit {0}) ((x : SequenceOrSetMember) × Unit {0}) ((x : SequenceOrSetOf) × Unit {0}) ((x : LinkedField) × LinkedSame x) Constraint ContentConstraint ElementOrSetOperation Parameter SubtypeElement InformationObjectField InformationObjectFields SyntaxApplication ASN1Type ASN1Value SetOperation Choice ChoiceOption SequenceOrSet SequenceOrSetMember SequenceOrSetOf LinkedField (λ y. y.0) (λ y. y.0) (λ y. y.0) (λ y. y.0) (λ y. y.0) (λ y. y.0) (λ y. y.0) (λ y. y.0) (λ y. y.0) (λ y. y.0) (λ y. y.0) (λ y. y.0) (λ y. y.0) (λ y. y.0) (λ y. y.0) (λ y. y.0) (λ y. y.0) (record y { value = v }))))
          ≡ linked_nameless (linked_read naming (map-LinkedField ((x : Constraint) × Unit {0}) ((x : ContentConstraint) × Unit {0}) ((x : ElementOrSetOperation) × Unit {0}) ((x : Parameter) × Unit {0}) ((x : SubtypeElement) × Unit {0}) ((x : InformationObjectField) × Unit {0}) ((x : InformationObjectFields) × Unit {0}) ((x : SyntaxApplication) × Unit {0}) ((x : ASN1Type) × Unit {0}) ((x : ASN1Value) × ValueSame x) ((x : SetOperation) × Unit {0}) ((x : Choice) × Unit {0}) ((x : ChoiceOption) × Unit {0}) ((x : SequenceOrSet) × Unit {0}) ((x : SequenceOrSetMember) × Unit {0}) ((x : SequenceOrSetOf) × Unit {0}) ((x : LinkedField) × LinkedSame x) Constraint ContentConstraint ElementOrSetOperation Parameter SubtypeElement InformationObjectField InformationObjectFields SyntaxApplication ASN1Type ASN1Value SetOperation Choice ChoiceOption SequenceOrSet SequenceOrSetMember SequenceOrSetOf LinkedField (λ y. y.0) (λ y. y.0) (λ y. y.0) (λ y. y.0) (λ y. y.0) (λ y. y.0) (λ y. y.0) (λ y. y.0) (λ y. y.0) (λ y. y.0) (λ y. y.0) (λ y. y.0) (λ y. y.0) (λ y. y.0) (λ y. y.0) (λ y. y.0) (λ y. y.0) (record y { value = v })))
      go (Explicit v) = v.1
      go (Implicit v) = v.1

  all_same : (x : ASN1Value) → ValueSame x
  all_same =
      ind-ASN1Value (λ x. Unit {0}) (λ x. Unit {0}) (λ x. Unit {0}) (λ x. Unit {0}) (λ x. Unit {0}) (λ x. Unit {0}) (λ x. Unit {0}) (λ x. Unit {0}) (λ x. Unit {0}) ValueSame (λ x. Unit {0}) (λ x. Unit {0}) (λ x. Unit {0}) (λ x. Unit {0}) (λ x. Unit {0}) (λ x. Unit {0}) LinkedSame
      (λ x y is. tt)
      (λ x y is. tt)
      (λ x y is. tt)
      (λ x y is. tt)
      (λ x y is. tt)
      (λ x y is. tt)
      (λ x y is. tt)
      (λ x y is. tt)
      (λ x y is. tt)
      (λ x y is. subst (λ z. ValueSame (roll-ASN1Value z)) is (value_case y))
      (λ x y is. tt)
      (λ x y is. tt)
      (λ x y is. tt)
      (λ x y is. tt)
      (λ x y is. tt)
      (λ x y is. tt)
      (λ x y is. subst (λ z. LinkedSame (roll-LinkedField z)) is (linked_case y))

pub nameless_kept : (f : TagChange) (v : ASN1Value) → is_nameless (tagged_value f v) ≡ is_nameless v
unfolding is_nameless
nameless_kept f v = all_same f v
