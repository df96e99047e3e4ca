-- An induction over types and what stands in them: of the other trees nothing is shown.
use Rattle.std.proofs.Common.{subst}
use Rattle.asn_tree.specs.declared.constraints.Constraint.{Constraint}
use Rattle.asn_tree.specs.declared.constraints.ContentConstraint.{ContentConstraint}
use Rattle.asn_tree.specs.declared.constraints.ElementOrSetOperation.{ElementOrSetOperation}
use Rattle.asn_tree.specs.declared.constraints.Parameter.{Parameter}
use Rattle.asn_tree.specs.declared.constraints.SubtypeElement.{SubtypeElement}
use Rattle.asn_tree.specs.declared.objects.InformationObjectField.{InformationObjectField}
use Rattle.asn_tree.specs.declared.objects.InformationObjectFields.{InformationObjectFields}
use Rattle.asn_tree.specs.declared.objects.SyntaxApplication.{SyntaxApplication}
use Rattle.asn_tree.specs.declared.types.ASN1Type.{ASN1Type, roll-ASN1Type, map-ASN1Type, ind-ASN1Type}
use Rattle.asn_tree.specs.declared.values.ASN1Value.{ASN1Value}
use Rattle.asn_tree.specs.declared.constraints.SetOperation.{SetOperation}
use Rattle.asn_tree.specs.declared.types.Choice.{Choice}
use Rattle.asn_tree.specs.declared.types.ChoiceOption.{ChoiceOption}
use Rattle.asn_tree.specs.declared.types.SequenceOrSet.{SequenceOrSet, roll-SequenceOrSet, map-SequenceOrSet}
use Rattle.asn_tree.specs.declared.types.SequenceOrSetMember.{SequenceOrSetMember, roll-SequenceOrSetMember, map-SequenceOrSetMember}
use Rattle.asn_tree.specs.declared.types.SequenceOrSetOf.{SequenceOrSetOf}
use Rattle.asn_tree.specs.declared.values.LinkedField.{LinkedField}
use Rattle.asn_tree.specs.Layers.{Carriers, TypeOver, TypeLayer, StructOver, StructLayer, MemberOver, MemberLayer}

-- what is shown of types, of SEQUENCEs and SETs, and of their members
pub record Shown : Type 1 where
  pub of_types : ASN1Type → Type 0
  pub of_structs : SequenceOrSet → Type 0
  pub of_members : SequenceOrSetMember → Type 0

-- each tree with what is shown of it
abbrev pub proved : Shown → Carriers
proved s =
    record {
      for_constraint = (x : Constraint) × Unit {0};
      for_content = (x : ContentConstraint) × Unit {0};
      for_set = (x : ElementOrSetOperation) × Unit {0};
      for_parameter = (x : Parameter) × Unit {0};
      for_element = (x : SubtypeElement) × Unit {0};
      for_field = (x : InformationObjectField) × Unit {0};
      for_fields = (x : InformationObjectFields) × Unit {0};
      for_item = (x : SyntaxApplication) × Unit {0};
      for_type = (x : ASN1Type) × s.of_types x;
      for_value = (x : ASN1Value) × Unit {0};
      for_operation = (x : SetOperation) × Unit {0};
      for_choice = (x : Choice) × Unit {0};
      for_option = (x : ChoiceOption) × Unit {0};
      for_struct = (x : SequenceOrSet) × s.of_structs x;
      for_member = (x : SequenceOrSetMember) × s.of_members x;
      for_list = (x : SequenceOrSetOf) × Unit {0};
      for_linked = (x : LinkedField) × Unit {0};
    }

module _ (s : Shown) where
  -- one level without what was shown
  abbrev pub bare_type : TypeOver (proved s) → TypeLayer
  bare_type =
      map-ASN1Type (proved s).for_constraint (proved s).for_content (proved s).for_set
      (proved s).for_parameter (proved s).for_element (proved s).for_field (proved s).for_fields (proved s).for_item
      (proved s).for_type (proved s).for_value (proved s).for_operation (proved s).for_choice (proved s).for_option
      (proved s).for_struct (proved s).for_member (proved s).for_list (proved s).for_linked Constraint
      ContentConstraint ElementOrSetOperation Parameter SubtypeElement InformationObjectField InformationObjectFields
      SyntaxApplication ASN1Type ASN1Value SetOperation Choice ChoiceOption SequenceOrSet SequenceOrSetMember
      SequenceOrSetOf LinkedField (λ y. y.0) (λ y. y.0) (λ y. y.0) (λ y. y.0) (λ y. y.0) (λ y. y.0) (λ y. y.0)
      (λ y. y.0) (λ y. y.0) (λ y. y.0) (λ y. y.0) (λ y. y.0) (λ y. y.0) (λ y. y.0) (λ y. y.0) (λ y. y.0) (λ y. y.0)

  -- one level without what was shown
  abbrev pub bare_struct : StructOver (proved s) → StructLayer
  bare_struct =
      map-SequenceOrSet (proved s).for_constraint (proved s).for_content (proved s).for_set
      (proved s).for_parameter (proved s).for_element (proved s).for_field (proved s).for_fields (proved s).for_item
      (proved s).for_type (proved s).for_value (proved s).for_operation (proved s).for_choice (proved s).for_option
      (proved s).for_struct (proved s).for_member (proved s).for_list (proved s).for_linked Constraint
      ContentConstraint ElementOrSetOperation Parameter SubtypeElement InformationObjectField InformationObjectFields
      SyntaxApplication ASN1Type ASN1Value SetOperation Choice ChoiceOption SequenceOrSet SequenceOrSetMember
      SequenceOrSetOf LinkedField (λ y. y.0) (λ y. y.0) (λ y. y.0) (λ y. y.0) (λ y. y.0) (λ y. y.0) (λ y. y.0)
      (λ y. y.0) (λ y. y.0) (λ y. y.0) (λ y. y.0) (λ y. y.0) (λ y. y.0) (λ y. y.0) (λ y. y.0) (λ y. y.0) (λ y. y.0)

  -- one level without what was shown
  abbrev pub bare_member : MemberOver (proved s) → MemberLayer
  bare_member =
      map-SequenceOrSetMember (proved s).for_constraint (proved s).for_content (proved s).for_set
      (proved s).for_parameter (proved s).for_element (proved s).for_field (proved s).for_fields (proved s).for_item
      (proved s).for_type (proved s).for_value (proved s).for_operation (proved s).for_choice (proved s).for_option
      (proved s).for_struct (proved s).for_member (proved s).for_list (proved s).for_linked Constraint
      ContentConstraint ElementOrSetOperation Parameter SubtypeElement InformationObjectField InformationObjectFields
      SyntaxApplication ASN1Type ASN1Value SetOperation Choice ChoiceOption SequenceOrSet SequenceOrSetMember
      SequenceOrSetOf LinkedField (λ y. y.0) (λ y. y.0) (λ y. y.0) (λ y. y.0) (λ y. y.0) (λ y. y.0) (λ y. y.0)
      (λ y. y.0) (λ y. y.0) (λ y. y.0) (λ y. y.0) (λ y. y.0) (λ y. y.0) (λ y. y.0) (λ y. y.0) (λ y. y.0) (λ y. y.0)

  module _ (at_type : (y : TypeOver (proved s)) → s.of_types (roll-ASN1Type (bare_type y)))
      (at_struct : (y : StructOver (proved s)) → s.of_structs (roll-SequenceOrSet (bare_struct y)))
      (at_member : (y : MemberOver (proved s)) → s.of_members (roll-SequenceOrSetMember (bare_member y))) where
    pub each_type : (x : ASN1Type) → s.of_types x
    each_type =
        ind-ASN1Type
        (λ x. Unit {0})
        (λ x. Unit {0})
        (λ x. Unit {0})
        (λ x. Unit {0})
        (λ x. Unit {0})
        (λ x. Unit {0})
        (λ x. Unit {0})
        (λ x. Unit {0})
        s.of_types
        (λ x. Unit {0})
        (λ x. Unit {0})
        (λ x. Unit {0})
        (λ x. Unit {0})
        s.of_structs
        s.of_members
        (λ x. Unit {0})
        (λ x. Unit {0})
        (λ x y is. tt)
        (λ x y is. tt)
        (λ x y is. tt)
        (λ x y is. tt)
        (λ x y is. tt)
        (λ x y is. tt)
        (λ x y is. tt)
        (λ x y is. tt)
        (λ x y is. subst (λ z. s.of_types (roll-ASN1Type z)) is (at_type y))
        (λ x y is. tt)
        (λ x y is. tt)
        (λ x y is. tt)
        (λ x y is. tt)
        (λ x y is. subst (λ z. s.of_structs (roll-SequenceOrSet z)) is (at_struct y))
        (λ x y is. subst (λ z. s.of_members (roll-SequenceOrSetMember z)) is (at_member y))
        (λ x y is. tt)
        (λ x y is. tt)
