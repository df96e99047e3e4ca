-- The constraints of types.
use Rattle.std.specs.Prelude.{List, Option, Some, None}
use Rattle.asn_tree.specs.declared.constraints.Constraint.{Constraint}
use Rattle.asn_tree.specs.declared.types.ASN1Type.{ASN1Type, ASN1Type-F, out-ASN1Type}
use Rattle.asn_tree.specs.declared.types.Choice.{out-Choice}
use Rattle.asn_tree.specs.declared.types.SequenceOrSet.{out-SequenceOrSet}
use Rattle.asn_tree.specs.declared.types.SequenceOrSetOf.{out-SequenceOrSetOf}
use Rattle.asn_tree.specs.Layers.{TypeLayer}

abbrev pub constraints_at : TypeLayer → Option (List Constraint)
constraints_at ASN1Type-F.ASN1Type::Null = None
constraints_at (ASN1Type-F.ASN1Type::Boolean t) = Some t.constraints
constraints_at (ASN1Type-F.ASN1Type::Integer t) = Some t.constraints
constraints_at (ASN1Type-F.ASN1Type::Real t) = Some t.constraints
constraints_at (ASN1Type-F.ASN1Type::BitString t) = Some t.constraints
constraints_at (ASN1Type-F.ASN1Type::OctetString t) = Some t.constraints
constraints_at (ASN1Type-F.CharacterString t) = Some t.constraints
constraints_at (ASN1Type-F.Enumerated t) = Some t.constraints
constraints_at (ASN1Type-F.ASN1Type::Choice t) = Some (out-Choice t).constraints
constraints_at (ASN1Type-F.Sequence t) = Some (out-SequenceOrSet t).constraints
constraints_at (ASN1Type-F.SequenceOf t) = Some (out-SequenceOrSetOf t).constraints
constraints_at (ASN1Type-F.Set t) = Some (out-SequenceOrSet t).constraints
constraints_at (ASN1Type-F.SetOf t) = Some (out-SequenceOrSetOf t).constraints
constraints_at (ASN1Type-F.ASN1Type::Time t) = Some t.constraints
constraints_at (ASN1Type-F.GeneralizedTime t) = Some t.constraints
constraints_at (ASN1Type-F.UTCTime t) = Some t.constraints
constraints_at (ASN1Type-F.ElsewhereDeclaredType t) = Some t.constraints
constraints_at (ASN1Type-F.ChoiceSelectionType t) = None
constraints_at (ASN1Type-F.ASN1Type::ObjectIdentifier t) = Some t.constraints
constraints_at (ASN1Type-F.InformationObjectFieldReference t) = Some t.constraints
constraints_at ASN1Type-F.EmbeddedPdv = None
constraints_at ASN1Type-F.External = None

-- the constraints of a type; NULL, a selection, EMBEDDED PDV and EXTERNAL have no place for any
abbrev pub constraints_of : ASN1Type → Option (List Constraint)
constraints_of t = constraints_at (out-ASN1Type t)
