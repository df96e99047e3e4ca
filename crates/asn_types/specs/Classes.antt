-- Classes (X.681 9).
use Rattle.std.specs.Prelude.{ℕ, List, [], ◌∷◌, Bool, true, false, ◌||◌, codes, is_some, Option, Some, None}
use Rattle.asn_tree_leaves.specs.declared.markers.OptionalMarker.{OptionalMarker}
use Rattle.asn_rules.specs.declared.names.TheConstants.{ASN1_TYPE, CLASS_FIELD, DEFAULT, FIELD_LIST, OBJECT_FIELD_IDENTIFIER, OPTIONAL_MARKER, SYNTAX_PART}
use Rattle.asn_rules.specs.declared.node.Node.{Node}
use Rattle.asn_rules.specs.declared.node.Node.TheViews.{out-Node}
use Rattle.asn_rules.specs.Nodes.{at_children, child_of, the}
use Rattle.asn_tree_leaves.specs.declared.objects.ObjectFieldIdentifier.{ObjectFieldIdentifier}
use Rattle.asn_tree_leaves.specs.declared.objects.ObjectFieldIdentifier.TheVariants.{MultipleValue, SingleValue}
use Rattle.asn_tree_leaves.specs.declared.objects.SyntaxExpression.TheVariants.{Required}
use Rattle.asn_tree_leaves.specs.declared.objects.SyntaxToken.TheVariants.{Field, Literal}
use Rattle.asn_tree.specs.declared.objects.InformationObjectClass.{InformationObjectClass}
use Rattle.asn_tree.specs.declared.objects.InformationObjectClassField.{InformationObjectClassField}
use Rattle.asn_tree.specs.declared.types.ASN1Type.{ASN1Type}
use Rattle.asn_tree.specs.declared.types.ASN1Type.TheVariants.{ObjectIdentifier}
use Rattle.asn_tree.specs.declared.values.ASN1Value.{ASN1Value}
use Rattle.asn_read_nodes.specs.Parts.{all_some, if_there, of_some}
use Rattle.asn_read_pieces.specs.Fields.{field_of}
use Rattle.asn_read_pieces.specs.Syntax.{syntax_of}
use Rattle.asn_read_pieces.specs.Words.{optional_of, unique_of}
use Rattle.asn_types.specs.Members.{default_of}
use Rattle.asn_types.specs.Reading.{type_of}

-- the built-in class: { &id OBJECT IDENTIFIER UNIQUE, &Type } WITH SYNTAX { &Type IDENTIFIED BY &id } (X.681 A.2)
abbrev pub type_identifier : InformationObjectClass
type_identifier =
    record {
      fields =
          record { identifier = SingleValue (codes "&id"); ty = Some (ObjectIdentifier (record { constraints = [] })); is_optional = false; default = None; is_unique = true }
          ∷ record { identifier = MultipleValue (codes "&Type"); ty = None; is_optional = false; default = None; is_unique = false }
          ∷ [];
      syntax =
          Some (record {
            expressions =
                Required (Field (MultipleValue (codes "&Type")))
                ∷ Required (Literal (codes "IDENTIFIED"))
                ∷ Required (Literal (codes "BY"))
                ∷ Required (Field (SingleValue (codes "&id")))
                ∷ [];
          });
    }

-- A field: its name, its type or class where one stands, and whether it is unique. It may be left out where OPTIONAL or
-- DEFAULT stands.
abbrev pub a_field : ObjectFieldIdentifier → Option ASN1Type → Option OptionalMarker → Option ASN1Value → Bool → InformationObjectClassField
a_field name ty optional default unique =
    record { identifier = name; ty = ty; is_optional = is_some optional || is_some default; default = default; is_unique = unique }

-- a field of a class (X.681 9.4)
abbrev pub class_field_of : List ℕ → Node → Option InformationObjectClassField
class_field_of text n =
    of_some (the (child_of n OBJECT_FIELD_IDENTIFIER) (field_of text)) (λ name. of_some (if_there (child_of n ASN1_TYPE) (type_of text)) (λ ty.
    the (child_of n OPTIONAL_MARKER) (λ marker. of_some (the (child_of n DEFAULT) (default_of text)) (λ default. Some (a_field name ty (optional_of marker) default (unique_of n))))))

abbrev pub class_fields_in : List ℕ → List Node → Option (List InformationObjectClassField)
class_fields_in text ns = all_some (at_children ns CLASS_FIELD (class_field_of text))

-- the fields in order
abbrev pub class_fields_of : List ℕ → Node → Option (List InformationObjectClassField)
class_fields_of text n = class_fields_in text (out-Node n).children

-- a class: its fields, and the syntax behind WITH SYNTAX, where it stands (X.681 9.3)
abbrev pub class_of : List ℕ → Node → Option InformationObjectClass
class_of text n =
    of_some (the (child_of n FIELD_LIST) (class_fields_of text)) (λ fields. of_some (if_there (child_of n SYNTAX_PART) (syntax_of text)) (λ syntax. Some (record { fields = fields; syntax = syntax })))
