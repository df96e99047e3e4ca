-- Which definition a name stands for.
use Rattle.std.specs.Prelude.{ℕ, List, [], ◌∷◌, Bool, true, false, Option, Some, None, is_some, codes, if◌then◌else◌}
use Rattle.std.specs.Str.{bytes_eq}
use Rattle.asn_tree.specs.Calls.{name_of}
use Rattle.asn_tree.specs.declared.definitions.Parameterization.{Parameterization}
use Rattle.asn_tree.specs.declared.definitions.ToplevelDefinition.{ToplevelDefinition}
use Rattle.asn_tree.specs.declared.definitions.ToplevelDefinition.TheVariants.{TypeDef, Value, Information}
use Rattle.asn_tree.specs.declared.definitions.ToplevelInformationDefinition.{ToplevelInformationDefinition}
use Rattle.asn_tree.specs.declared.definitions.ToplevelTypeDefinition.{ToplevelTypeDefinition}
use Rattle.asn_tree.specs.declared.definitions.ToplevelValueDefinition.{ToplevelValueDefinition}
use Rattle.asn_tree.specs.declared.objects.ASN1Information.{ASN1Information}
use Rattle.asn_tree.specs.declared.objects.ASN1Information.TheVariants.{ObjectClass, ObjectSet, Object}
use Rattle.asn_tree.specs.declared.objects.InformationObject.{InformationObject}
use Rattle.asn_tree.specs.declared.objects.InformationObjectClass.{InformationObjectClass}
use Rattle.asn_tree_leaves.specs.declared.objects.ObjectFieldIdentifier.TheVariants.{SingleValue, MultipleValue}
use Rattle.asn_tree_leaves.specs.declared.objects.SyntaxExpression.TheVariants as expression
use Rattle.asn_tree_leaves.specs.declared.objects.SyntaxToken.TheVariants as token
use Rattle.asn_tree.specs.declared.types.ASN1Type.{ASN1Type}
use Rattle.asn_tree.specs.declared.types.ASN1Type.TheVariants as type_of_kind
use Rattle.asn_meaning.specs.Answers.{once}

abbrev pub Definitions : Type 0
Definitions = List ToplevelDefinition

-- OBJECT IDENTIFIER without constraints
abbrev pub plain_identifier : ASN1Type
plain_identifier = type_of_kind.ObjectIdentifier (record { constraints = [] })

-- CLASS { &id OBJECT IDENTIFIER UNIQUE, &Type } WITH SYNTAX { &Type IDENTIFIED BY &id } (X.681 A.2)
abbrev pub type_identifier : InformationObjectClass
type_identifier =
    record {
      fields =
          record { identifier = SingleValue (codes "&id"); ty = Some plain_identifier; is_optional = false; default = None; is_unique = true }
          ∷ record { identifier = MultipleValue (codes "&Type"); ty = None; is_optional = false; default = None; is_unique = false }
          ∷ [];
      syntax =
          Some (record {
            expressions =
                expression.Required (token.Field (MultipleValue (codes "&Type")))
                ∷ expression.Required (token.Literal (codes "IDENTIFIED"))
                ∷ expression.Required (token.Literal (codes "BY"))
                ∷ expression.Required (token.Field (SingleValue (codes "&id")))
                ∷ [];
          });
    }

-- the definition of that class
unfoldable pub built_in : ToplevelDefinition
built_in =
    Information (record {
      comments = [];
      name = codes "TYPE-IDENTIFIER";
      parameterization = None;
      class = None;
      value = ObjectClass type_identifier;
      index = None;
    })

abbrev pub last_named : Definitions → List ℕ → Option ToplevelDefinition
last_named [] name = None
last_named (d ∷ ds) name = elim (last_named ds name) [
  | Some later ↦ Some later
  | None ↦ if bytes_eq (name_of d) name then Some d else None
]

-- See: the last definition of the name over all modules; TYPE-IDENTIFIER is always the built-in class.
abbrev pub see : Definitions → List ℕ → Option ToplevelDefinition
see defs name = if bytes_eq name (codes "TYPE-IDENTIFIER") then Some built_in else last_named defs name

-- something of a definition that is no template (X.683 8.1)
abbrev pub unless_template : {A : Type 0} → Option Parameterization → A → Option A
unless_template None x = Some x
unless_template (Some dummies) x = None

abbrev pub type_in : ToplevelDefinition → Option ToplevelTypeDefinition
type_in (TypeDef d) = Some d
type_in (Value d) = None
type_in (Information d) = None

-- the type definition that a name stands for, a template too
abbrev pub type_named : Definitions → List ℕ → Option ToplevelTypeDefinition
type_named defs name = once None (see defs name) type_in

abbrev pub value_in : ToplevelDefinition → Option ToplevelValueDefinition
value_in (TypeDef d) = None
value_in (Value d) = unless_template d.parameterization d
value_in (Information d) = None

-- the value definition that a name stands for
abbrev pub value_named : Definitions → List ℕ → Option ToplevelValueDefinition
value_named defs name = once None (see defs name) value_in

abbrev pub information_in : ToplevelDefinition → Option ToplevelInformationDefinition
information_in (TypeDef d) = None
information_in (Value d) = None
information_in (Information d) = Some d

-- the definition of a class, an object or a set that a name stands for, a template too
abbrev pub information_named : Definitions → List ℕ → Option ToplevelInformationDefinition
information_named defs name = once None (see defs name) information_in

abbrev pub class_in : ASN1Information → Option InformationObjectClass
class_in (ObjectClass c) = Some c
class_in (ObjectSet s) = None
class_in (Object o) = None

-- whether a name stands for a class
abbrev pub is_class : Definitions → List ℕ → Bool
is_class defs name = is_some (once None (information_named defs name) (λ d. class_in d.value))

-- the class that a name stands for
abbrev pub class_named : Definitions → List ℕ → Option InformationObjectClass
class_named defs name = once None (information_named defs name) (λ d. once None (class_in d.value) (unless_template d.parameterization))

abbrev pub object_in : ASN1Information → Option InformationObject
object_in (ObjectClass c) = None
object_in (ObjectSet s) = None
object_in (Object o) = Some o

-- the object that a name stands for
abbrev pub object_named : Definitions → List ℕ → Option InformationObject
object_named defs name = once None (information_named defs name) (λ d. once None (object_in d.value) (unless_template d.parameterization))
