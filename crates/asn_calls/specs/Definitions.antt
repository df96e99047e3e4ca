-- What the calls on definitions answer.
use Rattle.std.specs.Prelude.{ℕ, ℤ, Bool, true, List, Option, Some, None, is_some, if◌then◌else◌}
use Rattle.std.specs.List.{find}
use Rattle.std.specs.Option.{option_and_then, option_map}
use Rattle.std.specs.Str.{bytes_eq}
use Rattle.asn_tree.specs.declared.definitions.ToplevelDefinition.{ToplevelDefinition}
use Rattle.asn_tree.specs.declared.definitions.ToplevelDefinition.TheVariants.{TypeDef, Value, Information}
use Rattle.asn_tree.specs.declared.objects.ASN1Information.{ASN1Information}
use Rattle.asn_tree.specs.declared.objects.ASN1Information.TheVariants.{ObjectClass, ObjectSet, Object}
use Rattle.asn_tree.specs.declared.objects.InformationObjectClass.{InformationObjectClass}
use Rattle.asn_tree.specs.declared.types.ASN1Type.{ASN1Type, ASN1Type-F, out-ASN1Type}
use Rattle.asn_tree_kinds.specs.declared.types.DistinguishedValue.{DistinguishedValue}
use Rattle.asn_tree_kinds.specs.declared.types.Enumeral.{Enumeral}
use Rattle.asn_tree.specs.Calls.{name_of}
use Rattle.asn_tree.specs.Layers.{TypeLayer}

abbrev pub class_in : ASN1Information → Option InformationObjectClass
class_in (ObjectClass c) = Some c
class_in (ObjectSet s) = None
class_in (Object o) = None

-- the class that is defined (X.681 9.1)
abbrev pub class_of : ToplevelDefinition → Option InformationObjectClass
class_of (TypeDef d) = None
class_of (Value d) = None
class_of (Information d) = class_in d.value

-- the class that is defined under this name
abbrev pub class_named : List ℕ → ToplevelDefinition → Option InformationObjectClass
class_named name d = if bytes_eq (name_of d) name then class_of d else None

-- whether a name is the one that is asked for; where none is, each name is
abbrev pub is_asked : Option (List ℕ) → List ℕ → Bool
is_asked None name = true
is_asked (Some asked) name = bytes_eq name asked

-- the type that is defined under the name that is asked for
abbrev pub type_asked : Option (List ℕ) → ToplevelDefinition → Option ASN1Type
type_asked asked (TypeDef d) = if is_asked asked d.name then Some d.ty else None
type_asked asked (Value d) = None
type_asked asked (Information d) = None

abbrev pub enumeral_at : List ℕ → TypeLayer → Option Enumeral
enumeral_at name (ASN1Type-F.Enumerated t) = find (λ item. bytes_eq item.name name) t.members
enumeral_at name _ = None

-- the first item of this name of an ENUMERATED (X.680 20.1)
abbrev pub enumeral : List ℕ → ASN1Type → Option Enumeral
enumeral name t = enumeral_at name (out-ASN1Type t)

abbrev pub distinguished : List ℕ → Option (List DistinguishedValue) → Option ℤ
distinguished name None = None
distinguished name (Some values) = option_map (λ named. named.value) (find (λ named. bytes_eq named.name name) values)

abbrev pub number_at : List ℕ → TypeLayer → Option ℤ
number_at name (ASN1Type-F.ASN1Type::Integer t) = distinguished name t.distinguished_values
number_at name t = option_map (λ item. item.index) (enumeral_at name t)

-- the number of the first item of this name of an ENUMERATED, or of the first named number of an INTEGER (X.680 19.1)
abbrev pub number_in : List ℕ → ASN1Type → Option ℤ
number_in name t = number_at name (out-ASN1Type t)

-- whether the ENUMERATED that is defined under the name asked for has an item of this name
abbrev pub has_item : Option (List ℕ) → List ℕ → ToplevelDefinition → Bool
has_item asked name d = is_some (option_and_then (enumeral name) (type_asked asked d))

-- the number that the name has in the type that is defined under the name asked for
abbrev pub named_number : Option (List ℕ) → List ℕ → ToplevelDefinition → Option ℤ
named_number asked name d = option_and_then (number_in name) (type_asked asked d)
