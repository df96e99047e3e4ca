-- Trees, scopes and definitions that differ in their tags alone.
use Rattle.std.specs.Prelude.{◌≡◌, ℕ, List, map, Option, Some, None}
use Rattle.std.specs.Option.{option_map}
use Rattle.asn_tree.specs.Layers.{MemberLayer, OptionLayer}
use Rattle.asn_tree.specs.Passes.{Pass, unchanged, rewritten_constraint, rewritten_fields, rewritten_parameter, rewritten_type, rewritten_value}
use Rattle.asn_tree.specs.declared.constraints.Constraint.{Constraint}
use Rattle.asn_tree.specs.declared.constraints.Parameter.{Parameter}
use Rattle.asn_tree.specs.declared.definitions.ParameterGovernor.{ParameterGovernor}
use Rattle.asn_tree.specs.declared.definitions.ParameterGovernor.TheVariants as governor
use Rattle.asn_tree.specs.declared.definitions.Parameterization.{Parameterization}
use Rattle.asn_tree.specs.declared.definitions.ParameterizationArgument.{ParameterizationArgument}
use Rattle.asn_tree.specs.declared.definitions.ToplevelDefinition.{ToplevelDefinition}
use Rattle.asn_tree.specs.declared.definitions.ToplevelDefinition.TheVariants.{TypeDef, Value, Information}
use Rattle.asn_tree_headers.specs.declared.headers.AsnTag.{AsnTag}
use Rattle.asn_tree.specs.declared.objects.ASN1Information.{ASN1Information}
use Rattle.asn_tree.specs.declared.objects.ASN1Information.TheVariants.{ObjectClass, ObjectSet, Object}
use Rattle.asn_tree.specs.declared.objects.ClassLink.{ClassLink}
use Rattle.asn_tree.specs.declared.objects.InformationObjectClass.{InformationObjectClass}
use Rattle.asn_tree.specs.declared.objects.InformationObjectClassField.{InformationObjectClassField}
use Rattle.asn_tree.specs.declared.objects.InformationObjectFields.{InformationObjectFields}
use Rattle.asn_tree_kinds.specs.declared.objects.ObjectSetOver.{ObjectSetOver}
use Rattle.asn_tree_kinds.specs.declared.objects.ObjectSetValueOver.{ObjectSetValueOver}
use Rattle.asn_tree_kinds.specs.declared.objects.ObjectSetValueOver.TheVariants.{Reference, Inline}
use Rattle.asn_tree.specs.declared.types.ASN1Type.{ASN1Type}
use Rattle.asn_tree.specs.declared.types.ChoiceOption.{ChoiceOption, roll-ChoiceOption}
use Rattle.asn_tree.specs.declared.types.SequenceOrSetMember.{SequenceOrSetMember, roll-SequenceOrSetMember}
use Rattle.asn_tree.specs.declared.values.ASN1Value.{ASN1Value}
use Rattle.asn_meaning.specs.Definitions.{Definitions, see}
use Rattle.asn_meaning.specs.Scopes.{Scope, Empty, Binds, LeavesOpen, Place}

-- ---- trees

-- what becomes of each tag, or of where none stands
abbrev pub TagChange : Type 0
TagChange = Option AsnTag → Option AsnTag

abbrev pub tagged_member : TagChange → MemberLayer → SequenceOrSetMember
tagged_member f m = roll-SequenceOrSetMember (record m { tag = f m.tag })

abbrev pub tagged_option : TagChange → OptionLayer → ChoiceOption
tagged_option f o = roll-ChoiceOption (record o { tag = f o.tag })

-- tags stand before members and options, at every depth of a tree
abbrev pub tagging : TagChange → Pass
tagging f = record unchanged { at_option = tagged_option f; at_member = tagged_member f }

-- a tree with its tags changed
abbrev pub tagged : TagChange → ASN1Type → ASN1Type
tagged f = rewritten_type (tagging f)

abbrev pub tagged_value : TagChange → ASN1Value → ASN1Value
tagged_value f = rewritten_value (tagging f)

abbrev pub tagged_constraint : TagChange → Constraint → Constraint
tagged_constraint f = rewritten_constraint (tagging f)

abbrev pub tagged_parameter : TagChange → Parameter → Parameter
tagged_parameter f = rewritten_parameter (tagging f)

abbrev pub tagged_fields : TagChange → InformationObjectFields → InformationObjectFields
tagged_fields f = rewritten_fields (tagging f)

abbrev pub tagged_governor : TagChange → ParameterGovernor → ParameterGovernor
tagged_governor f governor.None = governor.None
tagged_governor f (governor.TypeOrClass ty) = governor.TypeOrClass (tagged f ty)
tagged_governor f (governor.Class name) = governor.Class name

abbrev pub tagged_dummy : TagChange → ParameterizationArgument → ParameterizationArgument
tagged_dummy f a = record a { param_governor = tagged_governor f a.param_governor }

abbrev pub tagged_parameters : TagChange → Parameterization → Parameterization
tagged_parameters f p = record p { parameters = map (tagged_dummy f) p.parameters }

abbrev pub tagged_class_field : TagChange → InformationObjectClassField → InformationObjectClassField
tagged_class_field f x = record x { ty = option_map (tagged f) x.ty; default = option_map (tagged_value f) x.default }

abbrev pub tagged_class : TagChange → InformationObjectClass → InformationObjectClass
tagged_class f c = record c { fields = map (tagged_class_field f) c.fields }

abbrev pub tagged_item : TagChange → ObjectSetValueOver InformationObjectFields → ObjectSetValueOver InformationObjectFields
tagged_item f (Reference name) = Reference name
tagged_item f (Inline fields) = Inline (tagged_fields f fields)

abbrev pub tagged_set : TagChange → ObjectSetOver InformationObjectFields → ObjectSetOver InformationObjectFields
tagged_set f s = record s { values = map (tagged_item f) s.values }

abbrev pub tagged_information : TagChange → ASN1Information → ASN1Information
tagged_information f (ObjectClass c) = ObjectClass (tagged_class f c)
tagged_information f (ObjectSet s) = ObjectSet (tagged_set f s)
tagged_information f (Object o) = Object (record o { fields = tagged_fields f o.fields })

-- ---- what is alike

-- The second definition is the first with its tags changed, its numbers and its link to a class aside.
abbrev pub IsRetagged : ToplevelDefinition → ToplevelDefinition → Type 0
IsRetagged (TypeDef d) x =
    (f : TagChange) × (tag : Option AsnTag) × (index : Option (ℕ × ℕ))
    × (x ≡ TypeDef (record d { tag = tag; ty = tagged f d.ty; parameterization = option_map (tagged_parameters f) d.parameterization; index = index }))
IsRetagged (Value d) x =
    (f : TagChange) × (index : Option (ℕ × ℕ))
    × (x ≡ Value (record d { associated_type = tagged f d.associated_type; parameterization = option_map (tagged_parameters f) d.parameterization; value = tagged_value f d.value; index = index }))
IsRetagged (Information d) x =
    (f : TagChange) × (link : Option ClassLink) × (index : Option (ℕ × ℕ))
    × (x ≡ Information (record d { parameterization = option_map (tagged_parameters f) d.parameterization; class = link; value = tagged_information f d.value; index = index }))

-- both are absent, or both are there and alike
abbrev pub BothAlike : {A : Type 0} → (A → A → Type 0) → Option A → Option A → Type 0
BothAlike R None b = b ≡ None
BothAlike R (Some x) b = (y : _) × R x y × (b ≡ Some y)

-- Each name sees among the second definitions what it sees among the first, with its tags changed; or it sees nothing
-- among both. Each definition may have its own change.
abbrev pub DifferInTags : Definitions → Definitions → Type 0
DifferInTags defs others = (name : List ℕ) → BothAlike IsRetagged (see defs name) (see others name)

-- The second scope is the first with tags changed, in each argument and governor by a change of its own.
abbrev pub ScopesAlike : Scope → Scope → Type 0
ScopesAlike Empty q = q ≡ Empty
ScopesAlike (Binds name governor argument scope others) q =
    (f : TagChange) × (g : TagChange) × (scope' : Scope) × (others' : Scope) × ScopesAlike scope scope' × ScopesAlike others others'
    × (q ≡ Binds name (tagged_governor g governor) (tagged_parameter f argument) scope' others')
ScopesAlike (LeavesOpen name governor others) q =
    (g : TagChange) × (others' : Scope) × ScopesAlike others others' × (q ≡ LeavesOpen name (tagged_governor g governor) others')

-- The second place is the first with tags changed.
abbrev pub PlacesAlike : Place → Place → Type 0
PlacesAlike p q = (f : TagChange) × (scope : Scope) × ScopesAlike p.scope scope × (q ≡ record { scope = scope; ty = tagged f p.ty })
