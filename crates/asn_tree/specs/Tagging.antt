-- A module's tagging environment, added to each tag of a definition (X.680 31.2.7).
use Rattle.std.specs.Prelude.{Option, Some, None, map}
use Rattle.std.specs.Option.{option_map}
use Rattle.asn_tree.specs.declared.definitions.ParameterGovernor.{ParameterGovernor}
use Rattle.asn_tree.specs.declared.definitions.ParameterGovernor.TheVariants as governor
use Rattle.asn_tree.specs.declared.definitions.Parameterization.{Parameterization}
use Rattle.asn_tree.specs.declared.definitions.ParameterizationArgument.{ParameterizationArgument}
use Rattle.asn_tree.specs.declared.definitions.ToplevelDefinition.{ToplevelDefinition}
use Rattle.asn_tree.specs.declared.definitions.ToplevelDefinition.TheVariants.{TypeDef, Value, Information}
use Rattle.asn_tree_headers.specs.declared.headers.AsnTag.{AsnTag}
use Rattle.asn_tree_headers.specs.declared.headers.TaggingEnvironment.{TaggingEnvironment}
use Rattle.asn_tree.specs.declared.objects.ASN1Information.{ASN1Information}
use Rattle.asn_tree.specs.declared.objects.ASN1Information.TheVariants.{ObjectClass, ObjectSet, Object}
use Rattle.asn_tree.specs.declared.objects.ClassLink.{ClassLink}
use Rattle.asn_tree.specs.declared.objects.ClassLink.TheVariants.{ByName, ByReference}
use Rattle.asn_tree.specs.declared.objects.InformationObjectClass.{InformationObjectClass}
use Rattle.asn_tree.specs.declared.objects.InformationObjectClassField.{InformationObjectClassField}
use Rattle.asn_tree.specs.declared.objects.InformationObjectFields.{InformationObjectFields}
use Rattle.asn_tree_kinds.specs.declared.objects.ObjectSetOver.{ObjectSetOver}
use Rattle.asn_tree_kinds.specs.declared.objects.ObjectSetValueOver.{ObjectSetValueOver}
use Rattle.asn_tree_kinds.specs.declared.objects.ObjectSetValueOver.TheVariants.{Reference, Inline}
use Rattle.asn_tree.specs.declared.types.ASN1Type.{ASN1Type}
use Rattle.asn_tree.specs.declared.types.ChoiceOption.{ChoiceOption, roll-ChoiceOption}
use Rattle.asn_tree.specs.declared.types.SequenceOrSetMember.{SequenceOrSetMember, roll-SequenceOrSetMember}
use Rattle.asn_tree.specs.declared.values.ASN1Value.{ASN1Value}
use Rattle.asn_tree_headers.specs.Environments.{added}
use Rattle.asn_tree.specs.Layers.{MemberLayer, OptionLayer}
use Rattle.asn_tree.specs.Passes.{Pass, unchanged, rewritten_type, rewritten_value, rewritten_fields}

-- the tag with the environment added to its own
abbrev pub retag : TaggingEnvironment → Option AsnTag → Option AsnTag
retag e None = None
retag e (Some t) = Some (record t { environment = added e t.environment })

abbrev pub retag_member : TaggingEnvironment → MemberLayer → SequenceOrSetMember
retag_member e m = roll-SequenceOrSetMember (record m { tag = retag e m.tag })

abbrev pub retag_option : TaggingEnvironment → OptionLayer → ChoiceOption
retag_option e o = roll-ChoiceOption (record o { tag = retag e o.tag })

-- tags stand before members and options, at every depth of a tree
abbrev pub retagging : TaggingEnvironment → Pass
retagging e = record unchanged { at_option = retag_option e; at_member = retag_member e }

abbrev pub retagged : TaggingEnvironment → ASN1Type → ASN1Type
retagged e = rewritten_type (retagging e)

abbrev pub retagged_value : TaggingEnvironment → ASN1Value → ASN1Value
retagged_value e = rewritten_value (retagging e)

abbrev pub retagged_governor : TaggingEnvironment → ParameterGovernor → ParameterGovernor
retagged_governor e governor.None = governor.None
retagged_governor e (governor.TypeOrClass ty) = governor.TypeOrClass (retagged e ty)
retagged_governor e (governor.Class name) = governor.Class name

abbrev pub retagged_argument : TaggingEnvironment → ParameterizationArgument → ParameterizationArgument
retagged_argument e a = record a { param_governor = retagged_governor e a.param_governor }

abbrev pub retagged_parameters : TaggingEnvironment → Parameterization → Parameterization
retagged_parameters e p = record { parameters = map (retagged_argument e) p.parameters }

abbrev pub retagged_class_field : TaggingEnvironment → InformationObjectClassField → InformationObjectClassField
retagged_class_field e f =
    record f {
      ty = option_map (retagged e) f.ty;
      default = option_map (retagged_value e) f.default;
    }

abbrev pub retagged_class : TaggingEnvironment → InformationObjectClass → InformationObjectClass
retagged_class e c = record c { fields = map (retagged_class_field e) c.fields }

abbrev pub retagged_link : TaggingEnvironment → ClassLink → ClassLink
retagged_link e (ByName name) = ByName name
retagged_link e (ByReference name c) = ByReference name (retagged_class e c)

abbrev pub retagged_fields : TaggingEnvironment → InformationObjectFields → InformationObjectFields
retagged_fields e = rewritten_fields (retagging e)

abbrev pub retagged_item : TaggingEnvironment → ObjectSetValueOver InformationObjectFields → ObjectSetValueOver InformationObjectFields
retagged_item e (Reference name) = Reference name
retagged_item e (Inline fields) = Inline (retagged_fields e fields)

abbrev pub retagged_set : TaggingEnvironment → ObjectSetOver InformationObjectFields → ObjectSetOver InformationObjectFields
retagged_set e s = record s { values = map (retagged_item e) s.values }

abbrev pub retagged_information : TaggingEnvironment → ASN1Information → ASN1Information
retagged_information e (ObjectClass c) = ObjectClass (retagged_class e c)
retagged_information e (ObjectSet s) = ObjectSet (retagged_set e s)
retagged_information e (Object o) = Object (record o { fields = retagged_fields e o.fields })

-- the definition with the environment added to each tag, at every depth
abbrev pub retagged_definition : TaggingEnvironment → ToplevelDefinition → ToplevelDefinition
retagged_definition e (TypeDef d) =
    TypeDef (record d {
      tag = retag e d.tag;
      ty = retagged e d.ty;
      parameterization = option_map (retagged_parameters e) d.parameterization;
    })
retagged_definition e (Value d) =
    Value (record d {
      associated_type = retagged e d.associated_type;
      parameterization = option_map (retagged_parameters e) d.parameterization;
      value = retagged_value e d.value;
    })
retagged_definition e (Information d) =
    Information (record d {
      parameterization = option_map (retagged_parameters e) d.parameterization;
      class = option_map (retagged_link e) d.class;
      value = retagged_information e d.value;
    })
