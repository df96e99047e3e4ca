-- The text of one level of an object, where its parts have these texts.
use Rattle.std.specs.Prelude.{◌++◌, codes}
use Rattle.asn_check_listing.specs.Constraints.{set_line}
use Rattle.asn_check_listing.specs.Parts.{Letters, joined, listed, parted}
use Rattle.asn_check_listing.specs.Words.{name_text}
use Rattle.asn_tree.specs.Layers.{FieldOf, FieldsOf, ItemOf}
use Rattle.asn_tree.specs.declared.objects.InformationObjectField.{InformationObjectField-F}
use Rattle.asn_tree.specs.declared.objects.InformationObjectFields.{InformationObjectFields-F}
use Rattle.asn_tree.specs.declared.objects.SyntaxApplication.{SyntaxApplication-F}

-- a text behind a name
abbrev pub named_line : Letters → Letters → Letters
named_line name text = name ++ codes " " ++ text

-- a field of an object, by its name (X.681 11.5)
abbrev pub field_line : FieldOf Letters → Letters
field_line (InformationObjectField-F.TypeField f) = named_line f.identifier f.ty
field_line (InformationObjectField-F.FixedValueField f) = named_line f.identifier f.value
field_line (InformationObjectField-F.ObjectSetField f) = named_line f.identifier (set_line f.value)

-- an item of an object in its class's own syntax (X.681 11.6)
abbrev pub item_line : ItemOf Letters → Letters
item_line (SyntaxApplication-F.ObjectSetDeclaration s) = set_line s
item_line (SyntaxApplication-F.ValueReference v) = v
item_line (SyntaxApplication-F.TypeReference ty) = ty
item_line SyntaxApplication-F.Comma = codes ","
item_line (SyntaxApplication-F.Literal word) = word
item_line (SyntaxApplication-F.LiteralOrTypeReference r) = name_text r.parent r.identifier ++ joined r.constraints

abbrev pub fields_line : FieldsOf Letters → Letters
fields_line (InformationObjectFields-F.DefaultSyntax fields) = listed fields
fields_line (InformationObjectFields-F.CustomSyntax items) = codes "{" ++ parted (codes " ") items ++ codes "}"
