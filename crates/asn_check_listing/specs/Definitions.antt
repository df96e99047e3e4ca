-- The line of a definition.
use Rattle.std.specs.Prelude.{List, [], ◌∷◌, ◌++◌, Option, Some, None, codes, map}
use Rattle.std.specs.Option.{option_map}
use Rattle.asn_check_listing.specs.LongWords.{with_syntax_word}
use Rattle.asn_check_listing.specs.Parts.{Letters, around, braced, parted, when}
use Rattle.asn_check_listing.specs.Texts.{fields_text, objects_text, type_text, value_text}
use Rattle.asn_check_listing.specs.Types.{presence_line}
use Rattle.asn_check_listing.specs.Words.{field_name, tag_text}
use Rattle.asn_tree_leaves.specs.declared.objects.InformationObjectSyntax.{InformationObjectSyntax}
use Rattle.asn_tree_leaves.specs.declared.objects.SyntaxExpression.{SyntaxExpression, SyntaxExpression-F, fold-SyntaxExpression}
use Rattle.asn_tree_leaves.specs.declared.objects.SyntaxToken.{SyntaxToken}
use Rattle.asn_tree_leaves.specs.declared.objects.SyntaxToken.TheVariants.{Literal, Comma, Field}
use Rattle.asn_tree.specs.declared.definitions.ParameterGovernor.{ParameterGovernor}
use Rattle.asn_tree.specs.declared.definitions.ParameterGovernor.TheVariants as governor
use Rattle.asn_tree.specs.declared.definitions.Parameterization.{Parameterization}
use Rattle.asn_tree.specs.declared.definitions.ParameterizationArgument.{ParameterizationArgument}
use Rattle.asn_tree.specs.declared.definitions.ToplevelDefinition.{ToplevelDefinition}
use Rattle.asn_tree.specs.declared.definitions.ToplevelDefinition.TheVariants.{TypeDef, Value, Information}
use Rattle.asn_tree.specs.declared.definitions.ToplevelInformationDefinition.{ToplevelInformationDefinition}
use Rattle.asn_tree.specs.declared.definitions.ToplevelTypeDefinition.{ToplevelTypeDefinition}
use Rattle.asn_tree.specs.declared.definitions.ToplevelValueDefinition.{ToplevelValueDefinition}
use Rattle.asn_tree.specs.declared.objects.ASN1Information.{ASN1Information}
use Rattle.asn_tree.specs.declared.objects.ASN1Information.TheVariants.{ObjectClass, ObjectSet, Object}
use Rattle.asn_tree.specs.declared.objects.ClassLink.{ClassLink}
use Rattle.asn_tree.specs.declared.objects.ClassLink.TheVariants.{ByName, ByReference}
use Rattle.asn_tree.specs.declared.objects.InformationObjectClass.{InformationObjectClass}
use Rattle.asn_tree.specs.declared.objects.InformationObjectClassField.{InformationObjectClassField}
use Rattle.asn_tree.specs.declared.objects.InformationObjectFields.{InformationObjectFields}

abbrev pub governor_text : ParameterGovernor → Letters
governor_text governor.None = []
governor_text (governor.TypeOrClass ty) = type_text ty ++ codes ": "
governor_text (governor.Class name) = name ++ codes ": "

-- a dummy, behind its governor where it has one (X.683 8.3)
abbrev pub dummy_text : ParameterizationArgument → Letters
dummy_text a = governor_text a.param_governor ++ a.dummy_reference

-- the dummies of a template, behind its name
abbrev pub parameters_text : Option Parameterization → Letters
parameters_text None = []
parameters_text (Some p) = codes " {" ++ parted (codes ", ") (map dummy_text p.parameters) ++ codes "}"

abbrev pub token_text : SyntaxToken → Letters
token_text (Literal word) = word
token_text Comma = codes ","
token_text (Field name) = field_name name

-- texts, each behind a space
abbrev pub spaced : List Letters → Letters
spaced [] = []
spaced (x ∷ xs) = codes " " ++ x ++ spaced xs

-- a token, or a group that may be left out (X.681 10.5)
abbrev pub expression_line : SyntaxExpression-F Letters → Letters
expression_line (SyntaxExpression-F.Required token) = token_text token
expression_line (SyntaxExpression-F.Optional group) = codes "[" ++ spaced group ++ codes " ]"

abbrev pub expression_text : SyntaxExpression → Letters
expression_text = fold-SyntaxExpression Letters expression_line

-- the tokens and groups of a syntax, each behind a space
unfoldable pub expressions_text : List SyntaxExpression → Letters
expressions_text es = spaced (map expression_text es)

abbrev pub syntax_text : Option InformationObjectSyntax → Letters
syntax_text None = []
syntax_text (Some s) = with_syntax_word ++ expressions_text s.expressions ++ codes " }"

-- a field of a class, as far as it is told (X.681 9.5 to 9.11)
abbrev pub class_field_text : InformationObjectClassField → Letters
class_field_text f =
    field_name f.identifier ++ around (codes " ") (option_map type_text f.ty) [] ++ when f.is_unique (codes " UNIQUE")
    ++ presence_line (option_map value_text f.default) f.is_optional

abbrev pub class_text : InformationObjectClass → Letters
class_text c = codes "CLASS" ++ braced (map class_field_text c.fields) ++ syntax_text c.syntax

-- the class of an object or a set of objects, behind a space
abbrev pub link_text : Option ClassLink → Letters
link_text None = []
link_text (Some (ByName name)) = codes " " ++ name
link_text (Some (ByReference name c)) = codes " " ++ name

-- the word of a class, an object or a set of objects before its name
abbrev pub information_word : ASN1Information → Letters
information_word (ObjectClass c) = codes "class "
information_word (ObjectSet s) = codes "set "
information_word (Object o) = codes "object "

abbrev pub information_text : ASN1Information → Letters
information_text (ObjectClass c) = class_text c
information_text (ObjectSet s) = objects_text s.extensible s.values
information_text (Object o) = fields_text o.fields

-- The lines of definitions, each with its line feed. Comments are not told.
-- a word, the name, and the dummies behind it
abbrev pub headed : Letters → Letters → Option Parameterization → Letters
headed word name parameters = word ++ name ++ parameters_text parameters

abbrev pub type_definition_line : ToplevelTypeDefinition → Letters
type_definition_line d = headed (codes "type ") d.name d.parameterization ++ codes " ::= " ++ tag_text d.tag ++ type_text d.ty ++ codes "\n"

abbrev pub value_definition_line : ToplevelValueDefinition → Letters
value_definition_line d = headed (codes "value ") d.name d.parameterization ++ codes " " ++ type_text d.associated_type ++ codes " ::= " ++ value_text d.value ++ codes "\n"

abbrev pub information_definition_line : ToplevelInformationDefinition → Letters
information_definition_line d =
    headed (information_word d.value) d.name d.parameterization ++ link_text d.class ++ codes " ::= " ++ information_text d.value ++ codes "\n"

abbrev pub definition_line : ToplevelDefinition → Letters
definition_line (TypeDef d) = type_definition_line d
definition_line (Value d) = value_definition_line d
definition_line (Information d) = information_definition_line d

abbrev pub definition_lines : List ToplevelDefinition → Letters
definition_lines [] = []
definition_lines (d ∷ ds) = definition_line d ++ definition_lines ds
