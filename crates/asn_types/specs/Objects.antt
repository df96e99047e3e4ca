-- Objects and sets of objects (X.681 11, 12): what a node is as a part of one, by what its children are.
use Rattle.std.specs.Prelude.{ℕ, List, [], ◌++◌, length, Option, Some, None}
use Rattle.asn_tree_kinds.specs.declared.objects.ObjectSetOver.{ObjectSetOver}
use Rattle.asn_tree_kinds.specs.declared.objects.ObjectSetValueOver.{ObjectSetValueOver}
use Rattle.asn_tree_kinds.specs.declared.objects.ObjectSetValueOver.TheVariants.{Inline, Reference}
use Rattle.asn_tree_kinds.specs.declared.types.DeclarationElsewhereOver.{DeclarationElsewhereOver}
use Rattle.asn_rules.specs.declared.names.TheConstants.{ASN1_TYPE, ASN1_VALUE, CUSTOM_ITEM, CUSTOM_SYNTAX, DEFAULT_FIELD, DEFAULT_SYNTAX, IDENTIFIER, INFORMATION_OBJECT, LITERAL_WORD, MARK_COMMA, MULTIPLE_VALUE_FIELD_ID, OBJECT_ITEM, OBJECT_LIST, OBJECT_SET, SET_MARK, SET_MORE, SINGLE_VALUE_FIELD_ID, SYNTAX_LITERAL}
use Rattle.asn_rules.specs.declared.node.Node.{Node}
use Rattle.asn_rules.specs.Nodes.{Opened, at_child, child_among, made, made_all, the}
use Rattle.asn_tree.specs.declared.constraints.Constraint.{Constraint}
use Rattle.asn_tree.specs.declared.objects.InformationObjectField.{InformationObjectField}
use Rattle.asn_tree.specs.declared.objects.InformationObjectField.TheVariants.{FixedValueField, ObjectSetField, TypeField}
use Rattle.asn_tree.specs.declared.objects.InformationObjectFields.{InformationObjectFields}
use Rattle.asn_tree.specs.declared.objects.InformationObjectFields.TheVariants.{CustomSyntax, DefaultSyntax}
use Rattle.asn_tree.specs.declared.objects.SyntaxApplication.{SyntaxApplication}
use Rattle.asn_tree.specs.declared.objects.SyntaxApplication.TheVariants.{Comma, Literal, LiteralOrTypeReference, ObjectSetDeclaration, TypeReference, ValueReference}
use Rattle.asn_tree.specs.declared.types.ASN1Type.{ASN1Type, ASN1Type-F, out-ASN1Type}
use Rattle.asn_tree.specs.declared.values.ASN1Value.{ASN1Value}
use Rattle.asn_tree.specs.Layers.{TypeLayer}
use Rattle.asn_read_nodes.specs.Parts.{all_some, name_of, of_some}
use Rattle.asn_read_pieces.specs.Fields.{capitals_of}
use Rattle.asn_values.specs.Braces.{value_of}
use Rattle.asn_types.specs.Read.{Read, nodes}

abbrev pub Set : Type 0
Set = ObjectSetOver InformationObjectFields

abbrev pub SetItem : Type 0
SetItem = ObjectSetValueOver InformationObjectFields

-- ---- fields that are given by their names (X.681 11.5)

-- a field that is given a value
abbrev pub value_given : Option (List ℕ) → Option ASN1Value → Option InformationObjectField
value_given name value = of_some name (λ name. of_some value (λ value. Some (FixedValueField (record { identifier = name; value = value }))))

-- a field that is given an object set
abbrev pub set_given : Option (List ℕ) → Option Set → Option InformationObjectField
set_given name set = of_some name (λ name. of_some set (λ set. Some (ObjectSetField (record { identifier = name; value = set }))))

-- a field that is given a type
abbrev pub type_given : Option (List ℕ) → Option ASN1Type → Option InformationObjectField
type_given name ty = of_some name (λ name. of_some ty (λ ty. Some (TypeField (record { identifier = name; ty = ty }))))

-- the name of the field with its `&`
abbrev pub field_name : List ℕ → List Node → Option (List ℕ)
field_name text ns = at_child (child_among ns SINGLE_VALUE_FIELD_ID) (the (child_among ns MULTIPLE_VALUE_FIELD_ID) (name_of text)) (name_of text)

-- a field by its name: an object set, a type or a value
abbrev pub default_field_step : List ℕ → Opened Read → Option InformationObjectField
default_field_step text x =
    let ns = nodes x.children in
    let name = field_name text ns in
    made x.children OBJECT_SET (made x.children ASN1_TYPE (value_given name (the (child_among ns ASN1_VALUE) (value_of text))) (λ c. type_given name c.type)) (λ c. set_given name c.object_set)

-- the fields in order
abbrev pub default_syntax_step : List ℕ → Opened Read → Option (List InformationObjectField)
default_syntax_step text x = all_some (made_all x.children DEFAULT_FIELD (λ c. c.default_field))

-- ---- items in a class's own syntax (X.681 11.6)

-- A word in capitals before a brace may be one of the syntax or the name of a type.
abbrev pub word_item : Option (List ℕ) → Option SyntaxApplication
word_item name = of_some name (λ name. Some (LiteralOrTypeReference (record { parent = None; identifier = name; constraints = [] })))

-- So may a type that is a plain name; one behind a path is a type.
abbrev pub reference_item : DeclarationElsewhereOver Constraint → ASN1Type → Option (List ℕ) → SyntaxApplication
reference_item reference ty None = LiteralOrTypeReference reference
reference_item reference ty (Some parent) = TypeReference ty

abbrev pub type_item_at : ASN1Type → TypeLayer → SyntaxApplication
type_item_at ty (ASN1Type-F.ElsewhereDeclaredType reference) = reference_item reference ty reference.parent
type_item_at ty _ = TypeReference ty

-- an item that is read as a type
unfoldable pub type_item : ASN1Type → SyntaxApplication
type_item ty = type_item_at ty (out-ASN1Type ty)

abbrev pub type_item_with : Option ASN1Type → Option SyntaxApplication
type_item_with ty = of_some ty (λ ty. Some (type_item ty))

abbrev pub value_item_with : Option ASN1Value → Option SyntaxApplication
value_item_with value = of_some value (λ value. Some (ValueReference value))

abbrev pub set_item_with : Option Set → Option SyntaxApplication
set_item_with set = of_some set (λ set. Some (ObjectSetDeclaration set))

abbrev pub literal_item_with : Option (List ℕ) → Option SyntaxApplication
literal_item_with word = of_some word (λ word. Some (Literal word))

-- a comma, or a word before a brace, or another item
abbrev pub custom_item_with : List ℕ → List Node → Option SyntaxApplication → Option SyntaxApplication
custom_item_with text ns other = at_child (child_among ns MARK_COMMA) (at_child (child_among ns LITERAL_WORD) other (λ word. word_item (capitals_of text word))) (λ comma. Some Comma)

-- a value, or another item
abbrev pub value_item_or : List ℕ → List Node → Option SyntaxApplication → Option SyntaxApplication
value_item_or text ns other = at_child (child_among ns ASN1_VALUE) other (λ value. value_item_with (value_of text value))

-- any other word in capitals
abbrev pub literal_item : List ℕ → List Node → Option SyntaxApplication
literal_item text ns = literal_item_with (the (child_among ns SYNTAX_LITERAL) (capitals_of text))

-- an item: a comma, a word before a brace, a type, a value, an object set, or any other word
abbrev pub custom_item_step : List ℕ → Opened Read → Option SyntaxApplication
custom_item_step text x =
    let ns = nodes x.children in
    custom_item_with text ns (made x.children ASN1_TYPE (value_item_or text ns (made x.children OBJECT_SET (literal_item text ns) (λ c. set_item_with c.object_set))) (λ c. type_item_with c.type))

-- the items in order
abbrev pub custom_syntax_step : List ℕ → Opened Read → Option (List SyntaxApplication)
custom_syntax_step text x = all_some (made_all x.children CUSTOM_ITEM (λ c. c.custom_item))

-- ---- objects

abbrev pub by_name : Option (List InformationObjectField) → Option InformationObjectFields
by_name fields = of_some fields (λ fields. Some (DefaultSyntax fields))

abbrev pub by_syntax : Option (List SyntaxApplication) → Option InformationObjectFields
by_syntax items = of_some items (λ items. Some (CustomSyntax items))

-- an object: its fields by their names, or in its class's own syntax (X.681 11.4)
abbrev pub object_step : List ℕ → Opened Read → Option InformationObjectFields
object_step text x = made x.children DEFAULT_SYNTAX (by_syntax (made x.children CUSTOM_SYNTAX None (λ c. c.custom_syntax))) (λ c. by_name c.default_syntax)

-- ---- sets of objects (X.681 12.3)

abbrev pub named_object : Option (List ℕ) → Option SetItem
named_object name = of_some name (λ name. Some (Reference name))

abbrev pub written_object : Option InformationObjectFields → Option SetItem
written_object object = of_some object (λ object. Some (Inline object))

-- an item: an object, or the name of an object or an object set
abbrev pub object_item_step : List ℕ → Opened Read → Option SetItem
object_item_step text x = made x.children INFORMATION_OBJECT (named_object (the (child_among (nodes x.children) IDENTIFIER) (name_of text))) (λ c. written_object c.object)

-- The items in order; of a node that has them in a list under it, those of that list.
abbrev pub object_list_step : List ℕ → Opened Read → Option (List SetItem)
object_list_step text x = made x.children OBJECT_LIST (all_some (made_all x.children OBJECT_ITEM (λ c. c.object_item))) (λ c. c.object_list)

-- the items before the marker and behind it, and how many stand before it, where it stands
abbrev pub object_set_with : Option Node → Option (List SetItem) → Option (List SetItem) → Option Set
object_set_with mark first more =
    of_some first (λ first. of_some more (λ more. Some (record { values = first ++ more; extensible = at_child mark None (λ mark. Some (length first)) })))

abbrev pub object_set_step : List ℕ → Opened Read → Option Set
object_set_step text x =
    object_set_with (child_among (nodes x.children) SET_MARK) (made x.children OBJECT_LIST (Some []) (λ c. c.object_list)) (made x.children SET_MORE (Some []) (λ c. c.object_list))
