-- The names of the rules of the whole of ASN.1, in the order of their numbers.
use Rattle.std.specs.Prelude.{Bool, false, nat_eq, ℕ, suc, List, [], ◌∷◌, Option, None, Some, codes, position}
use Rattle.asn_rules.specs.declared.names.TheConstants.{ADDITIONS, ADDITION_LIST, ALL_VALUE, ASN1_TYPE, ASN1_VALUE, ASN_MODULE, ASN_SPEC, ASN_TAG, ASSIGNED_IDENTIFIER, ASSIGNMENT, BINARY, BIT_STRING, BIT_STRING_VALUE, BLOCK_COMMENT, BOOLEAN, BOOLEAN_VALUE, BRACE_GROUP, BRACE_TEXT, CAPS_TAIL, CHARACTER_STRING, CHARACTER_STRING_VALUE, CHOICE, CHOICE_OPTION, CHOICE_VALUE, CLASS_FIELD, CLASS_NAME, COMMENT, COMMENTS, COMMENT_BODY, COMPONENT_LIST, COMPONENT_PATH, CONSTRAINT, CONSTRAINT_ITEM, CONTAINED_SUBTYPE, CONTENT_BODY, CONTENT_CONSTRAINT, CUSTOM_ITEM, CUSTOM_SYNTAX, DEFAULT, DEFAULT_FIELD, DEFAULT_SYNTAX, DEFINITION, DEFINITIVE, DIGITS, DISTINGUISHED_VAL, DISTINGUISHED_VALUES, DOTS, DOT_NOTATION, DUMMY, ELEMENT, ELEMENT_SET, ELSEWHERE_DECLARED_TYPE, ELSEWHERE_DECLARED_VALUE, EMBEDDED_PDV, ENCODING_CONTROL, ENCODING_REFERENCE, ENCODING_TEXT, END, ENUMERAL, ENUMERAL_LIST, ENUMERATED, ENUMERATED_VALUE, ENVIRONMENTS, EXPONENT, EXPORTS, EXTENSION_GROUP, EXTENSION_MARK, EXTENSION_MARKER, EXTENSION_TAIL, EXTERNAL, FIELD_LIST, FIELD_STEP, FOLLOW, GENERALIZED_TIME, GLOBAL_MODULE_REFERENCE, GROUP_NUMBER, HEXADECIMAL, IDENTIFIER, IMPORT, IMPORTED_SYMBOL, IMPORTS, INFORMATION_OBJECT, INFORMATION_OBJECT_CLASS, INFORMATION_OBJECT_FIELD_REFERENCE, INSTANCE_OF, INTEGER, INTEGER_VALUE, IRI_LABELS, IRI_VALUE, ITEM_COMMENT, ITEM_NUMBER, LINE_BODY, LINE_COMMENT, LITERAL_WORD, MBE_NOTATION, MEMBER_LIST, MODULE_REFERENCE, MULTIPLE_TYPE_CONSTRAINTS, MULTIPLE_VALUE_FIELD_ID, NAMED_BITS, NAME_LIST, NAME_TAIL, NULL, NULL_VALUE, NUMBER_I128, NUMBER_I32, NUMBER_U128, NUMBER_U64, OBJECT_FIELD_IDENTIFIER, OBJECT_IDENTIFIER, OBJECT_IDENTIFIER_ARC, OBJECT_IDENTIFIER_VALUE, OBJECT_ITEM, OBJECT_LIST, OBJECT_SET, OCTET_NUMBER, OCTET_STRING, OPTIONAL_COMMA, OPTIONAL_MARKER, OPTION_ADDITIONS, OPTION_GROUP, OPTION_LIST, PARAMETER, PARAMETERIZATION, PARAMETERS, PATH_STEP, PATTERN_CONSTRAINT, PERMITTED_ALPHABET_CONSTRAINT, PROPERTY_SETTINGS_CONSTRAINT, QUADRUPLE, QUOTED, QUOTED_BODY, RANGE_BODY, RANGE_HIGH, RANGE_LOW, RANGE_SEPERATOR, REAL, REAL_BASE, REAL_VALUE, RELATIONAL_CONSTRAINT, RELATIONS, SELECTION_TYPE_CHOICE, SEQUENCE, SEQUENCE_COMPONENT, SEQUENCE_OF, SEQUENCE_OR_SET_MEMBER, SEQUENCE_VALUE, SET, SETTING_PAIR, SET_MARK, SET_MORE, SET_OF, SET_OPERATION, SET_OPERATOR, SET_REST, SINGLE_CONSTRAINT, SINGLE_TYPE_CONSTRAINT, SINGLE_VALUE, SINGLE_VALUE_FIELD_ID, SIZE_CONSTRAINT, SP, STRUCT_BODY, STRUCT_ITEM, SUBSET_MEMBER, SUBTYPE_ELEMENT, SYMBOL_LIST, SYNTAX_GROUP, SYNTAX_ITEM, SYNTAX_LITERAL, SYNTAX_PART, TABLE_CONSTRAINT, TAG_DEFAULT, TIME, TIME_CHARS, TIME_VALUE, TITLE_CASE_IDENTIFIER, TOP_LEVEL_INFORMATION_DECLARATION, TOP_LEVEL_INFORMATION_OBJECT_DECLARATION, TOP_LEVEL_OBJECT_CLASS_DECLARATION, TOP_LEVEL_OBJECT_SET_DECLARATION, TOP_LEVEL_TYPE_DECLARATION, TOP_LEVEL_VALUE_DECLARATION, TYPE_IDENTIFIER, UPPERCASE_IDENTIFIER, USER_DEFINED_CONSTRAINT, UTC_TIME, VALUE_IDENTIFIER, VALUE_LIST, VALUE_PATH, VALUE_RANGE}
use Rattle.std.specs.Option.{option_map}
use Rattle.std.specs.Str.{bytes_eq}

unfoldable pub rule_names : List (List ℕ)
rule_names =
    codes "sp" ∷
    codes "comment" ∷
    codes "block_comment" ∷
    codes "comment_body" ∷
    codes "line_comment" ∷
    codes "line_body" ∷
    codes "name_tail" ∷
    codes "identifier" ∷
    codes "title_case_identifier" ∷
    codes "value_identifier" ∷
    codes "caps_tail" ∷
    codes "uppercase_identifier" ∷
    codes "class_name" ∷
    codes "digits" ∷
    codes "number_u64" ∷
    codes "number_u128" ∷
    codes "number_i128" ∷
    codes "number_i32" ∷
    codes "optional_comma" ∷
    codes "range_seperator" ∷
    codes "extension_marker" ∷
    codes "assignment" ∷
    codes "all_value" ∷
    codes "null_value" ∷
    codes "object_identifier_value" ∷
    codes "object_identifier_arc" ∷
    codes "choice_value" ∷
    codes "dot_notation" ∷
    codes "exponent" ∷
    codes "mbe_notation" ∷
    codes "real_base" ∷
    codes "real_value" ∷
    codes "sequence_value" ∷
    codes "value_list" ∷
    codes "struct_item" ∷
    codes "time_chars" ∷
    codes "time_value" ∷
    codes "binary" ∷
    codes "hexadecimal" ∷
    codes "name_list" ∷
    codes "named_bits" ∷
    codes "bit_string_value" ∷
    codes "boolean_value" ∷
    codes "integer_value" ∷
    codes "quoted_body" ∷
    codes "quoted" ∷
    codes "octet_number" ∷
    codes "quadruple" ∷
    codes "character_string_value" ∷
    codes "path_step" ∷
    codes "value_path" ∷
    codes "elsewhere_declared_value" ∷
    codes "asn1_value" ∷
    codes "null" ∷
    codes "selection_type_choice" ∷
    codes "object_identifier" ∷
    codes "element" ∷
    codes "sequence_of" ∷
    codes "set_of" ∷
    codes "sequence" ∷
    codes "set" ∷
    codes "struct_body" ∷
    codes "extension_mark" ∷
    codes "component_list" ∷
    codes "addition_list" ∷
    codes "extension_group" ∷
    codes "group_number" ∷
    codes "component_path" ∷
    codes "sequence_component" ∷
    codes "sequence_or_set_member" ∷
    codes "optional_marker" ∷
    codes "default" ∷
    codes "asn_tag" ∷
    codes "utc_time" ∷
    codes "external" ∷
    codes "embedded_pdv" ∷
    codes "instance_of" ∷
    codes "generalized_time" ∷
    codes "real" ∷
    codes "choice" ∷
    codes "option_list" ∷
    codes "option_additions" ∷
    codes "option_group" ∷
    codes "choice_option" ∷
    codes "integer" ∷
    codes "distinguished_values" ∷
    codes "distinguished_val" ∷
    codes "enumerated" ∷
    codes "enumeral_list" ∷
    codes "enumeral" ∷
    codes "item_number" ∷
    codes "item_comment" ∷
    codes "boolean" ∷
    codes "bit_string" ∷
    codes "time" ∷
    codes "octet_string" ∷
    codes "character_string" ∷
    codes "field_step" ∷
    codes "information_object_field_reference" ∷
    codes "elsewhere_declared_type" ∷
    codes "asn1_type" ∷
    codes "constraint" ∷
    codes "constraint_item" ∷
    codes "single_constraint" ∷
    codes "content_body" ∷
    codes "content_constraint" ∷
    codes "relational_constraint" ∷
    codes "dots" ∷
    codes "relations" ∷
    codes "table_constraint" ∷
    codes "element_set" ∷
    codes "set_rest" ∷
    codes "set_operation" ∷
    codes "set_operator" ∷
    codes "additions" ∷
    codes "extension_tail" ∷
    codes "subtype_element" ∷
    codes "single_type_constraint" ∷
    codes "member_list" ∷
    codes "multiple_type_constraints" ∷
    codes "subset_member" ∷
    codes "size_constraint" ∷
    codes "pattern_constraint" ∷
    codes "brace_text" ∷
    codes "brace_group" ∷
    codes "user_defined_constraint" ∷
    codes "setting_pair" ∷
    codes "property_settings_constraint" ∷
    codes "permitted_alphabet_constraint" ∷
    codes "range_low" ∷
    codes "range_high" ∷
    codes "range_body" ∷
    codes "value_range" ∷
    codes "single_value" ∷
    codes "contained_subtype" ∷
    codes "parameter" ∷
    codes "parameters" ∷
    codes "dummy" ∷
    codes "parameterization" ∷
    codes "single_value_field_id" ∷
    codes "multiple_value_field_id" ∷
    codes "object_field_identifier" ∷
    codes "type_identifier" ∷
    codes "class_field" ∷
    codes "field_list" ∷
    codes "syntax_literal" ∷
    codes "syntax_group" ∷
    codes "syntax_item" ∷
    codes "syntax_part" ∷
    codes "information_object_class" ∷
    codes "default_field" ∷
    codes "default_syntax" ∷
    codes "literal_word" ∷
    codes "custom_item" ∷
    codes "custom_syntax" ∷
    codes "information_object" ∷
    codes "object_item" ∷
    codes "object_list" ∷
    codes "set_mark" ∷
    codes "set_more" ∷
    codes "object_set" ∷
    codes "iri_labels" ∷
    codes "iri_value" ∷
    codes "definitive" ∷
    codes "encoding_reference" ∷
    codes "tag_default" ∷
    codes "environments" ∷
    codes "imported_symbol" ∷
    codes "symbol_list" ∷
    codes "exports" ∷
    codes "follow" ∷
    codes "assigned_identifier" ∷
    codes "global_module_reference" ∷
    codes "import" ∷
    codes "imports" ∷
    codes "module_reference" ∷
    codes "encoding_text" ∷
    codes "encoding_control" ∷
    codes "end" ∷
    codes "comments" ∷
    codes "top_level_information_object_declaration" ∷
    codes "top_level_object_set_declaration" ∷
    codes "top_level_object_class_declaration" ∷
    codes "top_level_information_declaration" ∷
    codes "top_level_type_declaration" ∷
    codes "enumerated_value" ∷
    codes "top_level_value_declaration" ∷
    codes "definition" ∷
    codes "asn_module" ∷
    codes "asn_spec" ∷
    []

-- the number of the rule of this name, the first being 1
abbrev pub rule_named : List ℕ → Option ℕ
rule_named name = option_map suc (position (λ known. bytes_eq known name) rule_names)

abbrev is_number : Option ℕ → ℕ → Bool
is_number None r = false
is_number (Some n) r = nat_eq n r

-- the rule of this name has this number
abbrev pub is_named_so : List ℕ × ℕ → Bool
is_named_so named = is_number (rule_named named.0) named.1

-- each constant beside the name of its rule
unfoldable pub numbered : List (List ℕ × ℕ)
numbered =
    (codes "sp", SP) ∷
    (codes "comment", COMMENT) ∷
    (codes "block_comment", BLOCK_COMMENT) ∷
    (codes "comment_body", COMMENT_BODY) ∷
    (codes "line_comment", LINE_COMMENT) ∷
    (codes "line_body", LINE_BODY) ∷
    (codes "name_tail", NAME_TAIL) ∷
    (codes "identifier", IDENTIFIER) ∷
    (codes "title_case_identifier", TITLE_CASE_IDENTIFIER) ∷
    (codes "value_identifier", VALUE_IDENTIFIER) ∷
    (codes "caps_tail", CAPS_TAIL) ∷
    (codes "uppercase_identifier", UPPERCASE_IDENTIFIER) ∷
    (codes "class_name", CLASS_NAME) ∷
    (codes "digits", DIGITS) ∷
    (codes "number_u64", NUMBER_U64) ∷
    (codes "number_u128", NUMBER_U128) ∷
    (codes "number_i128", NUMBER_I128) ∷
    (codes "number_i32", NUMBER_I32) ∷
    (codes "optional_comma", OPTIONAL_COMMA) ∷
    (codes "range_seperator", RANGE_SEPERATOR) ∷
    (codes "extension_marker", EXTENSION_MARKER) ∷
    (codes "assignment", ASSIGNMENT) ∷
    (codes "all_value", ALL_VALUE) ∷
    (codes "null_value", NULL_VALUE) ∷
    (codes "object_identifier_value", OBJECT_IDENTIFIER_VALUE) ∷
    (codes "object_identifier_arc", OBJECT_IDENTIFIER_ARC) ∷
    (codes "choice_value", CHOICE_VALUE) ∷
    (codes "dot_notation", DOT_NOTATION) ∷
    (codes "exponent", EXPONENT) ∷
    (codes "mbe_notation", MBE_NOTATION) ∷
    (codes "real_base", REAL_BASE) ∷
    (codes "real_value", REAL_VALUE) ∷
    (codes "sequence_value", SEQUENCE_VALUE) ∷
    (codes "value_list", VALUE_LIST) ∷
    (codes "struct_item", STRUCT_ITEM) ∷
    (codes "time_chars", TIME_CHARS) ∷
    (codes "time_value", TIME_VALUE) ∷
    (codes "binary", BINARY) ∷
    (codes "hexadecimal", HEXADECIMAL) ∷
    (codes "name_list", NAME_LIST) ∷
    (codes "named_bits", NAMED_BITS) ∷
    (codes "bit_string_value", BIT_STRING_VALUE) ∷
    (codes "boolean_value", BOOLEAN_VALUE) ∷
    (codes "integer_value", INTEGER_VALUE) ∷
    (codes "quoted_body", QUOTED_BODY) ∷
    (codes "quoted", QUOTED) ∷
    (codes "octet_number", OCTET_NUMBER) ∷
    (codes "quadruple", QUADRUPLE) ∷
    (codes "character_string_value", CHARACTER_STRING_VALUE) ∷
    (codes "path_step", PATH_STEP) ∷
    (codes "value_path", VALUE_PATH) ∷
    (codes "elsewhere_declared_value", ELSEWHERE_DECLARED_VALUE) ∷
    (codes "asn1_value", ASN1_VALUE) ∷
    (codes "null", NULL) ∷
    (codes "selection_type_choice", SELECTION_TYPE_CHOICE) ∷
    (codes "object_identifier", OBJECT_IDENTIFIER) ∷
    (codes "element", ELEMENT) ∷
    (codes "sequence_of", SEQUENCE_OF) ∷
    (codes "set_of", SET_OF) ∷
    (codes "sequence", SEQUENCE) ∷
    (codes "set", SET) ∷
    (codes "struct_body", STRUCT_BODY) ∷
    (codes "extension_mark", EXTENSION_MARK) ∷
    (codes "component_list", COMPONENT_LIST) ∷
    (codes "addition_list", ADDITION_LIST) ∷
    (codes "extension_group", EXTENSION_GROUP) ∷
    (codes "group_number", GROUP_NUMBER) ∷
    (codes "component_path", COMPONENT_PATH) ∷
    (codes "sequence_component", SEQUENCE_COMPONENT) ∷
    (codes "sequence_or_set_member", SEQUENCE_OR_SET_MEMBER) ∷
    (codes "optional_marker", OPTIONAL_MARKER) ∷
    (codes "default", DEFAULT) ∷
    (codes "asn_tag", ASN_TAG) ∷
    (codes "utc_time", UTC_TIME) ∷
    (codes "external", EXTERNAL) ∷
    (codes "embedded_pdv", EMBEDDED_PDV) ∷
    (codes "instance_of", INSTANCE_OF) ∷
    (codes "generalized_time", GENERALIZED_TIME) ∷
    (codes "real", REAL) ∷
    (codes "choice", CHOICE) ∷
    (codes "option_list", OPTION_LIST) ∷
    (codes "option_additions", OPTION_ADDITIONS) ∷
    (codes "option_group", OPTION_GROUP) ∷
    (codes "choice_option", CHOICE_OPTION) ∷
    (codes "integer", INTEGER) ∷
    (codes "distinguished_values", DISTINGUISHED_VALUES) ∷
    (codes "distinguished_val", DISTINGUISHED_VAL) ∷
    (codes "enumerated", ENUMERATED) ∷
    (codes "enumeral_list", ENUMERAL_LIST) ∷
    (codes "enumeral", ENUMERAL) ∷
    (codes "item_number", ITEM_NUMBER) ∷
    (codes "item_comment", ITEM_COMMENT) ∷
    (codes "boolean", BOOLEAN) ∷
    (codes "bit_string", BIT_STRING) ∷
    (codes "time", TIME) ∷
    (codes "octet_string", OCTET_STRING) ∷
    (codes "character_string", CHARACTER_STRING) ∷
    (codes "field_step", FIELD_STEP) ∷
    (codes "information_object_field_reference", INFORMATION_OBJECT_FIELD_REFERENCE) ∷
    (codes "elsewhere_declared_type", ELSEWHERE_DECLARED_TYPE) ∷
    (codes "asn1_type", ASN1_TYPE) ∷
    (codes "constraint", CONSTRAINT) ∷
    (codes "constraint_item", CONSTRAINT_ITEM) ∷
    (codes "single_constraint", SINGLE_CONSTRAINT) ∷
    (codes "content_body", CONTENT_BODY) ∷
    (codes "content_constraint", CONTENT_CONSTRAINT) ∷
    (codes "relational_constraint", RELATIONAL_CONSTRAINT) ∷
    (codes "dots", DOTS) ∷
    (codes "relations", RELATIONS) ∷
    (codes "table_constraint", TABLE_CONSTRAINT) ∷
    (codes "element_set", ELEMENT_SET) ∷
    (codes "set_rest", SET_REST) ∷
    (codes "set_operation", SET_OPERATION) ∷
    (codes "set_operator", SET_OPERATOR) ∷
    (codes "additions", ADDITIONS) ∷
    (codes "extension_tail", EXTENSION_TAIL) ∷
    (codes "subtype_element", SUBTYPE_ELEMENT) ∷
    (codes "single_type_constraint", SINGLE_TYPE_CONSTRAINT) ∷
    (codes "member_list", MEMBER_LIST) ∷
    (codes "multiple_type_constraints", MULTIPLE_TYPE_CONSTRAINTS) ∷
    (codes "subset_member", SUBSET_MEMBER) ∷
    (codes "size_constraint", SIZE_CONSTRAINT) ∷
    (codes "pattern_constraint", PATTERN_CONSTRAINT) ∷
    (codes "brace_text", BRACE_TEXT) ∷
    (codes "brace_group", BRACE_GROUP) ∷
    (codes "user_defined_constraint", USER_DEFINED_CONSTRAINT) ∷
    (codes "setting_pair", SETTING_PAIR) ∷
    (codes "property_settings_constraint", PROPERTY_SETTINGS_CONSTRAINT) ∷
    (codes "permitted_alphabet_constraint", PERMITTED_ALPHABET_CONSTRAINT) ∷
    (codes "range_low", RANGE_LOW) ∷
    (codes "range_high", RANGE_HIGH) ∷
    (codes "range_body", RANGE_BODY) ∷
    (codes "value_range", VALUE_RANGE) ∷
    (codes "single_value", SINGLE_VALUE) ∷
    (codes "contained_subtype", CONTAINED_SUBTYPE) ∷
    (codes "parameter", PARAMETER) ∷
    (codes "parameters", PARAMETERS) ∷
    (codes "dummy", DUMMY) ∷
    (codes "parameterization", PARAMETERIZATION) ∷
    (codes "single_value_field_id", SINGLE_VALUE_FIELD_ID) ∷
    (codes "multiple_value_field_id", MULTIPLE_VALUE_FIELD_ID) ∷
    (codes "object_field_identifier", OBJECT_FIELD_IDENTIFIER) ∷
    (codes "type_identifier", TYPE_IDENTIFIER) ∷
    (codes "class_field", CLASS_FIELD) ∷
    (codes "field_list", FIELD_LIST) ∷
    (codes "syntax_literal", SYNTAX_LITERAL) ∷
    (codes "syntax_group", SYNTAX_GROUP) ∷
    (codes "syntax_item", SYNTAX_ITEM) ∷
    (codes "syntax_part", SYNTAX_PART) ∷
    (codes "information_object_class", INFORMATION_OBJECT_CLASS) ∷
    (codes "default_field", DEFAULT_FIELD) ∷
    (codes "default_syntax", DEFAULT_SYNTAX) ∷
    (codes "literal_word", LITERAL_WORD) ∷
    (codes "custom_item", CUSTOM_ITEM) ∷
    (codes "custom_syntax", CUSTOM_SYNTAX) ∷
    (codes "information_object", INFORMATION_OBJECT) ∷
    (codes "object_item", OBJECT_ITEM) ∷
    (codes "object_list", OBJECT_LIST) ∷
    (codes "set_mark", SET_MARK) ∷
    (codes "set_more", SET_MORE) ∷
    (codes "object_set", OBJECT_SET) ∷
    (codes "iri_labels", IRI_LABELS) ∷
    (codes "iri_value", IRI_VALUE) ∷
    (codes "definitive", DEFINITIVE) ∷
    (codes "encoding_reference", ENCODING_REFERENCE) ∷
    (codes "tag_default", TAG_DEFAULT) ∷
    (codes "environments", ENVIRONMENTS) ∷
    (codes "imported_symbol", IMPORTED_SYMBOL) ∷
    (codes "symbol_list", SYMBOL_LIST) ∷
    (codes "exports", EXPORTS) ∷
    (codes "follow", FOLLOW) ∷
    (codes "assigned_identifier", ASSIGNED_IDENTIFIER) ∷
    (codes "global_module_reference", GLOBAL_MODULE_REFERENCE) ∷
    (codes "import", IMPORT) ∷
    (codes "imports", IMPORTS) ∷
    (codes "module_reference", MODULE_REFERENCE) ∷
    (codes "encoding_text", ENCODING_TEXT) ∷
    (codes "encoding_control", ENCODING_CONTROL) ∷
    (codes "end", END) ∷
    (codes "comments", COMMENTS) ∷
    (codes "top_level_information_object_declaration", TOP_LEVEL_INFORMATION_OBJECT_DECLARATION) ∷
    (codes "top_level_object_set_declaration", TOP_LEVEL_OBJECT_SET_DECLARATION) ∷
    (codes "top_level_object_class_declaration", TOP_LEVEL_OBJECT_CLASS_DECLARATION) ∷
    (codes "top_level_information_declaration", TOP_LEVEL_INFORMATION_DECLARATION) ∷
    (codes "top_level_type_declaration", TOP_LEVEL_TYPE_DECLARATION) ∷
    (codes "enumerated_value", ENUMERATED_VALUE) ∷
    (codes "top_level_value_declaration", TOP_LEVEL_VALUE_DECLARATION) ∷
    (codes "definition", DEFINITION) ∷
    (codes "asn_module", ASN_MODULE) ∷
    (codes "asn_spec", ASN_SPEC) ∷
    []
