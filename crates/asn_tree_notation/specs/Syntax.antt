-- The own syntax of a class (X.681 clause 10), and the objects that are written in it (X.681 11.6).
use Rattle.std.specs.Prelude.{ℕ, ◌+◌, ◌^◌, nat_lt, Bool, true, false, not, ◌&&◌, List, [], ◌∷◌, drop, map, codes}
use Rattle.std.specs.List.{flat_map, list_any}
use Rattle.std.specs.Str.{bytes_eq}
use Rattle.std.specs.Str.Parse.{digits_value}
use Rattle.asn_tree.specs.declared.objects.InformationObjectField.{InformationObjectField, InformationObjectField-F, out-InformationObjectField}
use Rattle.asn_tree_leaves.specs.declared.objects.ObjectFieldIdentifier.TheVariants.{SingleValue, MultipleValue}
use Rattle.asn_tree.specs.declared.objects.SyntaxApplication.{SyntaxApplication, SyntaxApplication-F, out-SyntaxApplication}
use Rattle.asn_tree_leaves.specs.declared.objects.SyntaxExpression.{SyntaxExpression, SyntaxExpression-F, out-SyntaxExpression, fold-SyntaxExpression}
use Rattle.asn_tree_leaves.specs.declared.objects.SyntaxToken.{SyntaxToken}
use Rattle.asn_tree_leaves.specs.declared.objects.SyntaxToken.TheVariants.{Literal, Comma, Field}
use Rattle.asn_tree.specs.Layers.{FieldLayer, ItemLayer}
use Rattle.asn_tree_settings.specs.Settings.{is_numeral}
use Rattle.asn_tree_notation.specs.Paths.{field_name}

-- a token as it is written
abbrev pub token_text : SyntaxToken → List ℕ
token_text (Literal word) = word
token_text Comma = codes ","
token_text (Field field) = field_name field

-- the name of a field's token with its `&`; a word and a comma have none
abbrev pub field_or_empty : SyntaxToken → List ℕ
field_or_empty (Literal word) = []
field_or_empty Comma = []
field_or_empty (Field field) = field_name field

abbrev pub given_name_at : FieldLayer → List ℕ
given_name_at (InformationObjectField-F.TypeField field) = field.identifier
given_name_at (InformationObjectField-F.FixedValueField field) = field.identifier
given_name_at (InformationObjectField-F.ObjectSetField field) = field.identifier

-- the name of the field that an object gives, with its `&` (X.681 11.5)
abbrev pub given_name : InformationObjectField → List ℕ
given_name field = given_name_at (out-InformationObjectField field)

-- ---- the tokens of a syntax

abbrev pub tokens_at : SyntaxExpression-F (List SyntaxToken) → List SyntaxToken
tokens_at (SyntaxExpression-F.Required token) = token ∷ []
tokens_at (SyntaxExpression-F.Optional group) = flat_map (λ tokens. tokens) group

-- the tokens of a part in order: its one token, or those of the parts of its group
abbrev pub tokens_in : SyntaxExpression → List SyntaxToken
tokens_in = fold-SyntaxExpression (List SyntaxToken) tokens_at

-- the tokens of parts in order, at any depth of groups
abbrev pub tokens_of : List SyntaxExpression → List SyntaxToken
tokens_of parts = flat_map tokens_in parts

abbrev pub marked_optional : SyntaxToken → Bool × SyntaxToken
marked_optional token = (false, token)

abbrev pub with_mark_at : SyntaxExpression-F SyntaxExpression → List (Bool × SyntaxToken)
with_mark_at (SyntaxExpression-F.Required token) = (true, token) ∷ []
with_mark_at (SyntaxExpression-F.Optional group) = map marked_optional (tokens_of group)

-- the tokens of a part that stands in no group: its own is required, and none of those in its group is
abbrev pub with_mark : SyntaxExpression → List (Bool × SyntaxToken)
with_mark part = with_mark_at (out-SyntaxExpression part)

-- the tokens of a syntax in order, with true exactly where no optional group holds the token (X.681 10.5, 10.12)
abbrev pub flattened : List SyntaxExpression → List (Bool × SyntaxToken)
flattened parts = flat_map with_mark parts

-- ---- the items of an object at the places of the tokens

-- decimal digits and nothing else, of a number that is one of 128 bits with a sign; leading zeros pass
abbrev pub is_number : List ℕ → Bool
is_number bytes = is_numeral bytes && nat_lt (digits_value 10 bytes) (2 ^ 127)

-- the tokens behind the one at the index; none where no token is at the index
abbrev pub later_tokens : ℕ → List (Bool × SyntaxToken) → List (Bool × SyntaxToken)
later_tokens index syntax = drop (index + 1) syntax

-- the tokens that may come next: the optional ones, and the first that is required (X.681 10.12)
abbrev pub up_to_required : List (Bool × SyntaxToken) → List SyntaxToken
up_to_required [] = []
up_to_required ((true, token) ∷ behind) = token ∷ []
up_to_required ((false, token) ∷ behind) = token ∷ up_to_required behind

abbrev pub is_text_of : List ℕ → SyntaxToken → Bool
is_text_of text token = bytes_eq (token_text token) text

abbrev pub is_comma_at : ItemLayer → Bool
is_comma_at SyntaxApplication-F.Comma = true
is_comma_at _ = false

abbrev pub is_comma : SyntaxApplication → Bool
is_comma item = is_comma_at (out-SyntaxApplication item)

abbrev pub is_word_at : List ℕ → ItemLayer → Bool
is_word_at word (SyntaxApplication-F.Literal text) = bytes_eq text word
is_word_at word (SyntaxApplication-F.LiteralOrTypeReference name) = bytes_eq name.identifier word
is_word_at word _ = false

-- the item is the word; of a name, what stands before and behind it is not compared
abbrev pub is_word : List ℕ → SyntaxApplication → Bool
is_word word item = is_word_at word (out-SyntaxApplication item)

abbrev pub gives_type_at : List SyntaxToken → ItemLayer → Bool
gives_type_at next (SyntaxApplication-F.ObjectSetDeclaration set) = true
gives_type_at next (SyntaxApplication-F.TypeReference type) = true
gives_type_at next (SyntaxApplication-F.LiteralOrTypeReference name) = not (list_any (is_text_of name.identifier) next)
gives_type_at next _ = false

-- The item is a set or a type. A plain name is one, unless it is a token that may come next.
abbrev pub gives_type : List SyntaxToken → SyntaxApplication → Bool
gives_type next item = gives_type_at next (out-SyntaxApplication item)

abbrev pub gives_value_at : ItemLayer → Bool
gives_value_at (SyntaxApplication-F.ValueReference value) = true
gives_value_at (SyntaxApplication-F.Literal text) = is_number text
gives_value_at (SyntaxApplication-F.LiteralOrTypeReference name) = is_number name.identifier
gives_value_at _ = false

-- the item is a value: a number may stand as a word
abbrev pub gives_value : SyntaxApplication → Bool
gives_value item = gives_value_at (out-SyntaxApplication item)

-- The item may stand at the place of the token, which is the one of the syntax at the index (X.681 10.12, 11.6).
abbrev pub matches : SyntaxApplication → SyntaxToken → List (Bool × SyntaxToken) → ℕ → Bool
matches item Comma syntax index = is_comma item
matches item (Literal word) syntax index = is_word word item
matches item (Field (MultipleValue name)) syntax index = gives_type (up_to_required (later_tokens index syntax)) item
matches item (Field (SingleValue name)) syntax index = gives_value item
