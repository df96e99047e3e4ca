-- The fields of classes, and what objects give for them (X.681 clauses 9 to 11).
use Rattle.std.specs.Prelude.{ℕ, List, [], ◌∷◌, ◌++◌, Bool, true, false, map, pos, Option, Some, None, if◌then◌else◌}
use Rattle.std.specs.List.{find}
use Rattle.std.specs.Str.{bytes_eq}
use Rattle.std.specs.Str.Parse.{digits_value}
use Rattle.asn_tree.specs.declared.objects.InformationObject.{InformationObject}
use Rattle.asn_tree.specs.declared.objects.InformationObjectClass.{InformationObjectClass}
use Rattle.asn_tree.specs.declared.objects.InformationObjectClassField.{InformationObjectClassField}
use Rattle.asn_tree.specs.declared.objects.InformationObjectField.{InformationObjectField}
use Rattle.asn_tree.specs.declared.objects.InformationObjectField.TheVariants as gives
use Rattle.asn_tree.specs.declared.objects.InformationObjectFields.{InformationObjectFields-F, out-InformationObjectFields}
use Rattle.asn_tree_leaves.specs.declared.objects.InformationObjectSyntax.{InformationObjectSyntax}
use Rattle.asn_tree_leaves.specs.declared.objects.ObjectFieldIdentifier.{ObjectFieldIdentifier}
use Rattle.asn_tree_leaves.specs.declared.objects.ObjectFieldIdentifier.TheVariants.{SingleValue, MultipleValue}
use Rattle.asn_tree.specs.declared.objects.SyntaxApplication.{SyntaxApplication, SyntaxApplication-F, out-SyntaxApplication}
use Rattle.asn_tree_leaves.specs.declared.objects.SyntaxExpression.{SyntaxExpression, SyntaxExpression-F, fold-SyntaxExpression}
use Rattle.asn_tree_leaves.specs.declared.objects.SyntaxToken.{SyntaxToken}
use Rattle.asn_tree_leaves.specs.declared.objects.SyntaxToken.TheVariants.{Literal, Comma, Field}
use Rattle.asn_tree.specs.declared.types.ASN1Type.TheVariants as type_of_kind
use Rattle.asn_tree.specs.declared.values.ASN1Value.TheVariants as value
use Rattle.asn_tree_notation.specs.Paths.{field_name}
use Rattle.asn_tree_notation.specs.Syntax.{given_name, marked_optional, matches}
use Rattle.asn_meaning.specs.Answers.{once}
use Rattle.asn_meaning.specs.Definitions.{Definitions, class_named}
use Rattle.asn_meaning.specs.Layers.{ItemLayer, FieldsLayer}

-- ---- the fields of a class

-- the field of a class by its name with its `&` (X.681 9.4)
abbrev pub field_of : InformationObjectClass → List ℕ → Option InformationObjectClassField
field_of c name = find (λ f. bytes_eq (field_name f.identifier) name) c.fields

-- The field that a path ends at, where each of its names is one of this class's fields (X.681 14.2).
abbrev pub field_at_path : InformationObjectClass → List ObjectFieldIdentifier → Option InformationObjectClassField
field_at_path c [] = None
field_at_path c (name ∷ []) = field_of c (field_name name)
field_at_path c (name ∷ names) = once None (field_of c (field_name name)) (λ f. field_at_path c names)

-- ---- objects in the class's own syntax (X.681 11.6)

-- the tokens of a part, each with whether it must stand, and how the part is followed: from the tokens behind it and
-- the items that are left, to the fields given and the items then left
pub record Part : Type 0 where
  pub tokens : List (Bool × SyntaxToken)
  pub follow : List (Bool × SyntaxToken) → List SyntaxApplication → Option (List InformationObjectField × List SyntaxApplication)

-- what an item gives at the place of a field whose type or set is wanted
abbrev pub type_given : List ℕ → ItemLayer → List InformationObjectField
type_given name (SyntaxApplication-F.ObjectSetDeclaration set) = gives.ObjectSetField (record { identifier = name; value = set }) ∷ []
type_given name (SyntaxApplication-F.ValueReference v) = []
type_given name (SyntaxApplication-F.TypeReference ty) = gives.TypeField (record { identifier = name; ty = ty }) ∷ []
type_given name SyntaxApplication-F.Comma = []
type_given name (SyntaxApplication-F.Literal word) = []
type_given name (SyntaxApplication-F.LiteralOrTypeReference reference) = gives.TypeField (record { identifier = name; ty = type_of_kind.ElsewhereDeclaredType reference }) ∷ []

-- a number that stands as a word
abbrev pub number_word : List ℕ → List ℕ → InformationObjectField
number_word name word = gives.FixedValueField (record { identifier = name; value = value.Integer (pos (digits_value 10 word)) })

-- what it gives at the place of a field whose value is wanted: a number may stand as a word
abbrev pub value_given : List ℕ → ItemLayer → List InformationObjectField
value_given name (SyntaxApplication-F.ObjectSetDeclaration set) = []
value_given name (SyntaxApplication-F.ValueReference v) = gives.FixedValueField (record { identifier = name; value = v }) ∷ []
value_given name (SyntaxApplication-F.TypeReference ty) = []
value_given name SyntaxApplication-F.Comma = []
value_given name (SyntaxApplication-F.Literal word) = number_word name word ∷ []
value_given name (SyntaxApplication-F.LiteralOrTypeReference word) = number_word name word.identifier ∷ []

-- what an item gives at the place of a token that it matches
abbrev pub item_gives : SyntaxToken → ItemLayer → List InformationObjectField
item_gives (Field (MultipleValue name)) item = type_given name item
item_gives (Field (SingleValue name)) item = value_given name item
item_gives (Literal word) item = []
item_gives Comma item = []

-- the next item stands at the place of the token
abbrev pub take_item : SyntaxToken → List (Bool × SyntaxToken) → List SyntaxApplication → Option (List InformationObjectField × List SyntaxApplication)
take_item token behind [] = None
take_item token behind (item ∷ items) =
    if matches item token ((true, token) ∷ behind) 0 then Some (item_gives token (out-SyntaxApplication item), items) else None

-- the tokens of parts in order
abbrev pub tokens_in : List Part → List (Bool × SyntaxToken)
tokens_in [] = []
tokens_in (p ∷ ps) = p.tokens ++ tokens_in ps

abbrev pub optional_tokens : List Part → List (Bool × SyntaxToken)
optional_tokens ps = map (λ t. marked_optional t.1) (tokens_in ps)

-- Parts are followed in order; `tokens` says whether they stand in a group.
abbrev pub follow_each : (List Part → List (Bool × SyntaxToken)) → List Part → List (Bool × SyntaxToken) → List SyntaxApplication → Option (List InformationObjectField × List SyntaxApplication)
follow_each tokens [] behind items = Some ([], items)
follow_each tokens (p ∷ ps) behind items =
    once None (p.follow (tokens ps ++ behind) items) (λ first. once None (follow_each tokens ps behind first.1) (λ others. Some (first.0 ++ others.0, others.1)))

-- whether the next item stands at the place of the first of these tokens
abbrev pub begins : List (Bool × SyntaxToken) → List (Bool × SyntaxToken) → List SyntaxApplication → Bool
begins tokens behind [] = false
begins [] behind items = false
begins (token ∷ tokens) behind (item ∷ items) = matches item token.1 (token ∷ tokens ++ behind) 0

-- a part that must stand; a group is taken whole where its first token stands, and else left out (X.681 10.12)
abbrev pub part_at : SyntaxExpression-F Part → Part
part_at (SyntaxExpression-F.Required token) = record { tokens = (true, token) ∷ []; follow = take_item token }
part_at (SyntaxExpression-F.Optional group) =
    record {
      tokens = optional_tokens group;
      follow = λ behind items. if begins (optional_tokens group) behind items then follow_each optional_tokens group behind items else Some ([], items);
    }

abbrev pub part_of : SyntaxExpression → Part
part_of = fold-SyntaxExpression Part part_at

-- where no item is left
abbrev pub if_ended : List InformationObjectField × List SyntaxApplication → Option (List InformationObjectField)
if_ended (fields, []) = Some fields
if_ended (fields, item ∷ items) = None

-- The fields that items give which follow a syntax: they match its tokens in order, and none is left.
abbrev pub applied : Option InformationObjectSyntax → List SyntaxApplication → Option (List InformationObjectField)
applied None items = None
applied (Some syntax) items = once None (follow_each tokens_in (map part_of syntax.expressions) [] items) if_ended

-- ---- what an object gives

abbrev pub given_at : Option InformationObjectClass → FieldsLayer → Option (List InformationObjectField)
given_at c (InformationObjectFields-F.DefaultSyntax fields) = Some fields
given_at c (InformationObjectFields-F.CustomSyntax items) = once None c (λ k. applied k.syntax items)

-- the field that an object gives by this name with its `&` (X.681 11.4)
abbrev pub given : Definitions → InformationObject → List ℕ → Option InformationObjectField
given defs o name =
    once None (given_at (class_named defs o.class_name) (out-InformationObjectFields o.fields)) (find (λ f. bytes_eq (given_name f) name))
