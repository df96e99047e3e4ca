-- The tokens of a class's own syntax that those of the code stand for, and those that stand behind a part.
use Rattle.std.specs.Prelude.{ℕ, List, [], ◌∷◌, ◌++◌, Bool, true, false, drop, map, Option, Some, None, if◌then◌else◌}
use Rattle.asn_tree_leaves.specs.declared.objects.ObjectFieldIdentifier.TheVariants.{SingleValue, MultipleValue}
use Rattle.asn_tree_leaves.specs.declared.objects.SyntaxToken.{SyntaxToken}
use Rattle.asn_tree_leaves.specs.declared.objects.SyntaxToken.TheVariants.{Literal, Comma, Field}
use Rattle.asn_meaning_heads.specs.declared.tokens.Behind.{Behind, Behind-F, fold-Behind}
use Rattle.asn_meaning_heads.specs.declared.tokens.Token.{Token}
use Rattle.asn_meaning_heads.specs.declared.tokens.Token.TheVariants as lent
use Rattle.asn_meaning.specs.Objects.{Part, optional_tokens, part_of, tokens_in}
use Rattle.asn_tree_notation.specs.Syntax.{is_text_of, marked_optional}

abbrev pub shown_token : Token → SyntaxToken
shown_token (lent.Word word) = Literal word.now
shown_token lent.Comma = Comma
shown_token (lent.ValuePlace name) = Field (SingleValue name.now)
shown_token (lent.TypePlace name) = Field (MultipleValue name.now)

-- the tokens of a part that stands in a group, none of which must stand, or in none
abbrev pub marked_by : Bool → List (Bool × SyntaxToken) → List (Bool × SyntaxToken)
marked_by true tokens = map (λ t. marked_optional t.1) tokens
marked_by false tokens = tokens

-- the same of the parts of a group, or of a whole syntax
abbrev pub tokens_by : Bool → List Part → List (Bool × SyntaxToken)
tokens_by true parts = optional_tokens parts
tokens_by false parts = tokens_in parts

-- one level of what stands behind, where what stands behind that are these tokens
abbrev pub behind_at : Behind-F (List (Bool × SyntaxToken)) → List (Bool × SyntaxToken)
behind_at Behind-F.End = []
behind_at (Behind-F.Word word) = (true, Literal word.now) ∷ []
behind_at (Behind-F.Parts parts from grouped others) = tokens_by grouped (map part_of (drop from parts.now)) ++ others.now

unfoldable pub shown_behind : Behind → List (Bool × SyntaxToken)
shown_behind = fold-Behind (List (Bool × SyntaxToken)) behind_at

-- whether the text is one of these tokens up to the first that must stand; none where it is not, and none must stand
abbrev pub due_in : List ℕ → List (Bool × SyntaxToken) → Option Bool
due_in text [] = None
due_in text ((required, token) ∷ tokens) =
    if is_text_of text token then Some true else if required then Some false else due_in text tokens
