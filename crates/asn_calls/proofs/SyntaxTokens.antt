-- The tokens of a syntax.
use Rattle.std.proofs.Common.{rules, ◌≡◌, Bool, true, List, [], ◌∷◌, ◌++◌, map, refl, ap, sym, ◌∙◌, append_assoc}
use Rattle.std.specs.List.{flat_map}
use Rattle.asn_tree_leaves.specs.declared.objects.SyntaxExpression.{SyntaxExpression, SyntaxExpression-F, out-SyntaxExpression, map-SyntaxExpression, fold_out-SyntaxExpression}
use Rattle.asn_tree_leaves.specs.declared.objects.SyntaxExpression.TheVariants.{Required, Optional, outs-Required, outs-Optional}
use Rattle.asn_tree_leaves.specs.declared.objects.SyntaxToken.{SyntaxToken}
use Rattle.asn_calls.specs.Laws.{FlatSyntax}
use Rattle.asn_tree_notation.specs.Syntax.{flattened, marked_optional, tokens_at, tokens_in, tokens_of, with_mark, with_mark_at}

joined : (parts : List SyntaxExpression) → flat_map (λ tokens. tokens) (map tokens_in parts) ≡ tokens_of parts
joined [] = refl
joined (part ∷ parts) = ap (λ tokens. tokens_in part ++ tokens) (joined parts)

-- the one token of a part that is no group
pub token_alone : (token : SyntaxToken) → tokens_in (Required token) ≡ token ∷ []
token_alone token = search (rules, fold_out-SyntaxExpression, outs-Required)

-- the tokens of a group are those of its parts
pub group_opened : (group : List SyntaxExpression) → tokens_in (Optional group) ≡ tokens_of group
group_opened group = search (rules, fold_out-SyntaxExpression, outs-Optional, joined)

append_each : (f : SyntaxExpression → List SyntaxToken) (group parts : List SyntaxExpression) → flat_map f group ++ flat_map f parts ≡ flat_map f (group ++ parts)
append_each f [] parts = refl
append_each f (part ∷ group) parts = append_assoc (f part) (flat_map f group) (flat_map f parts) ∙ ap (λ tokens. f part ++ tokens) (append_each f group parts)

at_token : (token : SyntaxToken) (parts : List SyntaxExpression) → tokens_of (Required token ∷ parts) ≡ token ∷ tokens_of parts
at_token token parts = ap (λ tokens. tokens ++ tokens_of parts) (token_alone token)

at_group : (group parts : List SyntaxExpression) → tokens_of (Optional group ∷ parts) ≡ tokens_of (group ++ parts)
at_group group parts = ap (λ tokens. tokens ++ tokens_of parts) (group_opened group) ∙ append_each tokens_in group parts

unmarked : (tokens : List SyntaxToken) → map (λ p. p.1) (map marked_optional tokens) ≡ tokens
unmarked [] = refl
unmarked (token ∷ tokens) = ap (λ ts. token ∷ ts) (unmarked tokens)

map_append : (f : Bool × SyntaxToken → SyntaxToken) (xs ys : List (Bool × SyntaxToken)) → map f (xs ++ ys) ≡ map f xs ++ map f ys
map_append f [] ys = refl
map_append f (x ∷ xs) ys = ap (λ zs. f x ∷ zs) (map_append f xs ys)

part_tokens : (layer : SyntaxExpression-F SyntaxExpression) → map (λ p. p.1) (with_mark_at layer) ≡ tokens_at (map-SyntaxExpression SyntaxExpression (List SyntaxToken) tokens_in layer)
part_tokens (SyntaxExpression-F.Required token) = refl
part_tokens (SyntaxExpression-F.Optional group) = unmarked (tokens_of group) ∙ sym (joined group)

has_tokens : (parts : List SyntaxExpression) → map (λ p. p.1) (flattened parts) ≡ tokens_of parts
has_tokens [] = refl
has_tokens (part ∷ parts) =
    let here : map (λ p. p.1) (with_mark part) ≡ tokens_in part = part_tokens (out-SyntaxExpression part) ∙ sym (fold_out-SyntaxExpression (List SyntaxToken) tokens_at part) in
    map_append (λ p. p.1) (with_mark part) (flattened parts) ∙ ap (λ ts. ts ++ map (λ p. p.1) (flattened parts)) here ∙ ap (λ ts. tokens_in part ++ ts) (has_tokens parts)

required_at_token : (token : SyntaxToken) (parts : List SyntaxExpression) → flattened (Required token ∷ parts) ≡ (true, token) ∷ flattened parts
required_at_token token parts = ap (λ layer. with_mark_at layer ++ flattened parts) (outs-Required token)

optional_in_group : (group parts : List SyntaxExpression) → flattened (Optional group ∷ parts) ≡ map marked_optional (tokens_of group) ++ flattened parts
optional_in_group group parts = ap (λ layer. with_mark_at layer ++ flattened parts) (outs-Optional group)

-- a flat syntax has the tokens of the parts, and marks those that stand directly among them
pub is_flat : FlatSyntax
is_flat =
    record {
      nothing_else = refl;
      at_token = at_token;
      at_group = at_group;
      has_tokens = has_tokens;
      ends = refl;
      required_at_token = required_at_token;
      optional_in_group = optional_in_group;
    }
