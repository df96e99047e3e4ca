-- Laws of the calls.
use Rattle.std.specs.Prelude.{◌≡◌, ℕ, ◌≤◌, ◌⊎◌, ℤ, true, false, List, [], ◌∷◌, ◌++◌, map}
use Rattle.std.specs.Borrow.{Bor}
use Rattle.std.specs.Iterator.{Yields, Drains}
use Rattle.asn_tree.specs.declared.constraints.Constraint.{Constraint}
use Rattle.asn_tree_leaves.specs.declared.plain.IntegerType.{IntegerType}
use Rattle.asn_tree_leaves.specs.declared.objects.SyntaxExpression.{SyntaxExpression}
use Rattle.asn_tree_leaves.specs.declared.objects.SyntaxExpression.TheVariants.{Required, Optional}
use Rattle.asn_tree_leaves.specs.declared.objects.SyntaxToken.{SyntaxToken}
use Rattle.asn_tree.specs.declared.types.ASN1Type.{ASN1Type}
use Rattle.asn_calls.specs.Admitting.{AllAdmit}
use Rattle.asn_calls.specs.Integers.{place, earlier, holds, type_of_all}
use Rattle.asn_calls.specs.Members.{NameTypesGive, lent_pair}
use Rattle.asn_tree_notation.specs.Syntax.{flattened, tokens_of}

-- The most restrictive of two integer types is one of them, and none of them comes before it. The order is that of what the
-- types hold, as far as that goes: a type whose numbers are all another's does not come behind it.
pub record EarlierIsLeast : Type 0 where
  pub is_one : (a b : IntegerType) → (earlier a b ≡ a) ⊎ (earlier a b ≡ b)
  pub is_least_left : (a b : IntegerType) → place (earlier a b) ≤ place a
  pub is_least_right : (a b : IntegerType) → place (earlier a b) ≤ place b
  pub restricts : (a b : IntegerType) → ((i : ℤ) → holds a i ≡ true → holds b i ≡ true) → place a ≤ place b

-- Each whole number that all constraints of an INTEGER admit is one of the type's that they give.
abbrev pub AdmittedIsHeld : Type 0
AdmittedIsHeld = (constraints : List Constraint) (i : ℤ) → AllAdmit constraints i → holds (type_of_all constraints) i ≡ true

-- A flat syntax has the tokens and nothing else, in order, where a walk over the parts meets a token where it stands and
-- goes through a group where it opens. Piece by piece: a token that stands directly among the parts comes with true, and each
-- token of a group, in the groups that it holds too, with false (X.681 10.5, 10.12).
pub record FlatSyntax : Type 0 where
  pub nothing_else : tokens_of [] ≡ []
  pub at_token : (token : SyntaxToken) (parts : List SyntaxExpression) → tokens_of (Required token ∷ parts) ≡ token ∷ tokens_of parts
  pub at_group : (group parts : List SyntaxExpression) → tokens_of (Optional group ∷ parts) ≡ tokens_of (group ++ parts)
  pub has_tokens : (parts : List SyntaxExpression) → map (λ p. p.1) (flattened parts) ≡ tokens_of parts
  pub ends : flattened [] ≡ []
  pub required_at_token : (token : SyntaxToken) (parts : List SyntaxExpression) → flattened (Required token ∷ parts) ≡ (true, token) ∷ flattened parts
  pub optional_in_group : (group parts : List SyntaxExpression) → flattened (Optional group ∷ parts) ≡ map (λ token. (false, token)) (tokens_of group) ++ flattened parts

-- Calls of `next` give the names and types that are left in order: those that came, and then those that are still left,
-- are all; and where None comes, all have come.
pub record NameTypesInOrder : Type 0 where
  pub so_far : (left rest : List (List ℕ × ASN1Type)) (items : List (Bor (List ℕ) × Bor ASN1Type)) → Yields NameTypesGive left items rest → map lent_pair items ++ rest ≡ left
  pub at_end : (left : List (List ℕ × ASN1Type)) (items : List (Bor (List ℕ) × Bor ASN1Type)) → Drains NameTypesGive left items → map lent_pair items ≡ left
