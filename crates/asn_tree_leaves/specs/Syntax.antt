-- Names of fields and tokens of a class's own syntax.
use Rattle.std.specs.Prelude.{ℕ, List, codes, if◌then◌else◌}
use Rattle.std.specs.Str.{bytes_eq}
use Rattle.asn_tree_leaves.specs.declared.objects.ObjectFieldIdentifier.{ObjectFieldIdentifier}
use Rattle.asn_tree_leaves.specs.declared.objects.ObjectFieldIdentifier.TheVariants.{SingleValue, MultipleValue}
use Rattle.asn_tree_leaves.specs.declared.objects.SyntaxToken.{SyntaxToken}
use Rattle.asn_tree_leaves.specs.declared.objects.SyntaxToken.TheVariants.{Literal, Comma}

-- the name of a field with its `&` (X.681 7)
abbrev pub name_of_field : ObjectFieldIdentifier → List ℕ
name_of_field (SingleValue name) = name
name_of_field (MultipleValue name) = name

-- the token of a class's own syntax that a text spells (X.681 10.5)
abbrev pub token_of : List ℕ → SyntaxToken
token_of text = if bytes_eq text (codes ",") then Comma else Literal text
